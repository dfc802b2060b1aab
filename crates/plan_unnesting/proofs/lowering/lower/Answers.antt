use Rattle.plan_unnesting.proofs.Whole.{unnested, answered, nodes_kept, scans_added, domains_added, domain_in_plan}
use Rattle.plan_unnesting.proofs.lowering.lower.Goals as goal

pub lowered-requires : goal.lowered-requires
lowered-requires c = domain_in_plan c.args.builder.now.nodes c.args.domain c.of-footing.result c.of-footing.ensures c.requires

pub returns-clause-unnests : goal.returns-clause-unnests
returns-clause-unnests c = unnested c.args.builder.now.nodes _ c.args.tree.now c.args.domain c.of-footing.result _ _ c.of-footing.ensures c.in_ok-id.ensures

pub returns-clause-whole : goal.returns-clause-whole
returns-clause-whole c = answered c.args.builder.now.nodes _ c.args.tree.now c.args.domain c.of-footing.result _ _ c.of-footing.ensures c.in_ok-id.ensures

pub returns-clause-grows : goal.returns-clause-grows
returns-clause-grows c = nodes_kept c.args.builder.now.nodes _ c.args.tree.now c.args.domain c.of-footing.result _ _ c.of-footing.ensures c.in_ok-id.ensures

pub returns-clause-scans : goal.returns-clause-scans
returns-clause-scans c = scans_added c.args.builder.now.nodes _ c.args.tree.now c.args.domain c.of-footing.result _ _ c.of-footing.ensures c.in_ok-id.ensures

pub returns-clause-domains : goal.returns-clause-domains
returns-clause-domains c = domains_added c.args.builder.now.nodes _ c.args.tree.now c.args.domain c.of-footing.result _ _ c.of-footing.ensures c.in_ok-id.ensures
