use Rattle.std.proofs.Common.{◌≡◌, ◌∙◌, refl, subst, length, rules}
use Rattle.plan_algebra.specs.declared.node.Node.TheVariants as node
use Rattle.plan_unnested_nodes.specs.Growth.{IsPut}
use Rattle.plan_unnested_nodes.proofs.Kept.{settled_due}
use Rattle.plan_unnested_nodes.proofs.footing.Footing.settled.Goals as goal

pub returns-in_ok-id-in-Due : goal.returns-in_ok-id-in-Due
returns-in_ok-id-in-Due c =
    let wide : c.in_ok-width-in-Due.width ≡ length c.in-Due.columns = search rules in
    settled_due c.args.builder.now.nodes c.put_domain.new.builder.nodes c.args.self.now _ c.in-Due.outer c.in-Due.columns c.in_ok-id-in-Due.id c.in_ok-width-in-Due.width
    c.in-Due.is wide refl refl
    (subst (λ cs. IsPut c.args.builder.now.nodes c.put_domain.new.builder.nodes (node.Domain c.in-Due.outer cs) c.in_ok-id-in-Due.id) (c.in_ok-columns-in-Due.ensures ∙ c.as_slice.ensures) c.in_ok-id-in-Due.ensures)
