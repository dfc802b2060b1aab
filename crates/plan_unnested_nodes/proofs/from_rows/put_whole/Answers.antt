use Rattle.std.proofs.Common.{◌∙◌, arith, sym, subst}
use Rattle.plan_unnested_nodes.specs.PlanKinds.{AreKindsOf}
use Rattle.plan_unnested_nodes.proofs.ApartArms.{own_apart, over_apart}
use Rattle.plan_unnested_nodes.proofs.Grown.{grown_length}
use Rattle.plan_unnested_nodes.proofs.Kept.{settled_in_plan}
use Rattle.plan_unnested_nodes.proofs.from_rows.put_whole.Goals as goal

pub put_over-requires-clause-domain : goal.put_over-requires-clause-domain
put_over-requires-clause-domain c = settled_in_plan c.in_ok-domain.ensures

pub put_over-requires-clause-rows : goal.put_over-requires-clause-rows
put_over-requires-clause-rows c = let l = grown_length c.in_ok-domain.ensures.plan in let r = c.requires.rows in omega (arith, l, r)

pub returns-in-Some : goal.returns-in-Some
returns-in-Some c =
    own_apart c.args.part c.requires.footing c.args.builder.now.formed c.requires.width (c.get.ensures ∙ c.in_ok-condition.ensures) (subst (λ ns. AreKindsOf ns c.args.part.rows c.in_ok-kinds.kinds) c.as_slice.ensures c.in_ok-kinds.ensures) c.as_slice-known.ensures
    c.in_ok-n.ensures c.as_slice-notes.ensures (rw c.in-Some.is at c.in_ok-own.ensures) (c.get-in-Some.ensures ∙ sym c.get.ensures) c.as_slice-in-Some.ensures c.in_ok-id.ensures

pub returns : goal.returns
returns c = over_apart c.args.part c.in_ok-domain.ensures c.requires.rows c.requires.width (c.get-2.ensures ∙ c.in_ok-condition.ensures) c.in_ok-id-2.ensures
