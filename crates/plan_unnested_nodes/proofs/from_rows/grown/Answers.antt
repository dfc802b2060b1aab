use Rattle.std.proofs.Common.{◌∙◌, subst}
use Rattle.expr_conditions.specs.Ranks.{PutInto}
use Rattle.plan_unnested_nodes.proofs.ApartRows.{grown_says}
use Rattle.plan_unnested_nodes.proofs.from_rows.grown.Goals as goal

pub returns : goal.returns
returns c =
    grown_says (c.get.ensures ∙ c.in_ok-all.ensures) (c.deref.ensures.value ∙ c.in_ok-places.ensures)
    (subst (λ l. PutInto c.deref.result.now c.get.result.now l c.put_condition.new.to) c.new-grown.ensures c.in_ok-put_condition.ensures)
