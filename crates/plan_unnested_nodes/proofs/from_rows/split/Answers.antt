use Rattle.std.proofs.Common.{◌∙◌, subst}
use Rattle.expr_conditions.specs.Ranks.{PutInto, IsParted}
use Rattle.plan_unnested_nodes.proofs.ApartRows.{split_says}
use Rattle.plan_unnested_nodes.proofs.from_rows.split.Goals as goal

pub returns : goal.returns
returns c =
    split_says (c.deref.ensures.value ∙ c.in_ok-domain_last.ensures)
    (subst (λ l. PutInto c.deref.result.now c.args.c.now l c.put_condition.new.to) c.new-all.ensures c.in_ok-put_condition.ensures)
    (c.deref-2.ensures.value ∙ c.in_ok-same.ensures) (subst (λ l. IsParted c.deref-2.result.now c.args.width l c.in_ok-parts.parts.covered c.in_ok-parts.parts.rest) c.as_slice.ensures c.in_ok-parts.ensures)
    (c.deref-3.ensures.value ∙ c.in_ok-domain_first.ensures) (c.get.ensures ∙ c.in_ok-more.ensures) c.in_ok-put_condition-2.ensures
