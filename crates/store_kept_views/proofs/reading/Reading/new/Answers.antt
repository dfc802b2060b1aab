use Rattle.std.proofs.Common.{ap, ◌∙◌, map}
use Rattle.base_value.specs.Truth.{truth_rank}
use Rattle.expr_conditions.specs.Ranks.{rank_of}
use Rattle.expr_scalar.specs.declared.expr.Expr.{Expr}
use Rattle.plan_algebra.specs.KeptPlans.{holds_for}
use Rattle.store_kept_views.proofs.reading.Reading.new.Goals as goal

pub returns-clause-rows : goal.returns-clause-rows
unfolding rank_of
returns-clause-rows c =
    c.in_ok-rows.ensures.rows (holds_for c.args.plan.now)
    (ap (λ l. map truth_rank l) c.as_slice.ensures.value ∙ c.in_ok-truths.ensures.ranks
    ∙ ap (λ (e : Expr). map (λ r. rank_of e r.values) c.args.batch.rows) c.get.ensures)
