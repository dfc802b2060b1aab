use Rattle.std.proofs.Common.{ap, ◌∙◌}
use Rattle.base_row_laws.specs.Operators.{select}
use Rattle.plan_algebra.specs.KeptPlans.{holds_for, selected}
use Rattle.store_kept_views.proofs.part_reading.reading_of.Goals as goal

pub returns-clause-rows : goal.returns-clause-rows
unfolding selected
returns-clause-rows c = c.in_ok-reading.ensures.rows ∙ ap (select (holds_for c.args.plan.now)) c.in_ok-batch.ensures.rows
