use Rattle.std.proofs.Common.{◌∙◌, ◌+◌, ap}
use Rattle.store_versions.specs.Trials.{tables_of}
use Rattle.app_sessions.specs.Outcomes.{answered}
use Rattle.app_sessions.proofs.Running.{answer_of_plan, same_reads}
use Rattle.app_sessions.proofs.query.plan_outcome.Goals as goal

pub returns-clause-outcome : goal.returns-clause-outcome
returns-clause-outcome g c = λ q is.
    c.in_ok-outcome.ensures.outcome ∙ ap answered (answer_of_plan q c.args.plan.now (tables_of c.args.snapshot.now) c.in_ok-bag.bag.rows c.has_kinds.ensures is c.in_ok-bag.ensures.rows)

pub returns-clause-steps : goal.returns-clause-steps
returns-clause-steps g c = λ q is.
    c.in_ok-bag.ensures.steps ∙ ap (λ n. c.args.steps.now + n) (same_reads q c.args.plan.now (tables_of c.args.snapshot.now) is.scans)
