use Rattle.plan_algebra.proofs.KeptPlans.{kept_cases}
use Rattle.plan_algebra.proofs.laws.worked_kept_plans.Goals as goal

pub returns : goal.returns
returns c = kept_cases
