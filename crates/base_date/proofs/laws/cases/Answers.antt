use Rattle.std.proofs.Common.{refl}
use Rattle.base_date.specs.Move.{times}
use Rattle.base_date.proofs.laws.cases.Goals as goal

pub returns-clause-leap : goal.returns-clause-leap
returns-clause-leap c = (refl, refl, refl)

pub returns-clause-months : goal.returns-clause-months
returns-clause-months c = (refl, refl)

pub returns-clause-days : goal.returns-clause-days
unfolding times
returns-clause-days c = refl

pub returns-clause-ends : goal.returns-clause-ends
unfolding times
returns-clause-ends c = (refl, refl, refl)
