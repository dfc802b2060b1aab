use Rattle.std.proofs.Common.{refl}
use Rattle.base_text.specs.Pattern.{is_like, some_rest}
use Rattle.base_text.proofs.laws.cases.Goals as goal

pub returns-clause-any : goal.returns-clause-any
unfolding is_like some_rest
returns-clause-any c = (refl, refl, refl)

pub returns-clause-one : goal.returns-clause-one
unfolding is_like some_rest
returns-clause-one c = (refl, refl, refl)

pub returns-clause-last : goal.returns-clause-last
unfolding is_like some_rest
returns-clause-last c = (refl, refl)

pub returns-clause-parts : goal.returns-clause-parts
returns-clause-parts c = (refl, refl, refl)

pub returns-clause-tab : goal.returns-clause-tab
returns-clause-tab c = (refl, refl)
