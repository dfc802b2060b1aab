use Rattle.store_state.proofs.VersionSteps.{accepted-more, accepted-most, accepted-rises}
use Rattle.store_state.proofs.laws.accepted_refreshes_are_counted.Goals as goal

pub returns-clause-more : goal.returns-clause-more
returns-clause-more c = accepted-more

pub returns-clause-rises : goal.returns-clause-rises
returns-clause-rises c = accepted-rises

pub returns-clause-most : goal.returns-clause-most
returns-clause-most c = accepted-most
