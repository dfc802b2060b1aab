use Rattle.store_state.proofs.VersionSteps.{first_version, state-accepted, state-more, taken-append}
use Rattle.store_state.proofs.laws.versions_are_replays.Goals as goal

pub returns-clause-append : goal.returns-clause-append
returns-clause-append c = taken-append

pub returns-clause-first : goal.returns-clause-first
returns-clause-first c = first_version

pub returns-clause-state : goal.returns-clause-state
returns-clause-state c = state-accepted

pub returns-clause-more : goal.returns-clause-more
returns-clause-more c = state-more
