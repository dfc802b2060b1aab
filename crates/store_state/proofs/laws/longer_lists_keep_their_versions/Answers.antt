use Rattle.store_state.proofs.Prefixes.{accepted-longer, accepted-prefix, state-prefix}
use Rattle.store_state.proofs.laws.longer_lists_keep_their_versions.Goals as goal

pub returns-clause-accepted : goal.returns-clause-accepted
returns-clause-accepted c = accepted-prefix

pub returns-clause-longer : goal.returns-clause-longer
returns-clause-longer c = accepted-longer

pub returns-clause-state : goal.returns-clause-state
returns-clause-state c = state-prefix
