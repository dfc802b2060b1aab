-- What a CASE gives.
use Rattle.base_value.specs.declared.truth.Standing.TheVariants.{AtFault, AtTrue}
use Rattle.base_value.specs.declared.truth.Truth.{Truth}
use Rattle.base_value.specs.declared.truth.Truth.TheVariants.{False, Unknown, Stands}
use Rattle.base_value.specs.declared.value.Value.{Value}
use Rattle.base_value.specs.declared.value.Value.TheVariants.{Fault}

-- what a branch gives at that truth, or else what the rest of the CASE does
abbrev pub choice : Truth → Value → Value → Value
choice (Stands AtTrue) gives rest = gives
choice (Stands (AtFault fault)) gives rest = Fault fault
choice False gives rest = rest
choice Unknown gives rest = rest
