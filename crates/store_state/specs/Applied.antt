-- What applying a refresh leaves.
use Rattle.std.specs.Prelude.{◌≡◌, Result, Ok, Err}
use Rattle.base_schema.specs.State.{State}
use Rattle.store_state.specs.Refresh.{Change, after}
use Rattle.store_state.specs.declared.applied.RefreshError.{RefreshError}
use Rattle.store_state.specs.declared.applied.RefreshError.TheVariants.{Refused, OutOfMemory}

-- the state after the refresh; or its first cause, and the state as before; out of memory leaves
-- the state as before too
abbrev pub Applies : {A : Type 0} → State → State → Change → Result A RefreshError → Type 0
Applies old new change (Ok done) = after old change ≡ Ok new
Applies old new change (Err (Refused cause)) = (after old change ≡ Err cause) × (new ≡ old)
Applies old new change (Err OutOfMemory) = new ≡ old
