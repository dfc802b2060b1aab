-- What the machine keeps beside the definition's state.
use Rattle.std.specs.Prelude.{◌≡◌, ℕ, ◌+◌, ◌≤◌, List, length, IfSome, None, Option, Some}
use Rattle.std.specs.Prelude.{if◌then◌else◌, slice_get, slice_index_or}
use Rattle.std.specs.List.{All}
use Rattle.base_schema.specs.State.{State}
use Rattle.store_state.specs.Refresh.{Change, changed}
use Rattle.store_state.specs.Versions.{is_accepted, version_state}
use Rattle.store_machine.specs.Machine.{SessionState, World, published}

-- a session has seen a published version, and pins one
abbrev pub IsBelow : ℕ → SessionState → Type 0
IsBelow most session = (session.seen ≤ most) × IfSome session.pin (λ version. version ≤ most)

-- the versions so far are kept, the base first, and no session knows a later one
pub record AreVersionsKept (world : World) (versions : List State) : Type 0 where
  pub within : world.done ≤ length world.list
  pub count : length versions ≡ published world + 1
  pub states : (version : ℕ) (other : State) → version ≤ published world
      → slice_index_or versions version other ≡ version_state world.base world.list version
  pub sessions : All (IsBelow (published world)) world.sessions

-- the next refresh on the published state: the state that it makes, if it is accepted
abbrev pub IsTried : World → Option State → Type 0
IsTried world next = (change : Change) → slice_get world.list world.done ≡ Some change
    → next ≡ (if is_accepted (version_state world.base world.list (published world)) change
    then Some (changed (version_state world.base world.list (published world)) change) else None)
