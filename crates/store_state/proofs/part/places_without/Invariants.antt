use Rattle.std.proofs.Common.{◌≡◌, take}
use Rattle.store_state.specs.Parts.{IsWithout}
use Rattle.store_state.specs.Keys.{has_key}
use Rattle.store_state.proofs.part.places_without.Given as goal

abbrev pub invariant-loop-i : goal.invariant-loop-i
invariant-loop-i l =
    (IsWithout l.keys l.deleted (take l.i l.segment) l.places.items) × (l.last.is_there ≡ has_key l.keys l.last.key)
