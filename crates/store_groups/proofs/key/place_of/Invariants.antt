use Rattle.std.proofs.Common.{◌≡◌}
use Rattle.std.specs.Prelude.{drop}
use Rattle.base_row_laws.specs.Bags.{has}
use Rattle.store_groups.specs.Entries.{same_key}
use Rattle.store_groups.proofs.key.place_of.Given as goal

abbrev pub invariant-loop-i : goal.invariant-loop-i
invariant-loop-i l = has same_key l.key l.keys ≡ has same_key l.key (drop l.i l.keys)
