use Rattle.std.proofs.Common.{◌≡◌, List, [], length, take}
use Rattle.base_columns.specs.Lists.{AreBelow, gathered}
use Rattle.base_row_laws.specs.Ranked.{Ranked, ranked, true_rank}
use Rattle.base_value.specs.declared.value.Value.{Value}
use Rattle.store_kept_views.proofs.placed.all_places.Given as goal

abbrev pub invariant-loop-i : goal.invariant-loop-i
invariant-loop-i l = AreBelow l.n l.places.items
    × ((rows : List (Ranked Value)) → length rows ≡ l.n → gathered (ranked [] true_rank) rows l.places.items ≡ take l.i rows)
