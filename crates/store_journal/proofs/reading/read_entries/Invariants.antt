use Rattle.std.proofs.Common.{◌≡◌, ◌++◌, length}
use Rattle.std.specs.Prelude.{map}
use Rattle.std.specs.List.{AllByRecursion}
use Rattle.store_journal.specs.Format.{IsEntry, entries}
use Rattle.store_journal.proofs.reading.read_entries.Given as goal

abbrev pub invariant-loop-alloc : goal.invariant-loop-alloc
invariant-loop-alloc g l = record {
  whole : l.bytes ≡ entries (map g.P.Payload.spelling l.values.items) ++ l.left;
  values : AllByRecursion g.P.Payload.is_value l.values.items;
  fits : AllByRecursion (IsEntry g.P.Payload.is_payload) (map g.P.Payload.spelling l.values.items);
}

abbrev pub decreases-loop-alloc : goal.decreases-loop-alloc
decreases-loop-alloc g l = length l.left
