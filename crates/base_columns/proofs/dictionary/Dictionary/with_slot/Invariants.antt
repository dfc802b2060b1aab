use Rattle.std.proofs.Common.{◌≡◌, ◌<◌, length}
use Rattle.base_columns.proofs.dictionary.Dictionary.with_slot.Given as goal

abbrev pub invariant-loop-try : goal.invariant-loop-try
invariant-loop-try l = (l.slot < 1024) × (length l.slots.items ≡ 1024)
