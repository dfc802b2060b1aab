use Rattle.std.proofs.Common.{◌≡◌, take}
use Rattle.store_versions.proofs.lists.is_beginning.Given as goal

abbrev pub invariant-loop-k : goal.invariant-loop-k
invariant-loop-k l = take l.k l.short ≡ take l.k l.long
