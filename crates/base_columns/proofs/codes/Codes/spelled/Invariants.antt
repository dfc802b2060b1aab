use Rattle.std.proofs.Common.{◌≡◌, take}
use Rattle.base_columns.proofs.codes.Codes.spelled.Given as goal

abbrev pub invariant-loop-i : goal.invariant-loop-i
invariant-loop-i l = l.texts ≡ take l.i l.self
