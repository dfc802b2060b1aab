use Rattle.std.proofs.Common.{◌≡◌, ◌++◌, drop}
use Rattle.plan_spelling.proofs.values.put_bytes.Given as goal

abbrev pub invariant-loop-byte : goal.invariant-loop-byte
invariant-loop-byte l = l.numbers.items ++ drop l.byte-index l.bytes ≡ l.fn.numbers.items ++ l.bytes
