use Rattle.std.proofs.Common.{◌≡◌, take}
use Rattle.base_columns.proofs.dictionary.Dictionary.with.Given as goal

abbrev pub invariant-loop-known : goal.invariant-loop-known
invariant-loop-known l = l.texts.items ≡ take l.known-index l.self
