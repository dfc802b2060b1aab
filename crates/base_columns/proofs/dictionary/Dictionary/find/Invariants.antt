use Rattle.std.proofs.Common.{◌<◌}
use Rattle.base_columns.proofs.dictionary.Dictionary.find.Given as goal

abbrev pub invariant-loop-try : goal.invariant-loop-try
invariant-loop-try l = l.slot < 1024
