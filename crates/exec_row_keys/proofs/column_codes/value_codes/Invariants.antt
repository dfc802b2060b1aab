use Rattle.std.proofs.Common.{◌≡◌, take, map}
use Rattle.std.specs.Prelude.{pos}
use Rattle.base_row_laws.specs.Bags.{each_once}
use Rattle.base_row_laws.specs.Numbers.{numbers_of}
use Rattle.base_value.specs.contracts.value.ValuePartialEq.TheImpl.{eq-value}
use Rattle.exec_row_keys.proofs.column_codes.value_codes.Given as goal

abbrev pub invariant-loop-i : goal.invariant-loop-i
invariant-loop-i l =
    (l.seen ≡ each_once eq-value.it (take l.i l.values))
    × (l.codes.items ≡ map pos (numbers_of eq-value.it (take l.i l.values)))
