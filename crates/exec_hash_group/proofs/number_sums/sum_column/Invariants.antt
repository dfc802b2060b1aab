use Rattle.std.proofs.Common.{◌≡◌, map}
use Rattle.base_row_laws.specs.Aggregates.{sum_of}
use Rattle.base_null_marks.specs.Marks.{marked}
use Rattle.base_value.specs.declared.value.Value.TheVariants.{Null, Number}
use Rattle.expr_aggregates.specs.Values.{reading}
use Rattle.exec_hash_group.specs.ByNumber.{values_by_number}
use Rattle.exec_hash_group.proofs.number_sums.sum_column.Given as goal

abbrev pub invariant-loop-number : goal.invariant-loop-number
invariant-loop-number l = l.column ≡ values_by_number (sum_of (reading l.scale)) l.numbers (marked Null l.marks (map (Number l.fn.own) l.coefficients)) 0 l.number
