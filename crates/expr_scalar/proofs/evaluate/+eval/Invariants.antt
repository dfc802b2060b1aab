use Rattle.std.proofs.Common.{◌≡◌, drop, fold, map}
use Rattle.std.specs.Cow.{cow_value}
use Rattle.base_value.specs.Truth.{lesser, greater}
use Rattle.expr_operators.specs.declared.operator.Comparison.TheVariants.{Equal}
use Rattle.expr_scalar.specs.Meaning.{least, greatest, in_list, values, truths, chosen, operated}
use Rattle.expr_operators.specs.Operators.{compared}
use Rattle.expr_scalar.proofs.evaluate.+eval.Given as goal

abbrev pub invariant-operated-loop-operation : goal.invariant-operated-loop-operation
invariant-operated-loop-operation l = operated (cow_value l.x) (drop l.operation-index l.operations) l.row ≡ operated (cow_value l.fn.first) l.operations l.row

abbrev pub invariant-chosen-loop-branch : goal.invariant-chosen-loop-branch
invariant-chosen-loop-branch l = chosen (drop l.branch-index l.branches) l.row ≡ chosen l.branches l.row

abbrev pub invariant-least-loop-e : goal.invariant-least-loop-e
invariant-least-loop-e l = fold lesser l.least (truths (drop l.e-index l.es) l.row) ≡ least (truths l.es l.row)

abbrev pub invariant-greatest-loop-e : goal.invariant-greatest-loop-e
invariant-greatest-loop-e l = fold greater l.greatest (truths (drop l.e-index l.es) l.row) ≡ greatest (truths l.es l.row)

abbrev pub invariant-equal_to_any-loop-e : goal.invariant-equal_to_any-loop-e
invariant-equal_to_any-loop-e l = fold greater l.greatest (map (compared Equal l.x) (values (drop l.e-index l.es) l.row)) ≡ in_list l.x (values l.es l.row)
