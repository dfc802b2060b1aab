use Rattle.std.proofs.Common.{◌≡◌, ◌+◌, ◌-◌, ap, sym, ◌∙◌, arith, get_or, length}
use Rattle.base_value.specs.Truth.{lesser, greater}
use Rattle.expr_operators.specs.declared.operator.Comparison.TheVariants.{Equal}
use Rattle.expr_operators.specs.Operators.{computed, compared}
use Rattle.exec_column_operators.specs.Choices.{choice}
use Rattle.exec_column_operators.proofs.Zips.{zip_long, three_long}
use Rattle.exec_column_expr.specs.Lanes.{over}
use Rattle.exec_column_expr.proofs.Nodes.{values_Substring}
use Rattle.exec_column_expr.proofs.Steps.{operated_more, operated_end, chosen_more, chosen_start, least_more, least_end, greatest_more, greatest_end, equal_more, equal_end}
use Rattle.exec_column_expr.proofs.evaluate.+evaluate.Goals as goal

pub node-returns-in_ok-x-in-Substring : goal.node-returns-in_ok-x-in-Substring
node-returns-in_ok-x-in-Substring t c =
    let made = rw (c.shape-in-Substring.ensures, c.in_ok-x-in-Substring.ensures.values, c.get-in-Substring.ensures) at c.part_operand.ensures in
    rw (c.in-Substring.is, values_Substring) made

pub operated-loop-operation-preserved : goal.operated-loop-operation-preserved
operated-loop-operation-preserved t c =
    let n = c.args.n in
    let made = rw (c.shape.ensures, c.shape-in-loop-operation.ensures) at c.in_ok-x.ensures in
    record {
      is = operated_more c.args.operations.now c.loop-operation.operation-index c.args.batch.now.rows (over n c.loop-operation.x) (over n c.in_ok-y.y) (over n c.in_ok-x.x) _ c.operation-item.result
          c.loop-operation-test.true c.operation-item.is c.in_ok-y.ensures.values made c.loop-operation.invariant.is;
      long = ap length made ∙ zip_long (computed c.operation-item.result.operator) (over n c.loop-operation.x) (over n c.in_ok-y.y) n c.loop-operation.invariant.long c.in_ok-y.ensures.long;
    }

pub operated-returns : goal.operated-returns
operated-returns t c =
    operated_end c.args.operations.now c.loop-operation.operation-index c.args.batch.now.rows (over c.args.n c.loop-operation.x) _ (omega arith) c.loop-operation.invariant.is

pub chosen-loop-i-init : goal.chosen-loop-i-init
chosen-loop-i-init t c =
    record {
      is = chosen_start c.args.branches.now (length c.args.branches.now - 0) c.args.batch.now.rows (over c.args.n c.args.rest) (omega arith);
      long = c.requires.long;
    }

pub chosen-loop-i-preserved : goal.chosen-loop-i-preserved
chosen-loop-i-preserved t c =
    let n = c.args.n in
    let bs = c.args.branches.now in
    let i = c.loop-i.i in
    let b = c.index-branches-branches.result in
    let at : length bs - 1 - i ≡ length bs - (i + 1) = omega arith in
    let found : b ≡ get_or bs (length bs - (i + 1)) b = c.index-branches-branches.is ∙ ap (λ j. get_or bs j b) at in
    let made = rw (c.shape.ensures, c.shape-in-loop-i.ensures) at c.in_ok-x.ensures in
    record {
      is = chosen_more bs (length bs - (i + 1)) (length bs - i) c.args.batch.now.rows c.as_slice.result.now (over n c.in_ok-gives.gives) (over n c.loop-i.x) (over n c.in_ok-x.x) (over n c.args.rest) b
          (omega arith) (omega arith) found (c.as_slice.ensures.value ∙ c.in_ok-truths.ensures.truths) c.in_ok-gives.ensures.values made c.loop-i.invariant.is;
      long = ap length made ∙ three_long choice c.as_slice.result.now (over n c.in_ok-gives.gives) (over n c.loop-i.x) n
          (ap length c.as_slice.ensures.value ∙ c.in_ok-truths.ensures.long) c.in_ok-gives.ensures.long c.loop-i.invariant.long;
    }

pub least-loop-e-preserved : goal.least-loop-e-preserved
least-loop-e-preserved t c =
    let made = rw (c.as_slice.ensures.value, c.as_slice-in-loop-e.ensures.value) at c.in_ok-truths-2.ensures in
    record {
      is = least_more c.args.es.now c.loop-e.e-index c.args.batch.now.rows c.loop-e.truths.items c.in_ok-more.more.items c.in_ok-truths-2.truths.items _ c.e-item.result
          c.loop-e-test.true c.e-item.is c.in_ok-more.ensures.truths made c.loop-e.invariant.is;
      long = ap length made ∙ zip_long lesser c.loop-e.truths.items c.in_ok-more.more.items c.args.n c.loop-e.invariant.long c.in_ok-more.ensures.long;
    }

pub least-returns : goal.least-returns
least-returns t c = least_end c.args.es.now c.loop-e.e-index c.args.batch.now.rows c.loop-e.truths.items _ (omega arith) c.loop-e.invariant.is

pub greatest-loop-e-preserved : goal.greatest-loop-e-preserved
greatest-loop-e-preserved t c =
    let made = rw (c.as_slice.ensures.value, c.as_slice-in-loop-e.ensures.value) at c.in_ok-truths-2.ensures in
    record {
      is = greatest_more c.args.es.now c.loop-e.e-index c.args.batch.now.rows c.loop-e.truths.items c.in_ok-more.more.items c.in_ok-truths-2.truths.items _ c.e-item.result
          c.loop-e-test.true c.e-item.is c.in_ok-more.ensures.truths made c.loop-e.invariant.is;
      long = ap length made ∙ zip_long greater c.loop-e.truths.items c.in_ok-more.more.items c.args.n c.loop-e.invariant.long c.in_ok-more.ensures.long;
    }

pub greatest-returns : goal.greatest-returns
greatest-returns t c = greatest_end c.args.es.now c.loop-e.e-index c.args.batch.now.rows c.loop-e.truths.items _ (omega arith) c.loop-e.invariant.is

pub equal_to_any-either-requires : goal.equal_to_any-either-requires
equal_to_any-either-requires t c =
    let n = c.args.n in
    let found = rw (c.shape.ensures, c.shape-in-loop-e.ensures) at c.in_ok-more.ensures in
    ap length c.as_slice.ensures.value ∙ c.loop-e.invariant.long
    ∙ sym (ap length c.as_slice-in-loop-e.ensures.value ∙ ap length found ∙ zip_long (compared Equal) (over n c.args.x.now) (over n c.in_ok-y.y) n c.requires.long c.in_ok-y.ensures.long)

pub equal_to_any-loop-e-preserved : goal.equal_to_any-loop-e-preserved
equal_to_any-loop-e-preserved t c =
    let n = c.args.n in
    let found = rw (c.shape.ensures, c.shape-in-loop-e.ensures) at c.in_ok-more.ensures in
    let made = rw (c.as_slice.ensures.value, c.as_slice-in-loop-e.ensures.value) at c.in_ok-truths-2.ensures in
    record {
      is = equal_more (over n c.args.x.now) c.args.es.now c.loop-e.e-index c.args.batch.now.rows (over n c.in_ok-y.y) c.loop-e.truths.items c.in_ok-more.more.items c.in_ok-truths-2.truths.items _ c.e-item.result
          c.loop-e-test.true c.e-item.is c.in_ok-y.ensures.values found made c.loop-e.invariant.is;
      long = ap length made ∙ zip_long greater c.loop-e.truths.items c.in_ok-more.more.items n c.loop-e.invariant.long
          (ap length found ∙ zip_long (compared Equal) (over n c.args.x.now) (over n c.in_ok-y.y) n c.requires.long c.in_ok-y.ensures.long);
    }

pub equal_to_any-returns : goal.equal_to_any-returns
equal_to_any-returns t c =
    equal_end (over c.args.n c.args.x.now) c.args.es.now c.loop-e.e-index c.args.batch.now.rows c.loop-e.truths.items _ (omega arith) c.loop-e.invariant.is

pub comparison_of-returns-clause-long : goal.comparison_of-returns-clause-long
comparison_of-returns-clause-long t c =
    let n = c.args.n in
    let found = rw (c.shape.ensures, c.shape-2.ensures) at c.in_ok-truths.ensures in
    ap length found ∙ zip_long (compared c.args.comparison) (over n c.args.x.now) (over n c.in_ok-y.y) n c.requires.long c.in_ok-y.ensures.long
