use Rattle.std.proofs.Common.{rules, ◌≡◌}
use Rattle.base_value.specs.declared.truth.Standing.TheVariants.{AtTrue}
use Rattle.base_value.specs.declared.truth.Truth.TheVariants.{False, Stands}
use Rattle.expr_scalar.proofs.Loops.{least_more, least_false, least_end, greatest_more, greatest_true, greatest_end, equal_more, equal_true, equal_end, operated_more, operated_end, chosen_true, chosen_fault, chosen_on, chosen_end}
use Rattle.expr_scalar.proofs.evaluate.+eval.Goals as goal

pub least-returns-then-is_false : goal.least-returns-then-is_false
least-returns-then-is_false t c =
    let stop : c.and-least.result ≡ False = search rules in
    least_false c.args.es.now c.loop-e.e-index c.args.row.now _ _ _ _ _ c.loop-e-test.true c.e-item.is c.in_ok-truth_slice.ensures c.and-least.ensures.value stop c.loop-e.invariant

pub least-loop-e-preserved : goal.least-loop-e-preserved
least-loop-e-preserved t c =
    least_more c.args.es.now c.loop-e.e-index c.args.row.now _ _ _ _ _ c.loop-e-test.true c.e-item.is c.in_ok-truth_slice.ensures c.and-least.ensures.value c.loop-e.invariant

pub least-returns : goal.least-returns
least-returns t c = search (rules, least_end)

pub greatest-returns-then-is_true : goal.greatest-returns-then-is_true
greatest-returns-then-is_true t c =
    let stop : c.or-greatest.result ≡ Stands AtTrue = search rules in
    greatest_true c.args.es.now c.loop-e.e-index c.args.row.now _ _ _ _ _ c.loop-e-test.true c.e-item.is c.in_ok-truth_slice.ensures c.or-greatest.ensures.value stop c.loop-e.invariant

pub greatest-loop-e-preserved : goal.greatest-loop-e-preserved
greatest-loop-e-preserved t c =
    greatest_more c.args.es.now c.loop-e.e-index c.args.row.now _ _ _ _ _ c.loop-e-test.true c.e-item.is c.in_ok-truth_slice.ensures c.or-greatest.ensures.value c.loop-e.invariant

pub greatest-returns : goal.greatest-returns
greatest-returns t c = search (rules, greatest_end)

pub equal_to_any-returns-then-is_true : goal.equal_to_any-returns-then-is_true
equal_to_any-returns-then-is_true t c =
    let stop : c.or-greatest.result ≡ Stands AtTrue = search rules in
    equal_true c.args.x.now c.args.es.now c.loop-e.e-index c.args.row.now _ _ _ _ _ _ _ c.loop-e-test.true c.e-item.is c.in_ok-y.ensures c.deref.ensures c.compared.ensures c.or-greatest.ensures.value stop c.loop-e.invariant

pub equal_to_any-loop-e-preserved : goal.equal_to_any-loop-e-preserved
equal_to_any-loop-e-preserved t c =
    equal_more c.args.x.now c.args.es.now c.loop-e.e-index c.args.row.now _ _ _ _ _ _ _ c.loop-e-test.true c.e-item.is c.in_ok-y.ensures c.deref.ensures c.compared.ensures c.or-greatest.ensures.value c.loop-e.invariant

pub equal_to_any-returns : goal.equal_to_any-returns
equal_to_any-returns t c = search (rules, equal_end)

pub chosen-returns-in-Stands-AtTrue : goal.chosen-returns-in-Stands-AtTrue
chosen-returns-in-Stands-AtTrue t c = search (rules, chosen_true)

pub chosen-returns-in-Stands-AtFault : goal.chosen-returns-in-Stands-AtFault
chosen-returns-in-Stands-AtFault t c = search (rules, chosen_fault)

pub chosen-loop-branch-preserved : goal.chosen-loop-branch-preserved
chosen-loop-branch-preserved t c =
    chosen_on c.args.branches.now c.loop-branch.branch-index c.args.row.now _ _ _ c.loop-branch-test.true c.branch-item.is c.in_ok-truth_slice.ensures c.in-False.is c.loop-branch.invariant

pub chosen-returns : goal.chosen-returns
chosen-returns t c = search (rules, chosen_end)

pub operated-loop-operation-preserved : goal.operated-loop-operation-preserved
operated-loop-operation-preserved t c =
    operated_more c.args.operations.now c.loop-operation.operation-index c.args.row.now _ _ _ _ _ _ _ c.loop-operation-test.true c.operation-item.is
    c.in_ok-y.ensures c.deref.ensures c.deref-in-loop-operation.ensures c.computed.ensures c.loop-operation.invariant

pub operated-returns : goal.operated-returns
operated-returns t c = search (rules, operated_end)
