use Rattle.std.proofs.Common.{rules}
use Rattle.plan_predicate_sinking.specs.Narrow.{IsFoundAt}
use Rattle.plan_predicate_sinking.proofs.Narrowing.{every_at, every_read}
use Rattle.plan_tree_moves.proofs.narrow.is_found.Goals as goal

pub loop-column-preserved : goal.loop-column-preserved
loop-column-preserved c =
    every_at (IsFoundAt c.args.places.now c.args.whole.now) c.deref-column-items.result.now
    c.loop-column.column-index c.loop-column-test.true (c.is_found_at.ensures (search rules))
    c.loop-column.invariant

pub returns : goal.returns
returns c = λ t. every_read (IsFoundAt c.args.places.now c.args.whole.now)
    c.deref-column-items.result.now c.in_ok-columns.columns.items _ c.loop-column.column-index
    c.loop-column-test.false c.deref-column-items.ensures.value c.in_ok-columns.ensures
    c.loop-column.invariant
