use Rattle.std.proofs.Common.{◌≡◌, subst, get_or}
use Rattle.std.specs.Prelude.{IfSome, Some, slice_get}
use Rattle.plan_tree_moves.proofs.Regrouping.{keys_none, keys_more, keys_end}
use Rattle.plan_tree_moves.proofs.regroup.moved_keys.Goals as goal

pub loop-column-init : goal.loop-column-init
loop-column-init c = keys_none c.args.whole.now _ c.new-keys.ensures

pub loop-column-preserved : goal.loop-column-preserved
loop-column-preserved c =
    keys_more c.args.whole.now c.args.by.now c.loop-column.keys _ c.loop-column.column-index
    c.in-Some.place c.loop-column-test.true c.loop-column.invariant
    (subst (λ o. IfSome o (λ p. slice_get c.args.whole.now p
    ≡ Some (get_or c.args.by.now c.loop-column.column-index 0))) c.in-Some.is c.position_of.ensures)
    c.in_ok-push-in-Some.ensures.ok

pub returns : goal.returns
returns c = keys_end c.args.whole.now c.args.by.now c.loop-column.keys c.loop-column.column-index
    c.loop-column-test.false c.loop-column.invariant
