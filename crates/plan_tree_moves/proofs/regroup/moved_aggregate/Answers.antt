use Rattle.std.proofs.Common.{refl, rules}
use Rattle.plan_tree_moves.proofs.Regrouping.{of_moves, renamed_boxed}
use Rattle.plan_tree_moves.proofs.regroup.moved_aggregate.Goals as goal

pub returns-in_ok-new-in-Of-2 : goal.returns-in_ok-new-in-Of-2
returns-in_ok-new-in-Of-2 c =
    of_moves c.args.whole.now c.args.places.now c.args.aggregate.now _ c.in-Of.function
    c.in-Of.scale c.in-Of.e _ _ c.in_ok-new-in-Of-2.new c.in-Of.is c.get.ensures
    (c.in_ok-found-in-Of.ensures (search rules))
    c.get-in-Of.ensures (renamed_boxed c.in_ok-new-in-Of-2.ensures
    c.in_ok-new-in-Of.ensures.meaning) refl
