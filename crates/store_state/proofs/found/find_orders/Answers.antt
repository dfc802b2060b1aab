use Rattle.std.proofs.Common.{◌++◌, List, ℤ, pos, subst, sym, take}
use Rattle.store_state.specs.Found.{TellsKeys}
use Rattle.store_state.proofs.PartLists.{taken_more}
use Rattle.store_state.proofs.found.find_orders.Goals as goal

pub loop-key-preserved : goal.loop-key-preserved
loop-key-preserved c = λ before tells.
    let i = c.loop-key.key-index in
    subst (λ (ks : List (ℤ)). TellsKeys c.args.wanted.now ks c.find_order.new.found) (sym (taken_more before c.args.keys.now i (pos 0) c.loop-key-test.true))
    (c.in_ok-find_order.ensures (before ++ take i c.args.keys.now) (c.loop-key.invariant before tells))
