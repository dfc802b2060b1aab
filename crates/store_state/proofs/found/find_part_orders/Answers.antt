use Rattle.std.proofs.Common.{List, ℤ, subst, sym}
use Rattle.store_state.specs.Found.{TellsKeys}
use Rattle.store_state.specs.Keys.{order_keys}
use Rattle.store_state.proofs.KeyRanges.{keys_passed}
use Rattle.store_state.proofs.Searches.{keys_passed_on}
use Rattle.store_state.proofs.found.find_part_orders.Goals as goal

pub returns-then-not-may_have : goal.returns-then-not-may_have
returns-then-not-may_have c = λ before tells.
    keys_passed c.args.wanted.now before c.args.found.now c.args.part.now (c.may_have.ensures c.if-not-may_have.true) tells

pub returns : goal.returns
returns c = λ before tells.
    let wanted = c.args.wanted.now in
    let all = order_keys c.args.part.now in
    keys_passed_on wanted all c.as_slice.result.now before c.find_orders.new.found
    (subst (λ (ks : List ℤ). TellsKeys wanted all ks) (sym c.as_slice.ensures.value) c.in_ok-tell_orders.ensures)
    (c.in_ok-find_orders.ensures before tells)
