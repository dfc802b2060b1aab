use Rattle.std.proofs.Common.{◌≡◌, [], take, drop}
use Rattle.store_state.specs.Refresh.{first_cause, order_cause}
use Rattle.store_state.proofs.cause.find_order_cause.Given as goal

abbrev pub invariant-loop-key : goal.invariant-loop-key
invariant-loop-key l = record {
  earlier : l.earlier ≡ take l.key-index l.keys;
  rest : first_cause (order_cause l.present) (take l.key-index l.keys) (drop l.key-index l.keys) ≡ first_cause (order_cause l.present) [] l.keys;
}
