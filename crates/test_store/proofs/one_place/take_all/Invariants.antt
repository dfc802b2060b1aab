use Rattle.std.proofs.Common.{◌≡◌}
use Rattle.test_store.proofs.one_place.take_all.Given as goal

abbrev pub invariant-loop : goal.invariant-loop
invariant-loop g l = l.taker.gateway ≡ l.fn.taker.gateway
