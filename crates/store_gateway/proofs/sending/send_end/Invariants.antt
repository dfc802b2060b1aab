use Rattle.std.proofs.Common.{◌≡◌}
use Rattle.store_gateway.proofs.sending.send_end.Given as goal

abbrev pub invariant-loop : goal.invariant-loop
invariant-loop g l = l.sender ≡ l.fn.sender
