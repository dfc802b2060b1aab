use Rattle.std.proofs.Common.{◌≡◌, replicate}
use Rattle.store_machine.specs.Machine.{new_session}
use Rattle.store_machine.proofs.machine.new_sessions.Given as goal

abbrev pub invariant-loop-i : goal.invariant-loop-i
invariant-loop-i l = l.sessions.items ≡ replicate l._i new_session
