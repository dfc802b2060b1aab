use Rattle.std.proofs.Common.{◌≡◌, ◌++◌, length}
use Rattle.std.specs.Vec.Iter.{into_iter_items, into_iter_len}
use Rattle.store_gateway.proofs.sending.send_all.Given as goal

abbrev pub invariant-loop-refresh : goal.invariant-loop-refresh
invariant-loop-refresh g l =
    record {
      whole : l.yielded ++ into_iter_items l.refresh-iterator ≡ into_iter_items l.initial.refresh-iterator;
      left : into_iter_len l.refresh-iterator ≡ length (into_iter_items l.refresh-iterator);
      gateway : l.sender.gateway ≡ l.fn.sender.gateway;
      id : l.sender.id ≡ l.fn.sender.id;
      quotas : l.sender.quotas ≡ l.fn.sender.quotas;
      sent : l.sender.sent ≡ l.fn.sender.sent ++ l.yielded;
    }
