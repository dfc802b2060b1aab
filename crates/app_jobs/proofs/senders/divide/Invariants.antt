use Rattle.std.proofs.Common.{◌≡◌, ◌++◌, drop, length}
use Rattle.std.specs.List.{zip}
use Rattle.std.specs.Vec.Iter.{into_iter_items, into_iter_len}
use Rattle.store_gateway.specs.Roles.{sent_by}
use Rattle.store_gateway.specs.declared.message.SenderId.TheVariants.{First, Second}
use Rattle.app_jobs.proofs.senders.divide.Given as goal

abbrev pub invariant-dividing : goal.invariant-dividing
invariant-dividing l =
    let items = into_iter_items l.left in
    let rest = zip (drop l.sender-index l.senders) items in
    record {
      long : into_iter_len l.left ≡ length items;
      count : length items ≡ length (drop l.sender-index l.senders);
      first : l.first.items ++ sent_by First rest ≡ sent_by First (zip l.senders l.fn.sent.items);
      second : l.second.items ++ sent_by Second rest ≡ sent_by Second (zip l.senders l.fn.sent.items);
    }
