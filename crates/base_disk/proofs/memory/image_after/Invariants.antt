use Rattle.std.proofs.Common.{◌≡◌, take}
use Rattle.base_disk.specs.Memory.{TornBy, state_now}
use Rattle.base_disk.proofs.memory.image_after.Given as goal

abbrev pub invariant-loop-call : goal.invariant-loop-call
invariant-loop-call l =
    let s = state_now l.first (take l.call-index l.calls) in
    record {
      now : l.now.items ≡ s.bytes;
      torn : TornBy s.writes s.firm l.torn.items;
    }
