use Rattle.std.proofs.Common.{◌≡◌, ◌+◌, ◌≤◌, ◌<◌, ◌^◌, ◌++◌, ℕ, List, length, take, drop, true}
use Rattle.std.specs.Prelude.{map}
use Rattle.base_disk.specs.Disk.{LeavesOnly}
use Rattle.store_journal.specs.Format.{entries}
use Rattle.store_journal.specs.Journal.{Stands, StandsForSome}
use Rattle.store_journal.proofs.appends.append_all.Given as goal

abbrev pub invariant-loop-value : goal.invariant-loop-value
invariant-loop-value g l =
    let tried = map g.P.Payload.spelling l.values in
    let K = g.P.Payload.is_payload in
    record {
      count : l.count ≡ l.value-index;
      room : l.journal.end + length (entries (drop l.value-index tried)) < 2 ^ 62;
      stands : (ps : List (List ℕ)) → Stands K (g.D.Disk.may_leave l.fn.disk) ps l.fn.journal.end → Stands K (g.D.Disk.may_leave l.disk) (ps ++ take l.value-index tried) l.journal.end;
      any_moment : (ps : List (List ℕ)) → Stands K (g.D.Disk.may_leave l.fn.disk) ps l.fn.journal.end → LeavesOnly g.D.Disk.moment g.D.Disk.left_since l.fn.disk l.disk (StandsForSome K 0 ps tried);
      reached : g.D.Disk.is_reached l.disk ≡ true;
      faults : g.D.Disk.faults l.fn.disk ≤ g.D.Disk.faults l.disk;
    }
