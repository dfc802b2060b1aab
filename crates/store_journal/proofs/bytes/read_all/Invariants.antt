use Rattle.std.proofs.Common.{◌≡◌, ◌+◌, ◌-◌, ◌≤◌, length, true}
use Rattle.base_disk.specs.Disk.{Tells}
use Rattle.store_journal.specs.Bytes.{IsFront}
use Rattle.store_journal.specs.Journal.{OnlyReads}
use Rattle.store_journal.proofs.bytes.read_all.Given as goal

abbrev pub invariant-loop-disk : goal.invariant-loop-disk
invariant-loop-disk g l = record {
  front : Tells (g.D.Disk.reads l.fn.disk) (IsFront l.bytes.items);
  only_reads : OnlyReads g.D.Disk.reads g.D.Disk.may_leave g.D.Disk.moment g.D.Disk.left_since g.D.Disk.faults l.fn.disk l.disk;
  few : length l.bytes.items ≤ l.size + 65_536;
  reached : g.D.Disk.is_reached l.disk ≡ true;
}

abbrev pub decreases-loop-disk : goal.decreases-loop-disk
decreases-loop-disk g l = l.size - length l.bytes.items
