use Rattle.std.proofs.Common.{◌<◌, arith}
use Rattle.app_jobs.proofs.Reached.{measured_none, measured_some}
use Rattle.app_jobs.proofs.journal.journal_of_file.Goals as goal

pub make_journal-requires-clause-empty : goal.make_journal-requires-clause-empty
make_journal-requires-clause-empty g c =
    measured_none c.size.result c.in-Size.bytes (g.D.Disk.reads c.args.disk.now) (g.D.Disk.reads c.size.new.self) c.in-Size.is c.if-bytes-eq0.true c.size.ensures.size c.size.ensures.reads

pub reopen_journal-requires-clause-some : goal.reopen_journal-requires-clause-some
reopen_journal-requires-clause-some g c =
    let other = c.if-bytes-eq0.false in
    let some : 0 < c.in-Size.bytes = omega (arith, other) in
    measured_some c.size.result c.in-Size.bytes (g.D.Disk.reads c.args.disk.now) (g.D.Disk.reads c.size.new.self) c.in-Size.is some c.size.ensures.size c.size.ensures.reads
