use Rattle.std.proofs.Common.{◌≡◌, Some, drop}
use Rattle.store_machine.specs.Machine.{joined, scan_from}
use Rattle.store_machine.proofs.scan.joined_pieces.Given as goal

abbrev pub invariant-loop-number : goal.invariant-loop-number
invariant-loop-number l = joined (Some l.all.items) (scan_from l.pieces l.table l.number (drop l.number l.lengths)) ≡ scan_from l.pieces l.table 0 l.lengths
