use Rattle.std.proofs.Common.{◌≡◌, ℕ, take}
use Rattle.base_row_laws.specs.Rows.{scanned}
use Rattle.base_columns.specs.Bags.{bag_rows, AreWide}
use Rattle.base_columns.specs.Lists.{one_list}
use Rattle.exec_parallel_scan.specs.Stages.{staged, GiveWidth}
use Rattle.exec_parallel_scan.proofs.scan.staged_pieces.Given as goal

abbrev pub invariant-loop-piece : goal.invariant-loop-piece
invariant-loop-piece l =
    record {
      wide : (after : ℕ) → GiveWidth l.stages after l.pieces → AreWide after l.made.items;
      rows : bag_rows l.made.items ≡ staged l.stages (scanned (one_list (take l.piece-index l.pieces)));
    }
