use Rattle.std.proofs.Common.{◌≡◌, ◌<◌, take}
use Rattle.expr_conditions.specs.Ranks.{all_rank}
use Rattle.exec_parallel_scan.specs.Kept.{StandFor}
use Rattle.exec_parallel_scan.proofs.kept.kept_by_all.Given as goal

abbrev pub invariant-loop-k : goal.invariant-loop-k
invariant-loop-k l =
    record {
      some : 0 < l.k;
      width : l.kept.rows.width ≡ l.batch.width;
      rows : StandFor l.batch.rows (all_rank (take l.k l.es)) l.kept.rows.rows l.kept.truths.items;
    }
