use Rattle.std.proofs.Common.{arith}
use Rattle.base_value.specs.Truth.{standing_rank}
use Rattle.exec_ordered_rows.proofs.Faults.{plain_more}
use Rattle.exec_ordered_rows.proofs.fault.least_standing.Goals as goal

pub loop-i-preserved : goal.loop-i-preserved
loop-i-preserved c =
    plain_more c.args.batch.now.rows c.loop-i.i (standing_rank c.loop-i.least)
    (standing_rank c.lesser-least.result) c.standing.result (omega arith) c.requires
    c.standing.ensures c.loop-i.invariant c.lesser-least.ensures.rank
