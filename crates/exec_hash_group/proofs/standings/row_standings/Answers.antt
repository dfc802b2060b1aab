use Rattle.std.proofs.Common.{ap, sym, ◌∙◌, arith}
use Rattle.std.proofs.lemmas.List.{take_all}
use Rattle.base_columns.specs.Bags.{bag_rows}
use Rattle.exec_hash_group.specs.Standings.{row_ranks}
use Rattle.exec_hash_group.proofs.Ranks.{bag_ranks_more}
use Rattle.exec_hash_group.proofs.standings.row_standings.Goals as goal

pub loop-batch-preserved : goal.loop-batch-preserved
loop-batch-preserved c =
    bag_ranks_more c.batches-batches.result.now c.loop-batch.batch-index c.batch-item.result c.loop-batch.standings.items c.put_standings.new.standings.items
    c.loop-batch-test.true c.batch-item.is c.loop-batch.invariant c.in_ok-put_standings.ensures

pub returns : goal.returns
returns c =
    c.loop-batch.invariant ∙ ap (λ bs. row_ranks (bag_rows bs)) (take_all c.loop-batch.batch-index c.batches-batches.result.now (omega arith))
    ∙ ap row_ranks (sym c.batches-batches.ensures.rows)
