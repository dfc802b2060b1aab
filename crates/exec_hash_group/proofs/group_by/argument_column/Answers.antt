use Rattle.std.proofs.Common.{map, ap, sym, ◌∙◌, arith}
use Rattle.std.proofs.lemmas.List.{take_all}
use Rattle.expr_scalar.specs.Meaning.{value}
use Rattle.base_columns.specs.Bags.{bag_rows}
use Rattle.exec_hash_group.proofs.GroupRows.{arguments_more}
use Rattle.exec_hash_group.proofs.group_by.argument_column.Goals as goal

pub loop-batch-preserved : goal.loop-batch-preserved
loop-batch-preserved c =
    arguments_more (λ r. value c.args.e.now r.values) c.batches-batches.result.now c.loop-batch.batch-index c.batch-item.result c.loop-batch.column c.append.new.self c.in_ok-values.values
    c.loop-batch-test.true c.batch-item.is c.loop-batch.invariant c.in_ok-values.ensures c.in_ok-append.ensures.ok

pub returns : goal.returns
returns c =
    c.finish.ensures ∙ c.loop-batch.invariant
    ∙ ap (λ bs. map (λ r. value c.args.e.now r.values) (bag_rows bs)) (take_all c.loop-batch.batch-index c.batches-batches.result.now (omega arith))
    ∙ ap (map (λ r. value c.args.e.now r.values)) (sym c.batches-batches.ensures.rows)
