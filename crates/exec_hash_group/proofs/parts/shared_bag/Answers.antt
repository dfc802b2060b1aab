use Rattle.std.proofs.Common.{◌++◌, ap, sym, ◌∙◌, arith, take}
use Rattle.std.proofs.lemmas.List.{take_all}
use Rattle.base_columns.specs.Bags.{bag_rows}
use Rattle.base_columns.proofs.BagLists.{bag_rows-more}
use Rattle.exec_hash_group.proofs.parts.shared_bag.Goals as goal

pub push-requires : goal.push-requires
push-requires c =
    ap (λ b. b.width) c.in_ok-shared.ensures ∙ ap (λ b. b.width) c.batch-item.is ∙ c.requires c.loop-batch.batch-index c.batch-item.result c.loop-batch-test.true ∙ sym c.loop-batch.invariant.0

pub loop-batch-preserved : goal.loop-batch-preserved
loop-batch-preserved c = (
  c.in_ok-push.ensures.width ∙ c.loop-batch.invariant.0,
  c.in_ok-push.ensures.ok ∙ ap (λ l. l ++ c.in_ok-shared.shared.rows) c.loop-batch.invariant.1 ∙ ap (λ b. bag_rows (take c.loop-batch.batch-index c.args.batches.now) ++ b.rows) c.in_ok-shared.ensures
      ∙ sym (bag_rows-more c.args.batches.now c.loop-batch.batch-index c.batch-item.result c.loop-batch-test.true c.batch-item.is),
)

pub returns : goal.returns
returns c = c.loop-batch.invariant.1 ∙ ap bag_rows (take_all c.loop-batch.batch-index c.args.batches.now (omega arith))
