use Rattle.std.proofs.Common.{◌++◌, ap, sym, ◌∙◌, arith, take, append_assoc}
use Rattle.std.proofs.lemmas.List.{take_all}
use Rattle.base_columns.specs.Bags.{bag_rows}
use Rattle.base_columns.proofs.BagLists.{bag_rows-more}
use Rattle.exec_set_rows.proofs.bags.put_rows.Goals as goal

pub push-requires : goal.push-requires
push-requires c =
    ap (λ b. b.width) c.in_ok-shared.ensures ∙ ap (λ b. b.width) c.batch-item.is
    ∙ c.batches-batches.ensures.width c.loop-batch.batch-index c.batch-item.result c.loop-batch-test.true ∙ c.requires ∙ sym c.loop-batch.invariant.0

pub loop-batch-preserved : goal.loop-batch-preserved
loop-batch-preserved c =
    let old = c.args.bag.now.rows in
    let batches = c.batches-batches.result.now in
    let i = c.loop-batch.batch-index in (
      c.in_ok-push.ensures.width ∙ c.loop-batch.invariant.0,
      c.in_ok-push.ensures.ok ∙ ap (λ l. l ++ c.in_ok-shared.shared.rows) c.loop-batch.invariant.1
          ∙ ap (λ b. (old ++ bag_rows (take i batches)) ++ b.rows) c.in_ok-shared.ensures ∙ append_assoc old (bag_rows (take i batches)) c.batch-item.result.rows
          ∙ ap (λ l. old ++ l) (sym (bag_rows-more batches i c.batch-item.result c.loop-batch-test.true c.batch-item.is)),
    )

pub returns-clause-rows : goal.returns-clause-rows
returns-clause-rows c =
    let batches = c.batches-batches.result.now in
    c.loop-batch.invariant.1 ∙ ap (λ l. c.args.bag.now.rows ++ bag_rows l) (take_all c.loop-batch.batch-index batches (omega arith))
    ∙ ap (λ l. c.args.bag.now.rows ++ l) (sym c.batches-batches.ensures.rows)
