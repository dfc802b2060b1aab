use Rattle.std.proofs.Common.{ap, sym, subst, ◌∙◌, arith}
use Rattle.base_columns.specs.Bags.{bag_rows, AreWide}
use Rattle.exec_parallel_scan.specs.Stages.{staged_width}
use Rattle.exec_parallel_scan.proofs.StageRows.{batch_wide, staged-none, staged_batch_more}
use Rattle.exec_parallel_scan.proofs.bags.staged_batches.Goals as goal

pub loop-batch-init : goal.loop-batch-init
loop-batch-init c =
    record {
      wide = λ w h. subst (AreWide (staged_width c.args.stages.now w)) (sym c.new-made.ensures.items) (λ k d l. absurd (omega (arith, l)));
      rows = ap bag_rows c.new-made.ensures.items ∙ sym (staged-none c.args.stages.now);
    }

pub loop-batch-preserved : goal.loop-batch-preserved
loop-batch-preserved c =
    record {
      wide = λ w h. c.in_ok-put_batch.ensures.width (staged_width c.args.stages.now w) (c.loop-batch.invariant.wide w h)
          (c.in_ok-rows.ensures.width ∙ ap (staged_width c.args.stages.now) (batch_wide w c.args.batches.now c.loop-batch.batch-index c.batch-item.result h c.loop-batch-test.true c.batch-item.is));
      rows = staged_batch_more c.args.stages.now c.args.batches.now c.loop-batch.batch-index c.batch-item.result (bag_rows c.loop-batch.made.items) c.in_ok-rows.rows.rows (bag_rows c.put_batch.new.batches.items)
          c.loop-batch-test.true c.batch-item.is c.loop-batch.invariant.rows c.in_ok-rows.ensures.rows c.in_ok-put_batch.ensures.rows;
    }
