use Rattle.std.proofs.Common.{rules, ◌<◌, ap, sym, ◌∙◌, length, arith}
use Rattle.exec_parallel_scan.specs.Stages.{stage_rows, stage_width}
use Rattle.exec_parallel_scan.proofs.StageRows.{staged-more, width-more}
use Rattle.exec_parallel_scan.proofs.stages.staged_batch.Goals as goal

pub loop-k-preserved : goal.loop-k-preserved
loop-k-preserved c =
    let s = c.index-stages-k.result in
    let lt : c.loop-k.k < length c.args.stages.now = search rules in
    record {
      some = omega arith;
      width = c.in_ok-rows-2.ensures.width ∙ ap (stage_width s) c.loop-k.invariant.width ∙ sym (width-more c.args.stages.now c.loop-k.k s c.args.batch.now.width lt c.index-stages-k.is);
      rows = c.in_ok-rows-2.ensures.rows ∙ ap (stage_rows s) c.loop-k.invariant.rows ∙ sym (staged-more c.args.stages.now c.loop-k.k s c.args.batch.now.rows lt c.index-stages-k.is);
    }
