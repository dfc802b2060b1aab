use Rattle.std.proofs.Common.{◌∙◌, ap, sym}
use Rattle.exec_parallel_scan.specs.Stages.{stage_width}
use Rattle.exec_parallel_scan.proofs.StageRows.{width-more}
use Rattle.exec_parallel_scan.proofs.stages.staged_width.Goals as goal

pub loop-stage-preserved : goal.loop-stage-preserved
loop-stage-preserved c =
    c.stage_width-after.ensures ∙ ap (stage_width c.stage-item.result) c.loop-stage.invariant
    ∙ sym (width-more c.args.stages.now c.loop-stage.stage-index c.stage-item.result c.args.width c.loop-stage-test.true c.stage-item.is)
