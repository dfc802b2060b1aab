use Rattle.std.proofs.Common.{sym, ◌∙◌}
use Rattle.exec_parallel_scan.proofs.StageRows.{pieces_give}
use Rattle.exec_parallel_scan.proofs.scan.staged_scan.Goals as goal

pub scan_parts-requires-after_bounds : goal.scan_parts-requires-after_bounds
scan_parts-requires-after_bounds g c κs within = λ k d h width some wide.
    pieces_give c.args.stages.now c.args.width c.args.pieces.now c.requires k d h width some wide ∙ sym c.staged_width-after.ensures
