use Rattle.std.proofs.Common.{◌<◌, ap, sym, subst, ◌∙◌, arith, length}
use Rattle.base_columns.specs.Bags.{bag_rows, AreWide}
use Rattle.exec_parallel_scan.specs.Stages.{staged}
use Rattle.exec_parallel_scan.proofs.StageRows.{no_piece, piece_gives, staged-none, staged_piece_more}
use Rattle.exec_parallel_scan.proofs.scan.staged_pieces.Goals as goal
use Rattle.exec_parallel_scan.proofs.scan.staged_pieces.Goals.{then-len-gt0+in_ok-batch+in_ok-rows+in_ok-put_batch, else-len-gt0}

pub loop-piece-init : goal.loop-piece-init
loop-piece-init c =
    record {
      wide = λ after h. subst (AreWide after) (sym c.new-made.ensures.items) (λ k d l. absurd (omega (arith, l)));
      rows = ap bag_rows c.new-made.ensures.items ∙ sym (staged-none c.args.stages.now);
    }

pub loop-piece-preserved : goal.loop-piece-preserved
loop-piece-preserved c =
    elim c.if-len-gt0.branch [
      | then-len-gt0+in_ok-batch+in_ok-rows+in_ok-put_batch w ↦
          let some : 0 < length c.piece-item.result = omega (arith, c.len.ensures, w.if-len-gt0.true) in
          record {
            wide = λ after h. subst (AreWide after) (sym (ap (λ b. b.items) w.made-is)) (w.in_ok-put_batch.ensures.width after (c.loop-piece.invariant.wide after h)
                (w.in_ok-rows.ensures.width ∙ piece_gives c.args.stages.now after c.args.pieces.now c.loop-piece.piece-index c.piece-item.result w.in_ok-batch.batch.width h c.loop-piece-test.true c.piece-item.is some w.in_ok-batch.ensures.width));
            rows = ap bag_rows (ap (λ b. b.items) w.made-is)
                ∙ staged_piece_more c.args.stages.now c.args.pieces.now c.loop-piece.piece-index c.piece-item.result (bag_rows c.loop-piece.made.items) w.in_ok-rows.rows.rows (bag_rows w.put_batch.new.batches.items)
                c.loop-piece-test.true c.piece-item.is c.loop-piece.invariant.rows (w.in_ok-rows.ensures.rows ∙ ap (staged c.args.stages.now) w.in_ok-batch.ensures.rows) w.in_ok-put_batch.ensures.rows;
          }
      | else-len-gt0 w ↦
          record {
            wide = λ after h. subst (AreWide after) (sym (ap (λ b. b.items) w.made-is)) (c.loop-piece.invariant.wide after h);
            rows = ap bag_rows (ap (λ b. b.items) w.made-is)
                ∙ no_piece c.args.stages.now c.args.pieces.now c.loop-piece.piece-index c.piece-item.result (bag_rows c.loop-piece.made.items) c.loop-piece-test.true c.piece-item.is
                (omega (arith, c.len.ensures, w.if-len-gt0.false)) c.loop-piece.invariant.rows;
          }
    ]
