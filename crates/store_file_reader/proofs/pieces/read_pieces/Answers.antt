use Rattle.std.proofs.Common.{◌∙◌, ◌+◌, take, drop}
use Rattle.std.proofs.lemmas.Result.{err_from_is_err_and}
use Rattle.base_schema.specs.LineForm.{file_form}
use Rattle.store_file_reader.specs.File.{most_bytes}
use Rattle.store_file_reader.specs.Pieces.{joined}
use Rattle.store_file_reader.proofs.Joined.{joined_more, joined_rest, has_read_more, refused_more}
use Rattle.store_file_reader.proofs.pieces.read_pieces.Goals as goal

pub loop-piece-preserved : goal.loop-piece-preserved
loop-piece-preserved c = (
  c.in_ok-feed.ensures.form ∙ c.loop-piece.invariant.0,
  c.in_ok-feed.ensures.limit ∙ c.loop-piece.invariant.1,
  has_read_more c.loop-piece.reader c.feed.new.self (joined (take c.loop-piece.piece-index c.args.pieces.now)) _ _
      c.in_ok-feed.ensures.read
      c.loop-piece.invariant.2
      (joined_more c.args.pieces.now c.loop-piece.piece-index _ c.loop-piece-test.true),
)

pub returns-in_err-feed-clause-rows : goal.returns-in_err-feed-clause-rows
returns-in_err-feed-clause-rows c =
    let p = err_from_is_err_and c.from_residual-in_err-feed.result c.from_residual-in_err-feed.ensures.1 in
    rw (p.1, p.2)
    (refused_more c.loop-piece.reader (file_form c.args.file) most_bytes (joined (take c.loop-piece.piece-index c.args.pieces.now)) _
    (joined (take (c.loop-piece.piece-index + 1) c.args.pieces.now))
    (joined (drop (c.loop-piece.piece-index + 1) c.args.pieces.now))
    (joined c.args.pieces.now) c.in_err-feed.field-0.0
    c.loop-piece.invariant.0
    c.loop-piece.invariant.1
    c.in_err-feed.ensures.refused
    c.loop-piece.invariant.2
    (joined_more c.args.pieces.now c.loop-piece.piece-index _ c.loop-piece-test.true)
    (joined_rest c.args.pieces.now (c.loop-piece.piece-index + 1)))
