use Rattle.std.proofs.Common.{◌≡◌, take}
use Rattle.base_schema.specs.LineForm.{file_form}
use Rattle.store_file_reader.specs.File.{most_bytes}
use Rattle.store_file_reader.specs.Pieces.{joined}
use Rattle.store_file_reader.specs.Reading.{HasRead}
use Rattle.store_file_reader.proofs.pieces.read_pieces.Given as goal

abbrev pub invariant-loop-piece : goal.invariant-loop-piece
invariant-loop-piece l =
    (l.reader.lines.form ≡ file_form l.fn.file) × (l.reader.lines.limit ≡ most_bytes)
    × HasRead (joined (take l.piece-index l.pieces)) l.reader
