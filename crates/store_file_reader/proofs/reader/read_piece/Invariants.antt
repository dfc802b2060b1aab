use Rattle.std.proofs.Common.{◌≡◌, ◌+◌, ◌≤◌, ◌++◌, length, true}
use Rattle.store_file_reader.specs.Reading.{is_unended}
use Rattle.store_file_reader.specs.Steps.{SameResults}
use Rattle.store_file_reader.proofs.reader.read_piece.Given as goal

abbrev pub invariant-lines : goal.invariant-lines
invariant-lines l =
    SameResults l.lines (l.rest.items ++ l.left) l.initial.lines (l.initial.rest.items ++ l.piece)
    × (is_unended l.rest.items ≡ true)
    × (l.lines.form ≡ l.initial.lines.form)
    × (l.lines.limit ≡ l.initial.lines.limit)
    × (l.lines.so_far.bytes + length l.rest.items ≤ l.lines.limit)
    × (l.lines.so_far.bytes + length l.rest.items + length l.left ≡ l.initial.lines.so_far.bytes + length l.initial.rest.items + length l.piece)

abbrev pub decreases-lines : goal.decreases-lines
decreases-lines l = length l.left
