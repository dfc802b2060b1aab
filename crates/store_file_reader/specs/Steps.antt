-- How a piece is read.
use Rattle.std.specs.Prelude.{◌≡◌, ℕ, ◌+◌, ◌<◌, List, ◌++◌, length, Err, ⊤}
use Rattle.base_refusals.specs.declared.line.LineRefusal.{LineRefusal}
use Rattle.base_refusals.specs.declared.line.LineFault.TheVariants.{FileTooLong}
use Rattle.store_file_reader.specs.declared.error.TableError.{TableError}
use Rattle.store_file_reader.specs.declared.error.TableError.TheVariants.{Refused, OutOfMemory}
use Rattle.store_file_reader.specs.File.{refusal}
use Rattle.store_file_reader.specs.Lines.{LinesRead}
use Rattle.store_file_reader.specs.Reading.{lines_result}

-- whatever follows, one text after some lines gives what the other gives after others
pub record SameResults (now : LinesRead) (text : List ℕ) (before : LinesRead) (whole : List ℕ) :
    Type 0 where
  pub results : (more : List ℕ)
      → lines_result now (text ++ more) ≡ lines_result before (whole ++ more)

-- whatever follows, a text after some lines gives this refusal
pub record RefusesLines (lines : LinesRead) (text : List ℕ) (first : LineRefusal) : Type 0 where
  pub results : (more : List ℕ) → lines_result lines (text ++ more) ≡ Err first

-- the error is the refusal of a line that is too long before it ends, or memory ran out
abbrev pub IsTooLong : LinesRead → List ℕ → TableError → Type 0
IsTooLong lines text (Refused first) =
    (first ≡ refusal lines.so_far FileTooLong) × (lines.limit < lines.so_far.bytes + length text)
IsTooLong lines text OutOfMemory = ⊤

-- the error is the refusal of all that begins with the text, or memory ran out
abbrev pub IsErrorOfAll : LinesRead → List ℕ → TableError → Type 0
IsErrorOfAll lines text (Refused first) = RefusesLines lines text first
IsErrorOfAll lines text OutOfMemory = ⊤
