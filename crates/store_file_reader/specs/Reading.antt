-- A reader of a file that is fed piece by piece.
use Rattle.std.specs.Prelude.{◌≡◌, ℕ, ◌+◌, ◌≤◌, ◌==◌, Bool, true, not, List, ◌++◌, length, Option}
use Rattle.std.specs.Prelude.{Some, None, Result, Ok, Err, OnOk, IfErr}
use Rattle.std.specs.List.{list_all}
use Rattle.base_refusals.specs.declared.line.LineRefusal.{LineRefusal}
use Rattle.base_value.specs.declared.value.Value.{Value}
use Rattle.base_schema.specs.LineForm.{LineForm}
use Rattle.store_file_reader.specs.declared.error.TableError.{TableError}
use Rattle.store_file_reader.specs.declared.error.TableError.TheVariants.{Refused}
use Rattle.store_file_reader.specs.File.{Progress, cut_lines, add_lines, file_rows}
use Rattle.store_file_reader.specs.Lines.{LinesRead}

-- no line ends within the text
unfoldable pub is_unended : List ℕ → Bool
is_unended text = list_all (λ byte. not (byte == 10)) text

-- a reader: the lines that it has read, the bytes of the line that has not ended, and why it has
-- stopped, if it has
pub record Reading : Type 0 where
  pub lines : LinesRead
  pub rest : List ℕ
  pub error : Option TableError

-- the reader of these parts
abbrev pub reading : LinesRead → List ℕ → Option TableError → Reading
reading lines rest error = record { lines = lines; rest = rest; error = error }

-- what a text gives after the lines so far
unfoldable pub lines_result : LinesRead → List ℕ → Result Progress LineRefusal
lines_result lines text = add_lines lines.form lines.limit (Ok lines.so_far) (cut_lines text)

-- the rows, or why there are none
abbrev pub answer_of : Option TableError → Result Progress LineRefusal
    → Result (List (List Value)) TableError
answer_of (Some error) r = Err error
answer_of None (Ok so_far) = Ok so_far.rows
answer_of None (Err first) = Err (Refused first)

-- what the reader answers at the file's end once it is fed these bytes more
unfoldable pub answer : Reading → List ℕ → Result (List (List Value)) TableError
answer reader more = answer_of reader.error (lines_result reader.lines (reader.rest ++ more))

-- the same for what a whole file gives
abbrev pub as_answer : Result (List (List Value)) LineRefusal
    → Result (List (List Value)) TableError
as_answer (Ok rows) = Ok rows
as_answer (Err first) = Err (Refused first)

-- the rows of a file of the lines that the reader reads, or its first refusal
abbrev pub rows_for : Reading → List ℕ → Result (List (List Value)) LineRefusal
rows_for reader text = file_rows reader.lines.form reader.lines.limit text

-- how many bytes the reader has been fed
abbrev pub bytes_fed : Reading → ℕ
bytes_fed reader = reader.lines.so_far.bytes + length reader.rest

-- a reader that has been fed this text: whatever follows, it answers for the whole file
pub record HasRead (text : List ℕ) (reader : Reading) : Type 0 where
  pub answers : (more : List ℕ) → answer reader more ≡ as_answer (rows_for reader (text ++ more))

-- each file that begins with this text is refused so
pub record RefusesAll (form : LineForm) (limit : ℕ) (text : List ℕ) (first : LineRefusal) : Type 0
  where
    pub answers : (more : List ℕ) → file_rows form limit (text ++ more) ≡ Err first

-- the reader was fed a piece, and answered so
pub record Feeds (old new : Reading) (piece : List ℕ) (result : Result (Unit {0}) TableError) : Type
    0 where
  -- it reads lines of the same form, up to the same limit
  pub form : new.lines.form ≡ old.lines.form
  pub limit : new.lines.limit ≡ old.lines.limit
  -- whatever it had been fed, it has now been fed the piece after it
  pub read : OnOk result ((text : List ℕ) → HasRead text old → HasRead (text ++ piece) new)
  pub bytes : OnOk result (bytes_fed new ≡ bytes_fed old + length piece)
  pub within : OnOk result (bytes_fed new ≤ new.lines.limit)
  -- each line that ended in the piece was read, so that a bad one among them was refused
  pub unended : OnOk result (is_unended new.rest ≡ true)
  -- a refusal is that of each file that begins so
  pub refused :
      (first : LineRefusal) → result ≡ Err (Refused first) → (text : List ℕ) → HasRead text old
      → RefusesAll old.lines.form old.lines.limit (text ++ piece) first
  -- a reader that has stopped answers the same again, and is as before
  pub going : OnOk result (new.error ≡ None)
  pub stopped : IfErr result (λ error. new.error ≡ Some error)
  pub again : (error : TableError) → old.error ≡ Some error → result ≡ Err error
  pub kept : (error : TableError) → old.error ≡ Some error → new ≡ old
