-- The rows of a file.
use Rattle.std.specs.Prelude.{ℕ, ◌+◌, ◌^◌, Bool, ◌&&◌, nat_lt, ◌==◌, List, [], ◌∷◌, ◌++◌, length}
use Rattle.std.specs.Prelude.{fold, Result, Ok, Err, if◌then◌else◌}
use Rattle.std.specs.List.{list_any, onto_first}
use Rattle.base_refusals.specs.declared.line.LineFault.{LineFault}
use Rattle.base_refusals.specs.declared.line.LineFault.TheVariants.{DuplicateKey, FileTooLong}
use Rattle.base_refusals.specs.declared.line.LineRefusal.{LineRefusal}
use Rattle.base_value.specs.declared.value.Value.{Value}
use Rattle.base_value.specs.Value.{same_row}
use Rattle.base_schema.specs.LineForm.{LineForm, key_of}
use Rattle.store_file_reader.specs.Line.{line_text, row_of}

-- the lines of a text, each with the LF that ends it; a last LF begins no further line
abbrev pub cut_lines : List ℕ → List (List ℕ)
cut_lines [] = []
cut_lines (byte ∷ bytes) =
    if byte == 10 then (byte ∷ []) ∷ cut_lines bytes else onto_first byte (cut_lines bytes)

-- a row's key is that of an earlier row
abbrev pub is_taken : LineForm → List (List Value) → List Value → Bool
is_taken form rows row = list_any (λ earlier. same_row (key_of form row) (key_of form earlier)) rows

-- a line's row after the earlier rows; where keys must differ, its key must be new
abbrev pub with_new_key : LineForm → List (List Value) → Result (List Value) LineFault
    → Result (List Value) LineFault
with_new_key form rows (Ok row) =
    if form.unique && is_taken form rows row then Err DuplicateKey else Ok row
with_new_key form rows (Err fault) = Err fault

-- the row that a line's fields say, or what is wrong with them
abbrev pub line_row : LineForm → List ℕ → Result (List Value) LineFault
line_row form line = row_of form.columns (line_text line)

-- what the lines so far gave: their rows, and how many bytes they have
pub record Progress : Type 0 where
  pub rows : List (List Value)
  pub bytes : ℕ

-- these rows, of lines of that many bytes
abbrev pub progress : List (List Value) → ℕ → Progress
progress rows bytes = record { rows = rows; bytes = bytes }

-- a refusal of the line after those so far; each of these gave a row, and lines count from 1
abbrev pub refusal : Progress → LineFault → LineRefusal
refusal so_far fault = record { line = length so_far.rows + 1; fault = fault }

-- one row more
abbrev pub with_row : Progress → ℕ → Result (List Value) LineFault → Result Progress LineRefusal
with_row so_far bytes (Ok row) = Ok (progress (so_far.rows ++ row ∷ []) (so_far.bytes + bytes))
with_row so_far bytes (Err fault) = Err (refusal so_far fault)

-- one line more, where the first refusal stays; a line that has the byte after the limit is tested
-- for nothing else
abbrev pub add_line : LineForm → ℕ → Result Progress LineRefusal → List ℕ
    → Result Progress LineRefusal
add_line form limit (Err first) line = Err first
add_line form limit (Ok so_far) line =
    if nat_lt limit (so_far.bytes + length line) then Err (refusal so_far FileTooLong)
    else with_row so_far (length line) (with_new_key form so_far.rows (line_row form line))

-- what lines give after those so far
abbrev pub add_lines : LineForm → ℕ → Result Progress LineRefusal → List (List ℕ)
    → Result Progress LineRefusal
add_lines form limit = fold (add_line form limit)

-- the rows alone, or the first refusal
abbrev pub only_rows : Result Progress LineRefusal → Result (List (List Value)) LineRefusal
only_rows (Ok so_far) = Ok so_far.rows
only_rows (Err first) = Err first

-- the rows of a file of at most `limit` bytes, or its first refusal
unfoldable pub file_rows : LineForm → ℕ → List ℕ → Result (List (List Value)) LineRefusal
file_rows form limit text = only_rows (add_lines form limit (Ok (progress [] 0)) (cut_lines text))

-- how many bytes a file may have
abbrev pub most_bytes : ℕ
most_bytes = 2 ^ 32
