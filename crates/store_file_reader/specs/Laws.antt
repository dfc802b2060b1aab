-- Laws of the lines and rows of a file.
use Rattle.std.specs.Prelude.{◌≡◌, ◌≢◌, ◌↔◌, ℕ, ◌+◌, ◌-◌, ◌<◌, ◌≤◌, true, List, [], ◌∷◌, ◌++◌}
use Rattle.std.specs.Prelude.{length, take, map, Ok, Err, Contains, slice_index, ⊤}
use Rattle.std.specs.List.{AllPairs, concat}
use Rattle.base_refusals.specs.declared.line.LineFault.{LineFault}
use Rattle.base_refusals.specs.declared.line.LineFault.TheVariants.{DuplicateKey, FileTooLong}
use Rattle.base_refusals.specs.declared.line.LineRefusal.{LineRefusal}
use Rattle.base_value.specs.declared.value.Value.{Value}
use Rattle.base_schema.specs.LineForm.{LineForm, key_of}
use Rattle.store_file_reader.specs.File.{cut_lines, line_row, file_rows}
use Rattle.store_file_reader.specs.Reading.{is_unended}

-- a line is not empty, and has no LF but as its last byte
pub record IsLine (line : List ℕ) : Type 0 where
  pub some : 0 < length line
  pub unended : is_unended (take (length line - 1) line) ≡ true

-- each of them a line, and each but the last with an LF at its end
abbrev pub AreLines : List (List ℕ) → Type 0
AreLines [] = ⊤
AreLines (line ∷ lines) =
    IsLine line × (0 < length lines → slice_index line (length line - 1) ≡ 10) × AreLines lines

-- the lines of a text, one after the other, are the text
abbrev pub LinesGiveText : Type 0
LinesGiveText = (text : List ℕ) → (concat (cut_lines text) ≡ text) × AreLines (cut_lines text)

-- the rows of lines: each line's fields say its row, no two rows have one key where keys must
-- differ, and the lines are within the limit
pub record AreRowsOf (form : LineForm) (limit : ℕ) (lines : List (List ℕ))
    (rows : List (List Value)) : Type 0 where
  pub fields : map (line_row form) lines ≡ map Ok rows
  pub keys : form.unique ≡ true → AllPairs ◌≢◌ (map (key_of form) rows)
  pub bytes : length (concat lines) ≤ limit

-- a file gives rows exactly where they are those of its lines
abbrev pub RowsAreThoseOfTheLines : Type 0
RowsAreThoseOfTheLines =
    (form : LineForm) (limit : ℕ) (text : List ℕ) (rows : List (List Value))
    → (file_rows form limit text ≡ Ok rows) ↔ AreRowsOf form limit (cut_lines text) rows

-- what is wrong with a line after earlier ones of these rows: it reaches past the limit, an earlier
-- row has its key, which must be new, or its fields say no row
abbrev pub IsWrong : LineForm → ℕ → List (List ℕ) → List (List Value) → List ℕ → LineFault → Type 0
IsWrong form limit earlier rows line FileTooLong = limit < length (concat earlier) + length line
IsWrong form limit earlier rows line DuplicateKey =
    (length (concat earlier) + length line ≤ limit) × (form.unique ≡ true)
    × (row : List Value) × (line_row form line ≡ Ok row)
    × Contains (map (key_of form) rows) (key_of form row)
IsWrong form limit earlier rows line fault =
    (length (concat earlier) + length line ≤ limit) × (line_row form line ≡ Err fault)

-- the refusal is that of the first line that can't be a row: the lines before it have rows
pub record IsFirstBadLine (form : LineForm) (limit : ℕ) (lines : List (List ℕ))
    (first : LineRefusal) : Type 0 where
  pub earlier : List (List ℕ)
  pub line : List ℕ
  pub later : List (List ℕ)
  pub rows : List (List Value)
  pub cut : lines ≡ earlier ++ line ∷ later
  pub number : first.line ≡ length earlier + 1
  pub good : AreRowsOf form limit earlier rows
  pub bad : IsWrong form limit earlier rows line first.fault

-- a file is refused exactly at its first bad line
abbrev pub FirstBadLineCounts : Type 0
FirstBadLineCounts =
    (form : LineForm) (limit : ℕ) (text : List ℕ) (first : LineRefusal)
    → (file_rows form limit text ≡ Err first) ↔ IsFirstBadLine form limit (cut_lines text) first
