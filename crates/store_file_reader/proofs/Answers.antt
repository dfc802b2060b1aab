-- What a reader answers, step by step.
use Rattle.std.proofs.Common.{◌≡◌, ℕ, ◌<◌, true, List, [], ◌∷◌, ◌++◌, length, refl, sym, ◌∙◌, ap, arith, append_assoc, Some, None, Result, Ok, Err}
use Rattle.std.proofs.lemmas.List.{append-nil}
use Rattle.base_refusals.specs.declared.line.LineRefusal.{LineRefusal}
use Rattle.base_value.specs.declared.value.Value.{Value}
use Rattle.base_schema.specs.LineForm.{LineForm}
use Rattle.store_file_reader.specs.declared.error.TableError.{TableError}
use Rattle.store_file_reader.specs.declared.error.TableError.TheVariants.{Refused, OutOfMemory}
use Rattle.store_file_reader.specs.File.{Progress, progress, add_line, add_lines, cut_lines, file_rows, only_rows}
use Rattle.store_file_reader.specs.Lines.{LinesRead}
use Rattle.store_file_reader.specs.Error.{IsErrorOf}
use Rattle.store_file_reader.specs.Reading.{Reading, is_unended, reading, lines_result, answer, answer_of, as_answer, rows_for, HasRead, RefusesAll}
use Rattle.store_file_reader.specs.Steps.{SameResults, IsErrorOfAll}
use Rattle.store_file_reader.proofs.LineCuts.{cut_lines-rest, unended-nil}

as_answer_of : (r : Result Progress LineRefusal) → answer_of None r ≡ as_answer (only_rows r)
as_answer_of (Ok so_far) = refl
as_answer_of (Err first) = refl

-- a reader that has read nothing
pub started : (lines : LinesRead) → lines.so_far.rows ≡ [] → lines.so_far.bytes ≡ 0 → HasRead [] (reading lines [] None)
unfolding answer lines_result file_rows
started lines rows bytes = record {
  answers = λ more.
      let none : lines.so_far ≡ progress [] 0 = λ i. record { rows = rows i; bytes = bytes i } in
      ap (λ p. answer_of None (add_lines lines.form lines.limit (Ok p) (cut_lines more))) none
      ∙ as_answer_of (add_lines lines.form lines.limit (Ok (progress [] 0)) (cut_lines more));
}

refused_rows : (r : Result Progress LineRefusal) (s : Result (List (List Value)) LineRefusal) (first : LineRefusal) → answer_of None r ≡ as_answer s → r ≡ Err first → s ≡ Err first
refused_rows r (Ok rows) first e f = let g : Err (Refused first) ≡ Ok rows = ap (answer_of None) (sym f) ∙ e in cc
refused_rows r (Err other) first e f =
    let g : Err (Refused first) ≡ Err (Refused other) = ap (answer_of None) (sym f) ∙ e in
    let same : other ≡ first = cc in
    ap Err same

-- the same file of lines of one form
same_file : (form other : LineForm) (limit bound : ℕ) (text : List ℕ) → other ≡ form → bound ≡ limit
    → as_answer (file_rows form limit text) ≡ as_answer (file_rows other bound text)
same_file form other limit bound text same_form same_limit = λ i. as_answer (file_rows (sym same_form i) (sym same_limit i) text)

-- a piece more
pub read_more : (old new : LinesRead) (rest rest' : List ℕ) (piece text : List ℕ) → SameResults new rest' old (rest ++ piece)
    → new.form ≡ old.form → new.limit ≡ old.limit → HasRead text (reading old rest None) → HasRead (text ++ piece) (reading new rest' None)
unfolding answer lines_result
read_more old new rest rest' piece text same form limit read = record {
  answers = λ more.
      ap (answer_of None) (same.results more ∙ ap (lines_result old) (append_assoc rest piece more))
      ∙ read.answers (piece ++ more)
      ∙ ap (λ t. as_answer (file_rows old.form old.limit t)) (sym (append_assoc text piece more))
      ∙ same_file old.form new.form old.limit new.limit ((text ++ piece) ++ more) form limit;
}

-- a piece with a line that is refused
pub refused_more : (old : LinesRead) (rest piece text : List ℕ) (first : LineRefusal) → IsErrorOfAll old (rest ++ piece) (Refused first)
    → HasRead text (reading old rest None) → RefusesAll old.form old.limit (text ++ piece) first
unfolding answer lines_result
refused_more old rest piece text first refuses read = record {
  answers = λ more.
      refused_rows (lines_result old ((rest ++ piece) ++ more)) (file_rows old.form old.limit ((text ++ piece) ++ more)) first
      (ap (λ t. answer_of None (lines_result old t)) (append_assoc rest piece more) ∙ read.answers (piece ++ more)
      ∙ ap (λ t. as_answer (file_rows old.form old.limit t)) (sym (append_assoc text piece more)))
      (refuses.results more);
}

refused_file : (s : Result (List (List Value)) LineRefusal) (first : LineRefusal) → Err (Refused first) ≡ as_answer s → s ≡ Err first
refused_file (Ok rows) first e = cc
refused_file (Err other) first e = let same : other ≡ first = cc in ap Err same

-- a reader that has refused refuses all that it could be fed
pub refused_again : (r : Reading) (first : LineRefusal) (piece text : List ℕ) → r.error ≡ Some (Refused first)
    → HasRead text r → RefusesAll r.lines.form r.lines.limit (text ++ piece) first
unfolding answer
refused_again r first piece text e read = record {
  answers = λ more.
      refused_file (rows_for r ((text ++ piece) ++ more)) first
      (ap (λ error. answer_of error (lines_result r.lines (r.rest ++ (piece ++ more)))) (sym e) ∙ read.answers (piece ++ more)
      ∙ ap (λ t. as_answer (rows_for r t)) (sym (append_assoc text piece more)));
}

-- and at the file's end
pub refused_end : (r : Reading) (error : TableError) (text : List ℕ) → r.error ≡ Some error → HasRead text r → IsErrorOf (rows_for r text) error
unfolding answer
refused_end r (Refused first) text e read =
    refused_file (rows_for r text) first
    (ap (λ error. answer_of error (lines_result r.lines (r.rest ++ []))) (sym e) ∙ read.answers [] ∙ ap (λ t. as_answer (rows_for r t)) (append-nil text))
refused_end r OutOfMemory text e read = tt

same_answers : (r s : Result (List (List Value)) LineRefusal) → as_answer r ≡ as_answer s → r ≡ s
same_answers (Ok a) (Ok b) e = let same : a ≡ b = cc in ap Ok same
same_answers (Ok a) (Err b) e = cc
same_answers (Err a) (Ok b) e = cc
same_answers (Err a) (Err b) e = let same : a ≡ b = cc in ap Err same

-- what is left at the file's end gives the whole file's rows
pub rows_at_end : (lines : LinesRead) (rest text : List ℕ) → HasRead text (reading lines rest None)
    → only_rows (lines_result lines rest) ≡ file_rows lines.form lines.limit text
unfolding answer
rows_at_end lines rest text read =
    same_answers (only_rows (lines_result lines rest)) (file_rows lines.form lines.limit text)
    (sym (as_answer_of (lines_result lines rest))
    ∙ ap (λ t. answer_of None (lines_result lines t)) (sym (append-nil rest))
    ∙ read.answers []
    ∙ ap (λ t. as_answer (file_rows lines.form lines.limit t)) (append-nil text))

-- a last line without an end
pub last_line : (lines : LinesRead) (rest : List ℕ) → is_unended rest ≡ true → 0 < length rest
    → lines_result lines rest ≡ add_line lines.form lines.limit (Ok lines.so_far) rest
unfolding lines_result
last_line lines [] u h = absurd (omega (arith, h))
last_line lines (b ∷ rest) u h = ap (add_lines lines.form lines.limit (Ok lines.so_far)) (cut_lines-rest b rest u)

pub no_line : (lines : LinesRead) (rest : List ℕ) → length rest ≡ 0 → lines_result lines rest ≡ Ok lines.so_far
unfolding lines_result
no_line lines [] h = refl
no_line lines (b ∷ rest) h = absurd (omega (arith, h))

pub only_error : (r : Result Progress LineRefusal) (error : TableError) → IsErrorOf r error → IsErrorOf (only_rows r) error
only_error r (Refused first) e = ap only_rows e
only_error r OutOfMemory e = tt

pub ruleset ends = (last_line, no_line, only_error)

pub ruleset answers = (started, read_more, refused_more, refused_again, refused_end, rows_at_end, unended-nil)
