-- The steps of reading a piece.
use Rattle.std.proofs.Common.{◌≡◌, ℕ, ◌+◌, ◌<◌, ◌≤◌, ◌==◌, true, List, [], ◌∷◌, ◌++◌, length, take, drop, refl, sym, ◌∙◌, ap, arith, append_assoc, length-append, Some, Ok, Err}
use Rattle.std.proofs.lemmas.Bool.{lt-ltb}
use Rattle.std.specs.Prelude.{nat_lt}
use Rattle.std.specs.List.{position}
use Rattle.base_refusals.specs.declared.line.LineFault.TheVariants.{FileTooLong}
use Rattle.base_refusals.specs.declared.line.LineRefusal.{LineRefusal}
use Rattle.base_schema.specs.LineForm.{LineForm}
use Rattle.store_file_reader.specs.File.{Progress, refusal, add_line, add_lines, cut_lines}
use Rattle.store_file_reader.specs.Lines.{LinesRead}
use Rattle.store_file_reader.specs.Reading.{is_unended, lines_result}
use Rattle.store_file_reader.specs.Steps.{SameResults, RefusesLines, IsTooLong, IsErrorOfAll}
use Rattle.store_file_reader.specs.declared.error.TableError.{TableError}
use Rattle.store_file_reader.specs.declared.error.TableError.TheVariants.{Refused, OutOfMemory}
use Rattle.store_file_reader.proofs.LineCuts.{unended-nil, unended-append, unended_none, cut_lines-ended, cut_lines-rest, cut_lines-begins, BeginsWith, parts, Parts}

-- the first refusal stays
pub add_lines-refused : (form : LineForm) (limit : ℕ) (first : LineRefusal) (lines : List (List ℕ)) → add_lines form limit (Err first) lines ≡ Err first
add_lines-refused form limit first [] = refl
add_lines-refused form limit first (l ∷ ls) = add_lines-refused form limit first ls

pub same_start : (lines : LinesRead) (text : List ℕ) → SameResults lines text lines text
same_start lines text = record { results = λ more. refl }

-- a text that has an LF: its line, then the rest
cut_line : (rest left : List ℕ) (end : ℕ) (more : List ℕ) → is_unended rest ≡ true → Parts left end
    → cut_lines ((rest ++ left) ++ more) ≡ (rest ++ take (end + 1) left) ∷ cut_lines (drop (end + 1) left ++ more)
cut_line rest left end more u p =
    let shape : (rest ++ left) ++ more ≡ (rest ++ p.front) ++ 10 ∷ (drop (end + 1) left ++ more) =
    ap (λ t. (rest ++ t) ++ more) p.whole ∙ simp append_assoc in
    let line : rest ++ take (end + 1) left ≡ (rest ++ p.front) ++ 10 ∷ [] =
    ap (λ t. rest ++ t) p.line ∙ sym (append_assoc rest p.front (10 ∷ [])) in
    rw (shape, line) (cut_lines-ended (rest ++ p.front) (drop (end + 1) left ++ more) (unended-append rest p.front u p.unended))

-- a line more
pub same_line : (now next before : LinesRead) (rest left whole : List ℕ) (end : ℕ) → SameResults now (rest ++ left) before whole
    → is_unended rest ≡ true → position (λ byte. byte == 10) left ≡ Some end
    → next.form ≡ now.form → next.limit ≡ now.limit
    → add_line now.form now.limit (Ok now.so_far) (rest ++ take (end + 1) left) ≡ Ok next.so_far
    → SameResults next (drop (end + 1) left) before whole
unfolding lines_result
same_line now next before rest left whole end same u found t l e = record {
  results = λ more.
      rw (t, l, ← e)
      (ap (add_lines now.form now.limit (Ok now.so_far)) (sym (cut_line rest left end more u (parts left end found))) ∙ same.results more);
}

-- a line that is refused
pub refused_line : (now before : LinesRead) (rest left whole : List ℕ) (end : ℕ) (first : LineRefusal) → SameResults now (rest ++ left) before whole
    → is_unended rest ≡ true → position (λ byte. byte == 10) left ≡ Some end
    → add_line now.form now.limit (Ok now.so_far) (rest ++ take (end + 1) left) ≡ Err first
    → RefusesLines before whole first
unfolding lines_result
refused_line now before rest left whole end first same u found e = record {
  results = λ more.
      sym (same.results more)
      ∙ ap (add_lines now.form now.limit (Ok now.so_far)) (cut_line rest left end more u (parts left end found))
      ∙ ap (λ r. add_lines now.form now.limit r (cut_lines (drop (end + 1) left ++ more))) e
      ∙ add_lines-refused now.form now.limit first (cut_lines (drop (end + 1) left ++ more));
}

too_long : (form : LineForm) (limit : ℕ) (so_far : Progress) (line : List ℕ) → limit < so_far.bytes + length line
    → add_line form limit (Ok so_far) line ≡ Err (refusal so_far FileTooLong)
too_long form limit so_far line h =
    let over : nat_lt limit (so_far.bytes + length line) ≡ true = lt-ltb limit (so_far.bytes + length line) h in
    rw over refl

long_line : (form : LineForm) (limit : ℕ) (so_far : Progress) (line : List ℕ) (others : List (List ℕ)) → limit < so_far.bytes + length line
    → add_lines form limit (Ok so_far) (line ∷ others) ≡ Err (refusal so_far FileTooLong)
long_line form limit so_far line others h =
    ap (λ r. add_lines form limit r others) (too_long form limit so_far line h) ∙ add_lines-refused form limit (refusal so_far FileTooLong) others

-- a line that is too long before it ends
pub refused_rest : (now before : LinesRead) (text whole : List ℕ) → SameResults now text before whole
    → is_unended text ≡ true → now.limit < now.so_far.bytes + length text → now.so_far.bytes ≤ now.limit
    → RefusesLines before whole (refusal now.so_far FileTooLong)
unfolding lines_result
refused_rest now before [] whole same u long short = absurd (omega (arith, long, short))
refused_rest now before (b ∷ text) whole same u long short = record {
  results = λ more.
      let begins : BeginsWith (b ∷ text) (cut_lines ((b ∷ text) ++ more)) = cut_lines-begins b text more u in
      let over : now.limit < now.so_far.bytes + length ((b ∷ text) ++ begins.more) = omega (arith, length-append (b ∷ text) begins.more, long) in
      let ends : add_lines now.form now.limit (Ok now.so_far) (((b ∷ text) ++ begins.more) ∷ begins.others) ≡ Err (refusal now.so_far FileTooLong) =
      long_line now.form now.limit now.so_far ((b ∷ text) ++ begins.more) begins.others over in
      sym (same.results more) ∙ ap (add_lines now.form now.limit (Ok now.so_far)) begins.is ∙ ends;
}

pub too_long_all : (now before : LinesRead) (text whole : List ℕ) (error : TableError) → SameResults now text before whole
    → is_unended text ≡ true → IsTooLong now text error → now.so_far.bytes ≤ now.limit → IsErrorOfAll before whole error
too_long_all now before text whole (Refused first) same u long short =
    rw long.0 (refused_rest now before text whole same u long.1 short)
too_long_all now before text whole OutOfMemory same u long short = tt

pub ruleset pieces = (same_start, same_line, refused_line, too_long_all, unended-nil, unended-append, unended_none)
