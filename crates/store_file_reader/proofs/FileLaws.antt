-- The rows of a file are those of its lines, and its refusal is that of the first bad line.
use Rattle.std.proofs.Common.{◌≡◌, ◌≢◌, ℕ, zero, suc, ◌+◌, ◌<◌, ◌≤◌, Bool, true, false, cond, ◌&&◌, ◌||◌, List, [], ◌∷◌, ◌++◌, length, map, get_or, refl, sym, ◌∙◌, ap, arith, length-append, append_assoc, zero-add, Result, Ok, Err}
use Rattle.std.specs.Prelude.{nat_lt, Contains}
use Rattle.std.specs.List.{AllPairs, concat}
use Rattle.std.proofs.lemmas.Bool.{ltb-true, ltb-false, lt-ltb, le-ltb}
use Rattle.std.proofs.lemmas.List.{append-nil, length-map, map-append, get_or_append_left}
use Rattle.std.proofs.lemmas.List.Folds.{concat-append}
use Rattle.std.proofs.lemmas.List.Quantifiers.{all_pairs_push}
use Rattle.std.proofs.lemmas.List.Sums.{fold-append}
use Rattle.std.proofs.Math.Seq.{get_or-append_seam}
use Rattle.base_refusals.specs.declared.line.LineFault.{LineFault}
use Rattle.base_refusals.specs.declared.line.LineFault.TheVariants.{FieldCount, BadNumber, NumberTooWide, BadDate, BadText, TextTooLong, DuplicateKey, FileTooLong}
use Rattle.base_refusals.specs.declared.line.LineRefusal.{LineRefusal}
use Rattle.base_value.specs.declared.value.Value.{Value}
use Rattle.base_value.specs.Value.{same_row}
use Rattle.base_value.proofs.Identity.{same_row_decides}
use Rattle.base_schema.specs.LineForm.{LineForm, key_of}
use Rattle.store_file_reader.specs.Line.{line_text}
use Rattle.store_file_reader.specs.File.{Progress, progress, refusal, cut_lines, line_row, is_taken, with_new_key, with_row, add_line, add_lines, only_rows, file_rows}
use Rattle.store_file_reader.specs.Laws.{AreRowsOf, IsWrong, IsFirstBadLine}
use Rattle.store_file_reader.proofs.PieceSteps.{add_lines-refused}
use Rattle.store_file_reader.proofs.LineFaults.{IsOfLine, row_faults}

-- keys

abbrev keys_of : LineForm → List (List Value) → List (List Value)
keys_of form rows = map (key_of form) rows

taken_at : (form : LineForm) (r : List Value) (rows : List (List Value)) (row : List Value) (b : Bool)
    → same_row (key_of form row) (key_of form r) ≡ b → (is_taken form rows row ≡ true → Contains (keys_of form rows) (key_of form row))
    → (b || is_taken form rows row) ≡ true → Contains (keys_of form (r ∷ rows)) (key_of form row)
taken_at form r rows row true same others e = (0, omega arith, sym ((same_row_decides (key_of form row) (key_of form r)).0 same))
taken_at form r rows row false same others e =
    let found : Contains (keys_of form rows) (key_of form row) = others e in
    (suc found.0, omega (arith, found.1), found.2)

-- a key that is taken is an earlier row's
taken_from : (form : LineForm) (rows : List (List Value)) (row : List Value) → is_taken form rows row ≡ true
    → Contains (keys_of form rows) (key_of form row)
taken_from form [] row e = cc
taken_from form (r ∷ rows) row e =
    taken_at form r rows row (same_row (key_of form row) (key_of form r)) refl (taken_from form rows row) e

neither : (a b : Bool) → (a || b) ≡ false → (a ≡ false) × (b ≡ false)
neither true b e = cc
neither false b e = (refl, e)

-- a key that is free is no earlier row's
free_from : (form : LineForm) (rows : List (List Value)) (row : List Value) → is_taken form rows row ≡ false
    → (k : ℕ) (d : List Value) → k < length (keys_of form rows) → get_or (keys_of form rows) k d ≢ key_of form row
free_from form [] row e k d h = absurd (omega (arith, h))
free_from form (r ∷ rows) row e zero d h = λ same.
    let not_this : same_row (key_of form row) (key_of form r) ≡ false = (neither _ _ e).0 in
    let this : same_row (key_of form row) (key_of form r) ≡ true = (same_row_decides (key_of form row) (key_of form r)).1 (sym same) in
    cc
free_from form (r ∷ rows) row e (suc k) d h = free_from form rows row (neither _ _ e).1 k d (omega arith)

by_free : (form : LineForm) (rows : List (List Value)) (row : List Value) (b : Bool) → is_taken form rows row ≡ b
    → Contains (keys_of form rows) (key_of form row) → b ≡ true
by_free form rows row true e found = refl
by_free form rows row false e found = absurd (free_from form rows row e found.0 (key_of form row) found.1 found.2)

taken_to : (form : LineForm) (rows : List (List Value)) (row : List Value) → Contains (keys_of form rows) (key_of form row)
    → is_taken form rows row ≡ true
taken_to form rows row found = by_free form rows row (is_taken form rows row) refl found

by_taken : (form : LineForm) (rows : List (List Value)) (row : List Value) (b : Bool) → is_taken form rows row ≡ b
    → ((k : ℕ) (d : List Value) → k < length (keys_of form rows) → get_or (keys_of form rows) k d ≢ key_of form row) → b ≡ false
by_taken form rows row true e free =
    let found : Contains (keys_of form rows) (key_of form row) = taken_from form rows row e in
    absurd (free found.0 (key_of form row) found.1 found.2)
by_taken form rows row false e free = refl

free_to : (form : LineForm) (rows : List (List Value)) (row : List Value)
    → ((k : ℕ) (d : List Value) → k < length (keys_of form rows) → get_or (keys_of form rows) k d ≢ key_of form row)
    → is_taken form rows row ≡ false
free_to form rows row free = by_taken form rows row (is_taken form rows row) refl free

-- one line more

-- what the lines so far gave
record Good (form : LineForm) (limit : ℕ) (done : List (List ℕ)) (p : Progress) : Type 0 where
  rows : AreRowsOf form limit done p.rows
  bytes : p.bytes ≡ length (concat done)

-- a line's refusal
record Refused (form : LineForm) (limit : ℕ) (done : List (List ℕ)) (rows : List (List Value)) (line : List ℕ) (first : LineRefusal) : Type 0 where
  number : first.line ≡ length done + 1
  bad : IsWrong form limit done rows line first.fault

abbrev OneMore : LineForm → ℕ → List (List ℕ) → List (List Value) → List ℕ → Result Progress LineRefusal → Type 0
OneMore form limit done rows line (Ok q) = Good form limit (done ++ line ∷ []) q
OneMore form limit done rows line (Err first) = Refused form limit done rows line first

as_many : (form : LineForm) (lines : List (List ℕ)) (rows : List (List Value)) → map (line_row form) lines ≡ map Ok rows → length rows ≡ length lines
as_many form lines rows e =
    let of_rows : length (map Ok rows) ≡ length rows = length-map rows Ok in
    sym of_rows ∙ ap length (sym e) ∙ length-map lines (line_row form)

wrong_row : (form : LineForm) (limit : ℕ) (done : List (List ℕ)) (rows : List (List Value)) (line : List ℕ) (fault : LineFault) → IsOfLine fault
    → length (concat done) + length line ≤ limit → line_row form line ≡ Err fault → IsWrong form limit done rows line fault
wrong_row form limit done rows line FieldCount is room e = (room, e)
wrong_row form limit done rows line BadNumber is room e = (room, e)
wrong_row form limit done rows line NumberTooWide is room e = (room, e)
wrong_row form limit done rows line BadDate is room e = (room, e)
wrong_row form limit done rows line BadText is room e = (room, e)
wrong_row form limit done rows line TextTooLong is room e = (room, e)
wrong_row form limit done rows line DuplicateKey is room e = absurd is
wrong_row form limit done rows line FileTooLong is room e = absurd is

module _ (form : LineForm) (limit : ℕ) (done : List (List ℕ)) (p : Progress) (line : List ℕ) (good : Good form limit done p) where
  number : length p.rows + 1 ≡ length done + 1
  number = ap (λ n. n + 1) (as_many form done p.rows good.rows.fields)

  taken_in : (row : List Value) → p.bytes + length line ≤ limit → line_row form line ≡ Ok row
      → (form.unique ≡ true → AllPairs ◌≢◌ (keys_of form p.rows)) → (form.unique ≡ true → is_taken form p.rows row ≡ false)
      → OneMore form limit done p.rows line (with_row p (length line) (Ok row))
  taken_in row room e earlier new = record {
    rows = record {
      fields = map-append (line_row form) done (line ∷ []) ∙ rw (good.rows.fields, e) (sym (map-append Ok p.rows (row ∷ [])));
      keys = λ u. rw (map-append (key_of form) p.rows (row ∷ [])) (all_pairs_push ◌≢◌ (keys_of form p.rows) (key_of form row) (earlier u) (free_from form p.rows row (new u)));
      bytes = rw (concat-append done (line ∷ []), length-append (concat done) (line ++ []), append-nil line) (omega (arith, room, good.bytes));
    };
    bytes = rw (concat-append done (line ∷ []), length-append (concat done) (line ++ []), append-nil line) (omega (arith, good.bytes));
  }

  with_key : (row : List Value) (unique taken : Bool) → p.bytes + length line ≤ limit → line_row form line ≡ Ok row → form.unique ≡ unique → is_taken form p.rows row ≡ taken
      → OneMore form limit done p.rows line (with_row p (length line) (cond (unique && taken) (Err DuplicateKey) (Ok row)))
  with_key row true true room e unique taken = record {
    number = number;
    bad = (omega (arith, room, good.bytes), unique, row, e, taken_from form p.rows row taken);
  }
  with_key row true false room e unique taken = taken_in row room e (λ u. good.rows.keys u) (λ u. taken)
  with_key row false taken room e not_unique t = taken_in row room e (λ u. good.rows.keys u) (λ u. let no : false ≡ true = sym not_unique ∙ u in cc)

  with_values : (r : Result (List Value) LineFault) → line_row form line ≡ r → p.bytes + length line ≤ limit
      → OneMore form limit done p.rows line (with_row p (length line) (with_new_key form p.rows r))
  with_values (Ok row) e room = with_key row form.unique (is_taken form p.rows row) room e refl refl
  with_values (Err fault) e room = record {
    number = number;
    bad = wrong_row form limit done p.rows line fault (row_faults form.columns (line_text line) fault e) (omega (arith, room, good.bytes)) e;
  }

  within : (b : Bool) → nat_lt limit (p.bytes + length line) ≡ b
      → OneMore form limit done p.rows line (cond b (Err (refusal p FileTooLong)) (with_row p (length line) (with_new_key form p.rows (line_row form line))))
  within true e = record {
    number = number;
    bad = omega (arith, ltb-true limit (p.bytes + length line) e, good.bytes);
  }
  within false e = with_values (line_row form line) refl (ltb-false limit (p.bytes + length line) e)

  one_more : OneMore form limit done p.rows line (add_line form limit (Ok p) line)
  one_more = within (nat_lt limit (p.bytes + length line)) refl

-- all lines

abbrev Verdict : LineForm → ℕ → List (List ℕ) → Result Progress LineRefusal → Type 0
Verdict form limit lines (Ok p) = Good form limit lines p
Verdict form limit lines (Err first) = IsFirstBadLine form limit lines first

verdict_from : (form : LineForm) (limit : ℕ) (done : List (List ℕ)) (p : Progress) (line : List ℕ) (lines : List (List ℕ)) (r : Result Progress LineRefusal)
    → Good form limit done p → OneMore form limit done p.rows line r
    → ((q : Progress) → Good form limit (done ++ line ∷ []) q → Verdict form limit ((done ++ line ∷ []) ++ lines) (add_lines form limit (Ok q) lines))
    → Verdict form limit (done ++ line ∷ lines) (add_lines form limit r lines)
verdict_from form limit done p line lines (Ok q) good more others =
    rw append_assoc at (others q more)
verdict_from form limit done p line lines (Err first) good more others =
    rw (add_lines-refused form limit first lines)
    (record {
      earlier = done;
      line = line;
      later = lines;
      rows = p.rows;
      cut = refl;
      number = more.number;
      good = good.rows;
      bad = more.bad;
    })

verdict : (form : LineForm) (limit : ℕ) (done : List (List ℕ)) (p : Progress) (lines : List (List ℕ)) → Good form limit done p
    → Verdict form limit (done ++ lines) (add_lines form limit (Ok p) lines)
verdict form limit done p [] good = rw (append-nil done) good
verdict form limit done p (line ∷ lines) good =
    verdict_from form limit done p line lines (add_line form limit (Ok p) line) good (one_more form limit done p line good)
    (λ q. verdict form limit (done ++ line ∷ []) q lines)

start : (form : LineForm) (limit : ℕ) → Good form limit [] (progress [] 0)
start form limit = record {
  rows = record {
    fields = refl;
    keys = λ u i j d h g. absurd (omega (arith, g));
    bytes = omega arith;
  };
  bytes = refl;
}

-- rows give the file's rows

by_unique : (unique taken : Bool) → (unique ≡ true → taken ≡ false) → (unique && taken) ≡ false
by_unique true taken free = free refl
by_unique false taken free = refl

-- a row's key is no earlier row's where no two are the same
free_before : (form : LineForm) (rows : List (List Value)) (row : List Value) (more : List (List Value)) → AllPairs ◌≢◌ (keys_of form (rows ++ row ∷ more))
    → is_taken form rows row ≡ false
free_before form rows row more differ =
    let split : keys_of form (rows ++ row ∷ more) ≡ keys_of form rows ++ key_of form row ∷ keys_of form more = map-append (key_of form) rows (row ∷ more) in
    let pairs : AllPairs ◌≢◌ (keys_of form rows ++ key_of form row ∷ keys_of form more) = rw split at differ in
    free_to form rows row (λ k d h same.
    pairs k (length (keys_of form rows)) d h (rw (length-append (keys_of form rows) (key_of form row ∷ keys_of form more)) (omega arith))
    (get_or_append_left (keys_of form rows) (key_of form row ∷ keys_of form more) d k h ∙ same ∙ sym (get_or-append_seam (keys_of form rows) (key_of form row) (keys_of form more) d)))

compute : (form : LineForm) (limit : ℕ) (rows : List (List Value)) (bytes : ℕ) (lines : List (List ℕ)) (more : List (List Value))
    → map (line_row form) lines ≡ map Ok more → (form.unique ≡ true → AllPairs ◌≢◌ (keys_of form (rows ++ more))) → bytes + length (concat lines) ≤ limit
    → add_lines form limit (Ok (progress rows bytes)) lines ≡ Ok (progress (rows ++ more) (bytes + length (concat lines)))
compute form limit rows bytes [] [] fields keys room =
    let same : bytes ≡ bytes + 0 = omega arith in
    rw (append-nil rows, ← same) refl
compute form limit rows bytes [] (row ∷ more) fields keys room = cc
compute form limit rows bytes (line ∷ lines) [] fields keys room = cc
compute form limit rows bytes (line ∷ lines) (row ∷ more) fields keys room =
    let here : line_row form line ≡ Ok row = cc in
    let others : map (line_row form) lines ≡ map Ok more = cc in
    let parts : length (line ++ concat lines) ≡ length line + length (concat lines) = length-append line (concat lines) in
    let fits : nat_lt limit (bytes + length line) ≡ false = le-ltb limit (bytes + length line) (omega (arith, room, parts)) in
    let free : (form.unique && is_taken form rows row) ≡ false = by_unique form.unique (is_taken form rows row) (λ u. free_before form rows row more (keys u)) in
    let one : add_line form limit (Ok (progress rows bytes)) line ≡ Ok (progress (rows ++ row ∷ []) (bytes + length line)) = rw (fits, here, free) refl in
    let count : bytes + length line + length (concat lines) ≡ bytes + length (line ++ concat lines) = omega (arith, parts) in
    ap (λ r. add_lines form limit r lines) one
    ∙ compute form limit (rows ++ row ∷ []) (bytes + length line) lines more others (λ u. rw append_assoc (keys u)) (omega (arith, room, parts))
    ∙ rw (append_assoc, count) refl

rows_computed : (form : LineForm) (limit : ℕ) (lines : List (List ℕ)) (rows : List (List Value)) → AreRowsOf form limit lines rows
    → add_lines form limit (Ok (progress [] 0)) lines ≡ Ok (progress rows (length (concat lines)))
rows_computed form limit lines rows are = compute form limit [] 0 lines rows are.fields are.keys (omega (arith, are.bytes)) ∙ rw zero-add refl

-- a bad line gives its refusal

module _ (form : LineForm) (limit : ℕ) (earlier : List (List ℕ)) (rows : List (List Value)) (line : List ℕ) where
  abbrev behind : Progress
  behind = progress rows (length (concat earlier))

  row_refused : (fault : LineFault) → (length (concat earlier) + length line ≤ limit) × (line_row form line ≡ Err fault)
      → add_line form limit (Ok behind) line ≡ Err (refusal behind fault)
  row_refused fault e =
      let fits : nat_lt limit (length (concat earlier) + length line) ≡ false = le-ltb _ _ e.0 in
      rw (fits, e.1) refl

  wrong_line : (fault : LineFault) → IsWrong form limit earlier rows line fault → add_line form limit (Ok behind) line ≡ Err (refusal behind fault)
  wrong_line FieldCount e = row_refused FieldCount e
  wrong_line BadNumber e = row_refused BadNumber e
  wrong_line NumberTooWide e = row_refused NumberTooWide e
  wrong_line BadDate e = row_refused BadDate e
  wrong_line BadText e = row_refused BadText e
  wrong_line TextTooLong e = row_refused TextTooLong e
  wrong_line DuplicateKey e =
      let fits : nat_lt limit (length (concat earlier) + length line) ≡ false = le-ltb _ _ e.0 in
      let taken : is_taken form rows e.2 ≡ true = taken_to form rows e.2 e.4 in
      rw (fits, e.3, e.1, taken) refl
  wrong_line FileTooLong e =
      let over : nat_lt limit (length (concat earlier) + length line) ≡ true = lt-ltb _ _ e in
      rw over refl

bad_computed : (form : LineForm) (limit : ℕ) (lines : List (List ℕ)) (first : LineRefusal) → IsFirstBadLine form limit lines first
    → add_lines form limit (Ok (progress [] 0)) lines ≡ Err first
bad_computed form limit lines first b =
    let at : progress b.rows (length (concat b.earlier)) ≡ progress b.rows (length (concat b.earlier)) = refl in
    let count : length b.rows + 1 ≡ first.line = ap (λ n. n + 1) (as_many form b.earlier b.rows b.good.fields) ∙ sym b.number in
    let same : refusal (progress b.rows (length (concat b.earlier))) first.fault ≡ first = λ i. record { line = count i; fault = first.fault } in
    ap (add_lines form limit (Ok (progress [] 0))) b.cut
    ∙ fold-append (add_line form limit) (Ok (progress [] 0)) b.earlier (b.line ∷ b.later)
    ∙ ap (λ r. add_lines form limit r (b.line ∷ b.later)) (rows_computed form limit b.earlier b.rows b.good)
    ∙ ap (λ r. add_lines form limit r b.later) (wrong_line form limit b.earlier b.rows b.line first.fault b.bad ∙ ap Err same)
    ∙ add_lines-refused form limit first b.later

-- both ways

rows_from : (form : LineForm) (limit : ℕ) (lines : List (List ℕ)) (rows : List (List Value)) (r : Result Progress LineRefusal)
    → Verdict form limit lines r → only_rows r ≡ Ok rows → AreRowsOf form limit lines rows
rows_from form limit lines rows (Ok q) good e = let same : q.rows ≡ rows = cc in rw (← same) good.rows
rows_from form limit lines rows (Err first) bad e = cc

bad_from : (form : LineForm) (limit : ℕ) (lines : List (List ℕ)) (first : LineRefusal) (r : Result Progress LineRefusal)
    → Verdict form limit lines r → only_rows r ≡ Err first → IsFirstBadLine form limit lines first
bad_from form limit lines first (Ok q) good e = cc
bad_from form limit lines first (Err other) bad e = let same : other ≡ first = cc in rw (← same) bad

pub rows_are_those : (form : LineForm) (limit : ℕ) (text : List ℕ) (rows : List (List Value))
    → (file_rows form limit text ≡ Ok rows → AreRowsOf form limit (cut_lines text) rows)
    × (AreRowsOf form limit (cut_lines text) rows → file_rows form limit text ≡ Ok rows)
unfolding file_rows
rows_are_those form limit text rows = (
  rows_from form limit (cut_lines text) rows _ (verdict form limit [] (progress [] 0) (cut_lines text) (start form limit)),
  λ are. ap only_rows (rows_computed form limit (cut_lines text) rows are),
)

pub first_bad_line : (form : LineForm) (limit : ℕ) (text : List ℕ) (first : LineRefusal)
    → (file_rows form limit text ≡ Err first → IsFirstBadLine form limit (cut_lines text) first)
    × (IsFirstBadLine form limit (cut_lines text) first → file_rows form limit text ≡ Err first)
unfolding file_rows
first_bad_line form limit text first = (
  bad_from form limit (cut_lines text) first _ (verdict form limit [] (progress [] 0) (cut_lines text) (start form limit)),
  λ bad. ap only_rows (bad_computed form limit (cut_lines text) first bad),
)
