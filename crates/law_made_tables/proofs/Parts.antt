-- Parts of a file, each of which gives rows whose keys ascend.
use Rattle.std.proofs.Common.{◌≡◌, ◌≢◌, ℕ, zero, suc, ◌+◌, ◌-◌, ◌*◌, ◌<◌, ◌≤◌, List, [], ◌∷◌, ◌++◌, length, map, refl, sym, ap, subst, ◌∙◌, arith, le_trans, le_refl, append_assoc, append-nil, length-append, pos, Ok}
use Rattle.std.specs.Prelude.{slice_index_or}
use Rattle.std.specs.List.{All, AllPairs, concat}
use Rattle.std.proofs.Math.Nat.{suc-mul}
use Rattle.std.proofs.lemmas.List.{map-append}
use Rattle.std.proofs.lemmas.List.Elements.{All-nil, All-cons}
use Rattle.std.proofs.lemmas.List.Kept.{AllPairs-cons}
use Rattle.base_value.specs.declared.value.Value.{Value}
use Rattle.base_value.specs.declared.value.Value.TheVariants as value
use Rattle.base_schema.specs.LineForm.{LineForm, key_of}
use Rattle.store_file_reader.specs.File.{cut_lines, line_row, file_rows}
use Rattle.store_file_reader.specs.Laws.{AreRowsOf}
use Rattle.store_file_reader.proofs.FileLaws.{rows_are_those}
use Rattle.store_file_reader.proofs.LineCuts.{cut_lines-ended}
use Rattle.store_file_reader.proofs.WholeLines.{concat-cut_lines}
use Rattle.app_sample_data.specs.Lines.{lines}
use Rattle.app_sample_data.proofs.Steps.{lines_none, lines_more}
use Rattle.law_made_tables.proofs.Fields.{Made, AreOf, made_value, AreMade, body, body_unended, body_short, row_read}

-- the natural number that a key's value is
abbrev pub key_part : Value → ℕ
key_part (value.Number scale (pos n)) = n
key_part other = 0

-- the place of a key among keys
abbrev pub place_of : List Value → ℕ
place_of key = key_part (slice_index_or key 0 value.Null) * 65536 + key_part (slice_index_or key 1 value.Null)

-- the keys of the rows ascend, from one place to before another
abbrev pub Ascend : LineForm → ℕ → ℕ → List (List Value) → Type 0
Ascend form low high [] = low ≤ high
Ascend form low high (row ∷ rows) = (low ≤ place_of (key_of form row)) × Ascend form (suc (place_of (key_of form row))) high rows

lower : (form : LineForm) (low mid high : ℕ) (rows : List (List Value)) → low ≤ mid → Ascend form mid high rows → Ascend form low high rows
lower form low mid high [] h a = le_trans h a
lower form low mid high (row ∷ rows) h a = (le_trans h a.0, a.1)

ascend_append : (form : LineForm) (low mid high : ℕ) (rows more : List (List Value)) → Ascend form low mid rows → Ascend form mid high more → Ascend form low high (rows ++ more)
ascend_append form low mid high [] more a b = lower form low mid high more a b
ascend_append form low mid high (row ∷ rows) more a b = (a.0, ascend_append form (suc (place_of (key_of form row))) mid high rows more a.1 b)

apart : (form : LineForm) (key : List Value) (low high : ℕ) (rows : List (List Value)) → place_of key < low → Ascend form low high rows → All (λ other. key ≢ other) (map (key_of form) rows)
apart form key low high [] h a = All-nil (λ other. key ≢ other)
apart form key low high (row ∷ rows) h a =
    let here : key ≢ key_of form row = λ same. let place = ap place_of same in absurd (omega (arith, place, a.0)) in
    All-cons (λ other. key ≢ other) (key_of form row) (map (key_of form) rows) here (apart form key (suc (place_of (key_of form row))) high rows (omega (arith, a.0)) a.1)

differ : (form : LineForm) (low high : ℕ) (rows : List (List Value)) → Ascend form low high rows → AllPairs ◌≢◌ (map (key_of form) rows)
differ form low high [] a = λ i j d h k. absurd (omega (arith, k))
differ form low high (row ∷ rows) a =
    AllPairs-cons ◌≢◌ (key_of form row) (map (key_of form) rows) (apart form (key_of form row) (suc (place_of (key_of form row))) high rows (omega arith) a.1)
    (differ form (suc (place_of (key_of form row))) high rows a.1)

-- a part of a file: whole lines, their rows, and at most `most` bytes
pub record Part (form : LineForm) (low high most : ℕ) (text : List ℕ) : Type 0 where
  pub cuts : List (List ℕ)
  pub rows : List (List Value)
  pub cut : (more : List ℕ) → cut_lines (text ++ more) ≡ cuts ++ cut_lines more
  pub read : map (line_row form) cuts ≡ map Ok rows
  pub keys : Ascend form low high rows
  pub bytes : length text ≤ most

pub nothing : (form : LineForm) (low high : ℕ) → low ≤ high → Part form low high 0 []
nothing form low high h = record { cuts = []; rows = []; cut = λ more. refl; read = refl; keys = h; bytes = omega arith }

pub joined : (form : LineForm) (low mid high a b : ℕ) (text more : List ℕ) → Part form low mid a text → Part form mid high b more → Part form low high (a + b) (text ++ more)
joined form low mid high a b text more p q = record {
  cuts = p.cuts ++ q.cuts;
  rows = p.rows ++ q.rows;
  cut = λ rest.
      ap cut_lines (append_assoc text more rest)
      ∙ p.cut (more ++ rest)
      ∙ ap (λ t. p.cuts ++ t) (q.cut rest)
      ∙ sym (append_assoc p.cuts q.cuts (cut_lines rest));
  read =
      map-append (line_row form) p.cuts q.cuts ∙ (λ i. p.read i ++ q.read i) ∙ sym (map-append Ok p.rows q.rows);
  keys = ascend_append form low mid high p.rows q.rows p.keys q.keys;
  bytes = omega (arith, length-append text more, p.bytes, q.bytes);
}

pub moved : (form : LineForm) (low high most : ℕ) (text other : List ℕ) → text ≡ other → Part form low high most text → Part form low high most other
moved form low high most text other e p = subst (Part form low high most) e p

pub within : (form : LineForm) (low high less most : ℕ) (text : List ℕ) → less ≤ most → Part form low high less text → Part form low high most text
within form low high less most text h p = record { cuts = p.cuts; rows = p.rows; cut = p.cut; read = p.read; keys = p.keys; bytes = le_trans p.bytes h }

raise : (form : LineForm) (low mid high : ℕ) (rows : List (List Value)) → mid ≤ high → Ascend form low mid rows → Ascend form low high rows
raise form low mid high [] h a = le_trans a h
raise form low mid high (row ∷ rows) h a = (a.0, raise form (suc (place_of (key_of form row))) mid high rows h a.1)

-- the same between places further apart
pub between : (form : LineForm) (low below high above most : ℕ) (text : List ℕ) → below ≤ low → high ≤ above → Part form low high most text → Part form below above most text
between form low below high above most text h g p = record {
  cuts = p.cuts;
  rows = p.rows;
  cut = p.cut;
  read = p.read;
  keys = lower form below low above p.rows h (raise form low high above p.rows g p.keys);
  bytes = p.bytes;
}

-- one line
pub one_line : (form : LineForm) (low high : ℕ) (m : Made) (ms : List Made) → AreOf (m ∷ ms) form.columns → AreMade (m ∷ ms) → length (m ∷ ms) ≤ 16
    → low ≤ place_of (key_of form (map made_value (m ∷ ms))) → place_of (key_of form (map made_value (m ∷ ms))) < high
    → Part form low high 500 (body (m ∷ ms) ++ 10 ∷ [])
one_line form low high m ms columns made few from to = record {
  cuts = (body (m ∷ ms) ++ 10 ∷ []) ∷ [];
  rows = map made_value (m ∷ ms) ∷ [];
  cut = λ more.
      ap cut_lines (append_assoc (body (m ∷ ms)) (10 ∷ []) more) ∙ cut_lines-ended (body (m ∷ ms)) more (body_unended (m ∷ ms) made);
  read = ap (λ r. r ∷ []) (row_read form m ms columns made);
  keys = (from, to);
  bytes = omega (arith, length-append (body (m ∷ ms)) (10 ∷ []), body_short (m ∷ ms) made, few);
}

-- the lines of keys one after another, each in its place
lines_from : (form : LineForm) (place : ℕ → ℕ) (line : ℕ → List ℕ) (most count first end : ℕ) → first + count ≡ end
    → ((k : ℕ) → first ≤ k → k < end → Part form (place k) (place (k + 1)) most (line k))
    → Part form (place first) (place end) (count * most) (lines line first end)
lines_from form place line most zero first end e each =
    let same : first ≡ end = omega arith in
    let P : ℕ → Type 0 = λ k. Part form (place first) (place k) (0 * most) (lines line first k) in
    subst P same (moved form (place first) (place first) (0 * most) [] (lines line first first) (sym (lines_none line first))
    (within form (place first) (place first) 0 (0 * most) [] (omega arith) (nothing form (place first) (place first) (le_refl (place first)))))
lines_from form place line most (suc count) first end e each =
    let less : first < end = omega arith in
    let rest = lines_from form place line most count (first + 1) end (omega arith) (λ k h g. each k (omega arith) g) in
    let here = each first (le_refl first) less in
    let room : most + count * most ≤ suc count * most = omega (arith, suc-mul count most) in
    moved form (place first) (place end) (suc count * most) (line first ++ lines line (first + 1) end) (lines line first end) (sym (lines_more line first end less))
    (within form (place first) (place end) (most + count * most) (suc count * most) _ room
    (joined form (place first) (place (first + 1)) (place end) most (count * most) (line first) (lines line (first + 1) end) here rest))

pub all_lines : (form : LineForm) (place : ℕ → ℕ) (line : ℕ → List ℕ) (most first end : ℕ) → first ≤ end
    → ((k : ℕ) → first ≤ k → k < end → Part form (place k) (place (k + 1)) most (line k))
    → Part form (place first) (place end) ((end - first) * most) (lines line first end)
all_lines form place line most first end h each = lines_from form place line most (end - first) first end (omega arith) each

-- a whole file gives rows
pub rows_of : (form : LineForm) (limit low high most : ℕ) (text : List ℕ) → most ≤ limit → Part form low high most text
    → (rows : List (List Value)) × (file_rows form limit text ≡ Ok rows)
rows_of form limit low high most text h p =
    let cut : cut_lines text ≡ p.cuts = ap cut_lines (sym (append-nil text)) ∙ p.cut [] ∙ append-nil p.cuts in
    let whole : concat p.cuts ≡ text = ap concat (sym cut) ∙ concat-cut_lines text in
    let are : AreRowsOf form limit p.cuts p.rows = record {
      fields = p.read;
      keys = λ unique. differ form low high p.rows p.keys;
      bytes = omega (arith, ap length whole, p.bytes, h);
    } in
    (p.rows, (rows_are_those form limit text p.rows).1 (subst (λ c. AreRowsOf form limit c p.rows) (sym cut) are))
