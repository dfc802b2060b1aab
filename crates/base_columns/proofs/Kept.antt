-- Lemmas on the rows that a condition keeps.
use Rattle.std.proofs.Common.{◌≡◌, ℕ, ◌+◌, ◌<◌, ◌≤◌, true, false, suc, zero, min, List, [], ◌∷◌, ◌++◌, refl, sym, ap, ◌∙◌, subst, arith, length, get_or, take, drop, map, replicate, append_assoc}
use Rattle.std.specs.Prelude.{nat_lt}
use Rattle.std.proofs.lemmas.Bool.Decides.{nat_tests}
use Rattle.std.proofs.lemmas.List.{append-nil, same_lists, length-map, length-take-le}
use Rattle.base_columns.proofs.BatchRows.{relation-at, relation-length, relation-width, cells_gathered, long_gathered}
use Rattle.base_row_laws.specs.Ranked.{Ranked, ranked, Relation, true_rank}
use Rattle.base_row_laws.specs.Rows.{keep}
use Rattle.base_row_laws.specs.Operators.{select}
use Rattle.base_value.specs.declared.truth.Standing.{Standing}
use Rattle.base_value.specs.declared.truth.Fault.TheVariants.{TooManyRows, DivideByZero, NumberRange}
use Rattle.base_value.specs.declared.truth.Standing.TheVariants.{AtTrue, AtFault}
use Rattle.base_value.specs.declared.truth.Truth.{Truth}
use Rattle.base_value.specs.declared.value.Value.{Value}
use Rattle.base_value.specs.declared.value.Value.TheVariants.{Null}
use Rattle.base_value.specs.Truth.{standing_rank, truth_rank}
use Rattle.base_columns.specs.Lists.{gathered, AreBelow}
use Rattle.base_columns.specs.Batches.{cells, rows_from, column_relation, AreLong}
use Rattle.base_columns.specs.Selections.{kept_from, rows_at, IsKept}

-- one row more
pub kept_more : (row : ℕ → List Value) (k : ℕ) (ss : List Standing) (ts : List Truth) (i : ℕ) (d : Standing) (e : Truth) → i < length ss → i < length ts
    → kept_from row k (take (i + 1) ss) (take (i + 1) ts)
    ≡ kept_from row k (take i ss) (take i ts) ++ keep (row (k + i)) (min (standing_rank (get_or ss i d)) (truth_rank (get_or ts i e)))
unfolding kept_from
kept_more row k [] ts i d e h l = absurd (omega (arith, h))
kept_more row k (s ∷ ss) [] i d e h l = absurd (omega (arith, l))
kept_more row k (s ∷ ss) (t ∷ ts) zero d e h l =
    let n : k + 0 ≡ k = omega arith in rw n (append-nil _)
kept_more row k (s ∷ ss) (t ∷ ts) (suc i) d e h l =
    let n : suc i + 1 ≡ suc (i + 1) = omega arith in
    let m : suc k + i ≡ k + suc i = omega arith in
    rw (n, kept_more row (suc k) ss ts i d e (omega (arith, h)) (omega (arith, l)), m)
    (sym (append_assoc (keep (row k) (min (standing_rank s) (truth_rank t))) (kept_from row (suc k) (take i ss) (take i ts)) _))

pub rows_at_push : (row : ℕ → List Value) (places : List ℕ) (ss : List Standing) (i : ℕ) (s : Standing) → length places ≡ length ss
    → rows_at row (places ++ i ∷ []) (ss ++ s ∷ []) ≡ rows_at row places ss ++ ranked (row i) (standing_rank s) ∷ []
unfolding rows_at
rows_at_push row [] [] i s e = refl
rows_at_push row [] (t ∷ ss) i s e = absurd (omega (arith, e))
rows_at_push row (j ∷ places) [] i s e = absurd (omega (arith, e))
rows_at_push row (j ∷ places) (t ∷ ss) i s e =
    ap (λ rows. ranked (row j) (standing_rank t) ∷ rows) (rows_at_push row places ss i s (omega (arith, e)))

-- what the conditions of the rows keep is their selection
pub kept_selects : (c : List Value → ℕ) (cs : List (List Value)) (k : ℕ) (ss : List Standing) (ts : List Truth)
    → map truth_rank ts ≡ map (λ r. c r.values) (rows_from cs k ss)
    → kept_from (cells cs) k ss ts ≡ select c (rows_from cs k ss)
unfolding kept_from rows_from
kept_selects c cs k [] ts e = refl
kept_selects c cs k (s ∷ ss) [] e = absurd (cc)
kept_selects c cs k (s ∷ ss) (t ∷ ts) e =
    let f : truth_rank t ≡ c (cells cs k) = cc in
    let g : map truth_rank ts ≡ map (λ r. c r.values) (rows_from cs (suc k) ss) = cc in
    rw (f, kept_selects c cs (suc k) ss ts g) refl

pub is_kept_nil : IsKept [] [] [] []
unfolding rows_at kept_from
is_kept_nil = record { long = refl; below = λ k d h. absurd (omega (arith, h)); rows = λ row. refl }

-- a loop's step
pub is_kept_more : (ss : List Standing) (ts : List Truth) (i : ℕ) (d : Standing) (e : Truth) (places more : List ℕ) (kept kept' : List Standing)
    → i < length ss → i < length ts → IsKept (take i ss) (take i ts) places kept
    → length more ≡ length kept' → AreBelow (i + 1) more
    → ((row : ℕ → List Value) → rows_at row more kept' ≡ rows_at row places kept ++ keep (row i) (min (standing_rank (get_or ss i d)) (truth_rank (get_or ts i e))))
    → IsKept (take (i + 1) ss) (take (i + 1) ts) more kept'
is_kept_more ss ts i d e places more kept kept' h l k m b r =
    let n : length (take (i + 1) ss) ≡ i + 1 = length-take-le (i + 1) ss (omega (arith, h)) in
    let z : 0 + i ≡ i = omega arith in
    record {
      long = m;
      below = subst (λ j. AreBelow j more) (sym n) b;
      rows = λ row. r row
          ∙ ap (λ rows. rows ++ keep (row i) (min (standing_rank (get_or ss i d)) (truth_rank (get_or ts i e)))) (k.rows row)
          ∙ sym (kept_more row 0 ss ts i d e h l ∙ ap (λ j. kept_from row 0 (take i ss) (take i ts) ++ keep (row j) (min (standing_rank (get_or ss i d)) (truth_rank (get_or ts i e)))) z);
    }

length-rows_at : (row : ℕ → List Value) (places : List ℕ) (ss : List Standing) → length places ≡ length ss → length (rows_at row places ss) ≡ length ss
unfolding rows_at
length-rows_at row [] [] e = refl
length-rows_at row [] (s ∷ ss) e = absurd (omega (arith, e))
length-rows_at row (i ∷ places) [] e = refl
length-rows_at row (i ∷ places) (s ∷ ss) e = ap suc (length-rows_at row places ss (omega (arith, e)))

get_or-rows_at : (row : ℕ → List Value) (places : List ℕ) (ss : List Standing) (k : ℕ) (d : Standing) (r : Ranked Value) → length places ≡ length ss → k < length ss
    → get_or (rows_at row places ss) k r ≡ ranked (row (get_or places k 0)) (standing_rank (get_or ss k d))
unfolding rows_at
get_or-rows_at row [] [] k d r e h = absurd (omega (arith, h))
get_or-rows_at row [] (s ∷ ss) k d r e h = absurd (omega (arith, e))
get_or-rows_at row (i ∷ places) [] k d r e h = absurd (omega (arith, h))
get_or-rows_at row (i ∷ places) (s ∷ ss) zero d r e h = refl
get_or-rows_at row (i ∷ places) (s ∷ ss) (suc k) d r e h = get_or-rows_at row places ss k d r (omega (arith, e)) (omega (arith, h))

relation-rows_at : (cs : List (List Value)) (places : List ℕ) (kept : List Standing) → length places ≡ length kept
    → (column_relation (map (λ c. gathered Null c places) cs) kept).rows ≡ rows_at (cells cs) places kept
relation-rows_at cs places kept e =
    let new = map (λ c. gathered Null c places) cs in
    let rows = (column_relation new kept).rows in
    let n : length rows ≡ length kept = relation-length new kept in
    same_lists rows (rows_at (cells cs) places kept) (n ∙ sym (length-rows_at (cells cs) places kept e))
    (λ k d i. let o : k < length kept = omega (arith, n, i) in
    let p : k < length places = omega (arith, e, o) in
    relation-at new kept k AtTrue d o
    ∙ ap (λ vs. ranked vs (standing_rank (get_or kept k AtTrue))) (cells_gathered cs places k p)
    ∙ sym (get_or-rows_at (cells cs) places kept k AtTrue d e o))

rows_from_relation : (cs : List (List Value)) (ss : List Standing) → (column_relation cs ss).rows ≡ rows_from cs 0 ss
unfolding column_relation
rows_from_relation cs ss = refl

-- the columns at the places of what a condition keeps are its selection
pub relation-kept : (old : Relation Value) (cs new : List (List Value)) (ss kept : List Standing) (ts : List Truth) (places : List ℕ) (c : List Value → ℕ) → old ≡ column_relation cs ss
    → IsKept ss ts places kept → new ≡ map (λ b. gathered Null b places) cs
    → map truth_rank ts ≡ map (λ r. c r.values) old.rows
    → (column_relation new kept).rows ≡ select c old.rows
relation-kept old cs new ss kept ts places c o k e t =
    let f : old.rows ≡ rows_from cs 0 ss = ap (λ r. r.rows) o ∙ rows_from_relation cs ss in
    ap (λ bs. (column_relation bs kept).rows) e
    ∙ relation-rows_at cs places kept k.long
    ∙ k.rows (cells cs)
    ∙ kept_selects c cs 0 ss ts (t ∙ ap (map (λ r. c r.values)) f)
    ∙ ap (select c) (sym f)

pub width_kept : (old : Relation Value) (cs new : List (List Value)) (ss kept : List Standing) (places : List ℕ) → old ≡ column_relation cs ss
    → new ≡ map (λ b. gathered Null b places) cs → (column_relation new kept).width ≡ old.width
width_kept old cs new ss kept places o e =
    relation-width new kept ∙ ap length e ∙ length-map cs (λ b. gathered Null b places) ∙ sym (relation-width cs ss) ∙ sym (ap (λ r. r.width) o)

pub long_kept : (cs new : List (List Value)) (places : List ℕ) (kept : List Standing) → length places ≡ length kept → new ≡ map (λ c. gathered Null c places) cs
    → AreLong (length kept) new
long_kept cs new places kept e f = subst (AreLong (length kept)) (sym f) (long_gathered cs places (length kept) (sym e))

pub keep_none : (row : List Value) (n : ℕ) → n ≤ 1 → keep row n ≡ []
keep_none row n h = let e : nat_lt 1 n ≡ false = grind (arith, nat_tests) in rw e refl

pub keep_some : (row : List Value) (n : ℕ) → 1 < n → keep row n ≡ ranked row n ∷ []
keep_some row n h = let e : nat_lt 1 n ≡ true = grind (arith, nat_tests) in rw e refl

-- where each truth is True, each row is kept as it stands
standing_between : (s : Standing) → (1 < standing_rank s) × (standing_rank s ≤ 5)
standing_between AtTrue = (omega arith, omega arith)
standing_between (AtFault TooManyRows) = (omega arith, omega arith)
standing_between (AtFault DivideByZero) = (omega arith, omega arith)
standing_between (AtFault NumberRange) = (omega arith, omega arith)

rows_all_kept : (c : List Value → ℕ) (cs : List (List Value)) (k : ℕ) (ss : List Standing) → replicate (length ss) true_rank ≡ map (λ r. c r.values) (rows_from cs k ss)
    → select c (rows_from cs k ss) ≡ rows_from cs k ss
unfolding rows_from
rows_all_kept c cs k [] e = refl
rows_all_kept c cs k (s ∷ ss) e =
    let a : 5 ≡ c (cells cs k) = ap (λ xs. get_or xs 0 0) e in
    let b : replicate (length ss) true_rank ≡ map (λ (r : Ranked Value). c r.values) (rows_from cs (suc k) ss) = ap (drop 1) e in
    let h = standing_between s in
    let n = standing_rank s in
    let m : min n (c (cells cs k)) ≡ n = omega (arith, a, h.1) in
    let rest = select c (rows_from cs (suc k) ss) in
    ap (λ j. keep (cells cs k) j ++ rest) m ∙ ap (λ xs. xs ++ rest) (keep_some (cells cs k) n h.0) ∙ ap (λ xs. ranked (cells cs k) n ∷ xs) (rows_all_kept c cs (suc k) ss b)

pub relation-all_kept : (old : Relation Value) (cs : List (List Value)) (ss : List Standing) (ts : List Truth) (c : List Value → ℕ) → old ≡ column_relation cs ss
    → length ts ≡ length old.rows → map truth_rank ts ≡ replicate (length ts) true_rank → map truth_rank ts ≡ map (λ r. c r.values) old.rows → old.rows ≡ select c old.rows
unfolding column_relation
relation-all_kept old cs ss ts c o l t e =
    let n : length ts ≡ length ss = l ∙ ap (λ r. length r.rows) o ∙ relation-length cs ss in
    let f : replicate (length ss) true_rank ≡ map (λ (r : Ranked Value). c r.values) (rows_from cs 0 ss) = ap (λ k. replicate k true_rank) (sym n) ∙ sym t ∙ e ∙ ap (λ r. map (λ (x : Ranked Value). c x.values) r.rows) o in
    ap (λ r. r.rows) o ∙ sym (rows_all_kept c cs 0 ss f) ∙ ap (λ r. select c r.rows) (sym o)

pub ruleset puts = (keep_none, keep_some, rows_at_push, append-nil)
