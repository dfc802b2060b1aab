-- Lemmas on rows that are left while the parts of an AND are asked.
use Rattle.std.proofs.Common.{◌≡◌, ℕ, ◌+◌, ◌<◌, ◌≤◌, List, [], ◌∷◌, ◌++◌, refl, sym, ap, ◌∙◌, arith, length, take, get_or, map, inl, inr, subst, leb-true, leb-false}
use Rattle.std.specs.Prelude.{min, nat_le}
use Rattle.std.proofs.lemmas.Bool.{cases_Bool}
use Rattle.std.proofs.lemmas.List.{append-nil, length-map, take_more}
use Rattle.std.proofs.lemmas.Grind.{flat_map-append}
use Rattle.base_row_laws.specs.Ranked.{Ranked, ranked, true_rank}
use Rattle.base_row_laws.specs.Rows.{keep}
use Rattle.base_row_laws.specs.Operators.{select}
use Rattle.base_value.specs.declared.truth.Fault.TheVariants.{TooManyRows, DivideByZero, NumberRange}
use Rattle.base_value.specs.declared.truth.Standing.TheVariants.{AtFault, AtTrue}
use Rattle.base_value.specs.declared.truth.Truth.{Truth}
use Rattle.base_value.specs.declared.truth.Truth.TheVariants.{False, Unknown, Stands}
use Rattle.base_value.specs.declared.value.Value.{Value}
use Rattle.base_value.specs.Truth.{truth_rank, lesser}
use Rattle.expr_scalar.specs.declared.expr.Expr.{Expr}
use Rattle.expr_scalar.specs.Meaning.{truth}
use Rattle.base_columns.proofs.Kept.{keep_none, keep_some}
use Rattle.exec_column_operators.specs.Zips.{zip_with}
use Rattle.expr_conditions.specs.Ranks.{rank_of, all_rank}
use Rattle.expr_conditions.proofs.Ranks.{all_rank-push}
use Rattle.exec_parallel_scan.specs.Kept.{StandFor}

-- a row that a condition kept, under another one
kept_again : (e : List Value → ℕ) (row : List Value) (s : ℕ) → select e (keep row s) ≡ keep row (min s (e row))
kept_again e row s = elim (cases_Bool (nat_le s 1)) [
  | inl t ↦ let l = leb-true s 1 t in ap (select e) (keep_none row s l) ∙ sym (keep_none row (min s (e row)) (omega (arith, l)))
  | inr f ↦ let l = leb-false s 1 f in ap (select e) (keep_some row s (omega (arith, l))) ∙ append-nil (keep row (min s (e row)))
]

select-append : (e : List Value → ℕ) (xs ys : List (Ranked Value)) → select e (xs ++ ys) ≡ select e xs ++ select e ys
select-append e xs ys = flat_map-append (λ x. keep x.values (min x.standing (e x.values))) xs ys

-- Two selections are one, list for list.
pub select_twice : (c e : List Value → ℕ) (xs : List (Ranked Value)) → select e (select c xs) ≡ select (λ row. min (c row) (e row)) xs
select_twice c e [] = refl
select_twice c e (x ∷ xs) =
    select-append e (keep x.values (min x.standing (c x.values))) (select c xs)
    ∙ ap (λ l. l ++ select e (select c xs)) (kept_again e x.values (min x.standing (c x.values)) ∙ ap (keep x.values) (assoc x.standing (c x.values) (e x.values)))
    ∙ ap (λ l. keep x.values (min x.standing (min (c x.values) (e x.values))) ++ l) (select_twice c e xs)
  where
    assoc : (a b c : ℕ) → min (min a b) c ≡ min a (min b c)
    assoc a b c = omega arith

-- conditions that say the same keep the same rows
pub select_same : (c e : List Value → ℕ) → ((row : List Value) → c row ≡ e row) → (xs : List (Ranked Value)) → select c xs ≡ select e xs
select_same c e h [] = refl
select_same c e h (x ∷ xs) = ap (λ n. keep x.values (min x.standing n) ++ select c xs) (h x.values) ∙ ap (λ l. keep x.values (min x.standing (e x.values)) ++ l) (select_same c e h xs)

rank-lesser : (a b : Truth) → truth_rank (lesser a b) ≡ min (truth_rank a) (truth_rank b)
rank-lesser a b = elim (cases_Bool (nat_le (truth_rank a) (truth_rank b))) [
  | inl t ↦ let l = leb-true (truth_rank a) (truth_rank b) t in rw t (omega (arith, l))
  | inr f ↦ let l = leb-false (truth_rank a) (truth_rank b) f in rw f (omega (arith, l))
]

ranks_zipped : (ts us : List Truth) → map truth_rank (zip_with lesser ts us) ≡ zip_with min (map truth_rank ts) (map truth_rank us)
ranks_zipped [] us = refl
ranks_zipped (t ∷ ts) [] = refl
ranks_zipped (t ∷ ts) (u ∷ us) = ap (λ n. n ∷ map truth_rank (zip_with lesser ts us)) (rank-lesser t u) ∙ ap (λ l. min (truth_rank t) (truth_rank u) ∷ l) (ranks_zipped ts us)

zip_of_one : {A : Type 0} (c e : A → ℕ) (rows : List A) → zip_with min (map c rows) (map e rows) ≡ map (λ r. min (c r) (e r)) rows
zip_of_one c e [] = refl
zip_of_one c e (r ∷ rows) = ap (λ l. min (c r) (e r) ∷ l) (zip_of_one c e rows)

-- the ranks of truths that are joined by AND
ranks_of_both : (ts us : List Truth) (c e : List Value → ℕ) (rows : List (Ranked Value)) → map truth_rank ts ≡ map (λ r. c r.values) rows
    → map truth_rank us ≡ map (λ r. e r.values) rows → map truth_rank (zip_with lesser ts us) ≡ map (λ r. min (c r.values) (e r.values)) rows
ranks_of_both ts us c e rows h k =
    ranks_zipped ts us ∙ ap (λ l. zip_with min l (map truth_rank us)) h ∙ ap (zip_with min (map (λ r. c r.values) rows)) k
    ∙ zip_of_one (λ (r : Ranked Value). c r.values) (λ (r : Ranked Value). e r.values) rows

long_of : (ts : List Truth) (c : List Value → ℕ) (rows : List (Ranked Value)) → map truth_rank ts ≡ map (λ r. c r.values) rows → length ts ≡ length rows
long_of ts c rows h = sym (length-map ts truth_rank) ∙ ap length h ∙ length-map rows (λ (r : Ranked Value). c r.values)

-- all rows, and what a condition says of them
pub stand_at_first : (all : List (Ranked Value)) (condition : List Value → ℕ) (truths : List Truth) → map truth_rank truths ≡ map (λ r. condition r.values) all
    → StandFor all condition all truths
stand_at_first all condition truths h = record { long = long_of truths condition all h; says = condition; ranks = h; kept = refl }

-- one part more, asked of the same rows
pub stand_of_both : (all : List (Ranked Value)) (condition e : List Value → ℕ) (rows : List (Ranked Value)) (truths more : List Truth)
    → StandFor all condition rows truths → map truth_rank more ≡ map (λ r. e r.values) rows
    → StandFor all (λ row. min (condition row) (e row)) rows (zip_with lesser truths more)
stand_of_both all condition e rows truths more s h =
    let both = ranks_of_both truths more s.says e rows s.ranks h in
    record {
      long = long_of (zip_with lesser truths more) (λ row. min (s.says row) (e row)) rows both;
      says = λ row. min (s.says row) (e row);
      ranks = both;
      kept = sym (select_twice s.says e rows) ∙ ap (select e) s.kept ∙ select_twice condition e all;
    }

-- one part more, asked of the rows that are left
pub stand_of_left : (all : List (Ranked Value)) (condition e : List Value → ℕ) (rows left : List (Ranked Value)) (truths more : List Truth)
    → StandFor all condition rows truths → ((c : List Value → ℕ) → map truth_rank truths ≡ map (λ r. c r.values) rows → left ≡ select c rows)
    → map truth_rank more ≡ map (λ r. e r.values) left
    → StandFor all (λ row. min (condition row) (e row)) left more
stand_of_left all condition e rows left truths more s by h = record {
  long = long_of more e left h;
  says = e;
  ranks = h;
  kept = ap (select e) (by s.says s.ranks ∙ s.kept) ∙ select_twice condition e all;
}

-- a condition that says the same
pub stand_of_same : (all : List (Ranked Value)) (condition same : List Value → ℕ) (rows : List (Ranked Value)) (truths : List Truth)
    → ((row : List Value) → condition row ≡ same row) → StandFor all condition rows truths → StandFor all same rows truths
stand_of_same all condition same rows truths h s = record { long = s.long; says = s.says; ranks = s.ranks; kept = s.kept ∙ select_same condition same h all }

truth-le : (t : Truth) → truth_rank t ≤ true_rank
truth-le False = omega arith
truth-le Unknown = omega arith
truth-le (Stands AtTrue) = omega arith
truth-le (Stands (AtFault TooManyRows)) = omega arith
truth-le (Stands (AtFault DivideByZero)) = omega arith
truth-le (Stands (AtFault NumberRange)) = omega arith

rank-le : (x : Expr) (row : List Value) → rank_of x row ≤ true_rank
unfolding rank_of
rank-le x row = truth-le (truth x row)

-- the first part of an AND alone
pub first_alone : (es : List Expr) (e : Expr) → 0 < length es → e ≡ get_or es 0 e → (row : List Value) → rank_of e row ≡ all_rank (take 1 es) row
first_alone [] e h is row = absurd (omega (arith, h))
first_alone (x ∷ es) e h is row = ap (λ y. rank_of y row) is ∙ one (rank_of x row) (rank-le x row)
  where
    one : (n : ℕ) → n ≤ true_rank → n ≡ min n true_rank
    one n h = omega (arith, h)

-- one part more of an AND
pub one_part_more : (es : List Expr) (k : ℕ) (e : Expr) → k < length es → e ≡ get_or es k e → (row : List Value)
    → min (all_rank (take k es) row) (rank_of e row) ≡ all_rank (take (k + 1) es) row
one_part_more es k e h is row =
    sym (ap (λ l. all_rank l row) (take_more es k e h ∙ ap (λ y. take k es ++ y ∷ []) (sym is)) ∙ all_rank-push (take k es) e row)
