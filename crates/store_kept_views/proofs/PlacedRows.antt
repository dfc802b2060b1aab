-- Rows taken by their places, where no row is dropped.
use Rattle.std.proofs.Common.{◌≡◌, ℕ, ◌+◌, ◌<◌, ◌≤◌, inl, inr, List, [], ◌∷◌, ◌++◌, refl, sym, ◌∙◌, ap, subst, arith, get_or, length, take, zero, suc}
use Rattle.std.specs.Prelude.{min, nat_lt, slice_index_or}
use Rattle.std.proofs.lemmas.Bool.{cases_Bool}
use Rattle.std.proofs.lemmas.List.{length-append, length-map, take_more}
use Rattle.std.proofs.lemmas.List.Concat.{flat_map-cons}
use Rattle.base_columns.specs.Lists.{AreBelow, gathered}
use Rattle.base_columns.proofs.CodeLists.{gathered-push}
use Rattle.base_row_laws.specs.Ranked.{Ranked, ranked, true_rank, unknown_rank}
use Rattle.base_row_laws.specs.Rows.{keep}
use Rattle.base_row_laws.specs.Operators.{select}
use Rattle.base_columns.specs.Tables.{standing_rows}
use Rattle.base_value.specs.declared.value.Value.{Value}
use Rattle.plan_algebra.proofs.LiveRows.{gathered_stand}

-- one place more
pub one_place : {X : Type 0} (d : X) (xs : List X) (places : List ℕ) (i : ℕ) → i < length xs → gathered d xs places ≡ take i xs → gathered d xs (places ++ i ∷ []) ≡ take (i + 1) xs
one_place d xs places i less old =
    gathered-push d xs places i
    ∙ ap (λ l. l ++ get_or xs i d ∷ []) old
    ∙ sym (take_more xs i d less)

-- a condition that drops no row
module _ {V : Type 0} (c : List V → ℕ) where
  abbrev kept : Ranked V → List (Ranked V)
  kept x = keep x.values (min x.standing (c x.values))

  kept_once : (x : Ranked V) → length (kept x) ≤ 1
  kept_once x = elim (cases_Bool (nat_lt unknown_rank (min x.standing (c x.values)))) [
    | inl t ↦ rw t (omega arith)
    | inr f ↦ rw f (omega arith)
  ]

  long_select : (xs : List (Ranked V)) → length (select c xs) ≤ length xs
  long_select [] = omega arith
  long_select (x ∷ xs) = omega (arith, kept_once x, long_select xs, ap length (flat_map-cons kept x xs), length-append (kept x) (select c xs))

  one_of : (ys zs : List (Ranked V)) (d : Ranked V) → length ys ≡ 1 → ys ≡ slice_index_or (ys ++ zs) 0 d ∷ []
  one_of [] zs d one = absurd (omega arith)
  one_of (y ∷ []) zs d one = refl
  one_of (y ∷ x ∷ ys) zs d one = absurd (omega arith)

  after_one : (ys zs : List (Ranked V)) (i : ℕ) (d : Ranked V) → length ys ≡ 1 → slice_index_or (ys ++ zs) (suc i) d ≡ slice_index_or zs i d
  after_one [] zs i d one = absurd (omega arith)
  after_one (y ∷ []) zs i d one = refl
  after_one (y ∷ x ∷ ys) zs i d one = absurd (omega arith)

  kept_here : (x : Ranked V) (xs : List (Ranked V)) (i : ℕ) (d : Ranked V) → select c (x ∷ xs) ≡ kept x ++ select c xs → length (kept x) ≡ 1 → ((j : ℕ) → j < length xs → kept (slice_index_or xs j d) ≡ slice_index_or (select c xs) j d ∷ []) → i < suc (length xs)
      → kept (slice_index_or (x ∷ xs) i d) ≡ slice_index_or (select c (x ∷ xs)) i d ∷ []
  kept_here x xs zero d more one rest less = one_of (kept x) (select c xs) d one ∙ ap (λ l. slice_index_or l 0 d ∷ []) (sym more)
  kept_here x xs (suc i) d more one rest less =
      rest i (omega arith)
      ∙ ap (λ y. y ∷ []) (sym (after_one (kept x) (select c xs) i d one))
      ∙ ap (λ l. slice_index_or l (suc i) d ∷ []) (sym more)

  kept_each : (xs : List (Ranked V)) (i : ℕ) (d : Ranked V) → length xs ≤ length (select c xs) → i < length xs → kept (slice_index_or xs i d) ≡ slice_index_or (select c xs) i d ∷ []
  kept_each [] i d all less = absurd (omega arith)
  kept_each (x ∷ xs) i d all less =
      let more = flat_map-cons kept x xs in
      let sum = ap length more ∙ length-append (kept x) (select c xs) in
      let one : length (kept x) ≡ 1 = omega (arith, kept_once x, long_select xs, sum, all) in
      let rest : length xs ≤ length (select c xs) = omega (arith, sum, one, all) in
      kept_here x xs i d more one (λ j l. kept_each xs j d rest l) less

  pub kept_places : (xs : List (Ranked V)) (places : List ℕ) (d : Ranked V) → length xs ≤ length (select c xs) → AreBelow (length xs) places → gathered d (select c xs) places ≡ select c (gathered d xs places)
  kept_places xs [] d all below = refl
  kept_places xs (p ∷ places) d all below =
      ap (λ l. slice_index_or (select c xs) p d ∷ l) (kept_places xs places d all (λ k e l. below (suc k) e (omega (arith, l))))
      ∙ ap (λ l. l ++ select c (gathered d xs places)) (sym (kept_each xs p d all (below 0 0 (omega arith))))
      ∙ sym (flat_map-cons kept (slice_index_or xs p d) (gathered d xs places))

-- the rows of a segment at places, read where they lie
pub in_place : (c : List Value → ℕ) (rows part : List (List Value)) (places lent : List ℕ) (read : List (Ranked Value)) → read ≡ select c (standing_rows rows) → length rows ≤ length read → AreBelow (length rows) places → lent ≡ places
    → part ≡ gathered [] rows places → gathered (ranked [] true_rank) read lent ≡ select c (standing_rows part)
in_place c rows part places lent read is all below same left =
    let many = length-map rows (λ values. ranked {V = Value} values true_rank) in
    ap (λ l. gathered (ranked [] true_rank) l lent) is
    ∙ ap (λ l. gathered (ranked [] true_rank) (select c (standing_rows rows)) l) same
    ∙ kept_places c (standing_rows rows) places (ranked [] true_rank) (omega (arith, all, ap length is, many)) (subst (λ n. AreBelow n places) (sym many) below)
    ∙ ap (λ l. select c l) (gathered_stand rows places ∙ ap standing_rows (sym left))
