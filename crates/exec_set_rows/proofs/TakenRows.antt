-- INTERSECT and EXCEPT by the groups of both sides' rows by all their columns.
use Rattle.std.proofs.Common.{◌≡◌, ℕ, zero, suc, ◌+◌, List, [], ◌∷◌, ◌++◌, Bool, true, not, refl, sym, ◌∙◌, ap, subst, arith, length, map, inl, inr}
use Rattle.std.specs.Prelude.{replicate}
use Rattle.std.specs.List.{All, filter, range_with_len}
use Rattle.std.proofs.lemmas.Bool.{cases_Bool}
use Rattle.std.proofs.lemmas.List.{append-nil}
use Rattle.base_row_laws.specs.Ranked.{Ranked, ranked, true_rank}
use Rattle.base_row_laws.specs.Bags.{each_once, Each}
use Rattle.base_row_laws.specs.Rows.{same_row, columns}
use Rattle.base_row_laws.specs.Operators.{least}
use Rattle.base_row_laws.specs.Domains.{values_of}
use Rattle.base_row_laws.specs.Numbers.{place_in, numbers_of}
use Rattle.base_row_laws.proofs.Lists.{map-ext}
use Rattle.base_value.specs.declared.value.Value.{Value}
use Rattle.base_value.specs.declared.value.Value.TheVariants.{Null}
use Rattle.base_value.specs.Value.{same_value}
use Rattle.base_value.proofs.Identity.{value_identity}
use Rattle.base_set_rows.specs.declared.kind.ClassKind.{ClassKind}
use Rattle.base_set_rows.specs.SetOperations.{by_classes}
use Rattle.base_set_rows.specs.Numbered.{numbers_taken, each_class}
use Rattle.base_set_rows.proofs.Counted.{no_copies}
use Rattle.base_set_rows.proofs.Taken.{by_numbers}
use Rattle.base_columns.specs.Lists.{gathered}
use Rattle.plan_algebra.specs.Aggregates.{aggregates_of}
use Rattle.plan_algebra.specs.Plans.{groups}
use Rattle.exec_hash_group.specs.Keys.{key_rows}
use Rattle.exec_hash_group.specs.Grouping.{group_numbers}
use Rattle.exec_hash_group.proofs.Ranks.{all_keys}

-- a row's values are all of a width
abbrev W : ℕ → Ranked Value → Type 0
W w r = length r.values ≡ w

wide_each : (w : ℕ) (rows : List (Ranked Value)) → All (W w) rows → Each (W w) rows
wide_each w [] h = tt
wide_each w (r ∷ rows) h = (h 0 r (omega arith), wide_each w rows (λ k d l. h (suc k) d (omega (arith, l))))

-- rows that have the same key by all their columns
keyed : (by : List ℕ) (k : List Value) (rows : List (Ranked Value)) → map (λ (r : Ranked Value). columns Null by r.values) rows ≡ values_of rows
    → filter (λ x. same_row same_value (columns Null by x.values) k) rows ≡ filter (λ x. same_row same_value x.values k) rows
keyed by k [] e = refl
keyed by k (r ∷ rows) e =
    let here : columns Null by r.values ≡ r.values = first_is e in
    let ih = keyed by k rows (rest_is e) in
    rw here (elim (cases_Bool (same_row same_value r.values k)) [ inl t ↦ rw t (ap (λ l. r ∷ l) ih) | inr f ↦ rw f ih ])
  where
    first_is : {X : Type 0} {x y : X} {xs ys : List X} → x ∷ xs ≡ y ∷ ys → x ≡ y
    first_is e = cc

    rest_is : {X : Type 0} {x y : X} {xs ys : List X} → x ∷ xs ≡ y ∷ ys → xs ≡ ys
    rest_is e = cc

-- with columns: the groups are the classes, and rows are numbered as they are
groups_are : (c : ℕ) (cs : List ℕ) (rows : List (Ranked Value)) → key_rows (c ∷ cs) rows ≡ values_of rows → groups (c ∷ cs) [] rows ≡ each_class same_value rows
unfolding aggregates_of
groups_are c cs rows e =
    let K : List Value → List Value = columns Null (c ∷ cs) in
    let F : List Value → Ranked Value = λ k. ranked (k ++ []) (least (filter (λ x. same_row same_value (K x.values) k) rows)) in
    let G : List Value → Ranked Value = λ k. ranked k (least (filter (λ x. same_row same_value x.values k) rows)) in
    map-ext F G (each_once (same_row same_value) (key_rows (c ∷ cs) rows))
    (λ k. ap (λ v. ranked v (least (filter (λ x. same_row same_value (K x.values) k) rows))) (append-nil k) ∙ ap (λ l. ranked k (least l)) (keyed (c ∷ cs) k rows e))
    ∙ ap (λ ks. map G (each_once (same_row same_value) ks)) e

-- without columns all rows are one class
no_values : (vs : List Value) → length vs ≡ 0 → vs ≡ []
no_values [] l = refl
no_values (v ∷ vs) l = absurd (omega (arith, l))

no_other : (zs : List (Ranked Value)) → Each (W 0) zs → filter (λ y. not (same_row same_value [] y)) (each_once (same_row same_value) (values_of zs)) ≡ []
no_other [] h = refl
no_other (z ∷ zs) h =
    let E : List (List Value) = each_once (same_row same_value) (values_of zs) in
    let other : List Value → List Value → Bool = λ v y. not (same_row same_value v y) in
    subst (λ v. filter (other []) (v ∷ filter (other v) E) ≡ []) (sym (no_values z.values h.0)) (ap (filter (other [])) (no_other zs h.1))

one_key : (z : Ranked Value) (zs : List (Ranked Value)) → Each (W 0) (z ∷ zs) → each_once (same_row same_value) (values_of (z ∷ zs)) ≡ [] ∷ []
one_key z zs h = let e : z.values ≡ [] = no_values z.values h.0 in rw e (ap (λ l. [] ∷ l) (no_other zs h.1))

all_alike : (zs : List (Ranked Value)) → Each (W 0) zs → filter (λ x. same_row same_value x.values []) zs ≡ zs
all_alike [] h = refl
all_alike (z ∷ zs) h =
    let t : same_row same_value z.values [] ≡ true = ap (λ v. same_row same_value v []) (no_values z.values h.0) in
    rw t (ap (λ l. z ∷ l) (all_alike zs h.1))

one_class : (z : Ranked Value) (zs : List (Ranked Value)) → Each (W 0) (z ∷ zs) → each_class same_value (z ∷ zs) ≡ groups [] [] (z ∷ zs)
unfolding aggregates_of
one_class z zs h =
    let G : List Value → Ranked Value = λ k. ranked k (least (filter (λ x. same_row same_value x.values k) (z ∷ zs))) in
    ap (map G) (one_key z zs h) ∙ ap (λ l. ranked [] (least l) ∷ []) (all_alike (z ∷ zs) h)

all_zero : (zs : List (Ranked Value)) → Each (W 0) zs → map (place_in (same_row same_value) ([] ∷ [])) (values_of zs) ≡ replicate (length zs) 0
all_zero [] h = refl
all_zero (z ∷ zs) h = let e : z.values ≡ [] = no_values z.values h.0 in rw e (ap (λ l. 0 ∷ l) (all_zero zs h.1))

numbered_zero : (z : Ranked Value) (zs : List (Ranked Value)) → Each (W 0) (z ∷ zs) → numbers_of (same_row same_value) (values_of (z ∷ zs)) ≡ group_numbers [] (z ∷ zs)
numbered_zero z zs h = ap (λ ds. map (place_in (same_row same_value) ds) (values_of (z ∷ zs))) (one_key z zs h) ∙ all_zero (z ∷ zs) h

module _ (kind : ClassKind) (all : Bool) where
  abbrev none : Ranked Value
  none = ranked [] true_rank

  -- the rows that are taken of the groups, where these are the classes
  of_classes : (xs ys : List (Ranked Value)) (by : List ℕ) → groups by [] (xs ++ ys) ≡ each_class same_value (xs ++ ys)
      → group_numbers by (xs ++ ys) ≡ numbers_of (same_row same_value) (values_of (xs ++ ys))
      → gathered none (groups by [] (xs ++ ys)) (numbers_taken kind all (length xs) (group_numbers by (xs ++ ys)) (length (groups by [] (xs ++ ys)))) ≡ by_classes same_value kind all xs ys
  of_classes xs ys by g n =
      ap (λ l. gathered none l (numbers_taken kind all (length xs) (group_numbers by (xs ++ ys)) (length l))) g
      ∙ ap (λ l. gathered none (each_class same_value (xs ++ ys)) (numbers_taken kind all (length xs) l (length (each_class same_value (xs ++ ys))))) n
      ∙ sym (by_numbers same_value value_identity kind all xs ys none)

  -- of no rows of no columns
  of_nothing : gathered none (groups [] [] []) (numbers_taken kind all 0 (group_numbers [] []) 1) ≡ by_classes same_value kind all [] []
  unfolding numbers_taken
  of_nothing = ap (λ m. gathered none (groups [] [] []) (replicate m 0 ++ [])) (no_copies kind all)

  of_width : (w : ℕ) (xs ys : List (Ranked Value)) → Each (W w) (xs ++ ys) → All (W w) (xs ++ ys)
      → gathered none (groups (range_with_len 0 w) [] (xs ++ ys)) (numbers_taken kind all (length xs) (group_numbers (range_with_len 0 w) (xs ++ ys)) (length (groups (range_with_len 0 w) [] (xs ++ ys))))
      ≡ by_classes same_value kind all xs ys
  of_width zero [] [] h wide = of_nothing
  of_width zero [] (y ∷ ys) h wide = of_classes [] (y ∷ ys) [] (sym (one_class y ys h)) (sym (numbered_zero y ys h))
  of_width zero (x ∷ xs) ys h wide = of_classes (x ∷ xs) ys [] (sym (one_class x (xs ++ ys) h)) (sym (numbered_zero x (xs ++ ys) h))
  of_width (suc w) xs ys h wide =
      let keys = all_keys (suc w) (xs ++ ys) wide in
      of_classes xs ys (range_with_len 0 (suc w)) (groups_are 0 (range_with_len (0 + 1) w) (xs ++ ys) keys) (ap (numbers_of (same_row same_value)) keys)

  -- The rows taken of both sides' rows with their classes are those of the operation.
  pub taken_are : (w : ℕ) (xs ys both keys taken : List (Ranked Value)) (numbers : List ℕ) → both ≡ xs ++ ys → All (W w) both
      → numbers ≡ group_numbers (range_with_len 0 w) both → keys ≡ groups (range_with_len 0 w) [] both
      → taken ≡ gathered none keys (numbers_taken kind all (length xs) numbers (length keys)) → taken ≡ by_classes same_value kind all xs ys
  taken_are w xs ys both keys taken numbers is_both wide is_numbers is_keys is_taken =
      let by = range_with_len 0 w in
      let wide' : All (W w) (xs ++ ys) = subst (λ rows. All (W w) rows) is_both wide in
      is_taken
      ∙ ap (λ n. gathered none keys (numbers_taken kind all (length xs) n (length keys))) is_numbers
      ∙ ap (λ k. gathered none k (numbers_taken kind all (length xs) (group_numbers by both) (length k))) is_keys
      ∙ ap (λ rows. gathered none (groups by [] rows) (numbers_taken kind all (length xs) (group_numbers by rows) (length (groups by [] rows)))) is_both
      ∙ of_width w xs ys (wide_each w (xs ++ ys) wide') wide'
