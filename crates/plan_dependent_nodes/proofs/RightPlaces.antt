-- Lists of places in a domain row with a left row after it, one more.
use Rattle.std.proofs.Common.{◌≡◌, ℕ, ◌+◌, ◌<◌, List, [], ◌∷◌, ◌++◌, map, refl, sym, ap, ◌∙◌}
use Rattle.std.proofs.Common.{length, take, get_or, true, ◌==◌}
use Rattle.std.specs.Prelude.{Some, slice_get, slice_index_or}
use Rattle.std.proofs.lemmas.Bool.Decides.{Decides-eqb}
use Rattle.std.proofs.lemmas.List.{append-nil, append_assoc, map-append, take_more}
use Rattle.std.proofs.lemmas.List.Folds.{list_any_at}
use Rattle.base_row_laws.specs.Rows.{columns}
use Rattle.base_value.specs.declared.value.Value.{Value}
use Rattle.base_value.specs.declared.value.Value.TheVariants.{Null}
use Rattle.expr_conditions.specs.Ranks.{columns_from}
use Rattle.expr_conditions.proofs.Ranks.{run_more}
use Rattle.sql_bound_query.specs.Meaning.{Env, column}
use Rattle.plan_dependent_nodes.specs.declared.sight.OuterColumn.{OuterColumn}
use Rattle.plan_dependent_nodes.specs.Dependence.{domain_row}
use Rattle.plan_dependent_nodes.specs.FromGrowth.{IsFromDomain, IsRightPlace, AreRightPlaces}
use Rattle.plan_dependent_nodes.proofs.FromPlaces.{front_of}
use Rattle.plan_dependent_nodes.specs.Seeks.{has_place}
use Rattle.plan_dependent_nodes.proofs.InputTrees.{both_more}
use Rattle.plan_dependent_nodes.proofs.PlaceLists.{same_get}

module _ (outer : List OuterColumn) (so_far : List ℕ) (n start : ℕ) where
  -- the places of columns of the rows around
  pub record AreOuterPlaces (wanted : List OuterColumn) (places : List ℕ) : Type 0 where
    pub reads : (env : Env) (p d l : List Value) → length p ≡ n
        → IsFromDomain outer so_far start p env d
        → columns Null places (d ++ l) ≡ domain_row wanted env

  pub outer_none : AreOuterPlaces [] []
  outer_none = record { reads = λ env p d l m i. refl }

  outer_at : (c : OuterColumn) (at : ℕ) → slice_get outer at ≡ Some c → (env : Env)
      (p d l : List Value) → IsFromDomain outer so_far start p env d
      → slice_index_or (d ++ l) at Null ≡ column env c.level c.place
  outer_at c at found env p d l i =
      let D : List Value = domain_row outer env in
      let C : List Value = columns Null so_far p in
      ap (λ v. slice_index_or v at Null)
      (ap (λ v. v ++ l) i.begins ∙ append_assoc D (C ++ i.gap) l)
      ∙ front_of (λ (x : OuterColumn). column env x.level x.place) outer ((C ++ i.gap) ++ l) at c
      found

  pub outer_more : (wanted : List OuterColumn) (i : ℕ) (c : OuterColumn) (places now : List ℕ)
      (at : ℕ) → i < length wanted → c ≡ get_or wanted i c → now ≡ places ++ at ∷ []
      → AreOuterPlaces (take i wanted) places → slice_get outer at ≡ Some c
      → AreOuterPlaces (take (i + 1) wanted) now
  outer_more wanted i c places now at below is e a found = record {
    reads = λ env p d l m s.
        both_more (λ k. slice_index_or (d ++ l) k Null)
        (λ (x : OuterColumn). column env x.level x.place) places now at wanted i c below is e
        (a.reads env p d l m s) (outer_at c at found env p d l s);
  }

  pub outer_put : (wanted : List OuterColumn) (i : ℕ) (places now : List ℕ) (at : ℕ)
      → i < length wanted → now ≡ places ++ at ∷ [] → AreOuterPlaces (take i wanted) places
      → slice_get outer at ≡ Some (get_or wanted i (record { level = 0; place = 0 }))
      → AreOuterPlaces (take (i + 1) wanted) now
  outer_put wanted i places now at below e a found =
      let none : OuterColumn = record { level = 0; place = 0 } in
      outer_more wanted i (get_or wanted i none) places now at below
      (same_get wanted i none (get_or wanted i none) below) e a found

  -- and then of columns of the row so far
  pub right_none : (wanted : List OuterColumn) (places : List ℕ) → AreOuterPlaces wanted places
      → AreRightPlaces outer so_far n start wanted [] places
  right_none wanted places a = record {
    reads = λ env p d l m s. a.reads env p d l m s ∙ sym (append-nil (domain_row wanted env));
  }

  pub right_more : (wanted : List OuterColumn) (others : List ℕ) (j k : ℕ) (places now : List ℕ)
      (at : ℕ) → j < length others → k ≡ get_or others j k → now ≡ places ++ at ∷ []
      → AreRightPlaces outer so_far n start wanted (take j others) places
      → IsRightPlace outer so_far n start k at
      → AreRightPlaces outer so_far n start wanted (take (j + 1) others) now
  right_more wanted others j k places now at below is e a one = record {
    reads = λ env p d l m s.
        let f : ℕ → Value = λ x. slice_index_or (d ++ l) x Null in
        let g : ℕ → Value = λ x. slice_index_or (p ++ l) x Null in
        let W : List Value = domain_row wanted env in
        let more : take (j + 1) others ≡ take j others ++ k ∷ [] =
        take_more others j k below ∙ ap (λ y. take j others ++ y ∷ []) (sym is) in
        ap (map f) e ∙ map-append f places (at ∷ [])
        ∙ ap (λ z. z ++ f at ∷ []) (a.reads env p d l m s)
        ∙ ap (λ z. (W ++ map g (take j others)) ++ z ∷ []) (one.reads env p d l m s)
        ∙ append_assoc W (map g (take j others)) (g k ∷ [])
        ∙ ap (λ z. W ++ z)
        (sym (map-append g (take j others) (k ∷ [])) ∙ ap (map g) (sym more));
  }

  pub right_put : (wanted : List OuterColumn) (others : List ℕ) (j : ℕ) (places now : List ℕ)
      (at : ℕ) → j < length others → now ≡ places ++ at ∷ []
      → AreRightPlaces outer so_far n start wanted (take j others) places
      → IsRightPlace outer so_far n start (get_or others j 0) at
      → AreRightPlaces outer so_far n start wanted (take (j + 1) others) now
  right_put wanted others j places now at below e a one =
      right_more wanted others j (get_or others j 0) places now at below
      (same_get others j 0 (get_or others j 0) below) e a one

-- a list has its places
pub place_at : (places : List ℕ) (j : ℕ) → j < length places
    → has_place places (get_or places j 0) ≡ true
place_at places j below =
    list_any_at (λ (i : ℕ). i == get_or places j 0) places j 0 below
    ((Decides-eqb (get_or places j 0) (get_or places j 0)).1 refl)

-- ---- the left row

pub run_put : (places all now : List ℕ) (start i at : ℕ) → all ≡ places ++ columns_from start i
    → at ≡ start + i → now ≡ all ++ at ∷ [] → now ≡ places ++ columns_from start (i + 1)
run_put places all now start i at e is f =
    f ∙ ap (λ l. l ++ at ∷ []) e ∙ append_assoc places (columns_from start i) (at ∷ [])
    ∙ ap (λ l. places ++ l)
    (ap (λ k. columns_from start i ++ k ∷ []) is ∙ sym (run_more start i))

-- ---- the columns that a lateral item's query sees

-- an element more of a list that each element of another one gives
pub given_more : {X Y : Type 0} (f : X → Y) (xs : List X) (i : ℕ) (x : X) (before old now : List Y)
    (y : Y) → i < length xs → x ≡ get_or xs i x → old ≡ before ++ map f (take i xs)
    → now ≡ old ++ y ∷ [] → y ≡ f x → now ≡ before ++ map f (take (i + 1) xs)
given_more f xs i x before old now y below is e g h =
    g ∙ ap (λ l. l ++ y ∷ []) e ∙ append_assoc before (map f (take i xs)) (y ∷ [])
    ∙ ap (λ l. before ++ l)
    (ap (λ z. map f (take i xs) ++ z ∷ []) h ∙ sym (map-append f (take i xs) (x ∷ []))
    ∙ ap (map f)
    (ap (λ z. take i xs ++ z ∷ []) is ∙ sym (take_more xs i x below)))
