-- Selections below GROUP BY and DISTINCT, by weights of classes.
use Rattle.std.proofs.Common.{◌≡◌, ℕ, ◌≤◌, List, [], ◌∷◌, ◌++◌, Bool, true, false, refl, sym, ◌∙◌, ap, arith, inl, inr}
use Rattle.std.proofs.Math.Dec.{ltb}
use Rattle.std.specs.Prelude.{map, min}
use Rattle.std.specs.List.{filter}
use Rattle.std.proofs.lemmas.Bool.{true≢false, cases_Bool, le-ltb, lt-ltb, ltb-false, ltb-true}
use Rattle.base_row_laws.specs.Ranked.{Ranked, ranked, true_rank}
use Rattle.base_row_laws.specs.Bags.{when, weigh, SameBag, IsIdentity, has, each_once, classes, OfBag, Each, top, bottom}
use Rattle.base_row_laws.specs.Rows.{same_row, lowered}
use Rattle.base_row_laws.specs.Operators.{select, group_by, distinct, least, greatest}
use Rattle.base_row_laws.specs.StandingLaws.{Stands}
use Rattle.base_row_laws.proofs.Lists.{Each-map, Each-filter, Each-both, Each-each_once, weigh-ext_each, Each-all, Each-weaker, Each-filter_true}
use Rattle.base_row_laws.proofs.Rows.{weigh-select, same_row_is}
use Rattle.base_row_laws.proofs.Classes.{same-sym, weigh-classes, classes_at, classes-map}
use Rattle.base_row_laws.proofs.OfBags.{OfBag-top, OfBag-bottom, OfBag-const}
use Rattle.base_row_laws.proofs.Standings.{each_has, group_stands, distinct_stands}

-- a list of at least one element
abbrev NotEmpty : {X : Type 0} → List X → Type 0
NotEmpty [] = ⊥
NotEmpty (x ∷ xs) = Unit {0}

module _ {V : Type 0} where
  -- of rows above Unknown a selection keeps those whose condition is
  select_is : (c : List V → ℕ) (xs : List (Ranked V)) → Each Stands xs → select c xs ≡ map (lowered c) (filter (λ x. ltb 1 (c x.values)) xs)
  select_is c [] all = refl
  select_is c (x ∷ xs) all =
      let ih = select_is c xs all.1 in
      let s = all.0.not_dropped in
      elim (cases_Bool (ltb 1 (c x.values))) [
        | inl t ↦ let l = ltb-true 1 (c x.values) t in let k : ltb 1 (min x.standing (c x.values)) ≡ true = lt-ltb 1 (min x.standing (c x.values)) (omega (arith, s, l)) in rw (t, k, ih)
        | inr f ↦ let l = ltb-false 1 (c x.values) f in let k : ltb 1 (min x.standing (c x.values)) ≡ false = le-ltb 1 (min x.standing (c x.values)) (omega (arith, l)) in rw (f, k, ih)
      ]

  top-lowered : (q : List V → ℕ) (m : ℕ) (ys : List (Ranked V)) → Each (λ y. q y.values ≡ m) ys → top (λ y. y.standing) (map (lowered q) ys) ≡ min (top (λ y. y.standing) ys) m
  top-lowered q m [] all = omega arith
  top-lowered q m (y ∷ ys) all = let e = all.0 in let ih = top-lowered q m ys all.1 in omega (arith, e, ih)

  bottom-under : (q : List V → ℕ) (m : ℕ) (ys : List (Ranked V)) → Each (λ y. q y.values ≡ m) ys → min (bottom true_rank (λ y. y.standing) (map (lowered q) ys)) m ≡ min (bottom true_rank (λ y. y.standing) ys) m
  bottom-under q m [] all = refl
  bottom-under q m (y ∷ ys) all = let e = all.0 in let ih = bottom-under q m ys all.1 in omega (arith, e, ih)

  bottom-lowered : (q : List V → ℕ) (m : ℕ) (ys : List (Ranked V)) → NotEmpty ys → Each (λ y. q y.values ≡ m) ys → bottom true_rank (λ y. y.standing) (map (lowered q) ys) ≡ min (bottom true_rank (λ y. y.standing) ys) m
  bottom-lowered q m [] s all = elim s [ ]
  bottom-lowered q m (y ∷ ys) s all = let e = all.0 in let ih = bottom-under q m ys all.1 in omega (arith, e, ih)

  -- a key that is there has a row
  keyed : (same : V → V → Bool) (is : IsIdentity same) (key : Ranked V → List V) (k : List V) (zs : List (Ranked V)) → has (same_row same) k (map key zs) ≡ true → NotEmpty (filter (λ x. same_row same (key x) k) zs)
  keyed same is key k [] h = absurd (true≢false (sym h))
  keyed same is key k (z ∷ zs) h = elim (cases_Bool (same_row same (key z) k)) [
    | inl t ↦ rw t tt
    | inr f ↦ let g : same_row same k (key z) ≡ false = same-sym (same_row same) (same_row_is same is) k (key z) ∙ f in let r : has (same_row same) k (map key zs) ≡ true = rw g at h in rw f (keyed same is key k zs r)
  ]

  module _ (same : V → V → Bool) (is : IsIdentity same) (key : List V → List V) (make : List V → List (Ranked V) → List V) (low : List (Ranked V) → ℕ) (c q : List V → ℕ)
      (make_bag : (k : List V) → OfBag (make k)) (low_bag : OfBag low)
      (made : (k : List V) (ys : List (Ranked V)) → make k (map (lowered (λ r. q (key r))) ys) ≡ make k ys)
      (lows : (m : ℕ) (ys : List (Ranked V)) → NotEmpty ys → Each (λ y. q (key y.values) ≡ m) ys → low (map (lowered (λ r. q (key r))) ys) ≡ min (low ys) m) where
    abbrev sr : List V → List V → Bool
    sr = same_row same

    abbrev K : Ranked V → List V
    K x = key x.values

    abbrev f : List V → List (Ranked V) → Ranked V
    f k ys = ranked (make k ys) (low ys)

    -- the condition c of a group of this key reads the key only, and says q of it
    abbrev Reads : List V → Type 0
    Reads k = (ys : List (Ranked V)) → c (make k ys) ≡ q k

    pub below_classes : (xs : List (Ranked V)) → Each (λ x. Reads (K x)) xs → Each Stands xs → Each Stands (classes sr K f xs)
        → SameBag (select c (classes sr K f xs)) (classes sr K f (select (λ r. q (key r)) xs))
    below_classes xs reads stands groups = record {
      weighs = λ h.
          let Q : List V → ℕ = λ r. q (key r) in
          let zs = filter (λ x. ltb 1 (Q x.values)) xs in
          let H : Ranked V → ℕ = λ s. h (lowered c s) in
          weigh-select h c (classes sr K f xs)
          ∙ weigh-ext_each Stands (λ s. when (ltb 1 (min s.standing (c s.values))) (H s)) (λ s. when (ltb 1 (c s.values)) (H s)) (classes sr K f xs) groups
          (λ s t. ap (λ b. when b (H s)) (above s.standing (c s.values) t.not_dropped))
          ∙ classes_at sr (same_row_is same is) K f (λ k. record { alike = λ us vs e. both (make k us) (make k vs) (low us) (low vs) ((make_bag k).alike us vs e) (low_bag.alike us vs e) }) H (λ s. ltb 1 (c s.values)) (λ k. ltb 1 (q k)) xs
          (Each-weaker (λ x. Reads (K x)) (λ x. (ys : List (Ranked V)) → ltb 1 (c (make (K x) ys)) ≡ ltb 1 (q (K x))) xs (λ x says ys. ap (ltb 1) (says ys)) reads)
          ∙ weigh-classes H sr K f zs
          ∙ weigh-ext_each (λ k. (has sr k (map K zs) ≡ true) × Reads k) (λ k. H (f k (filter (λ x. sr (K x) k) zs))) (λ k. h (f k (map (lowered Q) (filter (λ x. sr (K x) k) zs)))) (each_once sr (map K zs))
          (Each-each_once (λ k. (has sr k (map K zs) ≡ true) × Reads k) sr (map K zs)
          (Each-both (λ k. has sr k (map K zs) ≡ true) Reads (map K zs) (each_has sr (same_row_is same is) (map K zs))
          (Each-map Reads K zs (Each-filter (λ x. Reads (K x)) (λ x. ltb 1 (Q x.values)) xs reads))))
          (λ k there.
          let ys = filter (λ x. sr (K x) k) zs in
          let keys : Each (λ y. q (key y.values) ≡ q k) ys = Each-weaker (λ y. sr (K y) k ≡ true) (λ y. q (K y) ≡ q k) ys (λ y e. ap q ((same_row_is same is).tells (K y) k e)) (Each-filter_true (λ x. sr (K x) k) zs) in
          ap (λ m. h (ranked (make k ys) (min (low ys) m))) (there.1 ys) ∙ ap (λ m. h (ranked (make k ys) m)) (sym (lows (q k) ys (keyed same is K k zs there.0) keys)) ∙ ap (λ v. h (ranked v (low (map (lowered Q) ys)))) (sym (made k ys)))
          ∙ sym (weigh-classes h sr K (λ k ys. f k (map (lowered Q) ys)) zs)
          ∙ sym (classes-map h sr K f (lowered Q) zs)
          ∙ ap (λ l. weigh h (classes sr K f l)) (sym (select_is Q xs stands));
    }
      where
        above : (s m : ℕ) → 2 ≤ s → ltb 1 (min s m) ≡ ltb 1 m
        above s m l = elim (cases_Bool (ltb 1 m)) [
          | inl t ↦ let k = ltb-true 1 m t in lt-ltb 1 (min s m) (omega (arith, l, k)) ∙ sym t
          | inr n ↦ let k = ltb-false 1 m n in le-ltb 1 (min s m) (omega (arith, k)) ∙ sym n
        ]

        both : (u v : List V) (m n : ℕ) → u ≡ v → m ≡ n → ranked u m ≡ ranked v n
        both u v m n i j = ap (λ r. ranked r m) i ∙ ap (λ s. ranked v s) j

  pub select_below_distinct : (same : V → V → Bool) → IsIdentity same → (c : List V → ℕ) (xs : List (Ranked V)) → Each Stands xs
      → SameBag (select c (distinct same xs)) (distinct same (select c xs))
  select_below_distinct same is c xs stands =
      below_classes same is (λ r. r) (λ k ys. k) greatest c c (λ k. OfBag-const k) (OfBag-top (λ x. x.standing)) (λ k ys. refl) (λ m ys some all. top-lowered c m ys all) xs
      (Each-all (λ x. (ys : List (Ranked V)) → c x.values ≡ c x.values) xs (λ x ys. refl)) stands (distinct_stands same is xs stands)

  pub select_below_group : (same : V → V → Bool) → IsIdentity same → (key : List V → List V) (aggregates : List (Ranked V) → List V) (c q : List V → ℕ) (xs : List (Ranked V))
      → Each (λ x. (ys : List (Ranked V)) → c (key x.values ++ aggregates ys) ≡ q (key x.values)) xs
      → ((e : List V → ℕ) (ys : List (Ranked V)) → aggregates (map (lowered e) ys) ≡ aggregates ys) → OfBag aggregates → Each Stands xs
      → SameBag (select c (group_by same key aggregates xs)) (group_by same key aggregates (select (λ r. q (key r)) xs))
  select_below_group same is key aggregates c q xs reads blind bag stands =
      below_classes same is key (λ k ys. k ++ aggregates ys) least c q (λ k. record { alike = λ us vs e. ap (λ l. k ++ l) (bag.alike us vs e) }) (OfBag-bottom true_rank (λ x. x.standing))
      (λ k ys. ap (λ l. k ++ l) (blind (λ r. q (key r)) ys)) (λ m ys some all. bottom-lowered (λ r. q (key r)) m ys some all) xs reads stands (group_stands same key aggregates xs stands)
