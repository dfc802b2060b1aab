-- How many rows of each kind a set operation gives, and at which standings.
use Rattle.std.proofs.Common.{◌≡◌, ℕ, zero, suc, ◌+◌, List, [], ◌∷◌, ◌++◌, Bool, true, false, refl, sym, ◌∙◌, ap, arith, length, inl, inr}
use Rattle.std.proofs.Math.Dec.{ltb}
use Rattle.std.specs.Prelude.{replicate}
use Rattle.std.specs.List.{filter}
use Rattle.std.proofs.lemmas.Bool.{cases_Bool, true≢false, lt-ltb}
use Rattle.base_row_laws.specs.Ranked.{Ranked, ranked}
use Rattle.base_row_laws.specs.Bags.{when, weigh, IsIdentity, has, count, each_once, Each}
use Rattle.base_row_laws.specs.Rows.{same_row}
use Rattle.base_row_laws.specs.Operators.{least, greatest}
use Rattle.base_row_laws.specs.Domains.{values_of}
use Rattle.base_row_laws.specs.StandingLaws.{Stands}
use Rattle.base_row_laws.proofs.Bags.{weigh-append, weigh-ext, weigh-map, weigh-filter, weigh-flat_map, SameBag-append}
use Rattle.base_row_laws.proofs.Lists.{Each-map, Each-each_once, Each-append, Each-flat_map, Each-all}
use Rattle.base_row_laws.proofs.Classes.{same-sym, count-each_once, has-count, weigh-without, without}
use Rattle.base_row_laws.proofs.Rows.{same_row_is}
use Rattle.base_row_laws.proofs.Alike as bags
use Rattle.base_row_laws.proofs.Standings.{distinct_stands}
use Rattle.base_set_rows.specs.declared.kind.ClassKind.{ClassKind}
use Rattle.base_set_rows.specs.SetOperations.{copies, alike, class_rows, by_classes, union}
use Rattle.base_set_rows.specs.declared.kind.ClassKind.TheVariants.{Intersect, Except}
use Rattle.base_set_rows.specs.SetLaws.{ByClassesCounts, ByClassesStandings, ByClassesStand, ByClassesKeep, UnionAlike, UnionStands, UnionKeeps}
use Rattle.base_set_rows.proofs.SetRows.{length_is, Each-copies, by_classes_each}

pub no_copies : (kind : ClassKind) (all : Bool) → copies kind all 0 0 ≡ 0
no_copies Intersect true = refl
no_copies Intersect false = refl
no_copies Except true = refl
no_copies Except false = refl

module _ {X : Type 0} (same : X → X → Bool) (is : IsIdentity same) where
  -- elements that aren't there weigh nothing
  none_weigh : (k : X) (n : X → ℕ) (zs : List X) → count same k zs ≡ 0 → weigh (λ j. when (same k j) (n j)) zs ≡ 0
  none_weigh k n [] e = refl
  none_weigh k n (z ∷ zs) e = elim (cases_Bool (same k z)) [
    | inl t ↦ (let e' : 1 + count same k zs ≡ 0 = rw t at e in absurd (omega (arith, e')))
    | inr f ↦ (let e' : 0 + count same k zs ≡ 0 = rw f at e in let ih = none_weigh k n zs (omega (arith, e')) in rw f (omega (arith, ih)))
  ]

  -- an element that is there once weighs its weight
  once_weigh : (k : X) (n : X → ℕ) (zs : List X) → has same k zs ≡ true → count same k zs ≡ 1 → weigh (λ j. when (same k j) (n j)) zs ≡ n k
  once_weigh k n zs there e =
      let own = is.meets k in
      let first : when (same k k) 1 ≡ 1 = ap (λ b. when b 1) own in
      let counts : count same k zs ≡ when (same k k) 1 + count same k (without same is k zs) = weigh-without same is (λ j. when (same k j) 1) k zs there in
      let rest : count same k (without same is k zs) ≡ 0 = omega (arith, counts, first, e) in
      let z = none_weigh k n (without same is k zs) rest in
      let mine : when (same k k) (n k) ≡ n k = ap (λ b. when b (n k)) own in
      weigh-without same is (λ j. when (same k j) (n j)) k zs there ∙ omega (arith, z, mine)

module _ {V : Type 0} (same : V → V → Bool) (is : IsIdentity same) where
  -- how many rows are identical to k
  alike-count : (k : List V) (zs : List (Ranked V)) → length (alike same k zs) ≡ count (same_row same) k (values_of zs)
  alike-count k zs =
      length_is (alike same k zs)
      ∙ weigh-filter (λ x. 1) (λ x. same_row same x.values k) zs
      ∙ weigh-ext (λ x. when (same_row same x.values k) 1) (λ x. when (same_row same k x.values) 1) zs (λ x. ap (λ b. when b 1) (same-sym (same_row same) (same_row_is same is) x.values k))
      ∙ sym (weigh-map (λ y. when (same_row same k y) 1) (λ (x : Ranked V). x.values) zs)

  pub alike-append : (k : List V) (xs ys : List (Ranked V)) → length (alike same k (xs ++ ys)) ≡ length (alike same k xs) + length (alike same k ys)
  alike-append k xs ys =
      let W : List (Ranked V) → ℕ = λ zs. weigh (λ x. when (same_row same x.values k) 1) zs in
      let l : (zs : List (Ranked V)) → length (alike same k zs) ≡ W zs = λ zs. length_is (alike same k zs) ∙ weigh-filter (λ x. 1) (λ x. same_row same x.values k) zs in
      let a = l (xs ++ ys) in let b = l xs in let c = l ys in
      let s = weigh-append (λ (x : Ranked V). when (same_row same x.values k) 1) xs ys in
      omega (arith, a, b, c, s)

  copies_weigh : (k j : List V) (s n : ℕ) → weigh (λ x. when (same_row same x.values k) 1) (replicate n (ranked j s)) ≡ when (same_row same k j) n
  copies_weigh k j s zero = sym (elim (same_row same k j) as (λ b. when b 0 ≡ 0) [ true ↦ refl | false ↦ refl ])
  copies_weigh k j s (suc n) =
      let ih = copies_weigh k j s n in
      let turned = same-sym (same_row same) (same_row_is same is) j k in
      elim (cases_Bool (same_row same k j)) [
        | inl t ↦ (let ih' : weigh (λ x. when (same_row same x.values k) 1) (replicate n (ranked j s)) ≡ when true n = ih ∙ ap (λ b. when b n) t in
            let u = turned ∙ t in rw (u, t) (omega (arith, ih')))
        | inr f ↦ (let ih' : weigh (λ x. when (same_row same x.values k) 1) (replicate n (ranked j s)) ≡ when false n = ih ∙ ap (λ b. when b n) f in
            let u = turned ∙ f in rw (u, f) (omega (arith, ih')))
      ]

  pub by_classes_counts : ByClassesCounts same
  by_classes_counts kind all xs ys k =
      let zs = xs ++ ys in
      let ks = each_once (same_row same) (values_of zs) in
      let n : List V → ℕ = λ j. copies kind all (length (alike same j xs)) (length (alike same j ys)) in
      let W : Ranked V → ℕ = λ x. when (same_row same x.values k) 1 in
      let C = class_rows same kind all xs ys in
      let ris = same_row_is same is in
      let all_weigh : length (alike same k (by_classes same kind all xs ys)) ≡ weigh (λ j. when (same_row same k j) (n j)) ks =
      length_is (alike same k (by_classes same kind all xs ys))
      ∙ weigh-filter (λ x. 1) (λ x. same_row same x.values k) (by_classes same kind all xs ys)
      ∙ weigh-flat_map W C ks
      ∙ weigh-ext (λ j. weigh W (C j)) (λ j. when (same_row same k j) (n j)) ks (λ j. copies_weigh k j (least (alike same j zs)) (n j)) in
      all_weigh ∙ elim (cases_Bool (has (same_row same) k (values_of zs))) [
        | inl t ↦ (let one : count (same_row same) k ks ≡ 1 = count-each_once (same_row same) ris k (values_of zs) ∙ ap (λ b. when b 1) t in
            let there : has (same_row same) k ks ≡ true = has-count (same_row same) ris k ks ∙ ap (λ m. ltb 0 m) one in
            once_weigh (same_row same) ris k n ks there one)
        | inr f ↦ (let none : count (same_row same) k ks ≡ 0 = count-each_once (same_row same) ris k (values_of zs) ∙ ap (λ b. when b 1) f in
            let zero_all : count (same_row same) k (values_of zs) ≡ 0 = absent (count (same_row same) k (values_of zs)) (sym (has-count (same_row same) ris k (values_of zs)) ∙ f) in
            let sum = alike-append k xs ys in let whole = alike-count k zs in
            let a : length (alike same k xs) ≡ 0 = omega (arith, sum, whole, zero_all) in
            let b : length (alike same k ys) ≡ 0 = omega (arith, sum, whole, zero_all) in
            none_weigh (same_row same) ris k n ks none ∙ sym (rw (a, b) (no_copies kind all)))
      ]
    where
      absent : (n : ℕ) → ltb 0 n ≡ false → n ≡ 0
      absent zero e = refl
      absent (suc n) e = absurd (true≢false (sym (lt-ltb 0 (suc n) (omega arith)) ∙ e))

  pub by_classes_standings : ByClassesStandings same
  by_classes_standings kind all xs ys =
      let S : Ranked V → Type 0 = λ x. x.standing ≡ least (alike same x.values (xs ++ ys)) in
      let ks = each_once (same_row same) (values_of (xs ++ ys)) in
      Each-flat_map (λ k. Unit {0}) S (class_rows same kind all xs ys) ks (Each-all (λ k. Unit {0}) ks (λ k. tt))
      (λ k u. Each-copies S (ranked k (least (alike same k (xs ++ ys)))) (copies kind all (length (alike same k xs)) (length (alike same k ys))) refl)

  pub least_stands : (p : Ranked V → Bool) (k : List V) (zs : List (Ranked V)) → Each Stands zs → Stands (ranked k (least (filter p zs)))
  least_stands p k [] all = record { not_dropped = omega arith; within = omega arith }
  least_stands p k (z ∷ zs) all =
      let ih = least_stands p k zs all.1 in
      elim (cases_Bool (p z)) [
        | inl t ↦ (let a = all.0.not_dropped in let b = ih.not_dropped in let c = ih.within in
            rw t (record { not_dropped = omega arith; within = omega arith }))
        | inr f ↦ rw f ih
      ]

  pub by_classes_stand : ByClassesStand same
  by_classes_stand kind all xs ys a b =
      let zs = xs ++ ys in
      let ks = each_once (same_row same) (values_of zs) in
      Each-flat_map (λ k. Unit {0}) Stands (class_rows same kind all xs ys) ks (Each-all (λ k. Unit {0}) ks (λ k. tt))
      (λ k u. Each-copies Stands (ranked k (least (alike same k zs))) (copies kind all (length (alike same k xs)) (length (alike same k ys)))
      (least_stands (λ x. same_row same x.values k) k zs (Each-append Stands xs ys a b)))

  pub union_stands : UnionStands same
  union_stands true xs ys a b = Each-append Stands xs ys a b
  union_stands false xs ys a b = distinct_stands same is (xs ++ ys) (Each-append Stands xs ys a b)

  pub union_any : (P : List V → Type 0) (all : Bool) (xs ys : List (Ranked V)) → Each (λ (x : Ranked V). P x.values) xs → Each (λ (x : Ranked V). P x.values) ys
      → Each (λ (x : Ranked V). P x.values) (union same all xs ys)
  union_any P true xs ys a b = Each-append (λ (x : Ranked V). P x.values) xs ys a b
  union_any P false xs ys a b =
      let zs = xs ++ ys in
      Each-map (λ (x : Ranked V). P x.values) (λ k. ranked k (greatest (filter (λ x. same_row same x.values k) zs))) (each_once (same_row same) (values_of zs))
      (Each-each_once P (same_row same) (values_of zs) (Each-map P (λ (x : Ranked V). x.values) zs (Each-append (λ (x : Ranked V). P x.values) xs ys a b)))

  pub union_keeps : UnionKeeps same
  union_keeps p all xs ys a b = union_any (λ k. p k ≡ true) all xs ys a b

  pub by_classes_keep : ByClassesKeep same
  by_classes_keep p kind all xs ys a b = by_classes_each same is (λ k. p k ≡ true) kind all xs ys a b

  pub union_alike : UnionAlike same
  union_alike true xs us ys vs e f = SameBag-append e f
  union_alike false xs us ys vs e f = bags.distinct_alike same is (xs ++ ys) (us ++ vs) (SameBag-append e f)
