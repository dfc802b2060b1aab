-- Domains: how they come about, the fill, and from each domain row to the whole domain.
use Rattle.std.proofs.Common.{◌≡◌, ℕ, ◌+◌, ◌≤◌, List, [], ◌∷◌, ◌++◌, Bool, true, false, refl, sym, ◌∙◌, ap, subst, arith, inl, inr, length}
use Rattle.std.proofs.Math.Dec.{ltb}
use Rattle.std.specs.Prelude.{not, ◌||◌, map}
use Rattle.std.specs.List.{filter}
use Rattle.std.proofs.lemmas.Bool.{cases_Bool, true≢false, and_parts, cases_lt, lt-ltb, or_parts, not-true}
use Rattle.std.proofs.lemmas.List.{append_assoc, append-nil, map-id}
use Rattle.base_row_laws.specs.Ranked.{Ranked, ranked}
use Rattle.base_row_laws.specs.Bags.{when, weigh, SameBag, IsIdentity, has, count, each_once, Each}
use Rattle.base_row_laws.specs.Rows.{same_row, starts, starts_any, after, unit_row}
use Rattle.base_row_laws.specs.Operators.{or_else, domain_node, fill}
use Rattle.base_row_laws.specs.Domains.{values_of, under, no_two, meeting, IsDomain, Meets}
use Rattle.base_row_laws.proofs.Bags.{when-zero, weigh-ext, weigh-swap, weigh-map, weigh-filter, weigh-flat_map, weigh-zero}
use Rattle.base_row_laws.proofs.Lists.{weigh-ext_each, Each-map, Each-map_back, Each-weaker, Each-each_once, Each-each_once_back, Each-filter_true, Each-all, Each-both, map-map}
use Rattle.base_row_laws.proofs.Classes.{count-filter, has-count}
use Rattle.base_row_laws.proofs.Rows.{same_row_is, starts_same, starts_through, starts_long, map-after_after, map-after_nil, Meets-weighs, Meets-from}
use Rattle.base_row_laws.proofs.Nodes.{Each-or_else, map-or_else, SameBag-or_else, Follows, Follows-append, expand_meets}

module _ {X : Type 0} (same : X → X → Bool) (is : IsIdentity same) (h : X → ℕ) (x : X) where
  pub none_of : (xs : List X) → count same x xs ≡ 0 → weigh (λ y. when (same x y) (h y)) xs ≡ 0
  none_of [] e = refl
  none_of (y ∷ ys) e = elim (cases_Bool (same x y)) [
    | inl t ↦ let e' : 1 + count same x ys ≡ 0 = rw t at e in absurd (omega arith)
    | inr f ↦ let e' : 0 + count same x ys ≡ 0 = rw f at e in let ih = none_of ys (omega arith) in rw f (omega (arith, ih))
  ]

  pub one_of : (xs : List X) → count same x xs ≡ 1 → weigh (λ y. when (same x y) (h y)) xs ≡ h x
  one_of [] e = absurd (omega arith)
  one_of (y ∷ ys) e = elim (cases_Bool (same x y)) [
    | inl t ↦ let e' : 1 + count same x ys ≡ 1 = rw t at e in let no = none_of ys (omega arith) in let l = is.tells x y t in rw (t, ← l) (omega (arith, no))
    | inr f ↦ let e' : 0 + count same x ys ≡ 1 = rw f at e in let ih = one_of ys (omega arith) in rw f (omega (arith, ih))
  ]

has_each : {X : Type 0} (same : X → X → Bool) (is : IsIdentity same) (xs : List X) → Each (λ x. has same x xs ≡ true) xs
has_each {X} same is [] = tt
has_each {X} same is (x ∷ xs) = (rw (is.meets x), Each-weaker (λ y. has same y xs ≡ true) (λ y. has same y (x ∷ xs) ≡ true) xs (λ y t. later (same y x) (has same y xs) t) (has_each same is xs))
  where
    later : (a b : Bool) → b ≡ true → (a || b) ≡ true
    later true b e = refl
    later false b e = e

module _ {V : Type 0} (same : V → V → Bool) (is : IsIdentity same) where
  -- a list with no two identical has each of its elements once
  count_none : (d : List V) (D : List (List V)) → has (same_row same) d D ≡ false → count (same_row same) d D ≡ 0
  count_none d D f = elim (cases_lt 0 (count (same_row same) d D)) [
    | inl l ↦ absurd (true≢false (sym (has-count (same_row same) (same_row_is same is) d D ∙ lt-ltb 0 (count (same_row same) d D) l) ∙ f))
    | inr l ↦ omega arith
  ]

  counts : (D : List (List V)) → no_two same D ≡ true → Each (λ d. count (same_row same) d D ≡ 1) D
  counts [] e = tt
  counts (d ∷ D) e =
      let p = and_parts (not (has (same_row same) d D)) (no_two same D) e in
      let out = not-true (has (same_row same) d D) p.0 in
      let zero' = count_none d D out in let me = (same_row_is same is).meets d in (
        rw me (omega (arith, zero')),
        Each-weaker (λ e. (count (same_row same) e D ≡ 1) × (has (same_row same) e D ≡ true)) (λ e. count (same_row same) e (d ∷ D) ≡ 1) D
            (λ e q. elim (cases_Bool (same_row same e d)) [
              | inr f ↦ rw f (omega (arith, q.0))
              | inl t ↦ absurd (true≢false (sym q.1 ∙ subst (λ z. has (same_row same) z D ≡ false) (sym ((same_row_is same is).tells e d t)) out))
            ])
            (Each-both (λ e. count (same_row same) e D ≡ 1) (λ e. has (same_row same) e D ≡ true) D (counts D p.1) (has_each (same_row same) (same_row_is same is) D)),
      )

  no_two-filter : (p : List V → Bool) (D : List (List V)) → no_two same D ≡ true → no_two same (filter p D) ≡ true
  no_two-filter p [] e = refl
  no_two-filter p (d ∷ D) e =
      let q = and_parts (not (has (same_row same) d D)) (no_two same D) e in
      let ih = no_two-filter p D q.1 in
      let out = not-true (has (same_row same) d D) q.0 in
      elim (cases_Bool (p d)) [
        | inr f ↦ rw f ih
        | inl t ↦
            let c = count-filter (same_row same) (same_row_is same is) d p D ∙ ap (λ n. when (p d) n) (count_none d D out) ∙ when-zero (p d) in
            let out' : has (same_row same) d (filter p D) ≡ false = has-count (same_row same) (same_row_is same is) d (filter p D) ∙ ap (λ n. ltb 0 n) c in
            rw (t, out', ih)
      ]

  pub no_two-each_once : (ks : List (List V)) → no_two same (each_once (same_row same) ks) ≡ true
  no_two-each_once [] = refl
  no_two-each_once (k ∷ ks) =
      let N = each_once (same_row same) ks in let p : List V → Bool = λ y. not (same_row same k y) in
      let me = (same_row_is same is).meets k in
      let c : count (same_row same) k (filter p N) ≡ 0 = count-filter (same_row same) (same_row_is same is) k p N ∙ rw me in
      let out : has (same_row same) k (filter p N) ≡ false = has-count (same_row same) (same_row_is same is) k (filter p N) ∙ ap (λ n. ltb 0 n) c in
      rw (out, no_two-filter p N (no_two-each_once ks))

  -- the domain's node is a domain
  pub domain_is : (pick : List V → List V) (n : ℕ) (xs : List (Ranked V)) → Each (λ x. length (pick x.values) ≡ n) xs → IsDomain same n (domain_node same pick xs)
  domain_is pick n xs w =
      let ks = map (λ x. pick x.values) xs in let N = each_once (same_row same) ks in
      record {
        widths = Each-map (λ e. length e.values ≡ n) (λ k. ranked k 5) N (Each-each_once (λ k. length k ≡ n) (same_row same) ks (Each-map (λ k. length k ≡ n) (λ x. pick x.values) xs w));
        standings = Each-map (λ e. e.standing ≡ 5) (λ k. ranked k 5) N (Each-all (λ k. 5 ≡ 5) N (λ k. refl));
        apart = ap (no_two same) (map-map (λ e. e.values) (λ k. ranked k 5) N ∙ map-id N) ∙ no_two-each_once ks;
      }

  -- a domain has each of its rows once
  pub domain_alone : (n : ℕ) (ds : List (Ranked V)) → IsDomain same n ds → Each (λ e. Meets same e.values ds unit_row) ds
  domain_alone n ds dom =
      let keys = values_of ds in
      let once = Each-map_back (λ d. count (same_row same) d keys ≡ 1) (λ e. e.values) ds (counts keys dom.apart) in
      let P : Ranked V → Type 0 = λ j. (length j.values ≡ n) × (j.standing ≡ 5) in
      Each-weaker (λ e. (length e.values ≡ n) × (count (same_row same) e.values keys ≡ 1)) (λ e. Meets same e.values ds unit_row) ds
      (λ e p. Meets-from same is e.values ds unit_row (Each-weaker (λ j. length j.values ≡ n) (λ j. length e.values ≤ length j.values) ds (λ j q. omega (arith, p.0, q)) dom.widths)
      (λ h.
      weigh-ext_each P (λ j. when (starts same e.values j.values) (h j)) (λ j. when (same_row same e.values j.values) (h (ranked j.values 5))) ds (Each-both (λ j. length j.values ≡ n) (λ j. j.standing ≡ 5) ds dom.widths dom.standings)
      (λ j q. ap (λ b. when b (h j)) (starts_same same is e.values j.values (q.0 ∙ sym p.0)) ∙ ap (λ s. when (same_row same e.values j.values) (h (ranked j.values s))) q.1)
      ∙ sym (weigh-map (λ k. when (same_row same e.values k) (h (ranked k 5))) (λ j. j.values) ds)
      ∙ one_of (same_row same) (same_row_is same is) (λ k. h (ranked k 5)) e.values keys p.1
      ∙ sym (ap (λ l. h (ranked l 5) + 0) (append-nil e.values) ∙ omega arith)))
      (Each-both (λ e. length e.values ≡ n) (λ e. count (same_row same) e.values keys ≡ 1) ds dom.widths once)

  -- each left row's domain row is met
  pub domain_meets : (pick : List V → List V) (xs ys : List (Ranked V)) (R : List V → List (Ranked V)) → Each (λ e. Meets same e.values ys (R e.values)) (domain_node same pick xs) → Each (λ x. Meets same (pick x.values) ys (R (pick x.values))) xs
  domain_meets pick xs ys R all =
      Each-map_back (λ k. Meets same k ys (R k)) (λ x. pick x.values) xs
      (Each-each_once_back (same_row same) (same_row_is same is) (λ k. Meets same k ys (R k)) (map (λ x. pick x.values) xs)
      (Each-map_back (λ e. Meets same e.values ys (R e.values)) (λ k. ranked k 5) (each_once (same_row same) (map (λ x. pick x.values) xs)) all))

  -- fill: each domain row has its groups or the empty one
  pub fill_meets : (empty : List V) (n : ℕ) (ds gs : List (Ranked V)) (G : List V → List (Ranked V)) → IsDomain same n ds → Each (λ e. Meets same e.values gs (G e.values)) ds
      → Each (λ e. Meets same e.values (fill same empty ds gs) (or_else (G e.values) (ranked empty 5))) ds
  fill_meets empty n ds gs G dom all =
      let W : Ranked V → Type 0 = λ e. length e.values ≡ n in
      let B : Ranked V → List (Ranked V) = λ e. or_else (filter (λ g. starts same e.values g.values) gs) (ranked (e.values ++ empty) 5) in
      let B' : Ranked V → List (Ranked V) = λ e. or_else (map (after e.values) (G e.values)) (ranked (e.values ++ empty) 5) in
      Each-weaker (λ d. W d × Meets same d.values ds unit_row) (λ d. Meets same d.values (fill same empty ds gs) (or_else (G d.values) (ranked empty 5))) ds
      (λ d p.
      let T : Ranked V → List (Ranked V) = λ l. or_else (map (after l.values) (G (d.values ++ l.values))) (ranked (l.values ++ empty) 5) in
      let m = expand_meets same is d.values ds unit_row B B' T p.1
      (Each-weaker (λ e. W e × Meets same e.values gs (G e.values)) (λ e. Each (Follows same d.values e) (B e) × (starts same d.values e.values ≡ true → SameBag (B e) (B' e))) ds
      (λ e q. (
        Each-or_else (Follows same d.values e) (filter (λ g. starts same e.values g.values) gs) (ranked (e.values ++ empty) 5)
            (Each-weaker (λ g. starts same e.values g.values ≡ true) (Follows same d.values e) (filter (λ g. starts same e.values g.values) gs)
            (λ g t. record { like = starts_through same is d.values e.values g.values (q.0 ∙ sym p.0) t; wide = let k = starts_long same is e.values g.values t in omega (arith, k, q.0, p.0) })
            (Each-filter_true (λ g. starts same e.values g.values) gs))
            (Follows-append same is d.values e empty 5 (omega (arith, q.0, p.0))),
        λ t. SameBag-or_else (filter (λ g. starts same e.values g.values) gs) (map (after e.values) (G e.values)) (ranked (e.values ++ empty) 5) q.1.same_bag,
      ))
      (Each-both W (λ e. Meets same e.values gs (G e.values)) ds dom.widths all))
      (λ l. rw (map-after_after d.values l.values (G (d.values ++ l.values)), append_assoc d.values l.values empty)
      (map-or_else (after d.values) (map (after l.values) (G (d.values ++ l.values))) (ranked (l.values ++ empty) 5))) in
      let m' : Meets same d.values (fill same empty ds gs) (or_else (map (after []) (G (d.values ++ []))) (ranked empty 5) ++ []) = m in
      rw (append-nil d.values, map-after_nil (G d.values), append-nil (or_else (G d.values) (ranked empty 5))) at m')
      (Each-both W (λ d. Meets same d.values ds unit_row) ds dom.widths (domain_alone n ds dom))

  -- from each domain row to the domain
  two_starts : (d e r : List V) → length e ≡ length d → starts same d r ≡ true → starts same e r ≡ true → same_row same d e ≡ true
  two_starts d e r n s t = sym (starts_same same is d e n) ∙ sym (starts_through same is d e r n t) ∙ s

  starts_none : (d r : List V) (D : List (List V)) → starts same d r ≡ true → Each (λ e. length e ≡ length d) D → has (same_row same) d D ≡ false → Each (λ e. starts same e r ≡ false) D
  starts_none d r [] s w lone = tt
  starts_none d r (e ∷ D) s w lone =
      let p = or_parts (same_row same d e) (has (same_row same) d D) lone in
      ((elim (cases_Bool (starts same e r)) [ inr f ↦ f | inl t ↦ absurd (true≢false (sym (two_starts d e r w.0 s t) ∙ p.0)) ]), starts_none d r D s w.1 p.1)

  starts_once : (n : ℕ) (r : List V) (m : ℕ) (D : List (List V)) → Each (λ d. length d ≡ n) D → no_two same D ≡ true → weigh (λ d. when (starts same d r) m) D ≡ when (starts_any same D r) m
  starts_once n r m [] w lone = refl
  starts_once n r m (d ∷ D) w lone =
      let p = and_parts (not (has (same_row same) d D)) (no_two same D) lone in let ih = starts_once n r m D w.1 p.1 in
      elim (cases_Bool (starts same d r)) [
        | inl t ↦
            let none = starts_none d r D t (Each-weaker (λ e. length e ≡ n) (λ e. length e ≡ length d) D (λ e q. q ∙ sym w.0) w.1) (not-true (has (same_row same) d D) p.0) in
            let zero' = weigh-ext_each (λ e. starts same e r ≡ false) (λ e. when (starts same e r) m) (λ e. 0) D none (λ e f. ap (λ b. when b m) f) ∙ weigh-zero D in
            rw t (omega (arith, zero'))
        | inr f ↦ rw f (omega (arith, ih))
      ]

  pub under_meets : (n : ℕ) (D : List (List V)) (xs : List (Ranked V)) (T : List V → List (Ranked V)) → Each (λ d. length d ≡ n) D → no_two same D ≡ true → Each (λ d. Meets same d xs (T d)) D
      → SameBag (meeting same D xs) (under D T)
  under_meets n D xs T w lone all = record {
    weighs = λ h.
        weigh-filter h (λ x. starts_any same D x.values) xs
        ∙ weigh-ext (λ x. when (starts_any same D x.values) (h x)) (λ x. weigh (λ d. when (starts same d x.values) (h x)) D) xs (λ x. sym (starts_once n x.values (h x) D w lone))
        ∙ weigh-swap (λ x d. when (starts same d x.values) (h x)) xs D
        ∙ weigh-ext_each (λ d. Meets same d xs (T d)) (λ d. weigh (λ x. when (starts same d x.values) (h x)) xs) (λ d. weigh h (map (after d) (T d))) D all
        (λ d m. Meets-weighs same is m h ∙ sym (weigh-map h (after d) (T d)))
        ∙ sym (weigh-flat_map h (λ d. map (after d) (T d)) D);
  }
