-- Selections below set operations.
use Rattle.std.proofs.Common.{◌≡◌, ℕ, zero, suc, ◌≤◌, List, [], ◌∷◌, ◌++◌, Bool, true, false, refl, sym, ◌∙◌, ap, subst, arith, length, inl, inr}
use Rattle.std.specs.Prelude.{map, replicate, min, nat_lt}
use Rattle.std.specs.List.{filter, flat_map}
use Rattle.std.proofs.lemmas.Bool.{cases_Bool, lt-ltb, ltb-true, ltb-false}
use Rattle.std.proofs.lemmas.List.{append_assoc}
use Rattle.base_row_laws.specs.Ranked.{Ranked, ranked}
use Rattle.base_row_laws.specs.Bags.{when, weigh, SameBag, IsIdentity, each_once, Each, bottom}
use Rattle.base_row_laws.specs.Rows.{same_row, keep, lowered}
use Rattle.base_row_laws.specs.Operators.{select, least, distinct}
use Rattle.base_row_laws.specs.Domains.{values_of}
use Rattle.base_row_laws.specs.StandingLaws.{Stands}
use Rattle.base_row_laws.proofs.Bags.{SameBag-refl, weigh-ext, weigh-filter, weigh-flat_map}
use Rattle.base_row_laws.proofs.Lists.{Each-append}
use Rattle.base_row_laws.proofs.Classes.{SameBag-each_once_filter}
use Rattle.base_row_laws.proofs.Rows.{same_row_is}
use Rattle.base_row_laws.proofs.Below.{select_below_distinct}
use Rattle.base_set_rows.specs.declared.kind.ClassKind.{ClassKind}
use Rattle.base_set_rows.specs.SetOperations.{copies, alike, class_rows, by_classes}
use Rattle.base_set_rows.specs.SetLaws.{SelectBelowUnion, SelectBelowClasses}
use Rattle.base_set_rows.proofs.Counted.{least_stands, no_copies}

select-append : {V : Type 0} (c : List V → ℕ) (xs ys : List (Ranked V)) → select c (xs ++ ys) ≡ select c xs ++ select c ys
select-append c [] ys = refl
select-append c (x ∷ xs) ys =
    ap (λ l. keep x.values (min x.standing (c x.values)) ++ l) (select-append c xs ys)
    ∙ sym (append_assoc (keep x.values (min x.standing (c x.values))) (select c xs) (select c ys))

select-flat_map : {V X : Type 0} (c : List V → ℕ) (f : X → List (Ranked V)) (xs : List X) → select c (flat_map f xs) ≡ flat_map (λ x. select c (f x)) xs
select-flat_map c f [] = refl
select-flat_map c f (x ∷ xs) = select-append c (f x) (flat_map f xs) ∙ ap (λ l. select c (f x) ++ l) (select-flat_map c f xs)

length-mapped : {X Y : Type 0} (f : X → Y) (xs : List X) → length (map f xs) ≡ length xs
length-mapped f [] = refl
length-mapped f (x ∷ xs) = omega (arith, length-mapped f xs)

-- whether the condition keeps rows of these values
passes : {V : Type 0} → (List V → ℕ) → List V → Bool
passes c k = nat_lt 1 (c k)

module _ {V : Type 0} (same : V → V → Bool) (is : IsIdentity same) (c : List V → ℕ) where
  kept_one : (z : Ranked V) → Stands z → nat_lt 1 (c z.values) ≡ true → keep z.values (min z.standing (c z.values)) ≡ lowered c z ∷ []
  kept_one z s t =
      let a = s.not_dropped in let b = ltb-true 1 (c z.values) t in
      let u : nat_lt 1 (min z.standing (c z.values)) ≡ true = lt-ltb 1 (min z.standing (c z.values)) (omega arith) in rw u refl

  kept_none : (r : List V) (s : ℕ) → nat_lt 1 (c r) ≡ false → keep r (min s (c r)) ≡ []
  kept_none r s f =
      let b = ltb-false 1 (c r) f in
      elim (cases_Bool (nat_lt 1 (min s (c r)))) [
        | inl t ↦ absurd (let k = ltb-true 1 (min s (c r)) t in omega arith)
        | inr g ↦ rw g refl
      ]

  -- the values of the rows that are kept
  kept_values : (zs : List (Ranked V)) → Each Stands zs → values_of (select c zs) ≡ filter (λ k. nat_lt 1 (c k)) (values_of zs)
  kept_values [] all = refl
  kept_values (z ∷ zs) all = elim (cases_Bool (nat_lt 1 (c z.values))) [
    | inl t ↦ (let k = kept_one z all.0 t in rw (k, t) (ap (λ l. z.values ∷ l) (kept_values zs all.1)))
    | inr f ↦ (let k = kept_none z.values z.standing f in rw (k, f) (kept_values zs all.1))
  ]

  -- the rows of a class that is kept, each at the lesser
  kept_alike : (k : List V) (zs : List (Ranked V)) → Each Stands zs → nat_lt 1 (c k) ≡ true → alike same k (select c zs) ≡ map (lowered c) (alike same k zs)
  kept_alike k [] all t = refl
  kept_alike k (z ∷ zs) all t = elim (cases_Bool (same_row same z.values k)) [
    | inl u ↦ (let v : nat_lt 1 (c z.values) ≡ true = ap (λ r. nat_lt 1 (c r)) ((same_row_is same is).tells z.values k u) ∙ t in
        let o = kept_one z all.0 v in rw (o, u) (ap (λ l. lowered c z ∷ l) (kept_alike k zs all.1 t)))
    | inr f ↦ elim (cases_Bool (nat_lt 1 (c z.values))) [
      | inl v ↦ (let o = kept_one z all.0 v in rw (o, f) (kept_alike k zs all.1 t))
      | inr g ↦ (let o = kept_none z.values z.standing g in rw (o, f) (kept_alike k zs all.1 t))
    ]
  ]

  -- their least standing, where there is one
  lesser : (m : ℕ) (y : Ranked V) (ys : List (Ranked V)) → c y.values ≡ m → Each (λ (z : Ranked V). c z.values ≡ m) ys
      → bottom 5 (λ (z : Ranked V). z.standing) (map (lowered c) (y ∷ ys)) ≡ min (bottom 5 (λ (z : Ranked V). z.standing) (y ∷ ys)) m
  lesser m y [] e all = omega (arith, e)
  lesser m y (z ∷ zs) e all = let ih = lesser m z zs all.0 all.1 in omega (arith, e, ih)

  each_alike : (k : List V) (zs : List (Ranked V)) → Each (λ (z : Ranked V). c z.values ≡ c k) (alike same k zs)
  each_alike k [] = tt
  each_alike k (z ∷ zs) = elim (cases_Bool (same_row same z.values k)) [
    | inl u ↦ rw u (ap c ((same_row_is same is).tells z.values k u), each_alike k zs)
    | inr f ↦ rw f (each_alike k zs)
  ]

  copies_kept : (k : List V) (s n : ℕ) → 2 ≤ s → nat_lt 1 (c k) ≡ true → select c (replicate n (ranked k s)) ≡ replicate n (ranked k (min s (c k)))
  copies_kept k s zero h t = refl
  copies_kept k s (suc n) h t =
      let b = ltb-true 1 (c k) t in
      let u : nat_lt 1 (min s (c k)) ≡ true = lt-ltb 1 (min s (c k)) (omega arith) in
      let ih = copies_kept k s n h t in rw u (ap (λ l. ranked k (min s (c k)) ∷ l) ih)

  copies_dropped : (k : List V) (s n : ℕ) → nat_lt 1 (c k) ≡ false → select c (replicate n (ranked k s)) ≡ []
  copies_dropped k s zero f = refl
  copies_dropped k s (suc n) f = let o = kept_none k s f in rw o (copies_dropped k s n f)

  filter-append : (p : Ranked V → Bool) (xs ys : List (Ranked V)) → filter p (xs ++ ys) ≡ filter p xs ++ filter p ys
  filter-append p [] ys = refl
  filter-append p (x ∷ xs) ys = elim (cases_Bool (p x)) [ inl t ↦ rw t (ap (λ l. x ∷ l) (filter-append p xs ys)) | inr f ↦ rw f (filter-append p xs ys) ]

  none_left : (A B : List (Ranked V)) → A ++ B ≡ [] → (length A ≡ 0) × (length B ≡ 0)
  none_left [] B e = (refl, ap length e)
  none_left (a ∷ A) B e = absurd (let f : a ∷ (A ++ B) ≡ [] = e in cc)

  module _ (kind : ClassKind) (all : Bool) (xs ys : List (Ranked V)) (sx : Each Stands xs) (sy : Each Stands ys) where
    kept_class : (k : List V) → nat_lt 1 (c k) ≡ true → class_rows same kind all (select c xs) (select c ys) k ≡ select c (class_rows same kind all xs ys k)
    kept_class k t =
        let zs = xs ++ ys in
        let n : ℕ = copies kind all (length (alike same k xs)) (length (alike same k ys)) in
        let a : length (alike same k (select c xs)) ≡ length (alike same k xs) = ap length (kept_alike k xs sx t) ∙ length-mapped (lowered c) (alike same k xs) in
        let b : length (alike same k (select c ys)) ≡ length (alike same k ys) = ap length (kept_alike k ys sy t) ∙ length-mapped (lowered c) (alike same k ys) in
        let both : alike same k (select c xs ++ select c ys) ≡ map (lowered c) (alike same k zs) =
        ap (alike same k) (sym (select-append c xs ys)) ∙ kept_alike k zs (Each-append Stands xs ys sx sy) t in
        let stands = least_stands same is (λ x. same_row same x.values k) k zs (Each-append Stands xs ys sx sy) in
        let m = copies_kept k (least (alike same k zs)) n stands.not_dropped t in
        ap (λ q. replicate (copies kind all q (length (alike same k (select c ys)))) (ranked k (least (alike same k (select c xs ++ select c ys))))) a
        ∙ ap (λ q. replicate (copies kind all (length (alike same k xs)) q) (ranked k (least (alike same k (select c xs ++ select c ys))))) b
        ∙ ap (λ l. replicate n (ranked k (least l))) both
        ∙ at (alike same k zs) refl
        ∙ sym m
      where
        at : (A : List (Ranked V)) → A ≡ alike same k (xs ++ ys)
            → replicate (copies kind all (length (alike same k xs)) (length (alike same k ys))) (ranked k (least (map (lowered c) A)))
            ≡ replicate (copies kind all (length (alike same k xs)) (length (alike same k ys))) (ranked k (min (least (alike same k (xs ++ ys))) (c k)))
        at [] e =
            let z = none_left (alike same k xs) (alike same k ys) (sym (filter-append (λ x. same_row same x.values k) xs ys) ∙ sym e) in
            rw (z.0, z.1, no_copies kind all) refl
        at (y ∷ A) e =
            let all' : Each (λ (z : Ranked V). c z.values ≡ c k) (y ∷ A) = subst (Each (λ (z : Ranked V). c z.values ≡ c k)) (sym e) (each_alike k (xs ++ ys)) in
            ap (λ s. replicate (copies kind all (length (alike same k xs)) (length (alike same k ys))) (ranked k s))
            (lesser (c k) y A all'.0 all'.1 ∙ ap (λ l. min (least l) (c k)) e)

    pub select_below_classes : SameBag (select c (by_classes same kind all xs ys)) (by_classes same kind all (select c xs) (select c ys))
    select_below_classes = record {
      weighs = λ h.
          let zs = xs ++ ys in
          let vs = values_of zs in
          let p : List V → Bool = λ k. nat_lt 1 (c k) in
          let F : List V → List (Ranked V) = class_rows same kind all xs ys in
          let G : List V → List (Ranked V) = class_rows same kind all (select c xs) (select c ys) in
          let values : values_of (select c xs ++ select c ys) ≡ filter p vs = ap values_of (sym (select-append c xs ys)) ∙ kept_values zs (Each-append Stands xs ys sx sy) in
          let one : (k : List V) → weigh h (select c (F k)) ≡ when (p k) (weigh h (G k)) = λ k.
          elim (cases_Bool (nat_lt 1 (c k))) [
            | inl t ↦ rw t (ap (weigh h) (sym (kept_class k t)))
            | inr f ↦ (let d = copies_dropped k (least (alike same k zs)) (copies kind all (length (alike same k xs)) (length (alike same k ys))) f in rw (f, d) refl)
          ] in
          ap (weigh h) (select-flat_map c F (each_once (same_row same) vs))
          ∙ weigh-flat_map h (λ k. select c (F k)) (each_once (same_row same) vs)
          ∙ weigh-ext (λ k. weigh h (select c (F k))) (λ k. when (p k) (weigh h (G k))) (each_once (same_row same) vs) one
          ∙ sym (weigh-filter (λ k. weigh h (G k)) p (each_once (same_row same) vs))
          ∙ sym ((SameBag-each_once_filter (same_row same) (same_row_is same is) p vs).weighs (λ k. weigh h (G k)))
          ∙ ap (λ l. weigh (λ k. weigh h (G k)) (each_once (same_row same) l)) (sym values)
          ∙ sym (weigh-flat_map h G (each_once (same_row same) (values_of (select c xs ++ select c ys))));
    }

pub select_below_union : {V : Type 0} (same : V → V → Bool) → IsIdentity same → SelectBelowUnion same
select_below_union same is true c xs ys a b = subst (λ l. SameBag (select c (xs ++ ys)) l) (select-append c xs ys) (SameBag-refl (select c (xs ++ ys)))
select_below_union same is false c xs ys a b =
    subst (λ l. SameBag (select c (distinct same (xs ++ ys))) (distinct same l)) (select-append c xs ys) (select_below_distinct same is c (xs ++ ys) (Each-append Stands xs ys a b))

pub select_below_classes' : {V : Type 0} (same : V → V → Bool) → IsIdentity same → SelectBelowClasses same
select_below_classes' same is kind all c xs ys a b = select_below_classes same is c kind all xs ys a b
