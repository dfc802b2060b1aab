-- Identical elements once, and classes by identical keys.
use Rattle.std.proofs.Common.{◌≡◌, ℕ, ◌+◌, List, [], ◌∷◌, Bool, true, false, cond, refl, sym, ◌∙◌, ap, subst, arith, zero-add, inl, inr}
use Rattle.std.proofs.Math.Dec.{ltb}
use Rattle.std.specs.Prelude.{not, ◌||◌, map}
use Rattle.std.specs.List.{filter}
use Rattle.std.proofs.lemmas.Bool.{lt-ltb, cases_Bool, true≢false}
use Rattle.base_row_laws.specs.Bags.{when, weigh, SameBag, IsIdentity, has, count, each_once, classes, OfBag, Each}
use Rattle.base_row_laws.proofs.Bags.{when-cong, when-zero, weigh-when, weigh-ext, weigh-map, weigh-filter, SameBag-map, SameBag-filter}
use Rattle.base_row_laws.proofs.Lists.{weigh-ext_each, filter-agree, filter-map, filter_within, Each-map, Each-each_once, map-map, map-ext}

once : (b h : Bool) (n : ℕ) → n ≡ when (not b) (when h 1) → when b 1 + n ≡ when (b || h) 1
once true h n e = omega (arith, e)
once false h n e = zero-add n ∙ e

some_more : (b h : Bool) (n : ℕ) → h ≡ ltb 0 n → (b || h) ≡ ltb 0 (when b 1 + n)
some_more true h n e = sym (lt-ltb 0 (1 + n) (omega arith))
some_more false h n e = e ∙ ap (λ m. ltb 0 m) (sym (zero-add n))

only_where : (b : Bool) (n : ℕ) → when (ltb 0 (when b n)) 1 ≡ when b (when (ltb 0 n) 1)
only_where true n = refl
only_where false n = refl

module _ {X : Type 0} (same : X → X → Bool) (is : IsIdentity same) where
  pub apart : (x y : X) → same x y ≡ false → same y x ≡ false
  apart x y e = elim (cases_Bool (same y x)) [ inr f ↦ f | inl t ↦ absurd (true≢false (sym (is.meets x) ∙ subst (λ z. same x z ≡ false) (is.tells y x t) e)) ]

  pub same-sym : (x y : X) → same x y ≡ same y x
  same-sym x y = elim (cases_Bool (same x y)) [ inl t ↦ t ∙ sym (rw (is.tells x y t) (is.meets y)) | inr f ↦ f ∙ sym (apart x y f) ]

  -- a weight where a test of the element and identity with x hold
  pub when-same : (x y : X) (p : X → Bool) (n : ℕ) → when (p y) (when (same x y) n) ≡ when (p x) (when (same x y) n)
  when-same x y p n = elim (cases_Bool (same x y)) [ inl t ↦ rw (is.tells x y t) | inr f ↦ rw f (when-zero (p y) ∙ sym (when-zero (p x))) ]

  pub count-filter : (x : X) (p : X → Bool) (xs : List X) → count same x (filter p xs) ≡ when (p x) (count same x xs)
  count-filter x p xs =
      weigh-filter (λ y. when (same x y) 1) p xs ∙ weigh-ext (λ y. when (p y) (when (same x y) 1)) (λ y. when (p x) (when (same x y) 1)) xs (λ y. when-same x y p 1)
      ∙ weigh-when (p x) (λ y. when (same x y) 1) xs

  pub count-each_once : (x : X) (xs : List X) → count same x (each_once same xs) ≡ when (has same x xs) 1
  count-each_once x [] = refl
  count-each_once x (y ∷ ys) =
      once (same x y) (has same x ys) (count same x (filter (λ z. not (same y z)) (each_once same ys)))
      (count-filter x (λ z. not (same y z)) (each_once same ys) ∙ ap (λ n. when (not (same y x)) n) (count-each_once x ys) ∙ ap (λ b. when (not b) (when (has same x ys) 1)) (same-sym y x))

  pub has-count : (x : X) (xs : List X) → has same x xs ≡ ltb 0 (count same x xs)
  has-count x [] = refl
  has-count x (y ∷ ys) = some_more (same x y) (has same x ys) (count same x ys) (has-count x ys)

  pub has-SameBag : (x : X) {xs ys : List X} → SameBag xs ys → has same x xs ≡ has same x ys
  has-SameBag x {xs} {ys} e = has-count x xs ∙ ap (λ n. ltb 0 n) (e.weighs (λ y. when (same x y) 1)) ∙ sym (has-count x ys)

  -- the list without its first x
  abbrev pub without : X → List X → List X
  without x [] = []
  without x (y ∷ ys) = cond (same x y) ys (y ∷ without x ys)

  pub weigh-without : (h : X → ℕ) (x : X) (ys : List X) → has same x ys ≡ true → weigh h ys ≡ h x + weigh h (without x ys)
  weigh-without h x [] e = absurd (true≢false (sym e))
  weigh-without h x (y ∷ ys) e = elim (cases_Bool (same x y)) [
    | inl t ↦ rw (t, is.tells x y t)
    | inr f ↦ let r : has same x ys ≡ true = rw f at e in let ih = weigh-without h x ys r in rw f (omega (arith, ih))
  ]

  -- lists in which each element stands equally often are one bag
  pub same_from_counts : (xs ys : List X) → ((x : X) → count same x xs ≡ count same x ys) → SameBag xs ys
  same_from_counts [] [] e = record { weighs = λ h. refl }
  same_from_counts [] (y ∷ ys) e = let a = e y in let b = is.meets y in absurd (omega (arith, rw b at a))
  same_from_counts (x ∷ xs) ys e =
      let first : ltb 0 (count same x ys) ≡ true = let a = e x in let b = is.meets x in lt-ltb 0 (count same x ys) (omega (arith, rw b at a)) in
      let there = has-count x ys ∙ first in
      let ih = same_from_counts xs (without x ys) (λ z. let a = e z in let b = weigh-without (λ y. when (same z y) 1) x ys there in omega (arith, a, b)) in
      record { weighs = λ h. ap (λ n. h x + n) (ih.weighs h) ∙ sym (weigh-without h x ys there) }

  pub SameBag-each_once : {xs ys : List X} → SameBag xs ys → SameBag (each_once same xs) (each_once same ys)
  SameBag-each_once {xs} {ys} e = same_from_counts (each_once same xs) (each_once same ys)
      (λ x. count-each_once x xs ∙ ap (λ b. when b 1) (has-SameBag x e) ∙ sym (count-each_once x ys))

  has-filter : (x : X) (p : X → Bool) (xs : List X) → when (has same x (filter p xs)) 1 ≡ when (p x) (when (has same x xs) 1)
  has-filter x p xs =
      ap (λ b. when b 1) (has-count x (filter p xs) ∙ ap (λ n. ltb 0 n) (count-filter x p xs)) ∙ only_where (p x) (count same x xs)
      ∙ ap (λ b. when (p x) (when b 1)) (sym (has-count x xs))

  pub SameBag-each_once_filter : (p : X → Bool) (xs : List X) → SameBag (each_once same (filter p xs)) (filter p (each_once same xs))
  SameBag-each_once_filter p xs = same_from_counts (each_once same (filter p xs)) (filter p (each_once same xs))
      (λ x. count-each_once x (filter p xs) ∙ has-filter x p xs ∙ sym (count-filter x p (each_once same xs) ∙ ap (λ n. when (p x) n) (count-each_once x xs)))

-- Two tests that tell identical elements.
module _ {X : Type 0} (same alike : X → X → Bool) where
  pub tests_agree : IsIdentity same → IsIdentity alike → (x y : X) → same x y ≡ alike x y
  tests_agree is it x y = elim (cases_Bool (same x y)) [
    | inl t ↦ t ∙ sym (rw (is.tells x y t) (it.meets y))
    | inr f ↦ elim (cases_Bool (alike x y)) [
      | inl t ↦ absurd (true≢false (sym (is.meets x) ∙ subst (λ z. same x z ≡ false) (sym (it.tells x y t)) f))
      | inr g ↦ f ∙ sym g
    ]
  ]

  pub each_once_agrees : ((x y : X) → same x y ≡ alike x y) → (xs : List X) → each_once same xs ≡ each_once alike xs
  each_once_agrees agree [] = refl
  each_once_agrees agree (x ∷ xs) =
      ap (λ l. x ∷ l) (filter-agree (λ y. not (same x y)) (λ y. not (alike x y)) (each_once same xs) (λ y. ap not (agree x y))
      ∙ ap (λ l. filter (λ y. not (alike x y)) l) (each_once_agrees agree xs))

  pub classes_agree : {R S : Type 0} → ((x y : X) → same x y ≡ alike x y) → (key : R → X) (f : X → List R → S) (xs : List R) → classes same key f xs ≡ classes alike key f xs
  classes_agree agree key f xs =
      map-ext (λ k. f k (filter (λ x. same (key x) k) xs)) (λ k. f k (filter (λ x. alike (key x) k) xs)) (each_once same (map key xs))
      (λ k. ap (λ l. f k l) (filter-agree (λ x. same (key x) k) (λ x. alike (key x) k) xs (λ x. agree (key x) k)))
      ∙ ap (λ l. map (λ k. f k (filter (λ x. alike (key x) k) xs)) l) (each_once_agrees agree (map key xs))

-- An injective renaming.
pub each_once-map : {X Y : Type 0} (same : X → X → Bool) (like : Y → Y → Bool) (g : X → Y) → ((a b : X) → like (g a) (g b) ≡ same a b) → (xs : List X) → each_once like (map g xs) ≡ map g (each_once same xs)
each_once-map same like g e [] = refl
each_once-map same like g e (x ∷ xs) =
    ap (λ l. g x ∷ l) (ap (λ l. filter (λ z. not (like (g x) z)) l) (each_once-map same like g e xs) ∙ filter-map (λ z. not (like (g x) z)) g (each_once same xs)
    ∙ ap (λ l. map g l) (filter-agree (λ z. not (like (g x) (g z))) (λ z. not (same x z)) (each_once same xs) (λ z. ap not (e x z))))

pub weigh-classes : {R K S : Type 0} (h : S → ℕ) (same : K → K → Bool) (key : R → K) (f : K → List R → S) (xs : List R) → weigh h (classes same key f xs) ≡ weigh (λ k. h (f k (filter (λ x. same (key x) k) xs))) (each_once same (map key xs))
weigh-classes h same key f xs = weigh-map h (λ k. f k (filter (λ x. same (key x) k) xs)) (each_once same (map key xs))

module _ {R K S : Type 0} (same : K → K → Bool) (is : IsIdentity same) (key : R → K) (f : K → List R → S) (bag : (k : K) → OfBag (f k)) where
  -- classes of one bag are one bag
  pub SameBag-classes : {xs ys : List R} → SameBag xs ys → SameBag (classes same key f xs) (classes same key f ys)
  SameBag-classes {xs} {ys} e = record {
    weighs = λ h.
        weigh-classes h same key f xs
        ∙ weigh-ext (λ k. h (f k (filter (λ x. same (key x) k) xs))) (λ k. h (f k (filter (λ x. same (key x) k) ys))) (each_once same (map key xs))
        (λ k. ap h ((bag k).alike _ _ (SameBag-filter (λ x. same (key x) k) e)))
        ∙ (SameBag-each_once same is (SameBag-map key e)).weighs (λ k. h (f k (filter (λ x. same (key x) k) ys)))
        ∙ sym (weigh-classes h same key f ys);
  }

  -- Those classes whose key passes q are the classes of the elements whose key passes q.
  pub classes_at : (h : S → ℕ) (p : S → Bool) (q : K → Bool) (xs : List R) → Each (λ x. (ys : List R) → p (f (key x) ys) ≡ q (key x)) xs → weigh (λ s. when (p s) (h s)) (classes same key f xs) ≡ weigh h (classes same key f (filter (λ x. q (key x)) xs))
  classes_at h p q xs all =
      let P : K → Type 0 = λ k. (ys : List R) → p (f k ys) ≡ q k in
      let ks = map key xs in
      let all' = Each-each_once P same ks (Each-map P key xs all) in
      let part : K → List R = λ k. filter (λ x. same (key x) k) xs in
      let inner : K → List R = λ k. filter (λ x. same (key x) k) (filter (λ x. q (key x)) xs) in
      let agree : (k : K) → P k → when (p (f k (part k))) (h (f k (part k))) ≡ when (q k) (h (f k (inner k))) = λ k says.
      rw (says (part k)) (when-cong (q k) (h (f k (part k))) (h (f k (inner k))) (λ t. ap (λ l. h (f k l))
      (sym (filter_within (λ x. same (key x) k) (λ x. q (key x)) xs (λ x m. rw (is.tells (key x) k m) t))))) in
      weigh-classes (λ s. when (p s) (h s)) same key f xs
      ∙ weigh-ext_each P (λ k. when (p (f k (part k))) (h (f k (part k)))) (λ k. when (q k) (h (f k (inner k)))) (each_once same ks) all' agree
      ∙ sym (weigh-filter (λ k. h (f k (inner k))) q (each_once same ks))
      ∙ sym ((SameBag-each_once_filter same is q ks).weighs (λ k. h (f k (inner k))))
      ∙ ap (λ l. weigh (λ k. h (f k (inner k))) (each_once same l)) (filter-map q key xs)
      ∙ sym (weigh-classes h same key f (filter (λ x. q (key x)) xs))

-- classes of a renamed list
pub classes-map : {Q R K S : Type 0} (h : S → ℕ) (same : K → K → Bool) (key : R → K) (f : K → List R → S) (g : Q → R) (xs : List Q) → weigh h (classes same key f (map g xs)) ≡ weigh h (classes same (λ x. key (g x)) (λ k ys. f k (map g ys)) xs)
classes-map h same key f g xs =
    weigh-classes h same key f (map g xs)
    ∙ ap (λ l. weigh (λ k. h (f k (filter (λ x. same (key x) k) (map g xs)))) (each_once same l)) (map-map key g xs)
    ∙ weigh-ext (λ k. h (f k (filter (λ x. same (key x) k) (map g xs)))) (λ k. h (f k (map g (filter (λ x. same (key (g x)) k) xs)))) (each_once same (map (λ x. key (g x)) xs))
    (λ k. ap (λ l. h (f k l)) (filter-map (λ x. same (key x) k) g xs))
    ∙ sym (weigh-classes h same (λ x. key (g x)) (λ k ys. f k (map g ys)) xs)

-- classes by renamed keys
pub classes-rekey : {R K L S : Type 0} (h : S → ℕ) (same : K → K → Bool) (like : L → L → Bool) (j : K → L) → ((a b : K) → like (j a) (j b) ≡ same a b) → (key : R → K) (f : L → List R → S) (xs : List R) → weigh h (classes like (λ x. j (key x)) f xs) ≡ weigh h (classes same key (λ k. f (j k)) xs)
classes-rekey h same like j e key f xs =
    weigh-classes h like (λ x. j (key x)) f xs
    ∙ ap (λ l. weigh (λ k. h (f k (filter (λ x. like (j (key x)) k) xs))) (each_once like l)) (sym (map-map j key xs))
    ∙ ap (λ l. weigh (λ k. h (f k (filter (λ x. like (j (key x)) k) xs))) l) (each_once-map same like j e (map key xs))
    ∙ weigh-map (λ k. h (f k (filter (λ x. like (j (key x)) k) xs))) j (each_once same (map key xs))
    ∙ weigh-ext (λ k. h (f (j k) (filter (λ x. like (j (key x)) (j k)) xs))) (λ k. h (f (j k) (filter (λ x. same (key x) k) xs))) (each_once same (map key xs))
    (λ k. ap (λ l. h (f (j k) l)) (filter-agree (λ x. like (j (key x)) (j k)) (λ x. same (key x) k) xs (λ x. e (key x) k)))
    ∙ sym (weigh-classes h same key (λ k. f (j k)) xs)

-- classes by a key that is the same everywhere
pub classes-key : {R K S : Type 0} (h : S → ℕ) (same : K → K → Bool) (key like : R → K) (f : K → List R → S) (xs : List R) → ((x : R) → key x ≡ like x) → weigh h (classes same key f xs) ≡ weigh h (classes same like f xs)
classes-key h same key like f xs e =
    weigh-classes h same key f xs
    ∙ ap (λ l. weigh (λ k. h (f k (filter (λ x. same (key x) k) xs))) (each_once same l)) (map-ext key like xs e)
    ∙ weigh-ext (λ k. h (f k (filter (λ x. same (key x) k) xs))) (λ k. h (f k (filter (λ x. same (like x) k) xs))) (each_once same (map like xs))
    (λ k. ap (λ l. h (f k l)) (filter-agree (λ x. same (key x) k) (λ x. same (like x) k) xs (λ x. ap (λ y. same y k) (e x))))
    ∙ sym (weigh-classes h same like f xs)
