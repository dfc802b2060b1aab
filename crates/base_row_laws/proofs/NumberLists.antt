-- Lists with no element twice, and the place of an element in such a list.
use Rattle.std.proofs.Common.{◌≡◌, ℕ, zero, suc, List, [], ◌∷◌, Bool, true, false, Some, None, refl, sym, ◌∙◌, ap, inl, inr}
use Rattle.std.specs.Prelude.{slice_get, not}
use Rattle.std.specs.List.{filter}
use Rattle.std.proofs.lemmas.Bool.{cases_Bool, true≢false}
use Rattle.base_row_laws.specs.Bags.{IsIdentity, has, each_once}
use Rattle.base_row_laws.specs.Numbers.{place_in}

pub has_there : {K : Type 0} (same : K → K → Bool) → IsIdentity same → (keys : List K) (key : K) (r : ℕ) → slice_get keys r ≡ Some key → has same key keys ≡ true
has_there same is [] key r e = absurd (let e' : None ≡ Some key = e in cc)
has_there same is (k ∷ ks) key zero e = let h : k ≡ key = cc in rw h (rw (is.meets key) refl)
has_there same is (k ∷ ks) key (suc r) e =
    let ih = has_there same is ks key r e in
    elim (cases_Bool (same key k)) [ inl t ↦ rw t refl | inr f ↦ rw (f, ih) refl ]

module _ {X : Type 0} (same : X → X → Bool) (is : IsIdentity same) where
  -- no element twice
  abbrev pub AllApart : List X → Type 0
  AllApart [] = Unit {0}
  AllApart (x ∷ xs) = (has same x xs ≡ false) × AllApart xs

  has_fewer : (p : X → Bool) (x : X) (zs : List X) → has same x zs ≡ false → has same x (filter p zs) ≡ false
  has_fewer p x [] h = refl
  has_fewer p x (z ∷ zs) h = elim (cases_Bool (same x z)) [
    | inl t ↦ absurd (true≢false (sym (rw t refl) ∙ h))
    | inr f ↦ (let h' : has same x zs ≡ false = rw f at h in
        let ih = has_fewer p x zs h' in
        elim (cases_Bool (p z)) [ inl t ↦ rw (t, f) ih | inr g ↦ rw g ih ])
  ]

  distinct_filter : (p : X → Bool) (zs : List X) → AllApart zs → AllApart (filter p zs)
  distinct_filter p [] d = tt
  distinct_filter p (z ∷ zs) d = elim (cases_Bool (p z)) [
    | inl t ↦ rw t (has_fewer p z zs d.0, distinct_filter p zs d.1)
    | inr f ↦ rw f (distinct_filter p zs d.1)
  ]

  has_dropped : (x : X) (zs : List X) → has same x (filter (λ z. not (same x z)) zs) ≡ false
  has_dropped x [] = refl
  has_dropped x (z ∷ zs) = elim (cases_Bool (same x z)) [ inl t ↦ rw t (has_dropped x zs) | inr f ↦ rw (f, f) (has_dropped x zs) ]

  pub distinct_each_once : (xs : List X) → AllApart (each_once same xs)
  distinct_each_once [] = tt
  distinct_each_once (x ∷ xs) = (has_dropped x (each_once same xs), distinct_filter (λ z. not (same x z)) (each_once same xs) (distinct_each_once xs))

  pub place_found : (ds : List X) (i : ℕ) (x : X) → AllApart ds → slice_get ds i ≡ Some x → place_in same ds x ≡ i
  place_found [] i x d e = absurd (let e' : None ≡ Some x = e in cc)
  place_found (y ∷ ys) zero x d e = let h : y ≡ x = cc in rw h (rw (is.meets x) refl)
  place_found (y ∷ ys) (suc i) x d e = elim (cases_Bool (same x y)) [
    | inl t ↦ absurd (true≢false (sym (has_there same is ys x i e) ∙ ap (λ z. has same z ys) (is.tells x y t) ∙ d.0))
    | inr f ↦ rw f (ap suc (place_found ys i x d.1 e))
  ]
