-- Distinct elements, their numbers and their first places, an element at a time.
use Rattle.std.proofs.Common.{◌≡◌, ℕ, zero, suc, ◌+◌, ◌<◌, ◌≤◌, List, [], ◌∷◌, ◌++◌, Bool, true, false, cond, take, map, length, Some, None, refl, sym, ◌∙◌, ap, arith, inl, inr}
use Rattle.std.specs.Prelude.{slice_get, not, ◌||◌, Option, is_some}
use Rattle.std.specs.List.{filter, list_any}
use Rattle.std.proofs.lemmas.Bool.{cases_Bool, true≢false}
use Rattle.std.proofs.lemmas.List.{append-nil, map-append, length-append}
use Rattle.std.proofs.lemmas.List.Elements.{filter-append}
use Rattle.std.proofs.lemmas.Option.{slice_get_within}
use Rattle.base_row_laws.specs.Bags.{IsIdentity, has, each_once}
use Rattle.base_row_laws.specs.Numbers.{place_in, numbers_of}
use Rattle.base_row_laws.proofs.Classes.{apart}
use Rattle.base_row_laws.proofs.NumberLists.{has_there, place_found, distinct_each_once}
use Rattle.base_key_tables.specs.Distinct.{added, first_places}

-- std's test is the definition's
pub any_is_has : {X : Type 0} (same : X → X → Bool) (x : X) (xs : List X) → list_any (same x) xs ≡ has same x xs
any_is_has same x [] = refl
any_is_has same x (y ∷ ys) = ap (λ b. same x y || b) (any_is_has same x ys)

or_true : (a : Bool) → (a || true) ≡ true
or_true true = refl
or_true false = refl

pub take_push : {X : Type 0} (xs : List X) (i : ℕ) (x : X) → slice_get xs i ≡ Some x → take (suc i) xs ≡ take i xs ++ x ∷ []
take_push [] i x e = absurd (let e' : None ≡ Some x = e in cc)
take_push (y ∷ ys) zero x e = let h : y ≡ x = cc in ap (λ z. z ∷ []) h
take_push (y ∷ ys) (suc i) x e = ap (λ l. y ∷ l) (take_push ys i x e)

filter-length : {X : Type 0} (p : X → Bool) (xs : List X) → length (filter p xs) ≤ length xs
filter-length p [] = omega arith
filter-length p (x ∷ xs) =
    let ih = filter-length p xs in
    elim (p x) as (λ b. length (cond b (x ∷ filter p xs) (filter p xs)) ≤ suc (length xs)) [ true ↦ omega (arith, ih) | false ↦ omega (arith, ih) ]

pub each_once-length : {X : Type 0} (same : X → X → Bool) (xs : List X) → length (each_once same xs) ≤ length xs
each_once-length same [] = omega arith
each_once-length same (x ∷ xs) =
    let ih = each_once-length same xs in
    let h = filter-length (λ y. not (same x y)) (each_once same xs) in omega (arith, ih, h)

module _ {X : Type 0} (same : X → X → Bool) (is : IsIdentity same) where
  pub has_kept : (p : X → Bool) (x : X) → p x ≡ true → (zs : List X) → has same x (filter p zs) ≡ has same x zs
  has_kept p x px [] = refl
  has_kept p x px (z ∷ zs) =
      let ih = has_kept p x px zs in
      elim (cases_Bool (p z)) [
        | inl t ↦ rw (t, ih) refl
        | inr f ↦ (elim (cases_Bool (same x z)) [
          | inl t ↦ absurd (true≢false (sym px ∙ ap p (is.tells x z t) ∙ f))
          | inr g ↦ rw (f, g) ih
        ])
      ]

  pub each_once_push : (xs : List X) (x : X) → each_once same (xs ++ x ∷ []) ≡ added same (each_once same xs) x
  each_once_push [] x = refl
  each_once_push (y ∷ ys) x =
      let q : X → Bool = λ z. not (same y z) in
      let e : List X = each_once same ys in
      let ih : each_once same (ys ++ x ∷ []) ≡ added same e x = each_once_push ys x in
      elim (cases_Bool (same x y)) [
        | inl t ↦ (let drop : q x ≡ false = ap (λ z. not (same y z)) (is.tells x y t) ∙ ap not (is.meets y) in
            let stays : filter q (added same e x) ≡ filter q e = elim (cases_Bool (has same x e)) [
              | inl h ↦ rw h refl
              | inr h ↦ rw h (filter-append q e (x ∷ []) ∙ rw drop (append-nil (filter q e)))
            ] in
            rw t (ap (λ l. y ∷ filter q l) ih ∙ ap (λ l. y ∷ l) stays))
        | inr f ↦ (let keep : q x ≡ true = ap not (apart same is x y f) in
            let k = has_kept q x keep e in
            rw (f, k) (ap (λ l. y ∷ filter q l) ih ∙ elim (cases_Bool (has same x e)) [
              | inl h ↦ rw h refl
              | inr h ↦ rw h (ap (λ l. y ∷ l) (filter-append q e (x ∷ []) ∙ rw keep refl))
            ]))
      ]

  pub place_before : (ds es : List X) (z : X) → has same z ds ≡ true → place_in same (ds ++ es) z ≡ place_in same ds z
  place_before [] es z h = absurd (true≢false (sym h))
  place_before (d ∷ ds) es z h = elim (cases_Bool (same z d)) [
    | inl t ↦ rw t refl
    | inr f ↦ (let h' : has same z ds ≡ true = rw f at h in rw f (ap suc (place_before ds es z h')))
  ]

  place_added : (ds : List X) (x z : X) → has same z ds ≡ true → place_in same (added same ds x) z ≡ place_in same ds z
  place_added ds x z h = elim (cases_Bool (has same x ds)) [ inl t ↦ rw t refl | inr f ↦ rw f (place_before ds (x ∷ []) z h) ]

  pub has_each_once : (x : X) (ys : List X) → has same x (each_once same ys) ≡ has same x ys
  has_each_once x [] = refl
  has_each_once x (y ∷ ys) = elim (cases_Bool (same x y)) [
    | inl t ↦ rw t refl
    | inr f ↦ rw f (has_kept (λ z. not (same y z)) x (ap not (apart same is x y f)) (each_once same ys) ∙ has_each_once x ys)
  ]

  pub map_has : {Y : Type 0} (f g : X → Y) (xs : List X) → ((z : X) → has same z xs ≡ true → f z ≡ g z) → map f xs ≡ map g xs
  map_has f g [] h = refl
  map_has f g (x ∷ xs) h =
      let first : f x ≡ g x = h x (ap (λ b. b || has same x xs) (is.meets x)) in
      let rest : map f xs ≡ map g xs = map_has f g xs (λ z k. h z (ap (λ b. same z x || b) k ∙ or_true (same z x))) in
      rw (first, rest) refl

  pub numbers_push : (xs : List X) (x : X)
      → map (place_in same (each_once same (xs ++ x ∷ []))) (xs ++ x ∷ []) ≡ map (place_in same (each_once same xs)) xs ++ place_in same (each_once same (xs ++ x ∷ [])) x ∷ []
  numbers_push xs x =
      let e : List X = each_once same xs in
      let f : X → ℕ = place_in same (each_once same (xs ++ x ∷ [])) in
      map-append f xs (x ∷ [])
      ∙ ap (λ l. l ++ f x ∷ []) (map_has f (place_in same e) xs (λ z h. ap (λ ds. place_in same ds z) (each_once_push xs x) ∙ place_added e x z (has_each_once z xs ∙ h)))

  pub place_new : (ds : List X) (x : X) → has same x ds ≡ false → place_in same (ds ++ x ∷ []) x ≡ length ds
  place_new [] x h = rw (is.meets x) refl
  place_new (d ∷ ds) x h = elim (cases_Bool (same x d)) [
    | inl t ↦ absurd (true≢false (rw t at h))
    | inr f ↦ (let h' : has same x ds ≡ false = rw f at h in rw f (ap suc (place_new ds x h')))
  ]

  -- one key more: the first places
  pub firsts_push : (xs : List X) (x : X) → first_places same (xs ++ x ∷ []) ≡ cond (has same x xs) (first_places same xs) (first_places same xs ++ length xs ∷ [])
  firsts_push xs x =
      let e : List X = each_once same xs in
      let f : X → ℕ = place_in same (xs ++ x ∷ []) in
      let g : X → ℕ = place_in same xs in
      let stay : map f e ≡ map g e = map_has f g e (λ z h. place_before xs (x ∷ []) z (sym (has_each_once z xs) ∙ h)) in
      ap (λ l. map f l) (each_once_push xs x) ∙ elim (cases_Bool (has same x xs)) [
        | inl t ↦ (let there : has same x e ≡ true = has_each_once x xs ∙ t in rw (t, there) stay)
        | inr n ↦ (let none : has same x e ≡ false = has_each_once x xs ∙ n in
            rw (n, none) (map-append f e (x ∷ []) ∙ ap (λ l. l ++ f x ∷ []) stay ∙ ap (λ k. map g e ++ k ∷ []) (place_new xs x n)))
      ]

  -- one key more is numbered, in the words of the loop
  pub number_more : (keys : List X) (row : ℕ) (x : X) (old new : List X) (ns ns' fs fs' : List ℕ) (n : ℕ) (is_new : Bool) → slice_get keys row ≡ Some x
      → (old ≡ each_once same (take row keys)) × (ns ≡ numbers_of same (take row keys)) × (fs ≡ first_places same (take row keys))
      → new ≡ added same old x → slice_get new n ≡ Some x → is_new ≡ not (has same x old) → ns' ≡ ns ++ n ∷ [] → fs' ≡ cond is_new (fs ++ row ∷ []) fs → length (take row keys) ≡ row
      → (new ≡ each_once same (take (row + 1) keys)) × (ns' ≡ numbers_of same (take (row + 1) keys)) × (fs' ≡ first_places same (take (row + 1) keys))
  number_more keys row x old new ns ns' fs fs' n is_new here before is_new_keys there tells is_more first long =
      let front : List X = take row keys in
      let m : row + 1 ≡ suc row = omega arith in
      let longer : take (row + 1) keys ≡ front ++ x ∷ [] = ap (λ k. take k keys) m ∙ take_push keys row x here in
      let now : new ≡ each_once same (front ++ x ∷ []) = is_new_keys ∙ ap (λ l. added same l x) before.0 ∙ sym (each_once_push front x) in
      let place : place_in same (each_once same (front ++ x ∷ [])) x ≡ n =
      place_found same is (each_once same (front ++ x ∷ [])) n x (distinct_each_once same is (front ++ x ∷ [])) (ap (λ l. slice_get l n) (sym now) ∙ there) in
      let seen : has same x old ≡ has same x front = ap (has same x) before.0 ∙ has_each_once x front in (
        now ∙ ap (λ l. each_once same l) (sym longer),
        is_more ∙ ap (λ l. l ++ n ∷ []) before.1 ∙ ap (λ k. numbers_of same front ++ k ∷ []) (sym place) ∙ sym (numbers_push front x) ∙ ap (numbers_of same) (sym longer),
        first ∙ ap (λ b. cond b (fs ++ row ∷ []) fs) (tells ∙ ap not seen) ∙ turned (has same x front) (fs ++ row ∷ []) fs
            ∙ ap (λ l. cond (has same x front) l (l ++ row ∷ [])) before.2 ∙ ap (λ k. cond (has same x front) (first_places same front) (first_places same front ++ k ∷ [])) (sym long)
            ∙ sym (firsts_push front x) ∙ ap (first_places same) (sym longer),
      )
    where
      turned : (b : Bool) (xs ys : List ℕ) → cond (not b) xs ys ≡ cond b ys xs
      turned true xs ys = refl
      turned false xs ys = refl

  -- the number that comes next is small
  pub number_small : (keys : List X) (row n : ℕ) (x : X) (old new : List X) → old ≡ each_once same (take row keys) → new ≡ added same old x → slice_get new n ≡ Some x → length (take row keys) ≡ row → n < row + 1
  number_small keys row n x old new before is there long =
      let within : n < length new = slice_get_within new n x there in
      let short : length new ≤ length old + 1 = added-length old new x is in
      let few = each_once-length same (take row keys) in
      let e : length old ≡ length (each_once same (take row keys)) = ap length before in
      omega (arith, within, short, few, e, long)
    where
      added-length : (old new : List X) (x : X) → new ≡ added same old x → length new ≤ length old + 1
      added-length old new x is = elim (cases_Bool (has same x old)) [
        | inl t ↦ (let e : new ≡ old = is ∙ rw t refl in let l = ap length e in omega (arith, l))
        | inr f ↦ (let e : new ≡ old ++ x ∷ [] = is ∙ rw f refl in let l : length new ≡ length old + 1 = ap length e ∙ length-append old (x ∷ []) in omega (arith, l))
      ]

-- an element that stands in a list isn't put again
pub added_there : {X : Type 0} (same : X → X → Bool) → IsIdentity same → (ds : List X) (i : ℕ) (x : X) → slice_get ds i ≡ Some x → ds ≡ added same ds x
added_there same is ds i x e = let h = has_there same is ds x i e in sym (rw h refl)

-- the element put last
pub last_there : {X : Type 0} (ds : List X) (x : X) → slice_get (ds ++ x ∷ []) (length ds) ≡ Some x
last_there [] x = refl
last_there (d ∷ ds) x = last_there ds x

-- a key put, in std's words
pub put_as_set : {X : Type 0} (same : X → X → Bool) (ds new : List X) (x : X) (is_new : Bool) → new ≡ added same ds x → is_new ≡ not (has same x ds)
    → (is_new ≡ not (list_any (same x) ds)) × (new ≡ cond is_new (ds ++ x ∷ []) ds)
put_as_set same ds new x is_new more tells =
    (tells ∙ ap not (sym (any_is_has same x ds)), more ∙ turned (has same x ds) ∙ ap (λ b. cond b (ds ++ x ∷ []) ds) (sym tells))
  where
    turned : (b : Bool) → cond b ds (ds ++ x ∷ []) ≡ cond (not b) (ds ++ x ∷ []) ds
    turned true = refl
    turned false = refl

-- a place given or not, in std's words
pub place_as_set : {X : Type 0} (same : X → X → Bool) (ds : List X) (x : X) (place : Option ℕ) → place ≡ cond (has same x ds) (Some (place_in same ds x)) None
    → is_some place ≡ list_any (same x) ds
place_as_set same ds x place e = elim (cases_Bool (has same x ds)) [
  | inl t ↦ (let e' : place ≡ Some (place_in same ds x) = rw t at e in ap is_some e' ∙ sym (any_is_has same x ds ∙ t))
  | inr f ↦ (let e' : place ≡ None = rw f at e in ap is_some e' ∙ sym (any_is_has same x ds ∙ f))
]
