-- Keys that tell elements apart have their numbers and their first places.
use Rattle.std.proofs.Common.{◌≡◌, ℕ, suc, ◌<◌, List, [], ◌∷◌, Bool, map, length, get_or, refl, sym, ◌∙◌, ap, arith}
use Rattle.std.specs.Prelude.{not}
use Rattle.std.specs.List.{zip, filter}
use Rattle.std.proofs.lemmas.List.{length-map, get_or-map}
use Rattle.base_row_laws.specs.Bags.{each_once, Each}
use Rattle.base_row_laws.specs.Numbers.{place_in, numbers_of}
use Rattle.base_row_laws.proofs.Lists.{filter-map, filter-ext_each, Each-each_once, Each-weaker, Each-all, map-map, map-ext_each}
use Rattle.base_key_tables.specs.Distinct.{first_places}
use Rattle.exec_row_keys.specs.Keys.{Tells, same_at}

module _ {Z K : Type 0} (same : Z → Z → Bool) (same' : K → K → Bool) (g : Z → K) where
  abbrev Alike : Z → Z → Type 0
  Alike z w = same' (g z) (g w) ≡ same z w

  -- each element is told apart from each
  abbrev AllAlike : List Z → Type 0
  AllAlike zs = Each (λ z. Each (Alike z) zs) zs

  once_alike : (zs : List Z) → AllAlike zs → each_once same' (map g zs) ≡ map g (each_once same zs)
  once_alike [] h = refl
  once_alike (w ∷ ws) h =
      let E : List Z = each_once same ws in
      let tail : AllAlike ws = Each-weaker (λ z. Each (Alike z) (w ∷ ws)) (λ z. Each (Alike z) ws) ws (λ z a. a.1) h.1 in
      let ih : each_once same' (map g ws) ≡ map g E = once_alike ws tail in
      let inner : filter (λ z. not (same' (g w) (g z))) E ≡ filter (λ z. not (same w z)) E =
      filter-ext_each (Alike w) (λ z. not (same' (g w) (g z))) (λ z. not (same w z)) E (Each-each_once (Alike w) same ws h.0.1) (λ z a. ap not a) in
      ap (λ l. g w ∷ filter (λ y. not (same' (g w) y)) l) ih
      ∙ ap (λ l. g w ∷ l) (filter-map (λ y. not (same' (g w) y)) g E ∙ ap (map g) inner)

  place_alike : (ds : List Z) (x : Z) → Each (Alike x) ds → place_in same' (map g ds) (g x) ≡ place_in same ds x
  place_alike [] x h = refl
  place_alike (d ∷ ds) x h = rw (h.0, place_alike ds x h.1) refl

  numbers_alike : (zs : List Z) → AllAlike zs → numbers_of same' (map g zs) ≡ numbers_of same zs
  numbers_alike zs h =
      let E : List Z = each_once same zs in
      let each : Each (λ z. Each (Alike z) E) zs = Each-weaker (λ z. Each (Alike z) zs) (λ z. Each (Alike z) E) zs (λ z a. Each-each_once (Alike z) same zs a) h in
      map-map (place_in same' (each_once same' (map g zs))) g zs
      ∙ ap (λ l. map (λ z. place_in same' l (g z)) zs) (once_alike zs h)
      ∙ map-ext_each (λ z. Each (Alike z) E) (λ z. place_in same' (map g E) (g z)) (place_in same E) zs each (λ z a. place_alike E z a)

  firsts_alike : (zs : List Z) → AllAlike zs → first_places same' (map g zs) ≡ first_places same zs
  firsts_alike zs h =
      let E : List Z = each_once same zs in
      ap (map (place_in same' (map g zs))) (once_alike zs h)
      ∙ map-map (place_in same' (map g zs)) g E
      ∙ map-ext_each (λ z. Each (Alike z) zs) (λ z. place_in same' (map g zs) (g z)) (place_in same zs) E (Each-each_once (λ z. Each (Alike z) zs) same zs h) (λ z a. place_alike zs z a)

each_of_places : {Z : Type 0} (P : Z → Type 0) (zs : List Z) → ((i : ℕ) (d : Z) → i < length zs → P (get_or zs i d)) → Each P zs
each_of_places P [] h = tt
each_of_places P (z ∷ zs) h = (h 0 z (omega arith), each_of_places P zs (λ i d l. h (suc i) d (omega (arith, l))))

lefts_zip : {A B : Type 0} (xs : List A) (ys : List B) → length ys ≡ length xs → map (λ p. p.0) (zip xs ys) ≡ xs
lefts_zip [] ys e = refl
lefts_zip (x ∷ xs) [] e = absurd (omega (arith, e))
lefts_zip (x ∷ xs) (y ∷ ys) e = ap (λ l. x ∷ l) (lefts_zip xs ys (omega (arith, e)))

rights_zip : {A B : Type 0} (xs : List A) (ys : List B) → length ys ≡ length xs → map (λ p. p.1) (zip xs ys) ≡ ys
rights_zip [] [] e = refl
rights_zip [] (y ∷ ys) e = absurd (omega (arith, e))
rights_zip (x ∷ xs) [] e = absurd (omega (arith, e))
rights_zip (x ∷ xs) (y ∷ ys) e = ap (λ l. y ∷ l) (rights_zip xs ys (omega (arith, e)))

module _ {X K : Type 0} (same : X → X → Bool) (same' : K → K → Bool) (none : X) (xs : List X) (keys : List K) (t : Tells same' (same_at same none xs) (length xs) keys) where
  abbrev zs : List (X × K)
  zs = zip xs keys

  abbrev same_z : X × K → X × K → Bool
  same_z p q = same p.0 q.0

  left : (i : ℕ) (d : X × K) → i < length zs → i < length xs → (get_or zs i d).0 ≡ get_or xs i none
  left i d l m = sym (get_or-map (λ p. p.0) zs i d none l) ∙ ap (λ l. get_or l i none) (lefts_zip xs keys t.long)

  right : (i : ℕ) (d : X × K) → i < length zs → (get_or zs i d).1 ≡ get_or keys i d.1
  right i d l = sym (get_or-map (λ p. p.1) zs i d d.1 l) ∙ ap (λ l. get_or l i d.1) (rights_zip xs keys t.long)

  long : length zs ≡ length xs
  long = sym (length-map zs (λ p. p.0)) ∙ ap length (lefts_zip xs keys t.long)

  all_alike : AllAlike same_z same' (λ p. p.1) zs
  all_alike = each_of_places (λ z. Each (Alike same_z same' (λ p. p.1) z) zs) zs (λ i d l.
      each_of_places (Alike same_z same' (λ p. p.1) (get_or zs i d)) zs (λ j e m.
      let n = long in
      let li : i < length xs = omega (arith, l, n) in
      let lj : j < length xs = omega (arith, m, n) in
      ap (λ k. same' k (get_or zs j e).1) (right i d l) ∙ ap (λ k. same' (get_or keys i d.1) k) (right j e m)
      ∙ t.tells i j d.1 e.1 li lj
      ∙ ap (λ x. same x (get_or xs j none)) (sym (left i d l li)) ∙ ap (λ x. same (get_or zs i d).0 x) (sym (left j e m lj))))

  own_alike : AllAlike same_z same (λ p. p.0) zs
  own_alike = Each-all (λ z. Each (Alike same_z same (λ p. p.0) z) zs) zs (λ z. Each-all (Alike same_z same (λ p. p.0) z) zs (λ w. refl))

  pub numbers_told : numbers_of same' keys ≡ numbers_of same xs
  numbers_told =
      ap (numbers_of same') (sym (rights_zip xs keys t.long)) ∙ numbers_alike same_z same' (λ p. p.1) zs all_alike
      ∙ sym (numbers_alike same_z same (λ p. p.0) zs own_alike) ∙ ap (numbers_of same) (lefts_zip xs keys t.long)

  pub firsts_told : first_places same' keys ≡ first_places same xs
  firsts_told =
      ap (first_places same') (sym (rights_zip xs keys t.long)) ∙ firsts_alike same_z same' (λ p. p.1) zs all_alike
      ∙ sym (firsts_alike same_z same (λ p. p.0) zs own_alike) ∙ ap (first_places same) (lefts_zip xs keys t.long)
