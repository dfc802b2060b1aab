-- Lemmas on texts as places of a dictionary.
use Rattle.std.proofs.Common.{◌≡◌, ℕ, ◌<◌, ◌≤◌, suc, zero, List, [], ◌∷◌, ◌++◌, refl, sym, ap, ◌∙◌, subst, arith, length, get_or, take, drop, Bool, true, ◌==◌, replicate}
use Rattle.std.proofs.lemmas.List.{get_or-map, get_or_append_left, get_or_push, length-map, length-append, map-append, take-map, take-append-drop}
use Rattle.std.proofs.lemmas.List.Elements.{All-push, All-take, All-replicate}
use Rattle.std.specs.Cmp.Lexicographic.{pointwise, pointwise_decides, bytes_decides}
use Rattle.base_columns.proofs.ColumnLists.{map-gathered, map-replicate}
use Rattle.base_columns.specs.Lists.{gathered, AreBelow}

pub gathered-length : {A : Type 0} (d : A) (xs : List A) (places : List ℕ) → length (gathered d xs places) ≡ length places
gathered-length d xs places = length-map places (λ i. get_or xs i d)

pub gathered-at : {A : Type 0} (d e : A) (xs : List A) (places : List ℕ) (i : ℕ) → i < length places → get_or (gathered d xs places) i e ≡ get_or xs (get_or places i 0) d
gathered-at d e xs places i h = get_or-map (λ k. get_or xs k d) places i 0 e h

pub gathered-push : {A : Type 0} (d : A) (xs : List A) (places : List ℕ) (i : ℕ) → gathered d xs (places ++ i ∷ []) ≡ gathered d xs places ++ get_or xs i d ∷ []
gathered-push d xs places i = map-append (λ k. get_or xs k d) places (i ∷ [])

-- a longer list has the same elements at the places of the shorter one
pub gathered-longer : {A : Type 0} (d : A) (xs more : List A) (places : List ℕ) → AreBelow (length xs) places → gathered d (xs ++ more) places ≡ gathered d xs places
gathered-longer d xs more [] h = refl
gathered-longer d xs more (i ∷ places) h =
    rw (get_or_append_left xs more d i (h 0 0 (omega arith)), gathered-longer d xs more places (λ k c l. h (suc k) c (omega (arith, l)))) refl

pub gathered-added : {A : Type 0} (d : A) (xs : List A) (x : A) (places : List ℕ) (n : ℕ) → AreBelow (length xs) places → n ≡ length xs
    → gathered d (xs ++ x ∷ []) (places ++ n ∷ []) ≡ gathered d xs places ++ x ∷ []
gathered-added d xs x places n h e =
    gathered-push d (xs ++ x ∷ []) places n
    ∙ ap (λ ys. ys ++ get_or (xs ++ x ∷ []) n d ∷ []) (gathered-longer d xs (x ∷ []) places h)
    ∙ ap (λ y. gathered d xs places ++ y ∷ []) (get_or_push xs x d n (sym e))

pub below-push : (n : ℕ) (places : List ℕ) (i : ℕ) → AreBelow n places → i < n → AreBelow n (places ++ i ∷ [])
below-push n places i h l = All-push (λ k. k < n) places i h l

pub gathered-take : {A : Type 0} (d : A) (xs : List A) (places : List ℕ) (n : ℕ) → gathered d xs (take n places) ≡ take n (gathered d xs places)
gathered-take d xs places n = sym (take-map (λ k. get_or xs k d) n places)

pub below-take : (n : ℕ) (places : List ℕ) (m : ℕ) → AreBelow n places → AreBelow n (take m places)
below-take n places m h = All-take (λ k. k < n) m places h

-- places of places
pub gathered-gathered : {A : Type 0} (d : A) (xs : List A) (inner outer : List ℕ) → AreBelow (length inner) outer
    → gathered d xs (gathered 0 inner outer) ≡ gathered d (gathered d xs inner) outer
gathered-gathered d xs inner outer h = map-gathered (λ k. get_or xs k d) 0 d inner outer h

pub below-gathered : (n : ℕ) (inner outer : List ℕ) → AreBelow n inner → AreBelow (length inner) outer → AreBelow n (gathered 0 inner outer)
below-gathered n inner [] h l k e m = absurd (omega (arith, m))
below-gathered n inner (i ∷ outer) h l zero e m = h i 0 (l 0 0 (omega arith))
below-gathered n inner (i ∷ outer) h l (suc k) e m = below-gathered n inner outer h (λ j c p. l (suc j) c (omega (arith, p))) k e (omega (arith, m))

-- the same of lists that are known by equations
pub codes_gathered : (texts new seen : List (List ℕ)) (inner picked outer : List ℕ) → seen ≡ gathered [] texts inner → new ≡ texts → picked ≡ gathered 0 inner outer
    → AreBelow (length texts) inner → AreBelow (length seen) outer → AreBelow (length new) picked × (gathered [] new picked ≡ gathered [] seen outer)
codes_gathered texts new seen inner picked outer s n p h l =
    let m : length seen ≡ length inner = ap length s ∙ gathered-length [] texts inner in
    let b : AreBelow (length inner) outer = subst (λ k. AreBelow k outer) m l in
    rw (n, p, s) (below-gathered (length texts) inner outer h b, gathered-gathered [] texts inner outer b)

-- the first element many times
pub gathered-first : {A : Type 0} (d x : A) (n : ℕ) → gathered d (x ∷ []) (replicate n 0) ≡ replicate n x
gathered-first d x n = map-replicate (λ i. get_or (x ∷ []) i d) n 0

pub below-first : (m n : ℕ) → 0 < m → AreBelow m (replicate n 0)
below-first m n h = All-replicate (λ i. i < m) n 0 h

-- texts that pass the test of equality are the same
pub same_texts : (xs ys : List (List ℕ)) (r : Bool) → r ≡ pointwise (pointwise ◌==◌) xs ys → r ≡ true → xs ≡ ys
same_texts xs ys r e t = (pointwise_decides bytes_decides xs ys).0 (sym e ∙ t)

-- a dictionary that begins with another one has its texts at the same places
pub gathered-begun : {A : Type 0} (d : A) (xs ys : List A) (places : List ℕ) → take (length xs) ys ≡ xs → AreBelow (length xs) places → gathered d ys places ≡ gathered d xs places
gathered-begun d xs ys places e h =
    ap (λ zs. gathered d zs places) (sym (take-append-drop (length xs) ys) ∙ ap (λ zs. zs ++ drop (length xs) ys) e) ∙ gathered-longer d xs (drop (length xs) ys) places h

pub below-begun : {A : Type 0} (xs ys : List A) (places : List ℕ) → take (length xs) ys ≡ xs → AreBelow (length xs) places → AreBelow (length ys) places
below-begun xs ys places e h k c l =
    let n : length xs ≤ length ys = omega (arith, ap length (take-append-drop (length xs) ys), length-append (take (length xs) ys) (drop (length xs) ys), ap length e) in
    omega (arith, h k c l, n)

pub gathered-append : {A : Type 0} (d : A) (xs : List A) (ps qs : List ℕ) → gathered d xs (ps ++ qs) ≡ gathered d xs ps ++ gathered d xs qs
gathered-append d xs ps qs = map-append (λ k. get_or xs k d) ps qs

pub below-append : (n : ℕ) (ps qs : List ℕ) → AreBelow n ps → AreBelow n qs → AreBelow n (ps ++ qs)
below-append n [] qs h l k c m = l k c m
below-append n (p ∷ ps) qs h l zero c m = h 0 c (omega arith)
below-append n (p ∷ ps) qs h l (suc k) c m = below-append n ps qs (λ j d o. h (suc j) d (omega (arith, o))) l k c (omega (arith, m))

pub ruleset codes = (gathered-begun, below-begun, gathered-append, below-append, gathered-first, below-first, same_texts, gathered-take, below-take, gathered-length, gathered-at, gathered-push, gathered-added, below-push)
