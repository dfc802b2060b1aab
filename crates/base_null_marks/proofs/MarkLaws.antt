-- Laws of marked lists.
use Rattle.std.proofs.Common.{◌≡◌, ℕ, ◌+◌, ◌-◌, ◌<◌, ◌≤◌, suc, zero, Bool, true, false, cond, List, [], ◌∷◌, ◌++◌, refl, sym, ap, ◌∙◌, arith, length, get_or, take, map, ⊎_elim, rules}
use Rattle.std.proofs.lemmas.Bool.{cases_lt, eq-eqb, ne_eqb}
use Rattle.std.proofs.lemmas.List.{get_or_past, get_or_append_left, get_or-append_right, get_or_at, get_or_default, length_push, length-map, length-append, get_or-map}
use Rattle.base_null_marks.specs.Zips.{zip_with}
use Rattle.std.specs.Prelude.{◌||◌, nat_le}
use Rattle.base_null_marks.specs.Marks.{has, marked, IsMarkSet, AreEither, AreMarksAt, AreAppended}

pub length-marked : {A : Type 0} (d : A) (ms : List Bool) (xs : List A) → length (marked d ms xs) ≡ length xs
length-marked d [] xs = refl
length-marked d (m ∷ ms) [] = refl
length-marked d (m ∷ ms) (x ∷ xs) = ap suc (length-marked d ms xs)

-- what stands at a place of a marked list
pub at-marked : {A : Type 0} (d e : A) (ms : List Bool) (xs : List A) (i : ℕ) → i < length xs
    → get_or (marked d ms xs) i e ≡ cond (has ms i) d (get_or xs i e)
at-marked d e ms [] i h = absurd (omega (arith, h))
at-marked d e [] (x ∷ xs) i h = refl
at-marked d e (m ∷ ms) (x ∷ xs) zero h = refl
at-marked d e (m ∷ ms) (x ∷ xs) (suc i) h = at-marked d e ms xs i (omega (arith, h))

cond_same : {A : Type 0} (b : Bool) (d : A) → cond b d d ≡ d
cond_same true d = refl
cond_same false d = refl

-- the same where d stands past the end
pub get-marked : {A : Type 0} (d : A) (ms : List Bool) (xs : List A) (i : ℕ)
    → get_or (marked d ms xs) i d ≡ cond (has ms i) d (get_or xs i d)
get-marked d [] xs i = refl
get-marked d (m ∷ ms) [] i = sym (cond_same (has (m ∷ ms) i) d)
get-marked d (m ∷ ms) (x ∷ xs) zero = refl
get-marked d (m ∷ ms) (x ∷ xs) (suc i) = get-marked d ms xs i

-- only the marks of the list's places count
pub same-marked : {A : Type 0} (d : A) (ms ns : List Bool) (xs : List A) → ((i : ℕ) → i < length xs → has ms i ≡ has ns i)
    → marked d ms xs ≡ marked d ns xs
same-marked d [] [] xs h = refl
same-marked d [] (n ∷ ns) [] h = refl
same-marked d (m ∷ ms) [] [] h = refl
same-marked d (m ∷ ms) (n ∷ ns) [] h = refl
same-marked d [] (n ∷ ns) (x ∷ xs) h =
    let e : false ≡ n = h 0 (omega arith) in
    rw (← e) (ap (λ ys. x ∷ ys) (same-marked d [] ns xs (λ i l. h (suc i) (omega (arith, l)))))
same-marked d (m ∷ ms) [] (x ∷ xs) h =
    let e : m ≡ false = h 0 (omega arith) in
    rw e (ap (λ ys. x ∷ ys) (same-marked d ms [] xs (λ i l. h (suc i) (omega (arith, l)))))
same-marked d (m ∷ ms) (n ∷ ns) (x ∷ xs) h =
    let e : m ≡ n = h 0 (omega arith) in
    rw e (ap (λ ys. cond n d x ∷ ys) (same-marked d ms ns xs (λ i l. h (suc i) (omega (arith, l)))))

app_cond : {A B : Type 0} (f : A → B) (b : Bool) (d x : A) → f (cond b d x) ≡ cond b (f d) (f x)
app_cond f true d x = refl
app_cond f false d x = refl

-- a function of each value
pub map-marked : {A B : Type 0} (f : A → B) (d : A) (ms : List Bool) (xs : List A) → map f (marked d ms xs) ≡ marked (f d) ms (map f xs)
map-marked f d [] xs = refl
map-marked f d (m ∷ ms) [] = refl
map-marked f d (m ∷ ms) (x ∷ xs) = rw (app_cond f m d x, map-marked f d ms xs) refl

-- a list that has d where a place is marked and else the value
pub is-marked : {A : Type 0} (d : A) (ms : List Bool) (xs ys : List A) → length ys ≡ length xs
    → ((i : ℕ) → i < length xs → get_or ys i d ≡ cond (has ms i) d (get_or xs i d)) → ys ≡ marked d ms xs
is-marked d [] [] [] l h = refl
is-marked d (m ∷ ms) [] [] l h = refl
is-marked d ms [] (y ∷ ys) l h = absurd (omega (arith, l))
is-marked d ms (x ∷ xs) [] l h = absurd (omega (arith, l))
is-marked d [] (x ∷ xs) (y ∷ ys) l h =
    let e : y ≡ x = h 0 (omega arith) in
    rw e (ap (λ zs. x ∷ zs) (is-marked d [] xs ys (omega (arith, l)) (λ i k. h (suc i) (omega (arith, k)))))
is-marked d (m ∷ ms) (x ∷ xs) (y ∷ ys) l h =
    let e : y ≡ cond m d x = h 0 (omega arith) in
    rw e (ap (λ zs. cond m d x ∷ zs) (is-marked d ms xs ys (omega (arith, l)) (λ i k. h (suc i) (omega (arith, k)))))

cond_or : {A : Type 0} (a b : Bool) (d x : A) → cond (a || b) d x ≡ cond a d (cond b d x)
cond_or true b d x = refl
cond_or false b d x = refl

-- marked twice
pub marked-either : {A : Type 0} (d : A) (ms ns os : List Bool) (xs : List A) → AreEither ms ns os
    → marked d ms (marked d ns xs) ≡ marked d os xs
marked-either d ms ns os xs h =
    is-marked d os xs (marked d ms (marked d ns xs)) (length-marked d ms (marked d ns xs) ∙ length-marked d ns xs)
    (λ i l. get-marked d ms (marked d ns xs) i ∙ ap (cond (has ms i) d) (get-marked d ns xs i) ∙ sym (cond_or (has ms i) (has ns i) d (get_or xs i d)) ∙ ap (λ b. cond b d (get_or xs i d)) (sym (h i)))

both_longer : {A : Type 0} (d x : A) (ms : List Bool) (xs : List A) (y : A) → length (marked d ms xs ++ y ∷ []) ≡ length (xs ++ x ∷ [])
both_longer d x ms xs y = length_push (marked d ms xs) y ∙ ap (λ n. n + 1) (length-marked d ms xs) ∙ sym (length_push xs x)

le-nat_le : (a b : ℕ) → a ≤ b → nat_le a b ≡ true
le-nat_le a b h = search (rules, arith, h)

lt-not_le : (a b : ℕ) → a < b → nat_le b a ≡ false
lt-not_le a b h = search (rules, arith, h)

of_first : {A B C : Type 0} (f : A → B → C) (d : A) (z : C) (m : Bool) (x : A) (y : B) → ((y : B) → f d y ≡ z) → f (cond m d x) y ≡ cond m z (f x y)
of_first f d z true x y a = a y
of_first f d z false x y a = refl

of_second : {A B C : Type 0} (f : A → B → C) (e : B) (z : C) (n : Bool) (x : A) (y : B) → ((x : A) → f x e ≡ z) → f x (cond n e y) ≡ cond n z (f x y)
of_second f e z true x y b = b x
of_second f e z false x y b = refl

-- a list that grows by a null, or by a value
pub null-pushed : {A : Type 0} (d x : A) (ms ns : List Bool) (xs : List A) → IsMarkSet ms ns (length xs) true
    → marked d ms xs ++ d ∷ [] ≡ marked d ns (xs ++ x ∷ [])
null-pushed d x ms ns xs h = is-marked d ns (xs ++ x ∷ []) (marked d ms xs ++ d ∷ []) (both_longer d x ms xs d) step
  where
    step : (i : ℕ) → i < length (xs ++ x ∷ []) → get_or (marked d ms xs ++ d ∷ []) i d ≡ cond (has ns i) d (get_or (xs ++ x ∷ []) i d)
    step i l = ⊎_elim
        (λ (k : i < length xs).
        rw (get_or_append_left (marked d ms xs) (d ∷ []) d i (omega (arith, k, length-marked d ms xs)), get_or_append_left xs (x ∷ []) d i k, h i, ne_eqb i (length xs) (λ e. omega (arith, e, k)))
        (get-marked d ms xs i))
        (λ (k : length xs ≤ i).
        let e : i ≡ length xs = omega (arith, k, l, length_push xs x) in
        rw (e, get_or_at (marked d ms xs) d [] d (length xs) (length-marked d ms xs), h (length xs), eq-eqb (length xs) (length xs) refl) refl)
        (cases_lt i (length xs))

pub value-pushed : {A : Type 0} (d x : A) (ms ns : List Bool) (xs : List A) → IsMarkSet ms ns (length xs) false
    → marked d ms xs ++ x ∷ [] ≡ marked d ns (xs ++ x ∷ [])
value-pushed d x ms ns xs h = is-marked d ns (xs ++ x ∷ []) (marked d ms xs ++ x ∷ []) (both_longer d x ms xs x) step
  where
    step : (i : ℕ) → i < length (xs ++ x ∷ []) → get_or (marked d ms xs ++ x ∷ []) i d ≡ cond (has ns i) d (get_or (xs ++ x ∷ []) i d)
    step i l = ⊎_elim
        (λ (k : i < length xs).
        rw (get_or_append_left (marked d ms xs) (x ∷ []) d i (omega (arith, k, length-marked d ms xs)), get_or_append_left xs (x ∷ []) d i k, h i, ne_eqb i (length xs) (λ e. omega (arith, e, k)))
        (get-marked d ms xs i))
        (λ (k : length xs ≤ i).
        let e : i ≡ length xs = omega (arith, k, l, length_push xs x) in
        rw (e, get_or_at (marked d ms xs) x [] d (length xs) (length-marked d ms xs), get_or_at xs x [] d (length xs) refl, h (length xs), eq-eqb (length xs) (length xs) refl) refl)
        (cases_lt i (length xs))

-- the values at places, null past the end, whatever stands there for null
pub gathered-marked : {A : Type 0} (d z : A) (ms ns : List Bool) (xs : List A) (places : List ℕ) → AreMarksAt (length xs) ms places ns
    → map (λ i. get_or (marked d ms xs) i d) places ≡ marked d ns (map (λ i. get_or xs i z) places)
gathered-marked d z ms ns xs places h = is-marked d ns (map (λ i. get_or xs i z) places) (map (λ i. get_or (marked d ms xs) i d) places)
    (length-map places (λ i. get_or (marked d ms xs) i d) ∙ sym (length-map places (λ i. get_or xs i z))) step
  where
    step : (k : ℕ) → k < length (map (λ i. get_or xs i z) places)
        → get_or (map (λ i. get_or (marked d ms xs) i d) places) k d ≡ cond (has ns k) d (get_or (map (λ i. get_or xs i z) places) k d)
    step k l =
        let f : k < length places = omega (arith, l, length-map places (λ i. get_or xs i z)) in
        let p = get_or places k 0 in
        rw (get_or-map (λ i. get_or (marked d ms xs) i d) places k 0 d f, get_or-map (λ i. get_or xs i z) places k 0 d f, h k f, get-marked d ms xs p)
        (⊎_elim
        (λ (b : p < length xs). rw (lt-not_le p (length xs) b) (ap (cond (has ms p) d) (get_or_default xs p d z b)))
        (λ (b : length xs ≤ p). rw (le-nat_le (length xs) p b, get_or_past xs p d b) (cond_same (has ms p) d))
        (cases_lt p (length xs)))

-- two lists together, by a function that gives z where either value is null
pub zip-marked : {A B C : Type 0} (f : A → B → C) (d : A) (e : B) (z : C) (ms ns : List Bool) (xs : List A) (ys : List B)
    → ((y : B) → f d y ≡ z) → ((x : A) → f x e ≡ z) → length xs ≡ length ys
    → zip_with f (marked d ms xs) (marked e ns ys) ≡ marked z ms (marked z ns (zip_with f xs ys))
zip-marked f d e z [] [] xs ys a b l = refl
zip-marked f d e z (m ∷ ms) [] [] ys a b l = refl
zip-marked f d e z [] (n ∷ ns) [] [] a b l = refl
zip-marked f d e z [] (n ∷ ns) [] (y ∷ ys) a b l = absurd (omega (arith, l))
zip-marked f d e z (m ∷ ms) (n ∷ ns) [] [] a b l = refl
zip-marked f d e z (m ∷ ms) (n ∷ ns) [] (y ∷ ys) a b l = absurd (omega (arith, l))
zip-marked f d e z (m ∷ ms) [] (x ∷ xs) [] a b l = absurd (omega (arith, l))
zip-marked f d e z [] (n ∷ ns) (x ∷ xs) [] a b l = absurd (omega (arith, l))
zip-marked f d e z (m ∷ ms) (n ∷ ns) (x ∷ xs) [] a b l = absurd (omega (arith, l))
zip-marked f d e z (m ∷ ms) [] (x ∷ xs) (y ∷ ys) a b l =
    rw (zip-marked f d e z ms [] xs ys a b (omega (arith, l)), of_first f d z m x y a) refl
zip-marked f d e z [] (n ∷ ns) (x ∷ xs) (y ∷ ys) a b l =
    rw (zip-marked f d e z [] ns xs ys a b (omega (arith, l)), of_second f e z n x y b) refl
zip-marked f d e z (m ∷ ms) (n ∷ ns) (x ∷ xs) (y ∷ ys) a b l =
    rw (zip-marked f d e z ms ns xs ys a b (omega (arith, l)), of_first f d z m x (cond n e y) a, of_second f e z n x y b) refl

-- two lists, one after the other
pub appended-marked : {A : Type 0} (d : A) (ms ns os : List Bool) (xs ys : List A) → AreAppended (length xs) ms (length ys) ns os
    → marked d ms xs ++ marked d ns ys ≡ marked d os (xs ++ ys)
appended-marked d ms ns os xs ys h = is-marked d os (xs ++ ys) (marked d ms xs ++ marked d ns ys)
    (length-append (marked d ms xs) (marked d ns ys) ∙ ap (λ n. n + length (marked d ns ys)) (length-marked d ms xs) ∙ ap (λ n. length xs + n) (length-marked d ns ys) ∙ sym (length-append xs ys)) step
  where
    step : (i : ℕ) → i < length (xs ++ ys) → get_or (marked d ms xs ++ marked d ns ys) i d ≡ cond (has os i) d (get_or (xs ++ ys) i d)
    step i l = ⊎_elim
        (λ (k : i < length xs).
        rw (get_or_append_left (marked d ms xs) (marked d ns ys) d i (omega (arith, k, length-marked d ms xs)), get_or_append_left xs ys d i k, h.before i k) (get-marked d ms xs i))
        (λ (k : length xs ≤ i).
        let j = i - length xs in
        let e : length xs + j ≡ i = omega (arith, k) in
        let m : j < length ys = omega (arith, k, l, length-append xs ys) in
        let o : has os i ≡ has ns j = ap (has os) (sym e) ∙ h.after j m in
        rw (get_or-append_right (marked d ms xs) (marked d ns ys) (length xs) i d (length-marked d ms xs) k, get_or-append_right xs ys (length xs) i d refl k, o) (get-marked d ns ys j))
        (cases_lt i (length xs))

-- the first values
pub take-marked : {A : Type 0} (d : A) (n : ℕ) (ms : List Bool) (xs : List A) → take n (marked d ms xs) ≡ marked d ms (take n xs)
take-marked d zero [] xs = refl
take-marked d zero (m ∷ ms) [] = refl
take-marked d zero (m ∷ ms) (x ∷ xs) = refl
take-marked d (suc n) [] xs = refl
take-marked d (suc n) (m ∷ ms) [] = refl
take-marked d (suc n) (m ∷ ms) (x ∷ xs) = ap (λ ys. cond m d x ∷ ys) (take-marked d n ms xs)
