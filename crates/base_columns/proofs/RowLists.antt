-- Lemmas on lists, one after the other.
use Rattle.std.proofs.Common.{◌≡◌, ℕ, suc, zero, ◌+◌, ◌-◌, ◌*◌, ◌<◌, ◌≤◌, List, [], ◌∷◌, ◌++◌, refl, sym, ap, ◌∙◌, subst, arith, length, get_or, take, drop, append_assoc, length-append}
use Rattle.std.specs.List.{All}
use Rattle.std.proofs.lemmas.List.{append-nil, get_or_append_left, get_or-append_right, get_or_default, take_all}
use Rattle.base_columns.specs.Lists.{one_list}

pub one_list-push : {A : Type 0} (xss : List (List A)) (xs : List A) → one_list (xss ++ xs ∷ []) ≡ one_list xss ++ xs
one_list-push [] xs = append-nil xs
one_list-push (ys ∷ xss) xs = ap (λ zs. ys ++ zs) (one_list-push xss xs) ∙ sym (append_assoc ys (one_list xss) xs)

-- the elements of the first k lists come before those of the others
pub one_list-parts : {A : Type 0} (xss : List (List A)) (k : ℕ) → one_list xss ≡ one_list (take k xss) ++ one_list (drop k xss)
one_list-parts xss zero = refl
one_list-parts [] (suc k) = refl
one_list-parts (xs ∷ xss) (suc k) = ap (λ zs. xs ++ zs) (one_list-parts xss k) ∙ sym (append_assoc xs (one_list (take k xss)) (one_list (drop k xss)))

-- a place within the list after the first k
pub one_list-at : {A : Type 0} (xss : List (List A)) (d : A) (k i left : ℕ) → k < length xss → i ≡ length (one_list (take k xss)) + left → left < length (get_or xss k [])
    → get_or (one_list xss) i d ≡ get_or (get_or xss k []) left d
one_list-at [] d k i left h e l = absurd (omega (arith, h))
one_list-at (xs ∷ xss) d zero i left h e l =
    let f : i ≡ left = omega (arith, e) in rw f (get_or_append_left xs (one_list xss) d left l)
one_list-at (xs ∷ xss) d (suc k) i left h e l =
    let n : length (xs ++ one_list (take k xss)) ≡ length xs + length (one_list (take k xss)) = length-append xs (one_list (take k xss)) in
    get_or-append_right xs (one_list xss) (length xs) i d refl (omega (arith, e, n))
    ∙ one_list-at xss d k (i - length xs) left (omega (arith, h)) (omega (arith, e, n)) l

-- a place that is not before the end of the first k lists
pub length-one_list-more : {A : Type 0} (xss : List (List A)) (k : ℕ) → k < length xss
    → length (one_list (take (k + 1) xss)) ≡ length (one_list (take k xss)) + length (get_or xss k [])
length-one_list-more [] k h = absurd (omega (arith, h))
length-one_list-more (xs ∷ xss) zero h = let a : length (xs ++ []) ≡ length xs = ap length (append-nil xs) in omega (arith, a)
length-one_list-more (xs ∷ xss) (suc k) h =
    let n : suc k + 1 ≡ suc (k + 1) = omega arith in
    let a : length (xs ++ one_list (take (k + 1) xss)) ≡ length xs + length (one_list (take (k + 1) xss)) = length-append xs _ in
    let b : length (xs ++ one_list (take k xss)) ≡ length xs + length (one_list (take k xss)) = length-append xs _ in
    let c : length (one_list (take (k + 1) xss)) ≡ length (one_list (take k xss)) + length (get_or xss k []) = length-one_list-more xss k (omega (arith, h)) in
    rw n (omega (arith, a, b, c))

pub one_list-more : {A : Type 0} (xss : List (List A)) (k : ℕ) → k < length xss → one_list (take (k + 1) xss) ≡ one_list (take k xss) ++ get_or xss k []
one_list-more [] k h = absurd (omega (arith, h))
one_list-more (xs ∷ xss) zero h = append-nil xs
one_list-more (xs ∷ xss) (suc k) h =
    let n : suc k + 1 ≡ suc (k + 1) = omega arith in
    rw n (ap (λ zs. xs ++ zs) (one_list-more xss k (omega (arith, h))) ∙ sym (append_assoc xs (one_list (take k xss)) (get_or xss k [])))

-- lists of one length
pub length-full : {A : Type 0} (xss : List (List A)) → All (λ xs. length xs ≡ 4096) xss → length (one_list xss) ≡ length xss * 4096
length-full [] h = refl
length-full (xs ∷ xss) h =
    let l : length xs ≡ 4096 = h 0 xs (omega arith) in
    let m : length (one_list xss) ≡ length xss * 4096 = length-full xss (λ k d p. h (suc k) d (omega (arith, p))) in
    let a : length (xs ++ one_list xss) ≡ length xs + length (one_list xss) = length-append xs (one_list xss) in
    omega (arith, l, m, a)

-- the row that a walk over the segments comes to
pub row_found : {A : Type 0} (seen : List A) (xss : List (List A)) (d : A) (k i left : ℕ) (xs : List A) → seen ≡ one_list xss → k < length xss → i ≡ length (one_list (take k xss)) + left
    → left < length xs → xs ≡ get_or xss k xs → get_or seen i d ≡ get_or xs left d
row_found seen xss d k i left xs s h e l x =
    let y : xs ≡ get_or xss k [] = x ∙ get_or_default xss k xs [] h in
    ap (λ zs. get_or zs i d) s ∙ one_list-at xss d k i left h e (subst (λ zs. left < length zs) y l) ∙ ap (λ zs. get_or zs left d) (sym y)

-- a walk's step past a segment, and its end
pub row_passed : {A : Type 0} (xss : List (List A)) (k i left : ℕ) (xs : List A) → k < length xss → i ≡ length (one_list (take k xss)) + left
    → length xs ≤ left → xs ≡ get_or xss k xs → i ≡ length (one_list (take (k + 1) xss)) + (left - length xs)
row_passed xss k i left xs h e l x =
    let n : length (get_or xss k []) ≡ length xs = ap length (sym (x ∙ get_or_default xss k xs [] h)) in
    omega (arith, length-one_list-more xss k h, n, e, l)

pub row_within : {A : Type 0} (xss : List (List A)) (i left : ℕ) → i ≡ length (one_list (take (length xss) xss)) + left → length (one_list xss) ≤ i
row_within xss i left e = let t : take (length xss) xss ≡ xss = take_all (length xss) xss (omega arith) in omega (arith, e, ap (λ ys. length (one_list ys)) t)

pub ruleset rows = (one_list-more, one_list-push, length-append)
