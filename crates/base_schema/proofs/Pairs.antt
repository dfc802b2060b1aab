-- A test of two lists, pair by pair.
use Rattle.std.proofs.Common.{◌≡◌, ℕ, zero, suc, ◌+◌, ◌<◌, ◌≤◌, Bool, true, false, ◌&&◌, List, []}
use Rattle.std.proofs.Common.{◌∷◌, length, take, get_or, refl, add-one, arith}
use Rattle.std.proofs.lemmas.List.{take_all}
use Rattle.std.specs.Cmp.Lexicographic.{pointwise, unequal}

and_parts : (a b : Bool) → (a && b) ≡ true → (a ≡ true) × (b ≡ true)
and_parts true b e = (refl, e)
and_parts false b e = cc

and_false : (a b : Bool) → b ≡ false → (a && b) ≡ false
and_false true b e = e
and_false false b e = refl

-- one pair more meets the test
pub pointwise_more : {A B : Type 0} (test : A → B → Bool) (xs : List A) (ys : List B) (i : ℕ)
    (d : A) (y : B) → i < length xs → i < length ys
    → y ≡ get_or ys i y → pointwise test (take i xs) (take i ys) ≡ true
    → test (get_or xs i d) y ≡ true
    → pointwise test (take (i + 1) xs) (take (i + 1) ys) ≡ true
pointwise_more test [] ys i d y h g q e f = absurd (omega (arith, h))
pointwise_more test (a ∷ xs) [] i d y h g q e f = absurd (omega (arith, g))
pointwise_more test (a ∷ xs) (b ∷ ys) zero d y h g q e f = rw (← q, f) refl
pointwise_more test (a ∷ xs) (b ∷ ys) (suc i) d y h g q e f =
    let both : (test a b ≡ true) × (pointwise test (take i xs) (take i ys) ≡ true) =
    and_parts (test a b) _ e in
    let more : pointwise test (take (i + 1) xs) (take (i + 1) ys) ≡ true =
    pointwise_more test xs ys i d y (omega arith) (omega arith) q both.1 f in
    rw (add-one, both.0) (rw add-one at more)

-- a pair fails it
pub pointwise_fails : {A B : Type 0} (test : A → B → Bool) (xs : List A) (ys : List B) (i : ℕ)
    (d : A) (y : B) → i < length xs → i < length ys
    → y ≡ get_or ys i y → test (get_or xs i d) y ≡ false → false ≡ pointwise test xs ys
pointwise_fails test [] ys i d y h g q f = absurd (omega (arith, h))
pointwise_fails test (a ∷ xs) [] i d y h g q f = refl
pointwise_fails test (a ∷ xs) (b ∷ ys) zero d y h g q f = rw (← q, f) refl
pointwise_fails test (a ∷ xs) (b ∷ ys) (suc i) d y h g q f =
    rw (and_false (test a b) (pointwise test xs ys)
    (rw (← (pointwise_fails test xs ys i d y (omega arith) (omega arith) q f)) refl)) refl

-- all pairs were tried
pub pointwise_all : {A B : Type 0} (test : A → B → Bool) (xs : List A) (ys : List B) (i : ℕ)
    → length xs ≤ i → length ys ≤ i
    → pointwise test (take i xs) (take i ys) ≡ pointwise test xs ys
pointwise_all test xs ys i h g = rw (take_all i xs h, take_all i ys g) refl

pub ruleset pairs = (pointwise_all, unequal)
