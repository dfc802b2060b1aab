-- Sums of lists of terms.
use Rattle.std.proofs.Common.{◌≡◌, ℕ, arith, refl, sym, ◌∙◌, ap, List, [], ◌∷◌, ◌++◌, ℤ, pos, negsuc, ◌-ℤ◌}
use Rattle.std.proofs.lemmas.Int.{ints}
use Rattle.base_decimal.specs.Tally.{Sums, sums, no_terms, with_term, without_term, HasTerm, joined, sums_of, added}

alike : (a b c x y z : ℕ) → a ≡ x → b ≡ y → c ≡ z → sums a b c ≡ sums x y z
alike a b c x y z p q r = cc

joined-assoc : (s t u : Sums) → joined (joined s t) u ≡ joined s (joined t u)
joined-assoc s t u = alike _ _ _ _ _ _ (omega arith) (omega arith) (omega arith)

none-joined : (s : Sums) → joined no_terms s ≡ s
none-joined s = alike _ _ _ s.terms s.above s.below (omega arith) (omega arith) (omega arith)

joined-one : (s : Sums) (term : ℤ) → joined s (joined (with_term no_terms term) no_terms) ≡ with_term s term
joined-one s (pos n) = alike _ _ _ _ _ _ (omega arith) (omega arith) (omega arith)
joined-one s (negsuc n) = alike _ _ _ _ _ _ (omega arith) (omega arith) (omega arith)

pub sums_of-append : (terms more : List ℤ) → sums_of (terms ++ more) ≡ joined (sums_of terms) (sums_of more)
sums_of-append [] more = sym (none-joined (sums_of more))
sums_of-append (term ∷ terms) more =
    ap (joined (with_term no_terms term)) (sums_of-append terms more)
    ∙ sym (joined-assoc (with_term no_terms term) (sums_of terms) (sums_of more))

pub sums_of-put : (terms : List ℤ) (term : ℤ) → sums_of (terms ++ term ∷ []) ≡ with_term (sums_of terms) term
sums_of-put terms term = sums_of-append terms (term ∷ []) ∙ joined-one (sums_of terms) term

pub total_is : (terms : List ℤ) → pos (sums_of terms).above -ℤ pos (sums_of terms).below ≡ added terms
total_is [] = refl
total_is (pos n ∷ terms) = let so_far = total_is terms in omega (arith, ints)
total_is (negsuc n ∷ terms) = let so_far = total_is terms in omega (arith, ints)

-- sums of no terms are nothing
none_is_nothing : (terms : List ℤ) → (sums_of terms).terms ≡ 0 → ((sums_of terms).above ≡ 0) × ((sums_of terms).below ≡ 0)
none_is_nothing [] e = (refl, refl)
none_is_nothing (pos n ∷ terms) e = absurd (omega arith)
none_is_nothing (negsuc n ∷ terms) e = absurd (omega arith)

-- the first term of a list
pub has_first : (term : ℤ) (terms : List ℤ) → HasTerm (sums_of (term ∷ terms)) term
has_first (pos n) terms =
    (omega arith, omega arith, λ e. let no = none_is_nothing terms (omega arith) in (omega (arith, no.0), omega (arith, no.1)))
has_first (negsuc n) terms =
    (omega arith, omega arith, λ e. let no = none_is_nothing terms (omega arith) in (omega (arith, no.1), omega (arith, no.0)))

pub first_removed : (term : ℤ) (terms : List ℤ) → without_term (sums_of (term ∷ terms)) term ≡ sums_of terms
first_removed (pos n) terms = alike _ _ _ (sums_of terms).terms (sums_of terms).above (sums_of terms).below (omega arith) (omega arith) (omega arith)
first_removed (negsuc n) terms = alike _ _ _ (sums_of terms).terms (sums_of terms).above (sums_of terms).below (omega arith) (omega arith) (omega arith)

joined-comm : (s t : Sums) → joined s t ≡ joined t s
joined-comm s t = alike _ _ _ _ _ _ (omega arith) (omega arith) (omega arith)

-- the order of the terms doesn't matter
in_front : (terms more : List ℤ) (term : ℤ) → sums_of (terms ++ term ∷ more) ≡ sums_of (term ∷ terms ++ more)
in_front terms more term =
    sums_of-append terms (term ∷ more)
    ∙ sym (joined-assoc (sums_of terms) (with_term no_terms term) (sums_of more))
    ∙ ap (λ s. joined s (sums_of more)) (joined-comm (sums_of terms) (with_term no_terms term))
    ∙ joined-assoc (with_term no_terms term) (sums_of terms) (sums_of more)
    ∙ ap (λ s. joined (with_term no_terms term) s) (sym (sums_of-append terms more))

pub remove_is : (terms more : List ℤ) (term : ℤ) → HasTerm (sums_of (terms ++ term ∷ more)) term × (without_term (sums_of (terms ++ term ∷ more)) term ≡ sums_of (terms ++ more))
remove_is terms more term = let e = in_front terms more term in
    rw e (has_first term (terms ++ more), first_removed term (terms ++ more))
