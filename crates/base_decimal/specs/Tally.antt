-- Sums of many terms, and their averages.
use Rattle.std.specs.Prelude.{◌≡◌, ◌-◌, ◌<◌, ◌≤◌}
use Rattle.std.specs.Prelude.{ℕ, ◌+◌, ◌^◌, min, Bool, ◌&&◌, Option, Some, None, ℤ, pos, negsuc}
use Rattle.std.specs.Prelude.{◌+ℤ◌, ◌-ℤ◌, Result, Ok, Err, nat_lt, if◌then◌else◌, List, [], ◌∷◌}
use Rattle.base_decimal.specs.declared.arithmetic.NumberFault.{NumberFault}
use Rattle.base_decimal.specs.declared.arithmetic.NumberFault.TheVariants.{NumberRange}
use Rattle.base_decimal.specs.Decimal.{in_range, rescaled, nearest, ◌>>=◌}

-- how many terms there were, the sum of those at or above 0, and the sum of the others negated
pub record Sums : Type 0 where
  pub terms : ℕ
  pub above : ℕ
  pub below : ℕ

-- a number of terms, the sum of those at or above 0, and the sum of the others, negated
abbrev pub sums : ℕ → ℕ → ℕ → Sums
sums terms above below = record { terms = terms; above = above; below = below }

-- the sums of no terms
abbrev pub no_terms : Sums
no_terms = sums 0 0 0

-- with one term more
abbrev pub with_term : Sums → ℤ → Sums
with_term s (pos n) = sums (s.terms + 1) (s.above + n) s.below
with_term s (negsuc n) = sums (s.terms + 1) s.above (s.below + (n + 1))

-- without one of its terms
abbrev pub without_term : Sums → ℤ → Sums
without_term s (pos n) = sums (s.terms - 1) (s.above - n) s.below
without_term s (negsuc n) = sums (s.terms - 1) s.above (s.below - (n + 1))

-- The term may be one of those that were added: there is one, its part is no less than it, and
-- where there is no other nothing else was added.
abbrev pub HasTerm : Sums → ℤ → Type 0
HasTerm s (pos n) = (1 ≤ s.terms) × (n ≤ s.above)
    × (s.terms ≡ 1 → (s.above ≡ n) × (s.below ≡ 0))
HasTerm s (negsuc n) = (1 ≤ s.terms) × (n + 1 ≤ s.below)
    × (s.terms ≡ 1 → (s.below ≡ n + 1) × (s.above ≡ 0))

-- the total is a number
abbrev pub IsInRange : Sums → Type 0
IsInRange s = (s.above < 2 ^ 127) × (s.below < 2 ^ 127)

-- of two lists of terms together
abbrev pub joined : Sums → Sums → Sums
joined s t = sums (s.terms + t.terms) (s.above + t.above) (s.below + t.below)

-- of a list of terms
abbrev pub sums_of : List ℤ → Sums
sums_of [] = no_terms
sums_of (term ∷ terms) = joined (with_term no_terms term) (sums_of terms)

-- a sum of one sign that a coefficient holds
abbrev pub is_small : ℕ → Bool
is_small n = nat_lt n (2 ^ 127)

-- the number, where it is below 2^127
abbrev pub small_sum : ℕ → Option ℤ
small_sum n = if is_small n then Some (pos n) else None

-- the sum, in range where both its parts are
abbrev pub total_of : Sums → Result ℤ NumberFault
total_of s = if is_small s.above
    && is_small s.below then Ok (pos s.above -ℤ pos s.below) else Err NumberRange

-- an average has four places more than its terms, 18 at most
abbrev pub average_scale : ℕ → ℕ
average_scale s = min 18 (s + 4)

-- the sum at that scale, divided by the number of terms, a half away from zero
abbrev pub average_of : Sums → ℕ → Result ℤ NumberFault
average_of t s = total_of t >>= λ total. rescaled total s (average_scale s) >>= λ scaled. in_range
    (nearest scaled (pos t.terms))

-- the terms of a list added up
abbrev pub added : List ℤ → ℤ
added [] = pos 0
added (term ∷ terms) = term +ℤ added terms
