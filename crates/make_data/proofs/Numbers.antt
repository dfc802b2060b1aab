-- A number's digits are parsed as the number.
use Rattle.std.proofs.Common.{◌≡◌, ℕ, ◌<◌, ◌≤◌, ◌^◌, List, [], ◌∷◌, arith, refl, sym, ◌∙◌, ap, ◌==◌, true, false}
use Rattle.std.specs.Fmt.{decimal}
use Rattle.std.specs.Char.{digit_value}
use Rattle.std.specs.Cmp.Lexicographic.{pointwise}
use Rattle.std.specs.Str.Parse.{IsNumeral, digits_value, without_leading_plus}
use Rattle.std.proofs.lemmas.Fmt.{decimal_is_IsNumeral}
use Rattle.std.proofs.lemmas.Bool.Decides.{nat_tests}

-- a digit is no plus
no_plus : (c : ℕ) → digit_value c < 10 → (c == 43) ≡ false
no_plus c h = grind (arith, nat_tests)

-- digits have no plus before them
plain : (ds : List ℕ) → IsNumeral 10 ds → without_leading_plus ds ≡ ds
plain [] h = refl
plain (c ∷ cs) h = rw (no_plus c h.1.0) refl

-- the digits of a number are a numeral, whose value is that number
pub is_read : (word : List ℕ) (n : ℕ) → n ≤ 1000 → word ≡ decimal n → (IsNumeral 10 (without_leading_plus word) × (digits_value 10 (without_leading_plus word) < 2 ^ 64)) × (digits_value 10 (without_leading_plus word) ≡ n)
is_read word n small h =
    let wide : n < 2 ^ 64 = omega arith in
    let parts = decimal_is_IsNumeral n wide in
    let same : without_leading_plus (decimal n) ≡ decimal n = plain (decimal n) parts.0 in
    rw (h, same) ((parts.0, rw parts.1 wide), parts.1)

pub decimal_value : (n : ℕ) → n ≤ 1000 → digits_value 10 (decimal n) ≡ n
decimal_value n small = (decimal_is_IsNumeral n (omega arith)).1

is_same : (n : ℕ) → (n == n) ≡ true
is_same n = grind (arith, nat_tests)

same_text : (text : List ℕ) → pointwise ◌==◌ text text ≡ true
same_text [] = refl
same_text (byte ∷ text) = rw (is_same byte, same_text text) refl

-- texts that are told apart are not the same
pub told_apart : (text other : List ℕ) → text ≡ other → false ≡ pointwise ◌==◌ text other → ⊥
told_apart text other e h = let same : pointwise ◌==◌ text other ≡ true = ap (pointwise ◌==◌ text) (sym e) ∙ same_text text in cc
