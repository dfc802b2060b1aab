-- Words and digits of a line.
use Rattle.std.proofs.Common.{◌≡◌, ℕ, ◌<◌, ◌≤◌, ◌^◌, Bool, true, false, ◌==◌, List, [], ◌∷◌, length, arith, refl}
use Rattle.std.specs.Prelude.{◌&&◌, slice_index, suc, zero}
use Rattle.std.specs.Char.{digit_value, is_ascii_digit}
use Rattle.std.specs.List.{list_all}
use Rattle.std.specs.Str.{IsAscii, IsUtf8}
use Rattle.std.specs.Str.Parse.{AllDigits, IsNumeral, digits_value, without_leading_plus}
use Rattle.std.proofs.lemmas.Bool.Decides.{nat_tests}
use Rattle.std.proofs.lemmas.Fmt.{IsAscii-from_digits}
use Rattle.std.proofs.lemmas.Str.{IsUtf8-from_ascii}
use Rattle.std.proofs.lemmas.Str.Parse.{digits_value_short, numerals_by_value, tells_digits}
use Rattle.app_job_file.specs.Lines.{is_visible}

both_left : (a b : Bool) → (a && b) ≡ true → a ≡ true
both_left true b e = refl
both_left false b e = e

both_right : (a b : Bool) → (a && b) ≡ true → b ≡ true
both_right true b e = e
both_right false b e = cc

visible_low : (c : ℕ) → is_visible c ≡ true → c < 128
visible_low c h = grind (arith, nat_tests)

visible_ascii : (bs : List ℕ) → list_all is_visible bs ≡ true → IsAscii bs
visible_ascii [] h i = omega arith
visible_ascii (c ∷ cs) h zero = visible_low c (both_left (is_visible c) (list_all is_visible cs) h)
visible_ascii (c ∷ cs) h (suc i) = visible_ascii cs (both_right (is_visible c) (list_all is_visible cs) h) i

-- a word is a text
pub word_utf8 : (bs : List ℕ) → list_all is_visible bs ≡ true → IsUtf8 bs
word_utf8 bs h = IsUtf8-from_ascii bs (visible_ascii bs h)

digit_low : (c : ℕ) → is_ascii_digit c ≡ true → digit_value c < 10
digit_low c h = grind (arith, nat_tests)

all_digits : (ds : List ℕ) → list_all is_ascii_digit ds ≡ true → AllDigits 10 ds
all_digits [] h = tt
all_digits (c ∷ cs) h =
    (digit_low c (both_left (is_ascii_digit c) (list_all is_ascii_digit cs) h), all_digits cs (both_right (is_ascii_digit c) (list_all is_ascii_digit cs) h))

-- digits are a text
pub digits_utf8 : (ds : List ℕ) → list_all is_ascii_digit ds ≡ true → IsUtf8 ds
digits_utf8 ds h = IsUtf8-from_ascii ds (IsAscii-from_digits ds (all_digits ds h))

no_plus : (c : ℕ) → digit_value c < 10 → (c == 43) ≡ false
no_plus c h = grind (arith, nat_tests)

-- digits have no plus before them
pub no_sign : (ds : List ℕ) → list_all is_ascii_digit ds ≡ true → without_leading_plus ds ≡ ds
no_sign [] h = refl
no_sign (c ∷ cs) h = rw (no_plus c (digit_low c (both_left (is_ascii_digit c) (list_all is_ascii_digit cs) h))) refl

-- one to nine digits are parsed
pub is_number : (ds : List ℕ) → 0 < length ds → length ds ≤ 9 → list_all is_ascii_digit ds ≡ true
    → IsNumeral 10 (without_leading_plus ds) × (digits_value 10 (without_leading_plus ds) < 2 ^ 32)
is_number ds some few h =
    let all = all_digits ds h in
    let low : digits_value 10 ds < 10 ^ 9 = digits_value_short (numerals_by_value (AllDigits 10) tells_digits) ds 9 all few in
    rw (no_sign ds h) ((some, all), omega (arith, low))
