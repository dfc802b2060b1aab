-- Texts that a line of a table can hold.
use Rattle.std.proofs.Common.{◌≡◌, ℕ, zero, suc, ◌+◌, ◌/◌, ◌%◌, ◌^◌, ◌<◌, ◌≤◌, Bool, true, false, not, ◌&&◌, ◌==◌, List, [], ◌∷◌, ◌++◌, length, refl, ◌∙◌, arith, le_trans, length-append, ℤ, pos, negsuc}
use Rattle.std.specs.Prelude.{codes, nat_le, nat_lt, unsigned_abs}
use Rattle.std.specs.Char.{is_ascii_digit}
use Rattle.std.specs.Fmt.{decimal}
use Rattle.std.specs.List.{list_all}
use Rattle.std.specs.Str.{all_ascii_digits}
use Rattle.std.specs.Str.Parse.{digits_value}
use Rattle.std.proofs.Math.Nat.{mod-lt, div-le_self}
use Rattle.std.proofs.lemmas.Bool.{and_parts, and_from}
use Rattle.std.proofs.lemmas.Bool.Decides.{nat_tests}
use Rattle.std.proofs.lemmas.Fmt.{decimal_is_IsNumeral_wide, length-decimal-le_wide}
use Rattle.std.proofs.lemmas.List.Folds.{list_all-append}
use Rattle.std.proofs.lemmas.Str.Parse.{numerals_by_value, tells_all_ascii_digits, IsNumeralModel}
use Rattle.base_text.specs.Printable.{is_printable}
use Rattle.base_decimal.specs.Written.{last_digits}
use Rattle.app_sample_data.specs.Choices.{word}
use Rattle.app_sample_data.specs.Fields.{draw, labelled, address, phone, money}

-- a byte that a field may have: printable, no bar and no backslash
abbrev pub is_plain : ℕ → Bool
is_plain b = is_printable b && not (b == 124) && not (b == 92)

-- a text of at most n of such bytes
pub record IsText (most : ℕ) (text : List ℕ) : Type 0 where
  pub plain : list_all is_plain text ≡ true
  pub short : length text ≤ most

-- the same as a test
abbrev pub is_text : ℕ → List ℕ → Bool
is_text most text = list_all is_plain text && nat_le (length text) most

le_of : (m n : ℕ) → nat_le m n ≡ true → m ≤ n
le_of m n h = grind (arith, nat_tests)

pub tested : (most : ℕ) (text : List ℕ) → is_text most text ≡ true → IsText most text
tested most text e =
    let parts = and_parts (list_all is_plain text) (nat_le (length text) most) e in
    record { plain = parts.0; short = le_of _ _ parts.1 }

pub text_append : (a b : ℕ) (xs ys : List ℕ) → IsText a xs → IsText b ys → IsText (a + b) (xs ++ ys)
text_append a b xs ys f g = record {
  plain = list_all-append is_plain xs ys ∙ and_from _ _ f.plain g.plain;
  short = omega (arith, length-append xs ys, f.short, g.short);
}

pub text_more : (a b : ℕ) (xs : List ℕ) → a ≤ b → IsText a xs → IsText b xs
text_more a b xs h f = record { plain = f.plain; short = le_trans f.short h }

-- one of the words of a list

pub word_of : (test : List ℕ → Bool) (words : List (List ℕ)) (place : ℕ) → list_all test words ≡ true → place < length words → test (word words place) ≡ true
unfolding word
word_of test [] place e h = absurd (omega (arith, h))
word_of test (w ∷ words) zero e h = (and_parts _ _ e).0
word_of test (w ∷ words) (suc place) e h = word_of test words place (and_parts _ _ e).1 (omega (arith, h))

pub word_text : (most : ℕ) (words : List (List ℕ)) (place : ℕ) → list_all (is_text most) words ≡ true → place < length words → IsText most (word words place)
word_text most words place e h = tested most (word words place) (word_of (is_text most) words place e h)

pub draw_below : (n column key count : ℕ) → 0 < count → draw n column key count < count
unfolding draw
draw_below n column key count h = mod-lt _ h

-- digits

digit_plain : (d : ℕ) → is_ascii_digit d ≡ true → is_plain d ≡ true
digit_plain d h = grind (arith, nat_tests)

digits_plain : (ds : List ℕ) → all_ascii_digits ds ≡ true → list_all is_plain ds ≡ true
digits_plain [] e = refl
digits_plain (d ∷ ds) e =
    let parts = and_parts (is_ascii_digit d) (all_ascii_digits ds) e in
    and_from _ _ (digit_plain d parts.0) (digits_plain ds parts.1)

own : IsNumeralModel (λ ds. all_ascii_digits ds ≡ true) (digits_value 10)
own = numerals_by_value _ tells_all_ascii_digits

pub decimal_text : (width n : ℕ) → 0 < width → n < 10 ^ width → n < 10 ^ 64 → IsText width (decimal n)
decimal_text width n some small wide = record {
  plain = digits_plain (decimal n) (own.from (decimal n) (decimal_is_IsNumeral_wide n wide).0.1);
  short = length-decimal-le_wide width n some small wide;
}

-- a number of at most twelve digits
pub short_decimal : (n : ℕ) → n < 10 ^ 12 → IsText 12 (decimal n)
short_decimal n h = decimal_text 12 n (omega arith) h (omega arith)

last_digit : (n : ℕ) → is_plain (48 + n % 10) ≡ true
last_digit n = let low : n % 10 < 10 = mod-lt n (omega arith) in grind (arith, nat_tests)

pub last_digits_text : (places n : ℕ) → IsText places (last_digits places n)
last_digits_text zero n = record { plain = refl; short = omega arith }
last_digits_text (suc places) n =
    let rest = last_digits_text places n in
    record {
      plain = and_from _ _ (last_digit (n / 10 ^ places)) rest.plain;
      short = omega (arith, rest.short);
    }

-- amounts

none_below : (n : ℕ) → nat_lt n 0 ≡ false
none_below n = grind (arith, nat_tests)

size_text : (n : ℕ) → n < 10 ^ 12 → IsText 15 (decimal (n / 10 ^ 2) ++ 46 ∷ last_digits 2 n)
size_text n h =
    let less : n / 10 ^ 2 ≤ n = div-le_self n (10 ^ 2) in
    let digits = last_digits_text 2 n in
    let point : IsText 3 (46 ∷ last_digits 2 n) = record { plain = digits.plain; short = omega (arith, digits.short) } in
    text_append 12 3 (decimal (n / 10 ^ 2)) (46 ∷ last_digits 2 n) (short_decimal (n / 10 ^ 2) (omega arith)) point

pub money_text : (c : ℤ) → unsigned_abs c < 10 ^ 12 → IsText 16 (money c)
money_text (pos n) h = rw (none_below n) (text_more 15 16 _ (omega arith) (size_text n h))
money_text (negsuc n) h =
    let size = size_text (suc n) h in
    record { plain = size.plain; short = omega (arith, size.short) }

-- labels

pub labelled_text : (label : List ℕ) (most key : ℕ) → is_text most label ≡ true → IsText (most + 9) (labelled label key)
labelled_text label most key e = text_append most 9 label (last_digits 9 key) (tested most label e) (last_digits_text 9 key)

pub address_text : (key : ℕ) → key < 10 ^ 12 → IsText 13 (address key)
address_text key h = text_append 1 12 (codes "A") (decimal key) (tested 1 (codes "A") refl) (short_decimal key h)

pub phone_text : (nation : ℕ) → nation < 25 → IsText 15 (phone nation)
phone_text nation h =
    text_append 2 13 (decimal (10 + nation)) (codes "-100-200-3000") (decimal_text 2 (10 + nation) (omega arith) (omega arith) (omega arith)) (tested 13 (codes "-100-200-3000") refl)
