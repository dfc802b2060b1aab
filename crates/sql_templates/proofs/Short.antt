-- How long a template with its values is at most.
use Rattle.std.proofs.Common.{◌≡◌, ℕ, zero, suc, ◌+◌, ◌-◌, ◌*◌, ◌/◌, ◌<◌, ◌≤◌, ◌^◌, Bool, true, false, cond, eqb, ◌&&◌, List, [], ◌∷◌, ◌++◌, length, map, Option, Some, None, pos, negsuc, refl, ap, arith, length-append}
use Rattle.std.specs.Prelude.{◌==◌, if◌then◌else◌, is_some, int_le, slice_index, slice_index_or, slice_range}
use Rattle.std.specs.Char.{is_ascii_digit}
use Rattle.std.specs.Fmt.{decimal}
use Rattle.std.proofs.Math.Nat.{div-le_self}
use Rattle.std.proofs.lemmas.Bool.Decides.{nat_tests}
use Rattle.std.proofs.lemmas.Fmt.{length-decimal-le_wide}
use Rattle.base_date.specs.Date.{date_of, day_of, number_of}
use Rattle.base_decimal.specs.Decimal as decimals
use Rattle.base_decimal.specs.Written.{last_digits, size_written, decimal_written}
use Rattle.sql_ast.specs.declared.statement.TemplateValue.{TemplateValue}
use Rattle.sql_ast.specs.declared.statement.TemplateValue.TheVariants as value
use Rattle.sql_lexer.proofs.Truths.{and_left, and_right}
use Rattle.sql_templates.specs.declared.kind.ValueKind.{ValueKind}
use Rattle.sql_templates.specs.declared.kind.ValueKind.TheVariants.{Text, Date, Number, Whole}
use Rattle.sql_templates.specs.Templates.{doubled, put, put_value, place_with, filled, fits}
use Rattle.sql_templates.specs.Writable.{IsWritable, AreWritable}
use Rattle.sql_templates.proofs.Fronts.{never}
use Rattle.sql_templates.proofs.Numbers.{length-last_digits}
use Rattle.sql_templates.proofs.Parts.{Fit, unsigned}

-- ---- each value

length-doubled : (text : List ℕ) → length (doubled text) ≤ 2 * length text
length-doubled [] = omega arith
length-doubled (b ∷ bs) = by (eqb b 39) (length-doubled bs)
  where
    by : (t : Bool) → length (doubled bs) ≤ 2 * length bs → length (cond t (39 ∷ b ∷ []) (b ∷ []) ++ doubled bs) ≤ 2 * suc (length bs)
    by true le = omega (arith, le)
    by false le = omega (arith, le)

length-whole : (n : ℕ) → n < 2 ^ 127 → length (decimal n) ≤ 39
length-whole n h = length-decimal-le_wide 39 n (omega arith) (omega (arith, h)) (omega (arith, h))

length-size : (n places : ℕ) → n < 2 ^ 127 → places ≤ 18 → length (size_written n places) ≤ 100
length-size n zero h few = omega (arith, length-whole n h)
length-size n (suc places) h few =
    let less = div-le_self n (10 ^ suc places) in
    let whole = length-whole (n / 10 ^ suc places) (omega (arith, less, h)) in
    omega (arith, whole, few, length-append (decimal (n / 10 ^ suc places)) (46 ∷ last_digits (suc places) n), length-last_digits (suc places) n)

length-date : (text : List ℕ) → is_some (date_of text) ≡ true → length text ≡ 10
length-date text e = by (eqb (length text) 10) refl e
  where
    by : (t : Bool) → eqb (length text) 10 ≡ t
        → is_some (cond (t && eqb (slice_index text 4) 45 && eqb (slice_index text 7) 45) (day_of (number_of (slice_range text 0 4)) (number_of (slice_range text 5 7)) (number_of (slice_range text 8 10))) None) ≡ true
        → length text ≡ 10
    by true q e = grind (arith, nat_tests)
    by false q e = never e

length-text : (text : List ℕ) → length text ≤ 1000 → length (doubled text) ≤ 2000
length-text text le = omega (arith, le, length-doubled text)

length-number : (n places : ℕ) → decimals.fits (pos n) ≡ true → places ≤ 18 → length (decimal_written (pos n) places) ≤ 2000
length-number n places h few =
    let small : n < 2 ^ 127 = grind (arith, nat_tests) in
    let le = length-size n places small few in
    let same = ap length (unsigned n places) in
    omega (arith, le, same)

length-put : (kind : ValueKind) (v : TemplateValue) → fits kind v ≡ true → IsWritable v → length (put v) ≤ 2000
length-put Text (value.Text text) f w = length-text text (grind (arith, nat_tests))
length-put Date (value.Text text) f w = length-text text (omega (arith, length-date text f))
length-put Number (value.Text text) f w = never f
length-put Whole (value.Text text) f w = never f
length-put Text (value.Number n places) f w = never f
length-put Date (value.Number n places) f w = never f
length-put Number (value.Number (pos n) places) f w = length-number n places w.0 w.1
length-put Number (value.Number (negsuc n) places) f w = never f
length-put Whole (value.Number (pos n) places) f w = length-number n places w.0 w.1
length-put Whole (value.Number (negsuc n) places) f w =
    never (and_left (int_le (pos 0) (negsuc n)) (int_le (negsuc n) (pos 999_999)) (and_right (eqb places 0) (int_le (pos 0) (negsuc n) && int_le (negsuc n) (pos 999_999)) f))

-- ---- all values

-- each value takes at most 2000 bytes
abbrev pub AreShort : List TemplateValue → Type 0
AreShort [] = Unit {0}
AreShort (v ∷ values) = (length (put v) ≤ 2000) × AreShort values

pub are_short : (kinds : List ValueKind) (values : List TemplateValue) → length values ≡ length kinds → Fit kinds values → AreWritable values → AreShort values
are_short kinds [] l f w = tt
are_short [] (v ∷ values) l f w = absurd (omega (arith, l))
are_short (kind ∷ kinds) (v ∷ values) l f w = (length-put kind v f.0 w.0, are_short kinds values (omega (arith, l)) f.1 w.1)

short_at : (values : List TemplateValue) → AreShort values → (n : ℕ) → length (slice_index_or (map put values) n []) ≤ 2000
short_at [] s zero = omega arith
short_at [] s (suc n) = omega arith
short_at (v ∷ values) s zero = s.0
short_at (v ∷ values) s (suc n) = short_at values s.1 n

-- how long a template is at most where each place takes 2000 bytes
abbrev pub longest : List ℕ → ℕ
longest [] = 0
longest (b ∷ bs) = if b == 58 then 2000 + longest bs else 1 + longest bs

module _ (values : List TemplateValue) (short : AreShort values) where
  -- how long it is at most where a place's number came before
  abbrev bound : Option ℕ → List ℕ → ℕ
  bound None bs = longest bs
  bound (Some n) bs = 2000 + longest bs

  put_short : (n : ℕ) → length (put_value values n) ≤ 2000
  put_short n = short_at values short (n - 1)

  pub filled_short : (place : Option ℕ) (text : List ℕ) → length (filled values place text) ≤ bound place text
  filled_short None [] = omega arith
  filled_short (Some n) [] = omega (arith, put_short n)
  filled_short None (b ∷ bs) = plain (eqb b 58) (filled_short (Some 0) bs) (filled_short None bs)
    where
      plain : (t : Bool) → length (filled values (Some 0) bs) ≤ 2000 + longest bs → length (filled values None bs) ≤ longest bs
          → length (cond t (filled values (Some 0) bs) (b ∷ filled values None bs)) ≤ cond t (2000 + longest bs) (1 + longest bs)
      plain true colon byte = colon
      plain false colon byte = omega (arith, byte)
  filled_short (Some n) (b ∷ bs) = by (is_ascii_digit b) (eqb b 58) (filled_short (Some (place_with n b)) bs) (filled_short (Some 0) bs) (filled_short None bs)
    where
      by : (d t : Bool) → length (filled values (Some (place_with n b)) bs) ≤ 2000 + longest bs → length (filled values (Some 0) bs) ≤ 2000 + longest bs → length (filled values None bs) ≤ longest bs
          → length (cond d (filled values (Some (place_with n b)) bs) (put_value values n ++ cond t (filled values (Some 0) bs) (b ∷ filled values None bs))) ≤ 2000 + cond t (2000 + longest bs) (1 + longest bs)
      by true true more colon byte = omega (arith, more)
      by true false more colon byte = omega (arith, more)
      by false true more colon byte = omega (arith, colon, put_short n, length-append (put_value values n) (filled values (Some 0) bs))
      by false false more colon byte = omega (arith, byte, put_short n, length-append (put_value values n) (b ∷ filled values None bs))
