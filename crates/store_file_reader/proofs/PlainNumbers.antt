-- What plainly spelled numbers are.
use Rattle.std.proofs.Common.{◌≡◌, ℕ, suc, ◌+◌, ◌-◌, ◌*◌, ◌^◌, ◌<◌, ◌≤◌, Bool, true, false, cond, ◌==◌, ℤ, pos, List, [], ◌∷◌, ◌++◌, length, take, drop, get_or, position, refl, sym, ◌∙◌, ap, arith, add-one, Option, Some, None, Result, Ok, Err, w64}
use Rattle.std.specs.Prelude.{nat_lt, nat_le}
use Rattle.std.specs.Char.{is_ascii_digit, digit_value}
use Rattle.std.specs.List.{position_or_len}
use Rattle.std.specs.Str.{all_ascii_digits}
use Rattle.std.specs.Str.Parse.{digits_value_after}
use Rattle.std.proofs.Math.Seq.{drop-cons, take-add}
use Rattle.std.proofs.lemmas.Bool.{and_parts, and_from, lt-ltb, le-ltb, le-leb}
use Rattle.std.proofs.lemmas.Bool.Decides.{nat_tests}
use Rattle.std.proofs.lemmas.Int.{to_z_pos}
use mir.Val.{to_z}
use Rattle.std.proofs.lemmas.List.{append-nil, length-append, length-drop, length-take-le, take_more}
use Rattle.base_refusals.specs.declared.line.LineFault.{LineFault}
use Rattle.base_refusals.specs.declared.line.LineFault.TheVariants.{NumberTooWide}
use Rattle.base_value.specs.declared.value.Value.{Value}
use Rattle.base_value.specs.declared.value.Value.TheVariants as value
use Rattle.base_decimal.specs.Written.{is_digits, coefficient_of, read_size, decimal_read}
use Rattle.base_decimal.proofs.Digits.{value_join}
use Rattle.base_schema.specs.declared.column.ColumnKind.TheVariants.{Key, Whole, Decimal}
use Rattle.store_file_reader.specs.Field.{kind_field}
use Rattle.store_file_reader.specs.Natural.{IsNatural}

-- one digit more

digits_append : (xs : List ℕ) (b : ℕ) → all_ascii_digits xs ≡ true → is_ascii_digit b ≡ true → all_ascii_digits (xs ++ b ∷ []) ≡ true
digits_append [] b e digit = rw digit refl
digits_append (x ∷ xs) b e digit =
    let parts = and_parts _ _ e in
    and_from _ _ parts.0 (digits_append xs b parts.1 digit)

pub digits_more : (text : List ℕ) (i : ℕ) → i < length text → all_ascii_digits (take i text) ≡ true → is_ascii_digit (get_or text i 0) ≡ true
    → all_ascii_digits (take (i + 1) text) ≡ true
digits_more text i h e digit = rw (take_more text i 0 h) (digits_append (take i text) (get_or text i 0) e digit)

digit_is : (b : ℕ) → is_ascii_digit b ≡ true → digit_value b ≡ b - 48
digit_is b e =
    let low : 48 ≤ b = grind (arith, nat_tests) in
    let high : b < 58 = grind (arith, nat_tests) in
    rw (le-ltb b 48 low, lt-ltb b 58 high) refl

value_after : (text : List ℕ) (before i n : ℕ) → i < length text → n ≡ digits_value_after 10 before (take i text)
    → n * 10 + digit_value (get_or text i 0) ≡ digits_value_after 10 before (take (i + 1) text)
value_after text before i n h e =
    rw (take_more text i 0 h, value_join before (take i text) (get_or text i 0 ∷ []), ← e) refl

pub value_more : (text : List ℕ) (before i n : ℕ) → i < length text → is_ascii_digit (get_or text i 0) ≡ true → n ≡ digits_value_after 10 before (take i text)
    → n * 10 + (get_or text i 0 - 48) ≡ digits_value_after 10 before (take (i + 1) text)
value_more text before i n h digit e =
    ap (λ v. n * 10 + v) (sym (digit_is (get_or text i 0) digit)) ∙ value_after text before i n h e

pub ruleset digits = (digits_more, value_more)

-- digits are no minus and no point

no_minus : (b : ℕ) → is_ascii_digit b ≡ true → (b == 45) ≡ false
no_minus b e = grind (arith, nat_tests)

no_point : (b : ℕ) → is_ascii_digit b ≡ true → (b == 46) ≡ false
no_point b e = grind (arith, nat_tests)

-- where the first point stands
point_after : (whole more : List ℕ) → all_ascii_digits whole ≡ true → position_or_len (λ byte. byte == 46) (whole ++ 46 ∷ more) ≡ length whole
point_after [] more e = refl
point_after (b ∷ whole) more e =
    let one : 1 + position_or_len (λ byte. byte == 46) (whole ++ 46 ∷ more) ≡ suc (position_or_len (λ byte. byte == 46) (whole ++ 46 ∷ more)) = omega arith in
    rw (no_point b (and_parts _ _ e).0, one) (ap suc (point_after whole more (and_parts _ _ e).1))

no_points : (digits : List ℕ) → all_ascii_digits digits ≡ true → position_or_len (λ byte. byte == 46) digits ≡ length digits
no_points [] e = refl
no_points (b ∷ digits) e =
    let one : 1 + position_or_len (λ byte. byte == 46) digits ≡ suc (position_or_len (λ byte. byte == 46) digits) = omega arith in
    rw (no_point b (and_parts _ _ e).0, one) (ap suc (no_points digits (and_parts _ _ e).1))

found_at : (i n : ℕ) → i < n → cond (nat_lt i n) (Some i) None ≡ Some i
found_at i n h = rw (lt-ltb i n h) refl

found_none : (n : ℕ) → ◌≡◌ {A = Option ℕ} (cond (nat_lt n n) (Some n) None) None
found_none n = rw (le-ltb n n (omega arith)) refl

point_of : (whole more : List ℕ) → all_ascii_digits whole ≡ true → position (λ byte. byte == 46) (whole ++ 46 ∷ more) ≡ Some (length whole)
point_of whole more e =
    let at : position_or_len (λ byte. byte == 46) (whole ++ 46 ∷ more) ≡ length whole = point_after whole more e in
    rw at (found_at (length whole) (length (whole ++ 46 ∷ more)) (omega (arith, length-append whole (46 ∷ more))))

no_point_of : (digits : List ℕ) → all_ascii_digits digits ≡ true → position (λ byte. byte == 46) digits ≡ None
no_point_of digits e = rw (no_points digits e) (found_none (length digits))

-- a text that begins with a digit has no sign
unsigned : (text : List ℕ) (places n : ℕ) → 0 < length text → is_ascii_digit (get_or text 0 0) ≡ true → read_size text places ≡ Some n → n < 2 ^ 63
    → decimal_read text places ≡ Ok (pos n)
unsigned [] places n some digit e h = absurd (omega (arith, some))
unsigned (b ∷ rest) places n some digit e h =
    let small : nat_lt n (2 ^ 127) ≡ true = lt-ltb n (2 ^ 127) (omega (arith, h)) in
    rw (no_minus b digit, e, small) refl

first_digit : (text : List ℕ) → 0 < length text → all_ascii_digits text ≡ true → is_ascii_digit (get_or text 0 0) ≡ true
first_digit [] some e = absurd (omega (arith, some))
first_digit (b ∷ rest) some e = (and_parts _ _ e).0

are_digits : (text : List ℕ) → 0 < length text → all_ascii_digits text ≡ true → is_digits text ≡ true
are_digits text some e = and_from _ _ (lt-ltb 0 (length text) some) e

times_one : (n : ℕ) → n * 1 ≡ n
times_one n = omega arith

whole_number : (text : List ℕ) (n : ℕ) → 0 < length text → all_ascii_digits text ≡ true → n ≡ digits_value_after 10 0 text → n < 2 ^ 63
    → decimal_read text 0 ≡ Ok (pos n)
whole_number text n some digits e h =
    let size : coefficient_of 0 text [] ≡ n = ap (λ t. digits_value_after 10 0 t * 1) (append-nil text) ∙ times_one (digits_value_after 10 0 text) ∙ sym e in
    let read : read_size text 0 ≡ Some n = rw (no_point_of text digits, are_digits text some digits, size) refl in
    unsigned text 0 n some (first_digit text some digits) read h

hundreds_number : (text : List ℕ) (n : ℕ) → 0 < length text → all_ascii_digits text ≡ true → n ≡ digits_value_after 10 0 text → n * 100 < 2 ^ 63
    → decimal_read text 2 ≡ Ok (pos (n * 100))
hundreds_number text n some digits e h =
    let size : coefficient_of 2 text [] ≡ n * 100 = ap (λ t. digits_value_after 10 0 t * 100) (append-nil text) ∙ ap (λ v. v * 100) (sym e) in
    let read : read_size text 2 ≡ Some (n * 100) = rw (no_point_of text digits, are_digits text some digits, size) refl in
    unsigned text 2 (n * 100) some (first_digit text some digits) read h

take_front : (front more : List ℕ) → take (length front) (front ++ more) ≡ front
take_front [] more = refl
take_front (b ∷ front) more = ap (λ l. b ∷ l) (take_front front more)

drop_front : (front : List ℕ) (b : ℕ) (more : List ℕ) → drop (length front + 1) (front ++ b ∷ more) ≡ more
drop_front [] b more = refl
drop_front (c ∷ front) b more =
    let one : suc (length front) + 1 ≡ suc (length front + 1) = omega arith in
    rw one (drop_front front b more)

-- digits, a point and two digits
cents_of : (whole fraction : List ℕ) (n : ℕ) → 0 < length whole → all_ascii_digits whole ≡ true → all_ascii_digits fraction ≡ true → length fraction ≡ 2
    → n ≡ digits_value_after 10 (digits_value_after 10 0 whole) fraction → n < 2 ^ 63 → decimal_read (whole ++ 46 ∷ fraction) 2 ≡ Ok (pos n)
cents_of whole fraction n some digits more two e h =
    let long : length (whole ++ 46 ∷ fraction) ≡ length whole + suc (length fraction) = length-append whole (46 ∷ fraction) in
    let size : coefficient_of 2 whole fraction ≡ n =
    ap (λ places. digits_value_after 10 0 (whole ++ fraction) * 10 ^ (2 - places)) two ∙ times_one (digits_value_after 10 0 (whole ++ fraction)) ∙ value_join 0 whole fraction ∙ sym e in
    let short : nat_le (length fraction) 2 ≡ true = le-leb (length fraction) 2 (omega (arith, two)) in
    let some_more : 0 < length fraction = omega (arith, two) in
    let read : read_size (whole ++ 46 ∷ fraction) 2 ≡ Some n =
    rw (point_of whole fraction digits, take_front whole (46 ∷ fraction), drop_front whole 46 fraction, are_digits whole some digits, are_digits fraction some_more more, short, size) refl in
    unsigned (whole ++ 46 ∷ fraction) 2 n (omega (arith, long)) (first_of whole (46 ∷ fraction) some digits) read h
  where
    first_of : (whole more : List ℕ) → 0 < length whole → all_ascii_digits whole ≡ true → is_ascii_digit (get_or (whole ++ more) 0 0) ≡ true
    first_of [] more some e = absurd (omega (arith, some))
    first_of (b ∷ rest) more some e = (and_parts _ _ e).0

-- a point and two digits more
pub point_after_digits : (text : List ℕ) (point : ℕ) → point < length text → get_or text point 0 ≡ 46
    → take (point + 3) text ≡ take point text ++ 46 ∷ take 2 (drop (point + 1) text)
point_after_digits text point h is =
    let rest : take 3 (drop point text) ≡ 46 ∷ take 2 (drop (point + 1) text) = rw (add-one, drop-cons text point 0 h, is) refl in
    take-add point 3 text ∙ ap (λ l. take point text ++ l) rest

cents_number : (text : List ℕ) (point n : ℕ) → 0 < point → point + 3 ≤ length text → get_or text point 0 ≡ 46
    → all_ascii_digits (take point text) ≡ true → all_ascii_digits (take 2 (drop (point + 1) text)) ≡ true
    → n ≡ digits_value_after 10 (digits_value_after 10 0 (take point text)) (take 2 (drop (point + 1) text)) → n < 2 ^ 63
    → decimal_read (take (point + 3) text) 2 ≡ Ok (pos n)
cents_number text point n some long is digits more e h =
    let front : length (take point text) ≡ point = length-take-le point text (omega (arith, long)) in
    let two : length (take 2 (drop (point + 1) text)) ≡ 2 = length-take-le 2 (drop (point + 1) text) (omega (arith, length-drop (point + 1) text, long)) in
    rw (point_after_digits text point (omega (arith, long)) is)
    (cents_of (take point text) (take 2 (drop (point + 1) text)) n (omega (arith, front, some)) digits more two e h)

natural : (n : ℕ) → n < 2 ^ 63 → IsNatural (pos n)
natural n h = record { sign = le-ltb n 0 (omega arith); narrow = lt-ltb n (2 ^ 63) h }

-- the same of the number as it is cast

pub whole_is : (text : List ℕ) (end n : ℕ) → 0 < end → end ≤ length text → all_ascii_digits (take end text) ≡ true
    → n ≡ digits_value_after 10 0 (take end text) → n < 2 ^ 63 → decimal_read (take end text) 0 ≡ Ok (to_z w64 n)
whole_is text end n some inside digits e h =
    let size : length (take end text) ≡ end = length-take-le end text inside in
    rw (to_z_pos w64 n h) (whole_number (take end text) n (omega (arith, size, some)) digits e h)

pub hundreds_is : (text : List ℕ) (end n : ℕ) → 0 < end → end ≤ length text → all_ascii_digits (take end text) ≡ true
    → n ≡ digits_value_after 10 0 (take end text) → n * 100 < 2 ^ 63 → decimal_read (take end text) 2 ≡ Ok (to_z w64 (n * 100))
hundreds_is text end n some inside digits e h =
    let size : length (take end text) ≡ end = length-take-le end text inside in
    rw (to_z_pos w64 (n * 100) h) (hundreds_number (take end text) n (omega (arith, size, some)) digits e h)

pub cents_is : (text : List ℕ) (point n whole : ℕ) → 0 < point → point + 3 ≤ length text → get_or text point 0 ≡ 46
    → all_ascii_digits (take point text) ≡ true → all_ascii_digits (take 2 (drop (point + 1) text)) ≡ true
    → whole ≡ digits_value_after 10 0 (take point text) → n ≡ digits_value_after 10 whole (take 2 (drop (point + 1) text)) → n < 2 ^ 63
    → decimal_read (take (point + 3) text) 2 ≡ Ok (to_z w64 n)
cents_is text point n whole some long is digits more w e h =
    rw (to_z_pos w64 n h)
    (cents_number text point n some long is digits more (e ∙ ap (λ v. digits_value_after 10 v (take 2 (drop (point + 1) text))) w) h)

pub natural_is : (n : ℕ) → n < 2 ^ 63 → IsNatural (to_z w64 n)
natural_is n h = rw (to_z_pos w64 n h) (natural n h)

pub ruleset read = (whole_is, natural_is)

pub ruleset hundreds = (hundreds_is, natural_is)

-- columns hold natural numbers

held_natural : (b : Bool) (scale : ℕ) (number : ℤ) → b ≡ true
    → ◌≡◌ {A = Result Value LineFault} (cond b (Ok (value.Number scale number)) (Err NumberTooWide)) (Ok (value.Number scale number))
held_natural b scale number e = rw e refl

pub key_holds : (text : List ℕ) (number : ℤ) → decimal_read text 0 ≡ Ok number → IsNatural number → kind_field Key text ≡ Ok (value.Number 0 number)
key_holds text number e natural = rw e (held_natural _ 0 number (rw (natural.sign, natural.narrow) refl))

pub whole_holds : (text : List ℕ) (number : ℤ) → decimal_read text 0 ≡ Ok number → IsNatural number → kind_field Whole text ≡ Ok (value.Number 0 number)
whole_holds text number e natural = rw e (held_natural _ 0 number (rw natural.narrow refl))

pub decimal_holds : (text : List ℕ) (number : ℤ) → decimal_read text 2 ≡ Ok number → IsNatural number → kind_field Decimal text ≡ Ok (value.Number 2 number)
decimal_holds text number e natural = rw e (held_natural _ 2 number (rw natural.narrow refl))

pub ruleset held = (key_holds, whole_holds, decimal_holds)
