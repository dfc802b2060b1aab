-- What is written is read again.
use Rattle.std.proofs.Common.{◌≡◌, ℕ, zero, suc, ◌+◌, ◌-◌, ◌*◌, ◌/◌, ◌%◌, ◌^◌, ◌<◌, ◌≤◌, arith, refl, sym, ◌∙◌, ap, List, [], ◌∷◌, ◌++◌, length, drop, Bool, true, false, ◌&&◌, ◌==◌, ℤ, pos, negsuc, Some, None, Ok, zero-add, mul-one, mul_comm, not, position}
use Rattle.std.specs.Str.{all_ascii_digits}
use Rattle.std.specs.Str.Parse.{digits_value, digits_value_after}
use Rattle.std.specs.Fmt.{decimal}
use Rattle.std.specs.List.{prefix_len}
use Rattle.std.specs.Prelude.{nat_lt, nat_le}
use Rattle.std.proofs.Common.{get_or, append-nil, add-zero, length-append}
use Rattle.std.specs.Char.{digit_value, is_ascii_digit}
use Rattle.std.proofs.lemmas.Fmt.{decimal_is_IsNumeral_wide}
use Rattle.std.proofs.lemmas.Str.Parse.{numerals_by_value, tells_all_ascii_digits, IsNumeralModel}
use Rattle.std.proofs.Math.Arith.{mod-mul}
use Rattle.std.proofs.Math.Nat.{div-add-mod, div-le_self, pow-suc, mod-lt}
use Rattle.std.proofs.Math.Seq.{drop-append-add, take-append_seam}
use Rattle.std.proofs.lemmas.Bool.{ltb-true}
use Rattle.std.proofs.lemmas.Bool.Decides.{nat_tests}
use Rattle.base_decimal.specs.Decimal.{fits}
use Rattle.base_decimal.specs.Written.{is_digits, coefficient_of, read_parts, read_size, decimal_read, with_sign, last_digits, size_written, decimal_written}
use Rattle.base_decimal.proofs.Powers.{power_above}
use Rattle.base_decimal.proofs.Digits.{value_join}

own : IsNumeralModel (λ ds. all_ascii_digits ds ≡ true) (digits_value 10)
own = numerals_by_value _ tells_all_ascii_digits

decimal_digits : (n : ℕ) → n < 10 ^ 64 → all_ascii_digits (decimal n) ≡ true
decimal_digits n h = own.from (decimal n) (decimal_is_IsNumeral_wide n h).0.1

decimal_value : (n : ℕ) → n < 10 ^ 64 → digits_value 10 (decimal n) ≡ n
decimal_value n h = (decimal_is_IsNumeral_wide n h).1

decimal_some : (n : ℕ) → n < 10 ^ 64 → 0 < length (decimal n)
decimal_some n h = (decimal_is_IsNumeral_wide n h).0.0

both : (a b : Bool) → (a && b) ≡ true → (a ≡ true) × (b ≡ true)
both true b h = (refl, h)
both false b h = cc

not_point : (d : ℕ) → is_ascii_digit d ≡ true → (d == 46) ≡ false
not_point d h = grind (arith, nat_tests)

is_same : (n : ℕ) → (n == n) ≡ true
is_same n = grind (arith, nat_tests)

not_less : (n : ℕ) → nat_lt n n ≡ false
not_less n = grind (arith, nat_tests)

less_more : (n k : ℕ) → nat_lt n (n + suc k) ≡ true
less_more n k = grind (arith, nat_tests)

before_point : (ds rest : List ℕ) → all_ascii_digits ds ≡ true → prefix_len (λ x. not (x == 46)) (ds ++ rest) ≡ length ds + prefix_len (λ x. not (x == 46)) rest
before_point [] rest h = sym (zero-add _)
before_point (d ∷ ds) rest h =
    let parts : (is_ascii_digit d ≡ true) × (all_ascii_digits ds ≡ true) = both _ _ h in
    rw (not_point d parts.0, before_point ds rest parts.1) (omega arith)

-- no digit is a point, and the point after digits is the first
no_point : (ds : List ℕ) → all_ascii_digits ds ≡ true → position (λ byte. byte == 46) ds ≡ None
no_point ds h =
    let here : prefix_len (λ x. not (x == 46)) ds ≡ length ds =
    ap (prefix_len (λ x. not (x == 46))) (sym (append-nil ds)) ∙ before_point ds [] h ∙ add-zero (length ds) in
    rw (here, not_less (length ds))

first_point : (ds rest : List ℕ) → all_ascii_digits ds ≡ true → position (λ byte. byte == 46) (ds ++ 46 ∷ rest) ≡ Some (length ds)
first_point ds rest h =
    let here : prefix_len (λ x. not (x == 46)) (ds ++ 46 ∷ rest) ≡ length ds =
    before_point ds (46 ∷ rest) h ∙ add-zero (length ds) in
    rw (here, length-append ds (46 ∷ rest), less_more (length ds) (length rest))

length-last_digits : (places n : ℕ) → length (last_digits places n) ≡ places
length-last_digits zero n = refl
length-last_digits (suc places) n = ap suc (length-last_digits places n)

digit_is : (d : ℕ) → d < 10 → (is_ascii_digit (48 + d) ≡ true) × (digit_value (48 + d) ≡ d)
digit_is d h = (grind (arith, nat_tests), grind (arith, nat_tests))

last_digits_digits : (places n : ℕ) → all_ascii_digits (last_digits places n) ≡ true
last_digits_digits zero n = refl
last_digits_digits (suc places) n = rw ((digit_is (n / 10 ^ places % 10) (mod-lt (n / 10 ^ places) (omega arith))).0) (last_digits_digits places n)

regroup : (v e p r : ℕ) → (v * 10 + e) * p + r ≡ v * (p * 10) + (e * p + r)
regroup v e p r = grind arith

value_last_digits : (places n v : ℕ) → digits_value_after 10 v (last_digits places n) ≡ v * 10 ^ places + n % 10 ^ places
value_last_digits zero n v = omega arith
value_last_digits (suc places) n v =
    let low : n / 10 ^ places % 10 < 10 = mod-lt (n / 10 ^ places) (omega arith) in
    let parts : n % (10 * 10 ^ places) ≡ n / 10 ^ places % 10 * 10 ^ places + n % 10 ^ places = mod-mul n (omega arith) (power_above places) in
    ap (λ d. digits_value_after 10 (v * 10 + d) (last_digits places n)) (digit_is (n / 10 ^ places % 10) low).1
    ∙ value_last_digits places n (v * 10 + n / 10 ^ places % 10)
    ∙ regroup v (n / 10 ^ places % 10) (10 ^ places) (n % 10 ^ places)
    ∙ rw (pow-suc 10 places, mul_comm (10 ^ places) 10, parts) refl

digits_test : (ds : List ℕ) → 0 < length ds → all_ascii_digits ds ≡ true → is_digits ds ≡ true
digits_test ds h k = rw k (grind (arith, nat_tests))

not_more : (m n : ℕ) → m ≤ n → nat_le m n ≡ true
not_more m n h = grind (arith, nat_tests)

whole : (places : ℕ) (ds : List ℕ) → is_digits ds ≡ true → read_parts places ds None ≡ Some (coefficient_of places ds [])
whole places ds h = rw h refl

parted : (places : ℕ) (ds ls : List ℕ) → is_digits ds ≡ true → is_digits ls ≡ true → length ls ≤ places → read_parts places (ds ++ 46 ∷ ls) (Some (length ds)) ≡ Some (coefficient_of places ds ls)
parted places ds ls h k short =
    let behind : drop (length ds + 1) (ds ++ 46 ∷ ls) ≡ ls = drop-append-add ds (46 ∷ ls) 1 in
    rw (take-append_seam ds (46 ∷ ls), behind, h, k, not_more (length ls) places short) refl

coefficient_back : (places n : ℕ) → n < 2 ^ 128 → coefficient_of places (decimal (n / 10 ^ places)) (last_digits places n) ≡ n
coefficient_back places n h =
    let less : n / 10 ^ places ≤ n = div-le_self n (10 ^ places) in
    let wide : n / 10 ^ places < 10 ^ 64 = omega arith in
    let none_left : places - length (last_digits places n) ≡ 0 = omega (arith, length-last_digits places n) in
    ap (λ k. digits_value 10 (decimal (n / 10 ^ places) ++ last_digits places n) * 10 ^ k) none_left
    ∙ mul-one (digits_value 10 (decimal (n / 10 ^ places) ++ last_digits places n))
    ∙ value_join 0 (decimal (n / 10 ^ places)) (last_digits places n)
    ∙ value_last_digits places n (digits_value 10 (decimal (n / 10 ^ places)))
    ∙ ap (λ v. v * 10 ^ places + n % 10 ^ places) (decimal_value (n / 10 ^ places) wide)
    ∙ ap (λ v. v + n % 10 ^ places) (mul_comm (n / 10 ^ places) (10 ^ places))
    ∙ div-add-mod n (10 ^ places)

-- a number's size is read from what is written of it
size_back : (n places : ℕ) → n < 2 ^ 128 → read_size (size_written n places) places ≡ Some n
size_back n zero h =
    let wide : n < 10 ^ 64 = omega arith in
    let digits : all_ascii_digits (decimal n) ≡ true = decimal_digits n wide in
    ap (read_parts 0 (decimal n)) (no_point (decimal n) digits)
    ∙ whole 0 (decimal n) (digits_test (decimal n) (decimal_some n wide) digits)
    ∙ ap Some (ap (λ ds. digits_value 10 ds * 1) (append-nil (decimal n)) ∙ mul-one (digits_value 10 (decimal n)) ∙ decimal_value n wide)
size_back n (suc places) h =
    let w = n / 10 ^ suc places in
    let ls = last_digits (suc places) n in
    let less : n / 10 ^ suc places ≤ n = div-le_self n (10 ^ suc places) in
    let wide : n / 10 ^ suc places < 10 ^ 64 = omega arith in
    let digits : all_ascii_digits (decimal w) ≡ true = decimal_digits w wide in
    ap (read_parts (suc places) (decimal w ++ 46 ∷ ls)) (first_point (decimal w) ls digits)
    ∙ parted (suc places) (decimal w) ls (digits_test (decimal w) (decimal_some w wide) digits)
    (digits_test ls (omega (arith, length-last_digits (suc places) n)) (last_digits_digits (suc places) n))
    (omega (arith, length-last_digits (suc places) n))
    ∙ ap Some (coefficient_back (suc places) n h)

no_minus : (ds rest : List ℕ) → all_ascii_digits ds ≡ true → 0 < length ds → (get_or (ds ++ rest) 0 0 == 45) ≡ false
no_minus [] rest h k = absurd (omega arith)
no_minus (d ∷ ds) rest h k = let digit : is_ascii_digit d ≡ true = (both _ _ h).0 in grind (arith, nat_tests)

unsigned : (text : List ℕ) (places : ℕ) → (get_or text 0 0 == 45) ≡ false → decimal_read text places ≡ with_sign false (read_size text places)
unsigned [] places h = refl
unsigned (byte ∷ rest) places h = rw h refl

size_first : (n places : ℕ) → n < 2 ^ 128 → (get_or (size_written n places) 0 0 == 45) ≡ false
size_first n zero h =
    let wide : n < 10 ^ 64 = omega arith in
    ap (λ text. get_or text 0 0 == 45) (sym (append-nil (decimal n)))
    ∙ no_minus (decimal n) [] (decimal_digits n wide) (decimal_some n wide)
size_first n (suc places) h =
    let less : n / 10 ^ suc places ≤ n = div-le_self n (10 ^ suc places) in
    let wide : n / 10 ^ suc places < 10 ^ 64 = omega arith in
    no_minus (decimal (n / 10 ^ suc places)) (46 ∷ last_digits (suc places) n) (decimal_digits _ wide) (decimal_some _ wide)

none_below : (n : ℕ) → nat_lt n 0 ≡ false
none_below n = grind (arith, nat_tests)

plain : (n places : ℕ) → decimal_written (pos n) places ≡ size_written n places
plain n places = rw (none_below n) refl

small_size : (n : ℕ) → nat_lt n (2 ^ 127) ≡ true → n < 2 ^ 127
small_size n h = ltb-true n (2 ^ 127) h

pub reads_back : (c : ℤ) (places : ℕ) → fits c ≡ true → places ≤ 18 → decimal_read (decimal_written c places) places ≡ Ok c
reads_back (pos n) places h small =
    let short : n < 2 ^ 127 = small_size n h in
    ap (λ text. decimal_read text places) (plain n places)
    ∙ unsigned (size_written n places) places (size_first n places (omega arith))
    ∙ ap (with_sign false) (size_back n places (omega arith))
    ∙ rw h refl
reads_back (negsuc n) places h small =
    let short : n < 2 ^ 127 = small_size n h in
    ap (with_sign true) (size_back (suc n) places (omega arith)) ∙ rw h refl
