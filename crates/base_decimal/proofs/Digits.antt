-- Steps along digits.
use Rattle.std.proofs.Common.{◌≡◌, ℕ, zero, suc, ◌+◌, ◌*◌, ◌^◌, ◌<◌, ◌≤◌, arith, refl, ◌∙◌, ap, add-one, List, [], ◌∷◌, length, drop, get_or, drop-cons, ◌&&◌, le_trans, le_refl, ◌++◌, ◌-◌, ◌/◌, ◌%◌, append_assoc, sub-one, Some, None, sym, mul_comm}
use Rattle.std.proofs.Math.Nat.{le-mul_of_pos_right, add-mul-div_right, add-mul-mod_self_right, div-add-mod, div-div-eq-div-mul, div-one, pow-suc}
use Rattle.std.specs.Fmt.{decimal}
use Rattle.std.proofs.lemmas.Bool.Decides.{nat_tests}
use Rattle.base_decimal.specs.Written.{below_limit, coefficient_of, last_digits, size_written}
use Rattle.base_decimal.proofs.Powers.{power_above}
use Rattle.std.specs.Str.{all_ascii_digits}
use Rattle.std.specs.Char.{is_ascii_digit, digit_value}
use Rattle.std.specs.Str.Parse.{digits_value_after}

pub digits_more : (bs : List ℕ) (i : ℕ) → i < length bs → all_ascii_digits (drop i bs) ≡ is_ascii_digit (get_or bs i 0) && all_ascii_digits (drop (i + 1) bs)
digits_more bs i h = rw (add-one, drop-cons bs i 0) refl

pub value_more : (bs : List ℕ) (i n : ℕ) → i < length bs → digits_value_after 10 n (drop i bs) ≡ digits_value_after 10 (n * 10 + digit_value (get_or bs i 0)) (drop (i + 1) bs)
value_more bs i n h = rw (add-one, drop-cons bs i 0) refl

pub value_ge : (n : ℕ) (ds : List ℕ) → n ≤ digits_value_after 10 n ds
value_ge n [] = le_refl n
value_ge n (d ∷ ds) = le_trans (omega arith) (value_ge (n * 10 + digit_value d) ds)

pub value_join : (n : ℕ) (xs ys : List ℕ) → digits_value_after 10 n (xs ++ ys) ≡ digits_value_after 10 (digits_value_after 10 n xs) ys
value_join n [] ys = refl
value_join n (x ∷ xs) ys = value_join (n * 10 + digit_value x) xs ys

limit_none : (n : ℕ) → below_limit n ≡ None → 2 ^ 128 ≤ n
limit_none n e = grind (arith, nat_tests)

limit_some : (n v : ℕ) → below_limit n ≡ Some v → n ≡ v
limit_some n v e = grind (arith, nat_tests)

limit_past : (n : ℕ) → 2 ^ 128 ≤ n → below_limit n ≡ None
limit_past n h = grind (arith, nat_tests)

pub both_too_large : (places : ℕ) (whole fraction : List ℕ) → below_limit (digits_value_after 10 (digits_value_after 10 0 whole) fraction) ≡ None → below_limit (coefficient_of places whole fraction) ≡ None
both_too_large places whole fraction e =
    let large : 2 ^ 128 ≤ digits_value_after 10 0 (whole ++ fraction) = rw (value_join 0 whole fraction) (limit_none _ e) in
    limit_past _ (le_trans large (le-mul_of_pos_right _ (power_above (places - length fraction))))

pub whole_too_large : (places : ℕ) (whole fraction : List ℕ) → below_limit (digits_value_after 10 0 whole) ≡ None → below_limit (coefficient_of places whole fraction) ≡ None
whole_too_large places whole fraction e =
    both_too_large places whole fraction (limit_past _ (le_trans (limit_none _ e) (value_ge _ fraction)))

pub coefficient_is : (places v u : ℕ) (whole fraction : List ℕ) → below_limit (digits_value_after 10 0 whole) ≡ Some v → below_limit (digits_value_after 10 v fraction) ≡ Some u → coefficient_of places whole fraction ≡ u * 10 ^ (places - length fraction)
coefficient_is places v u whole fraction d e =
    ap (λ n. n * 10 ^ (places - length fraction))
    (value_join 0 whole fraction ∙ ap (λ n. digits_value_after 10 n fraction) (limit_some _ v d) ∙ limit_some _ u e)

-- the digits of n but its lowest, and then that one
last_digit : (places n : ℕ) → last_digits places (n / 10) ++ (48 + n % 10) ∷ [] ≡ last_digits (suc places) n
last_digit zero n = rw (div-one n) refl
last_digit (suc places) n =
    rw (div-div-eq-div-mul n 10 (10 ^ places), mul_comm 10 (10 ^ places), ← pow-suc 10 places, last_digit places n) refl

pub last_digit_behind : (text : List ℕ) (places n : ℕ) → 0 < places → text ++ last_digits (places - 1) (n / 10) ++ (48 + n % 10) ∷ [] ≡ text ++ last_digits places n
last_digit_behind text zero n h = absurd (omega arith)
last_digit_behind text (suc places) n h =
    rw sub-one (append_assoc text (last_digits places (n / 10)) ((48 + n % 10) ∷ []) ∙ ap (λ digits. text ++ digits) (last_digit places n))

-- what is above the last digits is not seen in them
higher_part : (places m n : ℕ) → last_digits places (n + m * 10 ^ places) ≡ last_digits places n
higher_part zero m n = refl
higher_part (suc places) m n =
    let above : m * 10 ^ suc places ≡ m * 10 * 10 ^ places = rw (pow-suc 10 places) (grind arith) in
    let digit : (n + m * 10 * 10 ^ places) / 10 ^ places % 10 ≡ n / 10 ^ places % 10 =
    rw (add-mul-div_right n (m * 10) (power_above places), add-mul-mod_self_right (n / 10 ^ places) m 10) refl in
    rw above (rw (digit, higher_part places (m * 10) n) refl)

rest_digits : (places n : ℕ) → last_digits places (n % 10 ^ places) ≡ last_digits places n
rest_digits places n =
    let parts : n % 10 ^ places + n / 10 ^ places * 10 ^ places ≡ n = omega (arith, div-add-mod n (10 ^ places), mul_comm (n / 10 ^ places) (10 ^ places)) in
    sym (higher_part places (n / 10 ^ places) (n % 10 ^ places)) ∙ ap (last_digits places) parts

pub number_behind : (text : List ℕ) (places n : ℕ) → 0 < places → text ++ decimal (n / 10 ^ places) ++ 46 ∷ [] ++ last_digits places (n % 10 ^ places) ≡ text ++ size_written n places
number_behind text zero n h = absurd (omega arith)
number_behind text (suc places) n h =
    ap (λ digits. text ++ decimal (n / 10 ^ suc places) ++ 46 ∷ [] ++ digits) (rest_digits (suc places) n)
    ∙ append_assoc (text ++ decimal (n / 10 ^ suc places)) (46 ∷ []) (last_digits (suc places) n)
    ∙ append_assoc text (decimal (n / 10 ^ suc places)) (46 ∷ last_digits (suc places) n)
