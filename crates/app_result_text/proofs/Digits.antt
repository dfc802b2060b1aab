-- The digits of numbers without a sign, and their last ones.
use Rattle.std.proofs.Common.{◌≡◌, ℕ, zero, suc, ◌+◌, ◌-◌, ◌*◌, ◌/◌, ◌%◌, ◌^◌, ◌<◌, ◌≤◌, List, [], ◌∷◌, ◌++◌, length, take, drop, replicate, refl, sym, ap, ◌∙◌, arith, append-nil, mul_comm, le_trans, Bool, true, false}
use Rattle.std.proofs.Math.Nat.{div-div-eq-div-mul, div-eq_of_lt, div-le_self, div-lt_iff_lt-mul, div-one, mod-eq_of_lt, pow-suc, one-le-pow}
use Rattle.std.specs.Fmt.{decimal}
use Rattle.std.proofs.lemmas.Fmt.{decimal_digit, decimal_nonempty, decimal_step, length-decimal-le}
use Rattle.std.proofs.lemmas.Bool.{ltb-true, ltb-false}
use Rattle.std.proofs.lemmas.List.{length-append}
use Rattle.std.proofs.Math.Seq.{take-append_seam, drop-append_seam}
use Rattle.std.specs.Prelude.{nat_lt}
use Rattle.base_decimal.specs.Written.{last_digits, size_written}
use Rattle.base_decimal.proofs.Digits.{last_digit_behind}

-- the first n of at least as many zeros
some_zeros : (n m : ℕ) → n ≤ m → take {A = ℕ} n (replicate m 48) ≡ replicate n 48
some_zeros zero m h = refl
some_zeros (suc n) zero h = absurd (omega (arith, h))
some_zeros (suc n) (suc m) h = ap (λ more. 48 ∷ more) (some_zeros n m (omega (arith, h)))

abbrev zeros_text : List ℕ
zeros_text = 48 ∷ 46 ∷ 48 ∷ 48 ∷ 48 ∷ 48 ∷ 48 ∷ 48 ∷ 48 ∷ 48 ∷ 48 ∷ 48 ∷ 48 ∷ 48 ∷ 48 ∷ 48 ∷ 48 ∷ 48 ∷ 48 ∷ 48 ∷ []

pub zeros_there : (n : ℕ) → n ≤ 18 → take {A = ℕ} (2 + n) zeros_text ≡ 48 ∷ 46 ∷ replicate n 48
zeros_there n h =
    let two : 2 + n ≡ suc (suc n) = omega arith in
    ap (λ k. take {A = ℕ} k zeros_text) two ∙ ap (λ more. 48 ∷ 46 ∷ more) (some_zeros n 18 h)

length-last_digits : (places n : ℕ) → length (last_digits places n) ≡ places
length-last_digits zero n = refl
length-last_digits (suc places) n = ap suc (length-last_digits places n)

-- the digits of a number that has more than so many are those of what is before its last ones, and
-- these
parted : (places n : ℕ) → 10 ^ places ≤ n → n < 2 ^ 64 → decimal n ≡ decimal (n / 10 ^ places) ++ last_digits places n
parted zero n h small = rw (div-one n) (sym (append-nil (decimal n)))
parted (suc places) n h small =
    let power : 10 ^ suc places ≡ 10 ^ places * 10 = pow-suc 10 places in
    let some : 1 ≤ 10 ^ places = one-le-pow places 10 (omega arith) in
    let least : 10 ^ places ≤ n / 10 = omega (arith, power, h) in
    let ten : 10 ≤ n = omega (arith, power, some, h) in
    let fewer : n / 10 < 2 ^ 64 = omega (arith, small) in
    let back : suc places - 1 ≡ places = omega arith in
    let front : n / 10 / 10 ^ places ≡ n / 10 ^ suc places = div-div-eq-div-mul n 10 (10 ^ places) ∙ ap (λ m. n / m) (mul_comm 10 (10 ^ places) ∙ sym power) in
    decimal_step n ten small
    ∙ ap (λ digits. digits ++ (48 + n % 10) ∷ []) (parted places (n / 10) least fewer)
    ∙ ap (λ k. (decimal (n / 10 / 10 ^ places) ++ last_digits k (n / 10)) ++ (48 + n % 10) ∷ []) (sym back)
    ∙ last_digit_behind (decimal (n / 10 / 10 ^ places)) (suc places) n (omega arith)
    ∙ ap (λ m. decimal m ++ last_digits (suc places) n) front

-- the last digits of a smaller number are zeros and its digits: so many of them
abbrev IsPadded : ℕ → ℕ → Type 0
IsPadded places n = last_digits places n ≡ replicate (places - length (decimal n)) 48 ++ decimal n

padded_by : (b : Bool) (places n : ℕ) → (n < 10 ^ suc places → IsPadded (suc places) n) → nat_lt n (10 ^ suc places) ≡ b → n < 10 ^ suc (suc places) → n < 2 ^ 64
    → IsPadded (suc (suc places)) n
padded_by true places n before e h small =
    let less : n < 10 ^ suc places = ltb-true n (10 ^ suc places) e in
    let few : length (decimal n) ≤ suc places = length-decimal-le (suc places) n (omega arith) less small in
    let next : suc (suc places) - length (decimal n) ≡ suc (suc places - length (decimal n)) = omega (arith, few) in
    rw (div-eq_of_lt less, next, before less) refl
padded_by false places n before e h small =
    let least : 10 ^ suc places ≤ n = ltb-false n (10 ^ suc places) e in
    let power : 10 ^ suc (suc places) ≡ 10 ^ suc places * 10 = pow-suc 10 (suc places) in
    let some : 0 < 10 ^ suc places = one-le-pow (suc places) 10 (omega arith) in
    let first : n / 10 ^ suc places < 10 = (div-lt_iff_lt-mul some).1 (omega (arith, h, power)) in
    let digit : n / 10 ^ suc places % 10 ≡ n / 10 ^ suc places = mod-eq_of_lt first in
    let digits : decimal n ≡ (48 + n / 10 ^ suc places) ∷ last_digits (suc places) n = parted (suc places) n least small
    ∙ ap (λ front. front ++ last_digits (suc places) n) (decimal_digit (n / 10 ^ suc places) first) in
    let all : length (decimal n) ≡ suc (suc places) = ap length digits ∙ ap suc (length-last_digits (suc places) n) in
    let none : suc (suc places) - length (decimal n) ≡ 0 = omega (arith, all) in
    rw none (rw digit (sym digits))

padded : (places n : ℕ) → n < 10 ^ suc places → n < 2 ^ 64 → IsPadded (suc places) n
padded zero n h small =
    let digit : n / 1 % 10 ≡ n = omega (arith, h) in
    rw (decimal_digit n (omega (arith, h))) (ap (λ d. (48 + d) ∷ []) digit)
padded (suc places) n h small = padded_by (nat_lt n (10 ^ suc places)) places n (λ fewer. padded places n fewer small) refl h small

-- a number is that large where its digits are that many
large : (places n : ℕ) → 0 < places → places < length (decimal n) → n < 2 ^ 64 → 10 ^ places ≤ n
large places n p l small = not_less (nat_lt n (10 ^ places)) refl
  where
    not_less : (b : Bool) → nat_lt n (10 ^ places) ≡ b → 10 ^ places ≤ n
    not_less true e = absurd (omega (arith, l, length-decimal-le places n p (ltb-true n (10 ^ places) e) small))
    not_less false e = ltb-false n (10 ^ places) e

-- and less than that where they are fewer
less : (places n : ℕ) → length (decimal n) ≤ places → n < 2 ^ 64 → n < 10 ^ places
less places n l small = is_less (nat_lt n (10 ^ places)) refl
  where
    is_less : (b : Bool) → nat_lt n (10 ^ places) ≡ b → n < 10 ^ places
    is_less true e = ltb-true n (10 ^ places) e
    is_less false e =
        let least : 10 ^ places ≤ n = ltb-false n (10 ^ places) e in
        let front : List ℕ = decimal (n / 10 ^ places) in
        let smaller : n / 10 ^ places < 2 ^ 64 = le_trans (omega (arith, div-le_self n (10 ^ places))) small in
        absurd (omega (arith, l, ap length (parted places n least small), length-append front (last_digits places n), length-last_digits places n, decimal_nonempty (n / 10 ^ places) smaller))

-- digits with a point before the last ones
pub with_point : (places n : ℕ) → 0 < places → places < length (decimal n) → n < 2 ^ 64
    → take (length (decimal n) - places) (decimal n) ++ 46 ∷ drop (length (decimal n) - places) (decimal n) ≡ size_written n places
with_point zero n p l small = absurd (omega (arith, p))
with_point (suc places) n p l small =
    let front : List ℕ = decimal (n / 10 ^ suc places) in
    let end : List ℕ = last_digits (suc places) n in
    let digits : decimal n ≡ front ++ end = parted (suc places) n (large (suc places) n p l small) small in
    let whole : length (decimal n) - suc places ≡ length front = omega (arith, ap length digits, length-append front end, length-last_digits (suc places) n) in
    ap (λ k. take k (decimal n) ++ 46 ∷ drop k (decimal n)) whole
    ∙ ap (λ ds. take (length front) ds ++ 46 ∷ drop (length front) ds) digits
    ∙ rw (take-append_seam front end, drop-append_seam front end) refl

-- a number below 1
pub below_one : (places n : ℕ) → 0 < places → length (decimal n) ≤ places → n < 2 ^ 64
    → 48 ∷ 46 ∷ (replicate (places - length (decimal n)) 48 ++ decimal n) ≡ size_written n places
below_one zero n p l small = absurd (omega (arith, p))
below_one (suc places) n p l small =
    let fits : n < 10 ^ suc places = less (suc places) n l small in
    rw (div-eq_of_lt fits, decimal_digit 0 (omega arith)) (ap (λ ds. 48 ∷ 46 ∷ ds) (sym (padded places n fits small)))
