-- Powers of ten that fit, and numbers scaled by them.
use Rattle.std.proofs.Common.{◌≡◌, ℕ, zero, suc, ◌+◌, ◌*◌, ◌^◌, ◌<◌, ◌≤◌, arith, ap, refl, sym, ◌∙◌, add-one, mul-pos, mul_assoc, zero-mul, ℤ, pos, negsuc, neg_ℤ, ◌*ℤ◌, ◌-◌, Bool, true, false, cond, Ok, Err}
use Rattle.base_decimal.specs.Decimal.{fits, in_range, rescaled}
use Rattle.base_decimal.specs.declared.arithmetic.NumberFault.TheVariants.{NumberRange}
use Rattle.std.proofs.Math.Nat.{pow-suc, pow-le-pow_right, one-le-pow}
use Rattle.std.proofs.lemmas.Nat.{pow-add}
use Rattle.std.specs.Ordering.{int_cmp}
use Rattle.std.proofs.Math.Nat.{lt_of_mul-lt-mul_right, mul-lt-mul_of_pos_right}
use Rattle.std.specs.Cmp.{both_ways}
use Rattle.std.specs.Prelude.{nat_lt, FitsSigned}
use Rattle.std.specs.Int.{w128}
use Rattle.std.proofs.Math.IntN.{one, *ℤ-one}
use Rattle.std.proofs.lemmas.Bool.{lt-ltb, ltb-true}
use Rattle.std.proofs.lemmas.Bool.Decides.{nat_tests}
use Rattle.std.specs.declared.cmp.Ordering.TheVariants.{Less, Greater}

pub power_more : (i p : ℕ) → p ≡ 10 ^ i → p * 10 ≡ 10 ^ (i + 1)
power_more i p e = rw (e, add-one) (sym (pow-suc 10 i))

pub power_fits : (i p : ℕ) → p ≡ 10 ^ i → i < 36 → p * 10 < 2 ^ 127
power_fits i p e h =
    let most : 10 ^ (i + 1) ≤ 10 ^ 36 = pow-le-pow_right {n = 10} (omega arith) {i = i + 1} {j = 36} (omega arith) in
    omega (arith, most, power_more i p e)

-- a power of ten of a scale's places fits a word
pub power_of_places : (places : ℕ) → places ≤ 18 → 10 ^ places < 2 ^ 64
power_of_places places h =
    let most : 10 ^ places ≤ 10 ^ 18 = pow-le-pow_right {n = 10} (omega arith) {i = places} {j = 18} h in
    omega (arith, most)

pub power_bound : (i : ℕ) → i ≤ 36 → 10 ^ i < 2 ^ 127
power_bound i h =
    let most : 10 ^ i ≤ 10 ^ 36 = pow-le-pow_right {n = 10} (omega arith) {i = i} {j = 36} h in
    omega (arith, most)

-- a product by a positive number keeps the order
times_lt : (m n c : ℕ) → nat_lt (m * suc c) (n * suc c) ≡ nat_lt m n
times_lt m n c = both_ways _ _
    (λ h. lt-ltb m n (lt_of_mul-lt-mul_right (suc c) (ltb-true _ _ h)))
    (λ h. lt-ltb _ _ (mul-lt-mul_of_pos_right (ltb-true m n h) (omega arith)))

below_zero : (b : ℕ) → nat_lt (suc b) 0 ≡ false
below_zero b = grind (arith, nat_tests)

above_zero : (b : ℕ) → nat_lt 0 (suc b) ≡ true
above_zero b = grind (arith, nat_tests)

both_more : (a b : ℕ) → nat_lt (suc a) (suc b) ≡ nat_lt a b
both_more a b = grind (arith, nat_tests)

opposite : (a b : ℕ) → int_cmp (neg_ℤ (pos a)) (neg_ℤ (pos b)) ≡ int_cmp (pos b) (pos a)
opposite zero zero = refl
opposite zero (suc b) = rw (below_zero b, above_zero b)
opposite (suc a) zero = rw (above_zero a)
opposite (suc a) (suc b) = rw (both_more a b, both_more b a)

times_cmp : (m n c : ℕ) → int_cmp (pos (m * suc c)) (pos (n * suc c)) ≡ int_cmp (pos m) (pos n)
times_cmp m n c = rw (times_lt m n c, times_lt n m c)

above_below : (m n : ℕ) → 0 < n → int_cmp (pos m) (neg_ℤ (pos n)) ≡ Greater
above_below m zero h = absurd (omega arith)
above_below m (suc n) h = refl

below_above : (m n : ℕ) → 0 < m → int_cmp (neg_ℤ (pos m)) (pos n) ≡ Less
below_above zero n h = absurd (omega arith)
below_above (suc m) n h = refl

pub cmp_scaled : (x y : ℤ) (c : ℕ) → int_cmp (x *ℤ pos (suc c)) (y *ℤ pos (suc c)) ≡ int_cmp x y
cmp_scaled (pos m) (pos n) c = times_cmp m n c
cmp_scaled (pos m) (negsuc n) c = above_below (m * suc c) (suc n * suc c) (mul-pos (omega arith) (omega arith))
cmp_scaled (negsuc m) (pos n) c = below_above (suc m * suc c) (n * suc c) (mul-pos (omega arith) (omega arith))
cmp_scaled (negsuc m) (negsuc n) c =
    opposite (suc m * suc c) (suc n * suc c) ∙ times_cmp (suc n) (suc m) c ∙ sym (opposite (suc m) (suc n))

pub power_above : (i : ℕ) → 0 < 10 ^ i
power_above i = one-le-pow i 10 (omega arith)

scaled_size : (m i j n : ℕ) → i + j ≡ n → m * 10 ^ n ≡ m * 10 ^ i * 10 ^ j
scaled_size m i j n e = rw (sym e, pow-add 10 i j) (sym (mul_assoc m (10 ^ i) (10 ^ j)))

-- a sign goes through a product
opposite_times : (m n : ℕ) → neg_ℤ (pos m) *ℤ pos n ≡ neg_ℤ (pos (m * n))
opposite_times zero n = rw (zero-mul n) refl
opposite_times (suc m) n = refl

scaled_by : (a : ℤ) (i j n : ℕ) → i + j ≡ n → a *ℤ pos (10 ^ n) ≡ a *ℤ pos (10 ^ i) *ℤ pos (10 ^ j)
scaled_by (pos m) i j n e = ap pos (scaled_size m i j n e)
scaled_by (negsuc m) i j n e = ap (λ k. neg_ℤ (pos k)) (scaled_size (suc m) i j n e) ∙ sym (opposite_times (suc m * 10 ^ i) (10 ^ j))

cmp_scaled_above : (x y : ℤ) (c : ℕ) → 0 < c → int_cmp (x *ℤ pos c) (y *ℤ pos c) ≡ int_cmp x y
cmp_scaled_above x y zero h = absurd (omega arith)
cmp_scaled_above x y (suc c) h = cmp_scaled x y c

-- where the first scale is the smaller, its number alone is to be scaled
pub scaled_less : (a b : ℤ) (s t : ℕ) → s ≤ t → int_cmp (a *ℤ pos (10 ^ (t - s))) b ≡ int_cmp (a *ℤ pos (10 ^ t)) (b *ℤ pos (10 ^ s))
scaled_less a b s t h =
    sym (cmp_scaled_above (a *ℤ pos (10 ^ (t - s))) b (10 ^ s) (power_above s))
    ∙ ap (λ x. int_cmp x (b *ℤ pos (10 ^ s))) (sym (scaled_by a (t - s) s t (omega arith)))

pub scaled_more : (a b : ℤ) (s t : ℕ) → t < s → int_cmp (b *ℤ pos (10 ^ (s - t))) a ≡ int_cmp (b *ℤ pos (10 ^ s)) (a *ℤ pos (10 ^ t))
scaled_more a b s t h = scaled_less b a t s (omega arith)

-- numbers of one scale are in the order of their coefficients
pub scaled_alike : (a b : ℤ) (s t : ℕ) → s ≡ t → int_cmp a b ≡ int_cmp (a *ℤ pos (10 ^ t)) (b *ℤ pos (10 ^ s))
scaled_alike a b s t e =
    sym (cmp_scaled_above a b (10 ^ s) (power_above s)) ∙ ap (λ n. int_cmp (a *ℤ pos (10 ^ n)) (b *ℤ pos (10 ^ s))) e

unscaled : (a : ℤ) → a *ℤ pos 1 ≡ a
unfolding one
unscaled a = *ℤ-one a

fits_test : (a : ℤ) → FitsSigned w128 a → in_range a ≡ Ok a
fits_test (pos n) h = grind (arith, nat_tests)
fits_test (negsuc n) h = grind (arith, nat_tests)

-- a number at its own scale
pub same_scale : (a : ℤ) (s t : ℕ) → FitsSigned w128 a → s ≡ t → Ok a ≡ in_range (a *ℤ pos (10 ^ (t - s)))
same_scale a s t h e =
    let none : t - s ≡ 0 = omega arith in
    sym (rw (none, unscaled a) (fits_test a h))

range_case : (b : Bool) (z x : ℤ) → cond b (Ok z) (Err NumberRange) ≡ Ok x → z ≡ x
range_case true z x e = cc
range_case false z x e = cc

fitting : (z x : ℤ) → in_range z ≡ Ok x → z ≡ x
fitting z x e = range_case (fits z) z x e

pub rescaled_value : (c x : ℤ) (s t : ℕ) → s ≤ t → rescaled c s t ≡ Ok x → x *ℤ pos (10 ^ s) ≡ c *ℤ pos (10 ^ t)
unfolding rescaled
rescaled_value c x s t h e =
    ap (λ z. z *ℤ pos (10 ^ s)) (sym (fitting (c *ℤ pos (10 ^ (t - s))) x e)) ∙ sym (scaled_by c (t - s) s t (omega arith))
