-- Signed quotients: from the sizes to the numbers.
use Rattle.std.proofs.Common.{arith, ◌≡◌, ℕ, zero, suc, ◌+◌, ◌*◌, ◌≤◌, ◌<◌, true, false, ℤ, pos, negsuc, neg_ℤ, ◌-ℤ◌, ◌*ℤ◌, refl, sym, subst, ap, ◌∙◌, Bool, rules}
use Rattle.std.proofs.Math.Nat.{mul_assoc, zero-mul}
use Rattle.std.specs.Prelude.{unsigned_abs, int_lt}
use Rattle.std.proofs.lemmas.Int.{ints}
use Rattle.base_decimal.specs.Decimal.{nearest, nearest_of, signed_of, not_same}
use Rattle.base_decimal.specs.Laws.{QuotientIsNearest, RoundsToNearest}

-- a product p of one sign with x, whose size is within half of n of that of x
near : (p a n : ℕ) → 2 * p ≤ 2 * a + n → 2 * a + n < 2 * p + 2 * n
    → (2 * unsigned_abs (pos p -ℤ pos a) ≤ n)
    × (2 * unsigned_abs (pos p -ℤ pos a) ≡ n → a < unsigned_abs (pos p))
near p a n most least = (omega (arith, ints, most, least), λ half. omega (arith, ints, most, least, half))

near_below : (p a n : ℕ) → 2 * p ≤ 2 * a + n → 2 * a + n < 2 * p + 2 * n
    → (2 * unsigned_abs (neg_ℤ (pos p) -ℤ neg_ℤ (pos a)) ≤ n)
    × (2 * unsigned_abs (neg_ℤ (pos p) -ℤ neg_ℤ (pos a)) ≡ n → a < unsigned_abs (neg_ℤ (pos p)))
near_below p a n most least = (omega (arith, ints, most, least), λ half. omega (arith, ints, most, least, half))

neg_times_pos : (k b : ℕ) → neg_ℤ (pos k) *ℤ pos b ≡ neg_ℤ (pos (k * b))
neg_times_pos zero b = ap pos (zero-mul b) ∙ sym (ap (λ z. neg_ℤ (pos z)) (zero-mul b))
neg_times_pos (suc k) b = refl

neg_times_neg : (k b : ℕ) → neg_ℤ (pos k) *ℤ negsuc b ≡ pos (k * suc b)
neg_times_neg zero b = ap (λ z. neg_ℤ (pos z)) (zero-mul (suc b)) ∙ sym (ap pos (zero-mul (suc b)))
neg_times_neg (suc k) b = refl

rounds : RoundsToNearest
rounds m n some = search rules

regrouped : (k n : ℕ) → 2 * k * n ≡ 2 * (k * n)
regrouped k n = mul_assoc 2 k n

most : (m n : ℕ) → 0 < n → 2 * (nearest_of m n * n) ≤ 2 * m + n
most m n some = subst (λ x. x ≤ 2 * m + n) (regrouped (nearest_of m n) n) (rounds m n some).0

least : (m n : ℕ) → 0 < n → 2 * m + n < 2 * (nearest_of m n * n) + 2 * n
least m n some = subst (λ x. 2 * m + n < x + 2 * n) (regrouped (nearest_of m n) n) (rounds m n some).1

-- what is shown of a product of the quotient
abbrev Near : ℤ → ℤ → ℤ → Type 0
Near z x y = (2 * unsigned_abs (z -ℤ x) ≤ unsigned_abs y)
    × (2 * unsigned_abs (z -ℤ x) ≡ unsigned_abs y → unsigned_abs x < unsigned_abs z)

not_below : (a : ℕ) → int_lt (pos a) (pos 0) ≡ false
not_below a = search rules

below : (a : ℕ) → int_lt (negsuc a) (pos 0) ≡ true
below a = refl

quotient : (x y : ℤ) {s t : Bool} → int_lt x (pos 0) ≡ s → int_lt y (pos 0) ≡ t
    → nearest x y ≡ signed_of (not_same s t) (nearest_of (unsigned_abs x) (unsigned_abs y))
quotient x y {s} {t} p q =
    ap (λ u. signed_of (not_same u (int_lt y (pos 0))) (nearest_of (unsigned_abs x) (unsigned_abs y))) p
    ∙ ap (λ u. signed_of (not_same s u) (nearest_of (unsigned_abs x) (unsigned_abs y))) q

shown : (x y : ℤ) {q z : ℤ} → nearest x y ≡ q → q *ℤ y ≡ z → Near z x y → Near (nearest x y *ℤ y) x y
shown x y p r near_z = subst (λ w. Near w x y) (sym (ap (λ w. w *ℤ y) p ∙ r)) near_z

pub signed_quotient : QuotientIsNearest
signed_quotient (pos a) (pos b) some =
    shown (pos a) (pos b) (quotient (pos a) (pos b) (not_below a) (not_below b)) refl (near (nearest_of a b * b) a b (most a b some) (least a b some))
signed_quotient (pos a) (negsuc b) some =
    shown (pos a) (negsuc b) (quotient (pos a) (negsuc b) (not_below a) (below b)) (neg_times_neg (nearest_of a (suc b)) b)
    (near (nearest_of a (suc b) * suc b) a (suc b) (most a (suc b) some) (least a (suc b) some))
signed_quotient (negsuc a) (pos b) some =
    shown (negsuc a) (pos b) (quotient (negsuc a) (pos b) (below a) (not_below b)) (neg_times_pos (nearest_of (suc a) b) b)
    (near_below (nearest_of (suc a) b * b) (suc a) b (most (suc a) b some) (least (suc a) b some))
signed_quotient (negsuc a) (negsuc b) some =
    shown (negsuc a) (negsuc b) (quotient (negsuc a) (negsuc b) (below a) (below b)) refl
    (near_below (nearest_of (suc a) (suc b) * suc b) (suc a) (suc b) (most (suc a) (suc b) some) (least (suc a) (suc b) some))
