-- Quotients at 18 places, which are those of the coefficients.
use Rattle.std.proofs.Common.{◌≡◌, ℕ, ℤ, pos, negsuc, zero, suc, ◌≤◌, ◌^◌, ◌+ℤ◌, ◌-ℤ◌, ◌*ℤ◌, ◌≤ℤ◌, true, ◌∙◌, ap, arith, cond}
use Rattle.std.specs.Prelude.{Ok, Err}
use Rattle.std.proofs.lemmas.Bool.{lt-ltb}
use Rattle.std.proofs.lemmas.Int.{ints}
use Rattle.base_decimal.specs.declared.arithmetic.NumberFault.TheVariants.{NumberRange}
use Rattle.base_decimal.specs.Decimal.{fits, in_range, nearest, quotient_of, ◌>>=◌}

times_one : (a : ℤ) → a *ℤ pos 1 ≡ a
times_one a = omega (arith, ints)

in_bits : (a : ℤ) → (pos 0 -ℤ pos (2 ^ 127)) ≤ℤ a → (a +ℤ pos 1) ≤ℤ pos (2 ^ 127) → fits a ≡ true
in_bits (pos n) lo hi = lt-ltb n (2 ^ 127) (omega (arith, ints, hi))
in_bits (negsuc n) lo hi = lt-ltb n (2 ^ 127) (omega (arith, ints, lo))

whole : (a : ℤ) (n : ℕ) → fits a ≡ true → 1 ≤ n → quotient_of a 18 (pos n) 0 ≡ in_range (nearest a (pos n))
unfolding quotient_of
whole a zero f le = absurd (omega (arith, le))
whole a (suc n) f le =
    ap (λ z. in_range z >>= λ x. in_range (nearest x (pos (suc n)))) (times_one a)
    ∙ ap (λ p. cond p (Ok a) (Err NumberRange) >>= λ x. in_range (nearest x (pos (suc n)))) f

pub quotient_whole : (a x b : ℤ) (n s t : ℕ) → x ≡ a → s ≡ 18 → b ≡ pos n → t ≡ 0 → (pos 0 -ℤ pos (2 ^ 127)) ≤ℤ a → (a +ℤ pos 1) ≤ℤ pos (2 ^ 127) → 1 ≤ n
    → quotient_of x s b t ≡ in_range (nearest a (pos n))
quotient_whole a x b n s t is_a is_s is_b is_t lo hi le =
    ap (λ z. quotient_of z s b t) is_a ∙ ap (λ z. quotient_of a z b t) is_s ∙ ap (λ z. quotient_of a 18 z t) is_b ∙ ap (quotient_of a 18 (pos n)) is_t
    ∙ whole a n (in_bits a lo hi) le
