-- Tests joined by && and ||, and bytes that are told apart by a test.
use Rattle.std.proofs.Common.{◌≡◌, ℕ, Bool, true, false, ◌||◌, ◌&&◌, eqb, ◌⊎◌, inl, inr, refl, sym, ap, ◌∙◌}
use Rattle.std.proofs.lemmas.Bool.{eqb-true}

pub and_left : (a b : Bool) → a && b ≡ true → a ≡ true
and_left true b h = refl
and_left false b h = h

pub and_right : (a b : Bool) → a && b ≡ true → b ≡ true
and_right true b h = h
and_right false b h = absurd (let never : false ≡ true = h in cc)

pub and_both : (a b : Bool) → a ≡ true → b ≡ true → a && b ≡ true
and_both a b h g = rw (h, g) refl

pub or_cases : (a b : Bool) → a || b ≡ true → (a ≡ true) ⊎ (b ≡ true)
or_cases true b h = inl refl
or_cases false b h = inr h

pub not_both : (b : Bool) → b ≡ true → b ≡ false → ⊥
not_both b h e = let never : true ≡ false = sym h ∙ e in cc

pub is_same : (x b : ℕ) → eqb b x ≡ true → b ≡ x
is_same x b h = eqb-true b x h

-- a byte that passes a test is none that doesn't
pub differs : (p : ℕ → Bool) (x b : ℕ) → p x ≡ false → p b ≡ true → eqb b x ≡ false
differs p x b off on = by (eqb b x) refl
  where
    by : (t : Bool) → eqb b x ≡ t → t ≡ false
    by true e = absurd (not_both (p b) on (ap p (is_same x b e) ∙ off))
    by false e = refl
