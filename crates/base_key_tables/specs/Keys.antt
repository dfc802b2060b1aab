-- Identity of numbers and of pairs of numbers.
use Rattle.std.specs.Prelude.{◌≡◌, Bool, true, false, ℤ, ◌&&◌, refl}
use Rattle.std.proofs.Common.{sym, ◌∙◌, ap}
use Rattle.std.specs.Ordering.{int_eq}
use Rattle.std.specs.Cmp.{signed_Decides}
use Rattle.std.proofs.lemmas.Bool.{true≢false}
use Rattle.base_row_laws.specs.Bags.{IsIdentity}

-- equality of numbers is an identity
pub int_identity : IsIdentity int_eq
int_identity = record {
  meets = λ x. (signed_Decides x x).1 refl;
  tells =
      λ x y. (signed_Decides x y).0;
}

-- both numbers of the pairs are equal
abbrev pub same_two : ℤ × ℤ → ℤ × ℤ → Bool
same_two x y = int_eq x.0 y.0 && int_eq x.1 y.1

both : (a b : Bool) → (a && b) ≡ true → (a ≡ true) × (b ≡ true)
both true true e = (refl, refl)
both true false e = absurd (true≢false (sym e))
both false b e = absurd (true≢false (sym e))

-- equality of pairs is an identity
pub two_identity : IsIdentity same_two
two_identity = record {
  meets = λ x. ap (λ a. a && int_eq x.1 x.1) (int_identity.meets x.0) ∙ int_identity.meets x.1;
  tells = λ x y e. let h = both (int_eq x.0 y.0) (int_eq x.1 y.1) e in
      ap (λ a. let p : ℤ × ℤ = (a, x.1) in p) (int_identity.tells x.0 y.0 h.0) ∙ ap (λ b. let p : ℤ
      × ℤ = (y.0, b) in p) (int_identity.tells x.1 y.1 h.1);
}
