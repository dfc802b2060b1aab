-- Ranks tell standings and truths apart.
use Rattle.std.proofs.Common.{◌≡◌, ◌≤◌, ap, refl, arith}
use Rattle.base_value.specs.declared.truth.Fault.{Fault}
use Rattle.base_value.specs.declared.truth.Fault.TheVariants.{TooManyRows, DivideByZero, NumberRange}
use Rattle.base_value.specs.declared.truth.Standing.{Standing}
use Rattle.base_value.specs.declared.truth.Standing.TheVariants.{AtFault, AtTrue}
use Rattle.base_value.specs.declared.truth.Truth.{Truth}
use Rattle.base_value.specs.declared.truth.Truth.TheVariants.{False, Unknown, Stands}
use Rattle.base_value.specs.Truth.{fault_rank, standing_rank, truth_rank}

pub fault_from_rank : (f g : Fault) → fault_rank f ≡ fault_rank g → f ≡ g
fault_from_rank TooManyRows TooManyRows e = refl
fault_from_rank TooManyRows DivideByZero e = absurd (omega arith)
fault_from_rank TooManyRows NumberRange e = absurd (omega arith)
fault_from_rank DivideByZero TooManyRows e = absurd (omega arith)
fault_from_rank DivideByZero DivideByZero e = refl
fault_from_rank DivideByZero NumberRange e = absurd (omega arith)
fault_from_rank NumberRange TooManyRows e = absurd (omega arith)
fault_from_rank NumberRange DivideByZero e = absurd (omega arith)
fault_from_rank NumberRange NumberRange e = refl

pub standing_from_rank : (s t : Standing) → standing_rank s ≡ standing_rank t → s ≡ t
standing_from_rank (AtFault f) (AtFault g) e = ap AtFault (fault_from_rank f g e)
standing_from_rank (AtFault TooManyRows) AtTrue e = absurd (omega arith)
standing_from_rank (AtFault DivideByZero) AtTrue e = absurd (omega arith)
standing_from_rank (AtFault NumberRange) AtTrue e = absurd (omega arith)
standing_from_rank AtTrue (AtFault TooManyRows) e = absurd (omega arith)
standing_from_rank AtTrue (AtFault DivideByZero) e = absurd (omega arith)
standing_from_rank AtTrue (AtFault NumberRange) e = absurd (omega arith)
standing_from_rank AtTrue AtTrue e = refl

-- a standing is above Unknown
above : (s : Standing) → 2 ≤ standing_rank s
above (AtFault TooManyRows) = omega arith
above (AtFault DivideByZero) = omega arith
above (AtFault NumberRange) = omega arith
above AtTrue = omega arith

pub truth_from_rank : (a b : Truth) → truth_rank a ≡ truth_rank b → a ≡ b
truth_from_rank False False e = refl
truth_from_rank False Unknown e = absurd (omega arith)
truth_from_rank False (Stands s) e = absurd (omega (arith, above s))
truth_from_rank Unknown False e = absurd (omega arith)
truth_from_rank Unknown Unknown e = refl
truth_from_rank Unknown (Stands s) e = absurd (omega (arith, above s))
truth_from_rank (Stands s) False e = absurd (omega (arith, above s))
truth_from_rank (Stands s) Unknown e = absurd (omega (arith, above s))
truth_from_rank (Stands s) (Stands t) e = ap Stands (standing_from_rank s t e)
