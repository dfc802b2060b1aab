-- Conditions as chains of AND and OR, over the chain of truth with faults.
use Rattle.std.specs.Prelude.{◌≡◌, ◌≤◌, List, [], ◌∷◌, ◌++◌, map}
use Rattle.base_row_laws.specs.Bags.{SameBag, Each}
use Rattle.base_value.specs.declared.truth.Fault.TheVariants.{DivideByZero, NumberRange}
use Rattle.base_value.specs.declared.truth.Standing.TheVariants.{AtFault}
use Rattle.base_value.specs.declared.truth.Truth.TheVariants.{False, Unknown, Stands}
use Rattle.base_value.specs.declared.value.Value.{Value}
use Rattle.base_value.specs.declared.value.Value.TheVariants.{Fault as Failed, Date}
use Rattle.base_value.specs.Truth.{lesser, greater, negated}
use Rattle.expr_operators.specs.declared.operator.Comparison.TheVariants.{Equal}
use Rattle.expr_scalar.specs.declared.expr.Expr.{Expr}
use Rattle.expr_scalar.specs.declared.expr.Expr.TheVariants as e
use Rattle.expr_scalar.specs.Meaning.{truth}
use Rattle.expr_operators.specs.Operators.{compared}
use Rattle.expr_conditions.specs.Ranks.{rank_of}

-- An AND within an AND is one AND.
abbrev pub AndFlattens : Type 0
AndFlattens = (es fs gs : List Expr) (row : List Value) → truth (e.All (es ++ e.All fs ∷ gs)) row
    ≡ truth (e.All (es ++ (fs ++ gs))) row

-- An OR within an OR is one OR.
abbrev pub OrFlattens : Type 0
OrFlattens = (es fs gs : List Expr) (row : List Value) → truth (e.Any (es ++ e.Any fs ∷ gs)) row
    ≡ truth (e.Any (es ++ (fs ++ gs))) row

-- AND and OR don't depend on the order.
abbrev pub InAnyOrder : Type 0
InAnyOrder = (es fs : List Expr) (row : List Value) → SameBag es fs
    → (truth (e.All es) row ≡ truth (e.All fs) row) × (truth (e.Any es) row ≡ truth (e.Any fs) row)

-- A common factor: (k and a) or (k and b) or .. is k and (a or b or ..), where a, b, .. are ANDs.
abbrev pub FactorOut : Type 0
FactorOut = (k : Expr) (fss : List (List Expr)) (row : List Value)
    → truth (e.Any (map (λ fs. e.All (k ∷ fs)) fss)) row
    ≡ truth (e.All (k ∷ e.Any (map e.All fss) ∷ [])) row

-- What each part of an OR implies, as a common factor is, may be asked besides: the OR stays as it
-- is.
abbrev pub ImpliedByOr : Type 0
ImpliedByOr = (k : Expr) (es : List Expr) (row : List Value)
    → Each (λ x. rank_of x row ≤ rank_of k row) es
    → truth (e.All (e.Any es ∷ k ∷ [])) row ≡ truth (e.Any es) row

-- False: not (a and b) is not (not a) or (not b), where a is a fault and b Unknown, or where they
-- are two faults.
abbrev pub NoDeMorgan : Type 0
NoDeMorgan =
    (negated (lesser (Stands (AtFault DivideByZero)) Unknown) ≡ Unknown)
    × (greater (negated (Stands (AtFault DivideByZero))) (negated Unknown)
    ≡ Stands (AtFault DivideByZero))
    × (negated (lesser (Stands (AtFault DivideByZero)) (Stands (AtFault NumberRange)))
    ≡ Stands (AtFault DivideByZero))
    × (greater (negated (Stands (AtFault DivideByZero))) (negated (Stands (AtFault NumberRange)))
    ≡ Stands (AtFault NumberRange))

-- False: a = c does not follow from a = b and b = c, where b is a fault: asked besides, it drops a
-- row that stands at the fault.
abbrev pub NoEqualityThroughFaults : Type 0
NoEqualityThroughFaults =
    (lesser (compared Equal (Date 1) (Failed DivideByZero))
    (compared Equal (Failed DivideByZero) (Date 2)) ≡ Stands (AtFault DivideByZero))
    × (compared Equal (Date 1) (Date 2) ≡ False)
