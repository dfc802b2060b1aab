-- Groups worked out by hand.
use Rattle.std.specs.Prelude.{◌≡◌, ◌^◌, [], ◌∷◌, pos}
use Rattle.base_decimal.specs.Tally.{sums}
use Rattle.base_row_laws.specs.Ranked.{true_rank}
use Rattle.base_value.specs.declared.truth.Fault.TheVariants.{DivideByZero, NumberRange}
use Rattle.base_value.specs.declared.value.Value.TheVariants.{Null, Number, Fault as Failed}
use Rattle.expr_scalar.specs.declared.expr.Expr.{Expr}
use Rattle.store_groups.specs.Cases.{amount, faulty, three}
use Rattle.store_groups.specs.Groups.{cell, cell_of}
use Rattle.plan_algebra.specs.declared.kept_plan.KeptAggregate.TheVariants as kept
use Rattle.store_kept_views.specs.RowGroups.{shown}

-- the value of an aggregate: a sum and a count, of nothing but nulls, with a fault, and past the
-- end
abbrev pub ShownCases : Type 0
ShownCases = (e : Expr)
    → (shown (kept.Sum 2 e) 3 three ≡ amount 1500)
    × (shown (kept.Count e) 3 three ≡ Number 0 (pos 2))
    × (shown kept.CountRows 3 three ≡ Number 0 (pos 3))
    × (shown (kept.Sum 2 e) 1 (cell_of (Null ∷ [])) ≡ Null)
    × (shown (kept.Sum 2 e) 4 faulty ≡ Failed DivideByZero)
    × (shown (kept.Sum 2 e) 1 (cell true_rank (sums 1 (2 ^ 127) 0)) ≡ Failed NumberRange)
