-- The truths of conditions over rows as ranks.
use Rattle.std.proofs.Common.{◌≡◌, List, map, ap, ◌∙◌}
use Rattle.base_row_laws.specs.Ranked.{Ranked}
use Rattle.base_row_laws.proofs.Lists.{map-map}
use Rattle.base_value.specs.declared.truth.Truth.{Truth}
use Rattle.base_value.specs.declared.value.Value.{Value}
use Rattle.base_value.specs.Truth.{truth_rank}
use Rattle.expr_scalar.specs.declared.expr.Expr.{Expr}
use Rattle.expr_scalar.specs.Meaning.{truth}
use Rattle.expr_conditions.specs.Ranks.{rank_of}
use Rattle.exec_column_expr.specs.Rows.{truths_over}

abbrev Rows : Type 0
Rows = List (Ranked Value)

-- truths as ranks
pub ranks_are : (e : Expr) (rows : Rows) (ts : List Truth) → ts ≡ truths_over e rows → map truth_rank ts ≡ map (λ (r : Ranked Value). rank_of e r.values) rows
unfolding truths_over rank_of
ranks_are e rows ts is = ap (map truth_rank) is ∙ map-map truth_rank (λ (r : Ranked Value). truth e r.values) rows
