-- Rows that are left of others while the parts of an AND are asked.
use Rattle.std.specs.Prelude.{◌≡◌, ℕ, List, length, map}
use Rattle.base_row_laws.specs.Ranked.{Ranked}
use Rattle.base_row_laws.specs.Operators.{select}
use Rattle.base_value.specs.declared.truth.Truth.{Truth}
use Rattle.base_value.specs.declared.value.Value.{Value}
use Rattle.base_value.specs.Truth.{truth_rank}

-- Rows with truths stand for others under a condition: what the truths keep of the one is what it
-- keeps of the other.
pub record StandFor (all : List (Ranked Value)) (condition : List Value → ℕ)
    (rows : List (Ranked Value)) (truths : List Truth) : Type 0 where
  pub long : length truths ≡ length rows
  pub says : List Value → ℕ
  pub ranks : map truth_rank truths ≡ map (λ r. says r.values) rows
  pub kept : select says rows ≡ select condition all
