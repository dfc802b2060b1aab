-- What selections and select lists make of rows, one after the other.
use Rattle.std.specs.Prelude.{◌≡◌, ℕ, ◌<◌, List, [], ◌∷◌, length}
use Rattle.std.specs.List.{All}
use Rattle.base_row_laws.specs.Ranked.{Ranked, Relation}
use Rattle.base_row_laws.specs.Rows.{scanned}
use Rattle.base_row_laws.specs.Operators.{select, project}
use Rattle.base_value.specs.declared.value.Value.{Value}
use Rattle.base_columns.specs.Bags.{bag_rows, AreWide}
use Rattle.base_columns.specs.Lists.{one_list}
use Rattle.expr_conditions.specs.Ranks.{rank_of}
use Rattle.expr_scalar.specs.Meaning.{values}
use Rattle.exec_parallel_scan.specs.declared.stages.Stage.{Stage}
use Rattle.exec_parallel_scan.specs.declared.stages.Stage.TheVariants.{Select, Project}

-- the rows after one stage
abbrev pub stage_rows : Stage → List (Ranked Value) → List (Ranked Value)
stage_rows (Select e) rows = select (rank_of e.now) rows
stage_rows (Project es) rows = project (values es.now) rows

-- their number of columns
abbrev pub stage_width : Stage → ℕ → ℕ
stage_width (Select e) width = width
stage_width (Project es) width = length es.now

-- the rows after all stages
abbrev pub staged : List Stage → List (Ranked Value) → List (Ranked Value)
staged [] rows = rows
staged (stage ∷ more) rows = staged more (stage_rows stage rows)

-- their number of columns
abbrev pub staged_width : List Stage → ℕ → ℕ
staged_width [] width = width
staged_width (stage ∷ more) width = staged_width more (stage_width stage width)

-- batches have the rows of others after all stages
pub record AreStaged (stages : List Stage) (batches made : List (Relation Value)) : Type 0 where
  pub wide : (width : ℕ) → AreWide width batches → AreWide (staged_width stages width) made
  pub rows : bag_rows made ≡ staged stages (bag_rows batches)

-- whatever the width of each piece's rows is, after all stages they have this one
abbrev pub GiveWidth : List Stage → ℕ → List (List (List Value)) → Type 0
GiveWidth stages after pieces = All (λ piece. (width : ℕ) → 0 < length piece
    → All (λ row. length row ≡ width) piece → staged_width stages width ≡ after) pieces

-- batches have the rows of pieces after all stages
pub record AreScanned (stages : List Stage) (pieces : List (List (List Value)))
    (made : List (Relation Value)) : Type 0 where
  pub wide : (after : ℕ) → GiveWidth stages after pieces → AreWide after made
  pub rows : bag_rows made ≡ staged stages (scanned (one_list pieces))
