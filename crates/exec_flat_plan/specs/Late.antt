-- The rows of scans that are computed later.
use Rattle.std.specs.Prelude.{ℕ, List}
use Rattle.base_row_laws.specs.Ranked.{Relation, relation}
use Rattle.base_row_laws.specs.Rows.{scanned}
use Rattle.base_value.specs.declared.value.Value.{Value}
use Rattle.base_columns.specs.Lists.{one_list}
use Rattle.exec_parallel_scan.specs.declared.stages.Stage.{Stage}
use Rattle.exec_parallel_scan.specs.Stages.{staged, staged_width}

-- the rows of a table's pieces after stages
unfoldable pub late_relation : ℕ → List (List (List Value)) → List Stage → Relation Value
late_relation width pieces stages =
    relation (staged_width stages width) (staged stages (scanned (one_list pieces)))
