-- The rows of a scan that are computed later.
use Rattle.std.proofs.Common.{◌≡◌, ℕ, List, [], ◌∷◌, ◌++◌, refl}
use Rattle.base_row_laws.specs.Ranked.{Relation, relation}
use Rattle.base_row_laws.specs.Rows.{scanned}
use Rattle.base_value.specs.declared.value.Value.{Value}
use Rattle.base_columns.specs.Lists.{one_list}
use Rattle.exec_parallel_scan.specs.declared.stages.Stage.{Stage}
use Rattle.exec_parallel_scan.specs.Stages.{stage_rows, stage_width, staged, staged_width}
use Rattle.exec_parallel_scan.proofs.StageRows.{staged-push, width-push}
use Rattle.exec_flat_plan.specs.Late.{late_relation}

pub late-width : (width : ℕ) (pieces : List (List (List Value))) (stages : List Stage) → (late_relation width pieces stages).width ≡ staged_width stages width
unfolding late_relation
late-width width pieces stages = refl

pub late-rows : (width : ℕ) (pieces : List (List (List Value))) (stages : List Stage) → (late_relation width pieces stages).rows ≡ staged stages (scanned (one_list pieces))
unfolding late_relation
late-rows width pieces stages = refl

-- a stage more
pub late-width-push : (width : ℕ) (pieces : List (List (List Value))) (stages : List Stage) (stage : Stage)
    → (late_relation width pieces (stages ++ stage ∷ [])).width ≡ stage_width stage (late_relation width pieces stages).width
unfolding late_relation
late-width-push width pieces stages stage = width-push stages stage width

pub late-rows-push : (width : ℕ) (pieces : List (List (List Value))) (stages : List Stage) (stage : Stage)
    → (late_relation width pieces (stages ++ stage ∷ [])).rows ≡ stage_rows stage (late_relation width pieces stages).rows
unfolding late_relation
late-rows-push width pieces stages stage = staged-push stages stage (scanned (one_list pieces))

-- a bag of this width and these rows is the scan's
pub late-same : (width : ℕ) (pieces : List (List (List Value))) (stages : List Stage) (bag : Relation Value)
    → bag.width ≡ staged_width stages width → bag.rows ≡ staged stages (scanned (one_list pieces)) → bag ≡ late_relation width pieces stages
unfolding late_relation
late-same width pieces stages bag w r = λ i. relation (w i) (r i)

pub ruleset late = (late-width, late-rows, late-width-push, late-rows-push)
