-- The rows that groups show.
use Rattle.std.specs.Prelude.{ℕ, List, [], ◌∷◌, map, length, slice_index_or}
use Rattle.base_row_laws.specs.Ranked.{Ranked, ranked}
use Rattle.base_row_laws.specs.Rows.{columns}
use Rattle.base_value.specs.declared.value.Value.{Value}
use Rattle.base_value.specs.declared.value.Value.TheVariants.{Null}
use Rattle.plan_algebra.specs.declared.kept_plan.KeptPlan.{KeptPlan}
use Rattle.store_groups.specs.Groups.{Group, no_rows}
use Rattle.store_kept_views.specs.RowGroups.{row_of}
use Rattle.store_groups.specs.Entries.{Entries}

-- the columns of a group's row that are shown
abbrev pub output_row : KeptPlan → List Value → Group → Ranked Value
output_row p k g = ranked (columns Null p.list (row_of p.aggregates k g).values) g.least

-- the rows of the entries, or without GROUP BY and entries that of the one group of no rows
abbrev pub output_by : KeptPlan → List ℕ → Entries → List (Ranked Value)
output_by p [] [] = output_row p [] (no_rows (length p.aggregates)) ∷ []
output_by p by es = map (λ e. output_row p e.0 e.1) es

abbrev pub output_rows : KeptPlan → Entries → List (Ranked Value)
output_rows p es = output_by p p.by es

-- the value at a place of the row of an entry
abbrev pub value_in : KeptPlan → ℕ → List Value × Group → Value
value_in p place e = slice_index_or (row_of p.aggregates e.0 e.1).values place Null

-- the columns at these places of the rows of entries
abbrev pub shown_columns : KeptPlan → List ℕ → Entries → List (List Value)
shown_columns p places es = map (λ place. map (value_in p place) es) places
