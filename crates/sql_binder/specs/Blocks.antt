-- What a query means, from SELECT to HAVING.
use Rattle.std.specs.Prelude.{ℕ, Bool, true, false, not, ◌||◌, ◌==◌, List, [], ◌∷◌, length, Option}
use Rattle.std.specs.Prelude.{Some}
use Rattle.std.specs.Prelude.{None, if◌then◌else◌}
use Rattle.std.specs.List.{list_any}
use Rattle.sql_bound_query.specs.declared.query.BoundExpr.{BoundExpr}
use Rattle.sql_ast.specs.declared.tree.Block.TheOpen.{Block-F}
use Rattle.sql_ast.specs.declared.words.Column.{Column}
use Rattle.sql_binder_steps.specs.declared.collected.BoundTable.{BoundTable}
use Rattle.sql_binder_steps.specs.declared.collected.FromRows.{FromRows}
use Rattle.sql_binder_steps.specs.declared.collected.Shown.{Shown}
use Rattle.sql_binder_steps.specs.declared.scope.ScopeColumn.{ScopeColumn}
use Rattle.sql_binder_steps.specs.Steps.{Binding, ◌>>=◌, pure, lift, apart}
use Rattle.sql_binder_steps.specs.Names.{Sight}
use Rattle.sql_binder_steps.specs.Parts.{keys_of, plain, closing, once_each}
use Rattle.sql_binder_steps.specs.Sets.{set_table}
use Rattle.sql_binder.specs.Meanings.{ItemMeaning, SelectedMeaning, ClauseMeaning, JoinedMeaning}
use Rattle.sql_binder.specs.Meanings.{BlockMeaning, BlockNode, SelectNode, SetPartMeaning}
use Rattle.sql_binder.specs.Meanings.{SetPartNode}
use Rattle.sql_binder.specs.FromLists.{from_list}
use Rattle.sql_binder.specs.Clauses.{condition, select}

-- whether an aggregate stands in one of the items
abbrev pub any_in_items : List ItemMeaning → Bool
any_in_items = list_any (λ (m : ItemMeaning). m.aggregates)

-- whether an aggregate stands in a select list
abbrev pub items_aggregate : SelectedMeaning → Bool
items_aggregate None = false
items_aggregate (Some items) = any_in_items items

-- whether a clause is there
abbrev pub is_there : ClauseMeaning → Bool
is_there None = false
is_there (Some m) = true

-- a query with GROUP BY, HAVING, or an aggregate in its select list
unfoldable pub is_grouped : SelectNode → Bool
is_grouped q = not (length q.group == 0) || is_there q.having || items_aggregate q.selected

-- FROM, then WHERE
unfoldable pub from_where : Sight → List JoinedMeaning → ClauseMeaning
    → Binding (FromRows × BoundExpr)
from_where sight js m = do
  from ← from_list sight js
  kept ← condition sight from.columns None m
  pure (from, kept)

-- a query without groups: its select list
unfoldable pub over_rows : Sight → FromRows → BoundExpr → SelectedMeaning → Binding BoundTable
over_rows sight from kept items = do
  shown ← select sight from.columns None items
  pure (plain from kept shown)

-- the select list, then HAVING
unfoldable pub group_lists : Sight → List ScopeColumn → Option (List ℕ) → SelectedMeaning
    → ClauseMeaning → Binding (Shown × BoundExpr)
group_lists sight columns keys items m = do
  shown ← select sight columns keys items
  having ← condition sight columns keys m
  pure (shown, having)

-- a query with groups: GROUP BY, the select list, HAVING
unfoldable pub over_groups : Sight → FromRows → BoundExpr → List Column → SelectedMeaning
    → ClauseMeaning → Binding BoundTable
over_groups sight from kept group items m = do
  keys ← lift (keys_of from.columns group)
  lists ← group_lists sight from.columns (Some keys) items m
  closing from kept keys lists.0 lists.1

-- FROM, WHERE, GROUP BY, select list, HAVING
abbrev pub clauses : SelectNode → BlockMeaning
clauses q sight =
    from_where sight q.from q.condition
    >>= (λ p.
    if is_grouped q
    then over_groups sight p.0 p.1 q.group q.selected q.having
    else over_rows sight p.0 p.1 q.selected)

-- one SELECT, with aggregates of its own, then DISTINCT
abbrev pub select_step : SelectNode → BlockMeaning
select_step q sight = apart (clauses q sight) >>= (λ t. pure (once_each q.is_distinct t))

-- a query after the first one of a set operation, once it is bound
abbrev pub set_part_step : SetPartNode → SetPartMeaning
set_part_step p sight t = p.query sight >>= (λ u. lift (set_table p.operator p.keeps_all t u))

-- set operations, from the left
abbrev pub combined_from : Sight → BoundTable → List SetPartMeaning → Binding BoundTable
combined_from sight done [] = pure done
combined_from sight done (m ∷ ms) = m sight done >>= (λ t. combined_from sight t ms)

-- the first query and those after it
unfoldable pub combined : BlockMeaning → List SetPartMeaning → BlockMeaning
combined first parts sight = first sight >>= (λ t. combined_from sight t parts)

-- a query
abbrev pub block_step : BlockNode → BlockMeaning
block_step (Block-F.Select q) = q
block_step (Block-F.Combined first parts) = combined first parts
