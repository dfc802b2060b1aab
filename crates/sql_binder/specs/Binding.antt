-- What it is to bind a whole tree: a fold of the steps of its nodes. A statement and a view are
-- bound so.
use Rattle.std.specs.Prelude.{ℕ, Bool, List, [], ◌∷◌, ◌++◌, map, None, Ok}
use Rattle.sql_bound_query.specs.declared.query.BoundQuery.{BoundQuery}
use Rattle.sql_ast.specs.declared.statement.Query.{Query}
use Rattle.sql_ast.specs.declared.statement.WithQuery.{WithQuery}
use Rattle.sql_ast.specs.declared.tree.Arm.{Arm}
use Rattle.sql_ast.specs.declared.tree.Block.{Block}
use Rattle.sql_ast.specs.declared.tree.Clause.{Clause}
use Rattle.sql_ast.specs.declared.tree.Expr.{Expr}
use Rattle.sql_ast.specs.declared.tree.Block.TheFolds.{fold-Expr, fold-Term, fold-Factor, fold-Arm}
use Rattle.sql_ast.specs.declared.tree.Block.TheFolds.{fold-Item, fold-Selected, fold-FromItem}
use Rattle.sql_ast.specs.declared.tree.Block.TheFolds.{fold-Join, fold-Joined, fold-Clause}
use Rattle.sql_ast.specs.declared.tree.Block.TheFolds.{fold-Block, fold-Select, fold-SetPart}
use Rattle.sql_ast.specs.declared.tree.Factor.{Factor}
use Rattle.sql_ast.specs.declared.tree.FromItem.{FromItem}
use Rattle.sql_ast.specs.declared.tree.Item.{Item}
use Rattle.sql_ast.specs.declared.tree.Join.{Join}
use Rattle.sql_ast.specs.declared.tree.Joined.{Joined}
use Rattle.sql_ast.specs.declared.tree.Select.{Select, out-Select}
use Rattle.sql_ast.specs.declared.tree.Selected.{Selected}
use Rattle.sql_ast.specs.declared.tree.SetPart.{SetPart}
use Rattle.sql_ast.specs.declared.tree.Term.{Term}
use Rattle.sql_binder_steps.specs.declared.collected.BoundTable.{BoundTable}
use Rattle.sql_binder_steps.specs.declared.collected.Collected.{Collected}
use Rattle.sql_binder_steps.specs.declared.view.View.{View}
use Rattle.sql_binder_steps.specs.Steps.{Name, Checked, and_then}
use Rattle.sql_binder_steps.specs.Parts.{outermost, distinct_names, renamed_headers, order_of}
use Rattle.sql_binder_steps.specs.Parts.{new_name}
use Rattle.sql_binder.specs.Meanings.{Meaning, ChainMeaning, ArmMeaning, ItemMeaning}
use Rattle.sql_binder.specs.Meanings.{SelectedMeaning, ClauseMeaning, FromItemMeaning, JoinMeaning}
use Rattle.sql_binder.specs.Meanings.{JoinedMeaning, BlockMeaning, SelectNode, SetPartMeaning}
use Rattle.sql_binder.specs.Expressions.{expr_step, term_step, factor_step, arm_step}
use Rattle.sql_binder.specs.FromLists.{from_item_step, join_step, joined_step}
use Rattle.sql_binder.specs.Clauses.{clause_step, item_step, selected_step}
use Rattle.sql_binder.specs.Blocks.{is_grouped, clauses, block_step, select_step, set_part_step}

-- an expression
unfoldable pub meaning : Expr → Meaning
meaning = fold-Expr BlockMeaning ClauseMeaning Meaning FromItemMeaning SelectedMeaning ArmMeaning
    ChainMeaning ItemMeaning JoinMeaning JoinedMeaning BlockMeaning SetPartMeaning ChainMeaning
    block_step clause_step expr_step from_item_step selected_step arm_step factor_step item_step
    join_step joined_step select_step set_part_step term_step

-- a term
unfoldable pub term_meaning : Term → ChainMeaning
term_meaning = fold-Term BlockMeaning ClauseMeaning Meaning FromItemMeaning SelectedMeaning
    ArmMeaning ChainMeaning ItemMeaning JoinMeaning JoinedMeaning BlockMeaning SetPartMeaning
    ChainMeaning block_step clause_step expr_step from_item_step selected_step arm_step factor_step
    item_step join_step joined_step select_step set_part_step term_step

-- a factor
unfoldable pub factor_meaning : Factor → ChainMeaning
factor_meaning = fold-Factor BlockMeaning ClauseMeaning Meaning FromItemMeaning SelectedMeaning
    ArmMeaning ChainMeaning ItemMeaning JoinMeaning JoinedMeaning BlockMeaning SetPartMeaning
    ChainMeaning block_step clause_step expr_step from_item_step selected_step arm_step factor_step
    item_step join_step joined_step select_step set_part_step term_step

-- an arm of a CASE
unfoldable pub arm_meaning : Arm → ArmMeaning
arm_meaning = fold-Arm BlockMeaning ClauseMeaning Meaning FromItemMeaning SelectedMeaning ArmMeaning
    ChainMeaning ItemMeaning JoinMeaning JoinedMeaning BlockMeaning SetPartMeaning ChainMeaning
    block_step clause_step expr_step from_item_step selected_step arm_step factor_step item_step
    join_step joined_step select_step set_part_step term_step

-- an item of a select list
unfoldable pub item_meaning : Item → ItemMeaning
item_meaning = fold-Item BlockMeaning ClauseMeaning Meaning FromItemMeaning SelectedMeaning
    ArmMeaning ChainMeaning ItemMeaning JoinMeaning JoinedMeaning BlockMeaning SetPartMeaning
    ChainMeaning block_step clause_step expr_step from_item_step selected_step arm_step factor_step
    item_step join_step joined_step select_step set_part_step term_step

-- a select list
unfoldable pub selected_meaning : Selected → SelectedMeaning
selected_meaning = fold-Selected BlockMeaning ClauseMeaning Meaning FromItemMeaning SelectedMeaning
    ArmMeaning ChainMeaning ItemMeaning JoinMeaning JoinedMeaning BlockMeaning SetPartMeaning
    ChainMeaning block_step clause_step expr_step from_item_step selected_step arm_step factor_step
    item_step join_step joined_step select_step set_part_step term_step

-- an item of FROM
unfoldable pub from_item_meaning : FromItem → FromItemMeaning
from_item_meaning = fold-FromItem BlockMeaning ClauseMeaning Meaning FromItemMeaning SelectedMeaning
    ArmMeaning ChainMeaning ItemMeaning JoinMeaning JoinedMeaning BlockMeaning SetPartMeaning
    ChainMeaning block_step clause_step expr_step from_item_step selected_step arm_step factor_step
    item_step join_step joined_step select_step set_part_step term_step

-- a join
unfoldable pub join_meaning : Join → JoinMeaning
join_meaning = fold-Join BlockMeaning ClauseMeaning Meaning FromItemMeaning SelectedMeaning
    ArmMeaning ChainMeaning ItemMeaning JoinMeaning JoinedMeaning BlockMeaning SetPartMeaning
    ChainMeaning block_step clause_step expr_step from_item_step selected_step arm_step factor_step
    item_step join_step joined_step select_step set_part_step term_step

-- what stands between commas
unfoldable pub joined_meaning : Joined → JoinedMeaning
joined_meaning = fold-Joined BlockMeaning ClauseMeaning Meaning FromItemMeaning SelectedMeaning
    ArmMeaning ChainMeaning ItemMeaning JoinMeaning JoinedMeaning BlockMeaning SetPartMeaning
    ChainMeaning block_step clause_step expr_step from_item_step selected_step arm_step factor_step
    item_step join_step joined_step select_step set_part_step term_step

-- WHERE or HAVING
unfoldable pub clause_meaning : Clause → ClauseMeaning
clause_meaning = fold-Clause BlockMeaning ClauseMeaning Meaning FromItemMeaning SelectedMeaning
    ArmMeaning ChainMeaning ItemMeaning JoinMeaning JoinedMeaning BlockMeaning SetPartMeaning
    ChainMeaning block_step clause_step expr_step from_item_step selected_step arm_step factor_step
    item_step join_step joined_step select_step set_part_step term_step

-- a query
unfoldable pub block_meaning : Block → BlockMeaning
block_meaning = fold-Block BlockMeaning ClauseMeaning Meaning FromItemMeaning SelectedMeaning
    ArmMeaning ChainMeaning ItemMeaning JoinMeaning JoinedMeaning BlockMeaning SetPartMeaning
    ChainMeaning block_step clause_step expr_step from_item_step selected_step arm_step factor_step
    item_step join_step joined_step select_step set_part_step term_step

-- one SELECT
unfoldable pub select_meaning : Select → BlockMeaning
select_meaning = fold-Select BlockMeaning ClauseMeaning Meaning FromItemMeaning SelectedMeaning
    ArmMeaning ChainMeaning ItemMeaning JoinMeaning JoinedMeaning BlockMeaning SetPartMeaning
    ChainMeaning block_step clause_step expr_step from_item_step selected_step arm_step factor_step
    item_step join_step joined_step select_step set_part_step term_step

-- a query after the first one of a set operation
unfoldable pub set_part_meaning : SetPart → SetPartMeaning
set_part_meaning = fold-SetPart BlockMeaning ClauseMeaning Meaning FromItemMeaning SelectedMeaning
    ArmMeaning ChainMeaning ItemMeaning JoinMeaning JoinedMeaning BlockMeaning SetPartMeaning
    ChainMeaning block_step clause_step expr_step from_item_step selected_step arm_step factor_step
    item_step join_step joined_step select_step set_part_step term_step

-- one SELECT with the meanings of its parts in their place
abbrev pub opened_select : Select → SelectNode
opened_select q = record {
  is_distinct = (out-Select q).is_distinct;
  selected = selected_meaning (out-Select q).selected;
  from = map joined_meaning (out-Select q).from;
  condition = clause_meaning (out-Select q).condition;
  group = (out-Select q).group;
  having = clause_meaning (out-Select q).having;
}

-- the meaning of one SELECT, from its clauses
unfoldable pub clauses_of : Select → BlockMeaning
clauses_of q = clauses (opened_select q)

-- whether it makes groups
unfoldable pub is_grouped_select : Select → Bool
is_grouped_select q = is_grouped (opened_select q)

-- nothing collected
abbrev pub start : Collected
start = record { items = 0; inputs = []; aggregates = [] }

-- a query that stands by itself, and what is collected
abbrev pub bound_table : Block → List View → Checked (BoundTable × Collected)
bound_table q views = block_meaning q (outermost views) start

-- a query that stands by itself, and how many FROM items it has
abbrev pub counted_table : Block → List View → Checked (BoundTable × ℕ)
counted_table q views = and_then (bound_table q views) (λ r. Ok (r.0, r.1.items))

-- a view: equal names of its column list, its query, the list's length
unfoldable pub bound_view : Name → List Name → Block → List View → Checked View
bound_view name names q views =
    and_then (distinct_names names)
    (λ distinct. and_then (counted_table q views)
    (λ r. and_then (renamed_headers names r.0.headers)
    (λ headers. Ok (record {
      name = name;
      columns = headers;
      block = r.0.block;
      items = r.1;
      kept = None;
    }))))

-- queries of WITH after those that are bound, from left to right: its name, then all that a view of
-- it is bound to, where those before stand in front of the session's views
abbrev pub with_views_from : List View → List WithQuery → List View → Checked (List View)
with_views_from done [] views = Ok done
with_views_from done (w ∷ ws) views =
    and_then (new_name w.name done)
    (λ new. and_then (bound_view w.name w.columns w.block (done ++ views))
    (λ v. with_views_from (done ++ v ∷ []) ws views))

-- the queries of WITH, each bound as a view that those after it and its statement may use
abbrev pub with_views : List WithQuery → List View → Checked (List View)
with_views queries views = with_views_from [] queries views

-- a query that is a statement, over these views: its parts, then ORDER BY
abbrev pub bound_over : Query → List View → Checked BoundQuery
bound_over q views =
    and_then (counted_table q.block views)
    (λ r. and_then (order_of r.0.headers q.order)
    (λ keys. Ok (record { block = r.0.block; order = keys; limit = q.limit })))

-- a query that is a statement: its queries of WITH, then itself with these in front of the
-- session's views
unfoldable pub bound_query : Query → List View → Checked BoundQuery
bound_query q views =
    and_then (with_views q.with_queries views) (λ named. bound_over q (named ++ views))
