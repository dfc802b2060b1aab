-- What WHERE, HAVING and the select list mean.
use Rattle.std.specs.Prelude.{ℕ, List, [], ◌∷◌, Option, Some, None, unwrap_or}
use Rattle.sql_bound_query.specs.declared.query.BoundExpr.{BoundExpr}
use Rattle.sql_ast.specs.declared.tree.Block.TheOpen.{Selected-F, Clause-F}
use Rattle.sql_binder_steps.specs.declared.collected.Shown.{Shown}
use Rattle.sql_binder_steps.specs.declared.scope.ScopeColumn.{ScopeColumn}
use Rattle.sql_binder_steps.specs.Steps.{Binding, ◌>>=◌, pure, lift, alone}
use Rattle.sql_binder_steps.specs.Names.{Sight}
use Rattle.sql_binder_steps.specs.Parts.{inside, no_condition, holding, shown_part, nothing_shown}
use Rattle.sql_binder_steps.specs.Parts.{star}
use Rattle.sql_binder.specs.Meanings.{ItemMeaning, SelectedMeaning, ClauseMeaning, ItemNode}
use Rattle.sql_binder.specs.Meanings.{SelectedNode, ClauseNode}

-- WHERE or HAVING
abbrev pub clause_step : ClauseNode → ClauseMeaning
clause_step Clause-F.Absent = None
clause_step (Clause-F.Condition m) = Some m

-- WHERE and HAVING
abbrev pub condition_in : Sight → ClauseMeaning → Binding BoundExpr
condition_in sight None = pure no_condition
condition_in sight (Some m) = alone (m.binds sight) >>= (λ p. lift (holding p))

-- the condition of WHERE or HAVING; where none stands, always True
unfoldable pub condition : Sight → List ScopeColumn → Option (List ℕ) → ClauseMeaning
    → Binding BoundExpr
condition sight columns keys m = condition_in (inside sight columns keys) m

-- an item of a select list: its alias, else its column's name
abbrev pub item_step : ItemNode → ItemMeaning
item_step i = record {
  binds = i.value.binds;
  aggregates = i.value.aggregates;
  name = unwrap_or i.alias i.value.name;
}

-- a select list
abbrev pub selected_step : SelectedNode → SelectedMeaning
selected_step Selected-F.All = None
selected_step (Selected-F.Items items) = Some items

-- an item of a select list
unfoldable pub shown_item : Sight → Shown → ItemMeaning → Binding Shown
shown_item sight done m = alone (m.binds sight) >>= (λ p. lift (shown_part done m.name p))

-- more items, after the columns that are there
abbrev pub items_from : Sight → Shown → List ItemMeaning → Binding Shown
items_from sight done [] = pure done
items_from sight done (m ∷ ms) = shown_item sight done m >>= (λ d. items_from sight d ms)

-- the items of a select list, in order
unfoldable pub shown_items : Sight → List ItemMeaning → Binding Shown
shown_items sight items = items_from sight nothing_shown items

-- a select list
abbrev pub select_in : Sight → Option (List ℕ) → List ScopeColumn → SelectedMeaning → Binding Shown
select_in sight keys columns None = lift (star keys columns)
select_in sight keys columns (Some items) = shown_items sight items

-- a select list, or all columns for `*`
unfoldable pub select : Sight → List ScopeColumn → Option (List ℕ) → SelectedMeaning → Binding Shown
select sight columns keys items = select_in (inside sight columns keys) keys columns items
