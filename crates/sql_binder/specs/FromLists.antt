-- What FROM means: its items, joins and commas.
use Rattle.std.specs.Prelude.{ℕ, List, [], ◌∷◌, length, drop, Option, Some, None, unwrap_or}
use Rattle.sql_bound_query.specs.declared.query.BoundExpr.{BoundExpr}
use Rattle.sql_bound_query.specs.declared.query.BoundSource.{BoundSource}
use Rattle.sql_ast.specs.declared.tree.Block.TheOpen.{FromItem-F}
use Rattle.sql_ast.specs.declared.words.JoinKind.{JoinKind}
use Rattle.sql_binder_steps.specs.declared.collected.FromRows.{FromRows}
use Rattle.sql_binder_steps.specs.declared.from.Joining.{Joining}
use Rattle.sql_binder_steps.specs.declared.scope.ScopeColumn.{ScopeColumn}
use Rattle.sql_binder_steps.specs.Steps.{Binding, ◌>>=◌, pure, lift, alone, counted}
use Rattle.sql_binder_steps.specs.Names.{Sight}
use Rattle.sql_binder_steps.specs.Parts.{inside, within_on, hiding, table_rows, derived_rows}
use Rattle.sql_binder_steps.specs.Parts.{lateral_rows, columns_so_far, crossed, first_rows, joining}
use Rattle.sql_binder_steps.specs.Parts.{joined_rows, present, holding}
use Rattle.sql_binder.specs.Meanings.{Meaning, FromItemMeaning, JoinMeaning, JoinedMeaning}
use Rattle.sql_binder.specs.Meanings.{FromItemNode, JoinNode, JoinedNode}

-- an item of FROM: a table or a view by its name; a derived table; a lateral item, whose query sees
-- the columns to its left
abbrev pub from_item_step : FromItemNode → FromItemMeaning
from_item_step (FromItem-F.Table name alias) sight left =
    table_rows sight name (unwrap_or alias name) left
from_item_step (FromItem-F.Derived q alias names) sight left = do
  _ ← counted 1
  t ← q (hiding sight left)
  lift (derived_rows t alias names left)
from_item_step (FromItem-F.Lateral q alias names) sight left = do
  _ ← counted 1
  t ← q (inside sight left None)
  lift (lateral_rows t alias names left)

-- ON, over the rows of its own join
unfoldable pub on_condition : Sight → List ScopeColumn → Meaning → Binding BoundExpr
on_condition sight columns m = alone (m.binds (within_on sight columns)) >>= (λ p. lift (holding p))

-- ON, over the columns of its chain so far
unfoldable pub on_joining : ℕ → Sight → JoinKind → Joining → Meaning → Binding FromRows
on_joining start sight k j m =
    on_condition sight (drop start j.columns) m >>= (λ on. pure (joined_rows k j on))

-- a join: its item, then ON, which sees the items of its chain so far and no comma's before
abbrev pub join_step : JoinNode → JoinMeaning
join_step j start sight done =
    j.item sight done.columns >>= (λ o. on_joining start sight j.kind (joining done o) j.condition)

-- the joins of a chain from left to right
abbrev pub joins_from : ℕ → Sight → FromRows → List JoinMeaning → Binding FromRows
joins_from start sight done [] = pure done
joins_from start sight done (j ∷ js) = j start sight done >>= (λ d. joins_from start sight d js)

-- the joins after the first item of a chain
unfoldable pub joins : ℕ → Sight → FromRows → List JoinMeaning → Binding FromRows
joins start sight first rest = joins_from start sight first rest

-- the joins of a chain, then what stands before its comma
unfoldable pub chained : ℕ → Sight → Option BoundSource × FromRows → List JoinMeaning
    → Binding FromRows
chained start sight first js =
    joins start sight first.1 js >>= (λ chain. pure (crossed first.0 chain))

-- what stands between commas
abbrev pub joined_step : JoinedNode → JoinedMeaning
joined_step j sight done =
    j.first sight (columns_so_far done) >>=
    (λ o. chained (length (columns_so_far done)) sight (first_rows done o) j.joins)

-- a FROM list from left to right
abbrev pub from_list_after : Sight → Option FromRows → List JoinedMeaning → Binding FromRows
from_list_after sight done [] = lift (present done)
from_list_after sight done (j ∷ js) = j sight done >>= (λ f. from_list_after sight (Some f) js)

-- the whole FROM list
unfoldable pub from_list : Sight → List JoinedMeaning → Binding FromRows
from_list sight js = from_list_after sight None js
