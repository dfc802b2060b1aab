-- What each kind of node means: how it is bound, and what is read off it before.
use Rattle.std.specs.Prelude.{ℕ, Bool, List, Option}
use Rattle.sql_ast.specs.declared.tree.Block.TheOpen.{Expr-F, Term-F, Factor-F, Arm-F, Item-F}
use Rattle.sql_ast.specs.declared.tree.Block.TheOpen.{Selected-F, FromItem-F, Join-F, Joined-F}
use Rattle.sql_ast.specs.declared.tree.Block.TheOpen.{Clause-F, Block-F, Select-F, SetPart-F}
use Rattle.sql_ast.specs.declared.words.Span.{Span}
use Rattle.sql_binder_steps.specs.declared.collected.BoundTable.{BoundTable}
use Rattle.sql_binder_steps.specs.declared.collected.Chain.{Chain}
use Rattle.sql_binder_steps.specs.declared.collected.FromRows.{FromRows}
use Rattle.sql_binder_steps.specs.declared.collected.Typed.{Typed}
use Rattle.sql_binder_steps.specs.declared.scope.ScopeColumn.{ScopeColumn}
use Rattle.sql_binder_steps.specs.Steps.{Name, Binding}
use Rattle.sql_binder_steps.specs.Names.{Sight}

-- an expression: how it is bound; whether an aggregate stands in it, outside of subqueries;
-- the name that it gives to an output column; and its digits and unit, where it is an interval
pub record Meaning : Type 0 where
  pub binds : Sight → Binding Typed
  pub aggregates : Bool
  pub name : Name
  pub interval : Option (Name × Span)

-- a term or a factor: what it makes of the chain before it
pub record ChainMeaning : Type 0 where
  pub adds : Sight → Chain → Binding Chain
  pub aggregates : Bool

-- a branch of a CASE
pub record ArmMeaning : Type 0 where
  pub condition : Meaning
  pub value : Meaning

-- an item of a select list
pub record ItemMeaning : Type 0 where
  pub binds : Sight → Binding Typed
  pub aggregates : Bool
  pub name : Name

-- a select list; none is `*`
abbrev pub SelectedMeaning : Type 0
SelectedMeaning = Option (List ItemMeaning)

-- WHERE or HAVING, where it is there
abbrev pub ClauseMeaning : Type 0
ClauseMeaning = Option Meaning

-- an item of FROM, from the columns to its left
abbrev pub FromItemMeaning : Type 0
FromItemMeaning = Sight → List ScopeColumn → Binding FromRows

-- a join, from the number of columns before its chain and from the chain
abbrev pub JoinMeaning : Type 0
JoinMeaning = ℕ → Sight → FromRows → Binding FromRows

-- what stands between commas, from what stands before it
abbrev pub JoinedMeaning : Type 0
JoinedMeaning = Sight → Option FromRows → Binding FromRows

-- a query
abbrev pub BlockMeaning : Type 0
BlockMeaning = Sight → Binding BoundTable

-- a query after the first one of a set operation, from those before it
abbrev pub SetPartMeaning : Type 0
SetPartMeaning = Sight → BoundTable → Binding BoundTable

-- an expression with the meanings of its parts in their place
abbrev pub ExprNode : Type 0
ExprNode = Expr-F BlockMeaning ClauseMeaning Meaning FromItemMeaning SelectedMeaning ArmMeaning
    ChainMeaning ItemMeaning JoinMeaning JoinedMeaning BlockMeaning SetPartMeaning ChainMeaning

-- a term with the meanings of its parts in their place
abbrev pub TermNode : Type 0
TermNode = Term-F BlockMeaning ClauseMeaning Meaning FromItemMeaning SelectedMeaning ArmMeaning
    ChainMeaning ItemMeaning JoinMeaning JoinedMeaning BlockMeaning SetPartMeaning ChainMeaning

-- a factor with the meanings of its parts in their place
abbrev pub FactorNode : Type 0
FactorNode = Factor-F BlockMeaning ClauseMeaning Meaning FromItemMeaning SelectedMeaning ArmMeaning
    ChainMeaning ItemMeaning JoinMeaning JoinedMeaning BlockMeaning SetPartMeaning ChainMeaning

-- an arm of a CASE with the meanings of its parts in their place
abbrev pub ArmNode : Type 0
ArmNode = Arm-F BlockMeaning ClauseMeaning Meaning FromItemMeaning SelectedMeaning ArmMeaning
    ChainMeaning ItemMeaning JoinMeaning JoinedMeaning BlockMeaning SetPartMeaning ChainMeaning

-- an item of a select list with the meanings of its parts in their place
abbrev pub ItemNode : Type 0
ItemNode = Item-F BlockMeaning ClauseMeaning Meaning FromItemMeaning SelectedMeaning ArmMeaning
    ChainMeaning ItemMeaning JoinMeaning JoinedMeaning BlockMeaning SetPartMeaning ChainMeaning

-- a select list with the meanings of its parts in their place
abbrev pub SelectedNode : Type 0
SelectedNode = Selected-F BlockMeaning ClauseMeaning Meaning FromItemMeaning SelectedMeaning
    ArmMeaning ChainMeaning ItemMeaning JoinMeaning JoinedMeaning BlockMeaning SetPartMeaning
    ChainMeaning

-- an item of FROM with the meanings of its parts in their place
abbrev pub FromItemNode : Type 0
FromItemNode = FromItem-F BlockMeaning ClauseMeaning Meaning FromItemMeaning SelectedMeaning
    ArmMeaning ChainMeaning ItemMeaning JoinMeaning JoinedMeaning BlockMeaning SetPartMeaning
    ChainMeaning

-- a join with the meanings of its parts in their place
abbrev pub JoinNode : Type 0
JoinNode = Join-F BlockMeaning ClauseMeaning Meaning FromItemMeaning SelectedMeaning ArmMeaning
    ChainMeaning ItemMeaning JoinMeaning JoinedMeaning BlockMeaning SetPartMeaning ChainMeaning

-- what stands between commas with the meanings of its parts in their place
abbrev pub JoinedNode : Type 0
JoinedNode = Joined-F BlockMeaning ClauseMeaning Meaning FromItemMeaning SelectedMeaning ArmMeaning
    ChainMeaning ItemMeaning JoinMeaning JoinedMeaning BlockMeaning SetPartMeaning ChainMeaning

-- WHERE or HAVING with the meanings of its parts in their place
abbrev pub ClauseNode : Type 0
ClauseNode = Clause-F BlockMeaning ClauseMeaning Meaning FromItemMeaning SelectedMeaning ArmMeaning
    ChainMeaning ItemMeaning JoinMeaning JoinedMeaning BlockMeaning SetPartMeaning ChainMeaning

-- a query with the meanings of its parts in their place
abbrev pub BlockNode : Type 0
BlockNode = Block-F BlockMeaning ClauseMeaning Meaning FromItemMeaning SelectedMeaning ArmMeaning
    ChainMeaning ItemMeaning JoinMeaning JoinedMeaning BlockMeaning SetPartMeaning ChainMeaning

-- one SELECT with the meanings of its parts in their place
abbrev pub SelectNode : Type 0
SelectNode = Select-F BlockMeaning ClauseMeaning Meaning FromItemMeaning SelectedMeaning ArmMeaning
    ChainMeaning ItemMeaning JoinMeaning JoinedMeaning BlockMeaning SetPartMeaning ChainMeaning

-- a query after the first one with the meaning of its query in its place
abbrev pub SetPartNode : Type 0
SetPartNode =
    SetPart-F BlockMeaning ClauseMeaning Meaning FromItemMeaning SelectedMeaning ArmMeaning
    ChainMeaning ItemMeaning JoinMeaning JoinedMeaning BlockMeaning SetPartMeaning ChainMeaning
