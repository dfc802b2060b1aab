-- What rules assume of the functions that bind expressions and queries: they may be called on a
-- part, and then bind it as it means.
use Rattle.std.specs.Prelude.{◌≡◌, ℕ, ◌<◌, List, Result}
use Rattle.std.specs.declared.alloc.Global.{Global}
use denote.Ref.{Bor, MutBor}
use Rattle.base_row_laws.specs.Bags.{Each}
use Rattle.sql_ast.specs.declared.tree.Arm.{Arm, out-Arm}
use Rattle.sql_ast.specs.declared.tree.Block.{Block}
use Rattle.sql_ast.specs.declared.tree.Clause.{Clause}
use Rattle.sql_ast.specs.declared.tree.Clause.TheVariants as clause
use Rattle.sql_ast.specs.declared.tree.Expr.{Expr}
use Rattle.sql_ast.specs.declared.tree.Factor.{Factor, out-Factor}
use Rattle.sql_ast.specs.declared.tree.FromItem.{FromItem}
use Rattle.sql_ast.specs.declared.tree.FromItem.TheVariants as from_item
use Rattle.sql_ast.specs.declared.tree.Item.{Item, out-Item}
use Rattle.sql_ast.specs.declared.tree.Join.{Join, out-Join}
use Rattle.sql_ast.specs.declared.tree.Joined.{Joined, out-Joined}
use Rattle.sql_ast.specs.declared.tree.Select.{Select, out-Select}
use Rattle.sql_ast.specs.declared.tree.Selected.{Selected}
use Rattle.sql_ast.specs.declared.tree.Selected.TheVariants as selected
use Rattle.sql_ast.specs.declared.tree.SetPart.{SetPart, out-SetPart}
use Rattle.sql_ast.specs.declared.tree.Term.{Term, out-Term}
use Rattle.sql_binder_steps.specs.declared.collected.BoundTable.{BoundTable}
use Rattle.sql_binder_steps.specs.declared.collected.Collected.{Collected}
use Rattle.sql_binder_steps.specs.declared.collected.Typed.{Typed}
use Rattle.sql_binder_steps.specs.declared.fault.BindFault.{BindFault}
use Rattle.sql_binder_steps.specs.declared.scope.Site.{Site}
use Rattle.sql_binder_steps.specs.Steps.{Name, Binds}
use Rattle.sql_binder_steps.specs.Names.{sight_of}
use Rattle.sql_binder.specs.Binding.{meaning, block_meaning}
use Rattle.sql_binder.specs.Sizes.{size, block_size}

-- when a function on parts of a tree may be called
abbrev pub Pre : Type 0 → Type 1
Pre A = Global → Bor Site → MutBor Collected → Bor A → Type 0

-- what its calls give
abbrev pub Post : Type 0 → Type 0 → Type 1
Post A B = Global → Bor Site → MutBor Collected → Bor A → Result B BindFault → MutBor Collected
    → Type 0

-- The function may be called on this expression, and then binds it.
pub record BindsExpr (pre : Pre Expr) (post : Post Expr Typed) (e : Expr) : Type 0 where
  pub callable : (alloc : Global) (site : Bor Site) (old : MutBor Collected) (x : Bor Expr)
      → x.now ≡ e → pre alloc site old x
  pub binds : (alloc : Global) (site : Bor Site) (old new : MutBor Collected) (x : Bor Expr)
      (r : Result Typed BindFault)
      → x.now ≡ e → post alloc site old x r new
      → Binds ((meaning e).binds (sight_of site.now) old.now) r new.now

-- The function may be called on this query, and then binds it.
pub record BindsBlock (pre : Pre Block) (post : Post Block BoundTable) (q : Block) : Type 0 where
  pub callable : (alloc : Global) (site : Bor Site) (old : MutBor Collected) (x : Bor Block)
      → x.now ≡ q → pre alloc site old x
  pub binds : (alloc : Global) (site : Bor Site) (old new : MutBor Collected) (x : Bor Block)
      (r : Result BoundTable BindFault)
      → x.now ≡ q → post alloc site old x r new
      → Binds (block_meaning q (sight_of site.now) old.now) r new.now

-- The functions may be called on each smaller expression and query, and then bind it.
pub record Below (n : ℕ) (pre : Pre Expr) (post : Post Expr Typed) (pre_block : Pre Block)
    (post_block : Post Block BoundTable) : Type 0 where
  pub expr_callable : (alloc : Global) (site : Bor Site) (old : MutBor Collected) (x : Bor Expr)
      → size x.now < n → pre alloc site old x
  pub expr_binds : (alloc : Global) (site : Bor Site) (old new : MutBor Collected) (x : Bor Expr)
      (r : Result Typed BindFault) → size x.now < n
      → post alloc site old x r new
      → Binds ((meaning x.now).binds (sight_of site.now) old.now) r new.now
  pub block_callable : (alloc : Global) (site : Bor Site) (old : MutBor Collected) (x : Bor Block)
      → block_size x.now < n → pre_block alloc site old x
  pub block_binds : (alloc : Global) (site : Bor Site) (old new : MutBor Collected) (x : Bor Block)
      (r : Result BoundTable BindFault) → block_size x.now < n
      → post_block alloc site old x r new
      → Binds (block_meaning x.now (sight_of site.now) old.now) r new.now

-- ---- the same of what stands in the parts of a query

module _ (pre : Pre Expr) (post : Post Expr Typed) where
  -- each of these expressions
  abbrev pub BindsExprs : List Expr → Type 0
  BindsExprs = Each (BindsExpr pre post)

  -- a term's
  abbrev pub BindsTerm : Term → Type 0
  BindsTerm t = BindsExpr pre post (out-Term t).value

  -- a factor's
  abbrev pub BindsFactor : Factor → Type 0
  BindsFactor f = BindsExpr pre post (out-Factor f).value

  -- an arm's condition and value
  abbrev pub BindsArm : Arm → Type 0
  BindsArm a = BindsExpr pre post (out-Arm a).condition × BindsExpr pre post (out-Arm a).value

  -- an item's of a select list
  abbrev pub BindsItem : Item → Type 0
  BindsItem i = BindsExpr pre post (out-Item i).value

  -- those of a select list
  abbrev pub BindsSelected : Selected → Type 0
  BindsSelected s = (items : List Item) → s ≡ selected.Items items → Each BindsItem items

  -- that of WHERE or HAVING
  abbrev pub BindsClause : Clause → Type 0
  BindsClause c = (e : Expr) → c ≡ clause.Condition e → BindsExpr pre post e

-- the query after the first one of a set operation
abbrev pub BindsSetPart : Pre Block → Post Block BoundTable → SetPart → Type 0
BindsSetPart pre post p = BindsBlock pre post (out-SetPart p).query

-- the query of a derived table or of a lateral item
pub record BindsFromItem (pre : Pre Block) (post : Post Block BoundTable) (i : FromItem) : Type 0
  where
    pub derived : (q : Block) (alias : Name) (names : List Name)
        → i ≡ from_item.Derived q alias names → BindsBlock pre post q
    pub lateral : (q : Block) (alias : Name) (names : List Name)
        → i ≡ from_item.Lateral q alias names → BindsBlock pre post q

module _ (pre : Pre Expr) (post : Post Expr Typed) (pre_block : Pre Block)
    (post_block : Post Block BoundTable) where
  -- a join's item and condition
  abbrev pub BindsJoin : Join → Type 0
  BindsJoin j = BindsFromItem pre_block post_block (out-Join j).item
      × BindsExpr pre post (out-Join j).condition

  -- an item and those joined to it
  abbrev pub BindsJoined : Joined → Type 0
  BindsJoined j = BindsFromItem pre_block post_block (out-Joined j).first
      × Each BindsJoin (out-Joined j).joins

  -- what stands in one SELECT
  pub record BindsParts (q : Select) : Type 0 where
    pub from : Each BindsJoined (out-Select q).from
    pub condition : BindsClause pre post (out-Select q).condition
    pub selected : BindsSelected pre post (out-Select q).selected
    pub having : BindsClause pre post (out-Select q).having
