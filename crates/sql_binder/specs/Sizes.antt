-- How many expressions and queries stand in a part of a tree, itself counted. Binding goes from a
-- part to smaller ones.
use Rattle.std.specs.Prelude.{ℕ, ◌+◌, List, [], ◌∷◌}
use Rattle.sql_ast.specs.declared.tree.Block.TheOpen.{Expr-F, Term-F, Factor-F, Arm-F, Item-F}
use Rattle.sql_ast.specs.declared.tree.Block.TheOpen.{Selected-F, FromItem-F, Join-F, Joined-F}
use Rattle.sql_ast.specs.declared.tree.Block.TheOpen.{Clause-F, Block-F, Select-F, SetPart-F}
use Rattle.sql_ast.specs.declared.tree.Block.TheFolds.{fold-Clause, fold-Expr, fold-FromItem}
use Rattle.sql_ast.specs.declared.tree.Block.TheFolds.{fold-Selected, fold-Arm, fold-Block}
use Rattle.sql_ast.specs.declared.tree.Block.TheFolds.{fold-Factor, fold-Item, fold-Join}
use Rattle.sql_ast.specs.declared.tree.Block.TheFolds.{fold-Joined, fold-Term, fold-Select}
use Rattle.sql_ast.specs.declared.tree.Block.TheFolds.{fold-SetPart}
use Rattle.sql_ast.specs.declared.tree.Clause.{Clause}
use Rattle.sql_ast.specs.declared.tree.Expr.{Expr}
use Rattle.sql_ast.specs.declared.tree.FromItem.{FromItem}
use Rattle.sql_ast.specs.declared.tree.Selected.{Selected}
use Rattle.sql_ast.specs.declared.tree.Arm.{Arm}
use Rattle.sql_ast.specs.declared.tree.Block.{Block}
use Rattle.sql_ast.specs.declared.tree.Factor.{Factor}
use Rattle.sql_ast.specs.declared.tree.Item.{Item}
use Rattle.sql_ast.specs.declared.tree.Join.{Join}
use Rattle.sql_ast.specs.declared.tree.Joined.{Joined}
use Rattle.sql_ast.specs.declared.tree.Select.{Select}
use Rattle.sql_ast.specs.declared.tree.SetPart.{SetPart}
use Rattle.sql_ast.specs.declared.tree.Term.{Term}

-- numbers, added up
abbrev pub total : List ℕ → ℕ
total [] = 0
total (n ∷ ns) = n + total ns

-- an expression, from the sizes of its parts
abbrev pub expr_size_step : Expr-F ℕ ℕ ℕ ℕ ℕ ℕ ℕ ℕ ℕ ℕ ℕ ℕ ℕ → ℕ
expr_size_step (Expr-F.Negative a) = 1 + a
expr_size_step (Expr-F.Sum a terms) = 1 + a + total terms
expr_size_step (Expr-F.Product a factors) = 1 + a + total factors
expr_size_step (Expr-F.Compare c a b) = 1 + a + b
expr_size_step (Expr-F.CompareQuery c quantifier a q) = 1 + a + q
expr_size_step (Expr-F.IsNull a) = 1 + a
expr_size_step (Expr-F.Between a low high) = 1 + a + low + high
expr_size_step (Expr-F.Like a pattern) = 1 + a
expr_size_step (Expr-F.InList a list) = 1 + a + total list
expr_size_step (Expr-F.InQuery a q) = 1 + a + q
expr_size_step (Expr-F.Exists q) = 1 + q
expr_size_step (Expr-F.Scalar q) = 1 + q
expr_size_step (Expr-F.Not a) = 1 + a
expr_size_step (Expr-F.And a rest) = 1 + a + total rest
expr_size_step (Expr-F.Or a rest) = 1 + a + total rest
expr_size_step (Expr-F.Case arms) = 1 + total arms
expr_size_step (Expr-F.CaseElse arms other) = 1 + total arms + other
expr_size_step (Expr-F.Extract s a) = 1 + a
expr_size_step (Expr-F.Substring a from count) = 1 + a
expr_size_step (Expr-F.Count a) = 1 + a
expr_size_step (Expr-F.CountDistinct a) = 1 + a
expr_size_step (Expr-F.Aggregate f a) = 1 + a
expr_size_step x = 1

-- a term
abbrev pub term_size_step : Term-F ℕ ℕ ℕ ℕ ℕ ℕ ℕ ℕ ℕ ℕ ℕ ℕ ℕ → ℕ
term_size_step t = t.value

-- a factor
abbrev pub factor_size_step : Factor-F ℕ ℕ ℕ ℕ ℕ ℕ ℕ ℕ ℕ ℕ ℕ ℕ ℕ → ℕ
factor_size_step f = f.value

-- an arm of a CASE
abbrev pub arm_size_step : Arm-F ℕ ℕ ℕ ℕ ℕ ℕ ℕ ℕ ℕ ℕ ℕ ℕ ℕ → ℕ
arm_size_step a = a.condition + a.value

-- an item of a select list
abbrev pub item_size_step : Item-F ℕ ℕ ℕ ℕ ℕ ℕ ℕ ℕ ℕ ℕ ℕ ℕ ℕ → ℕ
item_size_step i = i.value

-- a select list
abbrev pub selected_size_step : Selected-F ℕ ℕ ℕ ℕ ℕ ℕ ℕ ℕ ℕ ℕ ℕ ℕ ℕ → ℕ
selected_size_step Selected-F.All = 0
selected_size_step (Selected-F.Items items) = total items

-- an item of FROM
abbrev pub from_item_size_step : FromItem-F ℕ ℕ ℕ ℕ ℕ ℕ ℕ ℕ ℕ ℕ ℕ ℕ ℕ → ℕ
from_item_size_step (FromItem-F.Table name alias) = 0
from_item_size_step (FromItem-F.Derived q alias names) = q
from_item_size_step (FromItem-F.Lateral q alias names) = q

-- a join
abbrev pub join_size_step : Join-F ℕ ℕ ℕ ℕ ℕ ℕ ℕ ℕ ℕ ℕ ℕ ℕ ℕ → ℕ
join_size_step j = j.item + j.condition

-- what stands between commas
abbrev pub joined_size_step : Joined-F ℕ ℕ ℕ ℕ ℕ ℕ ℕ ℕ ℕ ℕ ℕ ℕ ℕ → ℕ
joined_size_step j = j.first + total j.joins

-- WHERE or HAVING
abbrev pub clause_size_step : Clause-F ℕ ℕ ℕ ℕ ℕ ℕ ℕ ℕ ℕ ℕ ℕ ℕ ℕ → ℕ
clause_size_step Clause-F.Absent = 0
clause_size_step (Clause-F.Condition e) = e

-- one SELECT
abbrev pub select_size_step : Select-F ℕ ℕ ℕ ℕ ℕ ℕ ℕ ℕ ℕ ℕ ℕ ℕ ℕ → ℕ
select_size_step q = 1 + q.selected + total q.from + q.condition + q.having

-- a query after the first one
abbrev pub set_part_size_step : SetPart-F ℕ ℕ ℕ ℕ ℕ ℕ ℕ ℕ ℕ ℕ ℕ ℕ ℕ → ℕ
set_part_size_step p = p.query

-- a query
abbrev pub block_size_step : Block-F ℕ ℕ ℕ ℕ ℕ ℕ ℕ ℕ ℕ ℕ ℕ ℕ ℕ → ℕ
block_size_step (Block-F.Select q) = q
block_size_step (Block-F.Combined first parts) = 1 + first + total parts

-- the size of WHERE or HAVING
unfoldable pub clause_size : Clause → ℕ
clause_size = fold-Clause ℕ ℕ ℕ ℕ ℕ ℕ ℕ ℕ ℕ ℕ ℕ ℕ ℕ block_size_step clause_size_step expr_size_step
    from_item_size_step selected_size_step arm_size_step factor_size_step item_size_step
    join_size_step joined_size_step select_size_step set_part_size_step term_size_step

-- the size of an expression
unfoldable pub size : Expr → ℕ
size = fold-Expr ℕ ℕ ℕ ℕ ℕ ℕ ℕ ℕ ℕ ℕ ℕ ℕ ℕ block_size_step clause_size_step expr_size_step
    from_item_size_step selected_size_step arm_size_step factor_size_step item_size_step
    join_size_step joined_size_step select_size_step set_part_size_step term_size_step

-- the size of an item of FROM
unfoldable pub from_item_size : FromItem → ℕ
from_item_size = fold-FromItem ℕ ℕ ℕ ℕ ℕ ℕ ℕ ℕ ℕ ℕ ℕ ℕ ℕ block_size_step clause_size_step
    expr_size_step from_item_size_step selected_size_step arm_size_step factor_size_step
    item_size_step join_size_step joined_size_step select_size_step set_part_size_step
    term_size_step

-- the size of a select list
unfoldable pub selected_size : Selected → ℕ
selected_size = fold-Selected ℕ ℕ ℕ ℕ ℕ ℕ ℕ ℕ ℕ ℕ ℕ ℕ ℕ block_size_step clause_size_step
    expr_size_step from_item_size_step selected_size_step arm_size_step factor_size_step
    item_size_step join_size_step joined_size_step select_size_step set_part_size_step
    term_size_step

-- the size of an arm of a CASE
unfoldable pub arm_size : Arm → ℕ
arm_size = fold-Arm ℕ ℕ ℕ ℕ ℕ ℕ ℕ ℕ ℕ ℕ ℕ ℕ ℕ block_size_step clause_size_step expr_size_step
    from_item_size_step selected_size_step arm_size_step factor_size_step item_size_step
    join_size_step joined_size_step select_size_step set_part_size_step term_size_step

-- the size of a query
unfoldable pub block_size : Block → ℕ
block_size = fold-Block ℕ ℕ ℕ ℕ ℕ ℕ ℕ ℕ ℕ ℕ ℕ ℕ ℕ block_size_step clause_size_step expr_size_step
    from_item_size_step selected_size_step arm_size_step factor_size_step item_size_step
    join_size_step joined_size_step select_size_step set_part_size_step term_size_step

-- the size of a factor
unfoldable pub factor_size : Factor → ℕ
factor_size = fold-Factor ℕ ℕ ℕ ℕ ℕ ℕ ℕ ℕ ℕ ℕ ℕ ℕ ℕ block_size_step clause_size_step expr_size_step
    from_item_size_step selected_size_step arm_size_step factor_size_step item_size_step
    join_size_step joined_size_step select_size_step set_part_size_step term_size_step

-- the size of an item of a select list
unfoldable pub item_size : Item → ℕ
item_size = fold-Item ℕ ℕ ℕ ℕ ℕ ℕ ℕ ℕ ℕ ℕ ℕ ℕ ℕ block_size_step clause_size_step expr_size_step
    from_item_size_step selected_size_step arm_size_step factor_size_step item_size_step
    join_size_step joined_size_step select_size_step set_part_size_step term_size_step

-- the size of a join
unfoldable pub join_size : Join → ℕ
join_size = fold-Join ℕ ℕ ℕ ℕ ℕ ℕ ℕ ℕ ℕ ℕ ℕ ℕ ℕ block_size_step clause_size_step expr_size_step
    from_item_size_step selected_size_step arm_size_step factor_size_step item_size_step
    join_size_step joined_size_step select_size_step set_part_size_step term_size_step

-- the size of what stands between commas
unfoldable pub joined_size : Joined → ℕ
joined_size = fold-Joined ℕ ℕ ℕ ℕ ℕ ℕ ℕ ℕ ℕ ℕ ℕ ℕ ℕ block_size_step clause_size_step expr_size_step
    from_item_size_step selected_size_step arm_size_step factor_size_step item_size_step
    join_size_step joined_size_step select_size_step set_part_size_step term_size_step

-- the size of a term
unfoldable pub term_size : Term → ℕ
term_size = fold-Term ℕ ℕ ℕ ℕ ℕ ℕ ℕ ℕ ℕ ℕ ℕ ℕ ℕ block_size_step clause_size_step expr_size_step
    from_item_size_step selected_size_step arm_size_step factor_size_step item_size_step
    join_size_step joined_size_step select_size_step set_part_size_step term_size_step

-- the size of one SELECT
unfoldable pub select_size : Select → ℕ
select_size = fold-Select ℕ ℕ ℕ ℕ ℕ ℕ ℕ ℕ ℕ ℕ ℕ ℕ ℕ block_size_step clause_size_step expr_size_step
    from_item_size_step selected_size_step arm_size_step factor_size_step item_size_step
    join_size_step joined_size_step select_size_step set_part_size_step term_size_step

-- the size of a query after the first one
unfoldable pub set_part_size : SetPart → ℕ
set_part_size = fold-SetPart ℕ ℕ ℕ ℕ ℕ ℕ ℕ ℕ ℕ ℕ ℕ ℕ ℕ block_size_step clause_size_step expr_size_step
    from_item_size_step selected_size_step arm_size_step factor_size_step item_size_step
    join_size_step joined_size_step select_size_step set_part_size_step term_size_step
