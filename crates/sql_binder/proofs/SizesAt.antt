-- The size of each node, from the sizes of what stands in it.
use Rattle.std.proofs.Common.{◌≡◌, ℕ}
use Rattle.sql_ast.specs.declared.tree.Clause.{Clause, out-Clause}
use Rattle.sql_ast.specs.declared.tree.Expr.{Expr, out-Expr}
use Rattle.sql_ast.specs.declared.tree.FromItem.{FromItem, out-FromItem}
use Rattle.sql_ast.specs.declared.tree.Selected.{Selected, out-Selected}
use Rattle.sql_ast.specs.declared.tree.Arm.{Arm, out-Arm}
use Rattle.sql_ast.specs.declared.tree.Block.{Block, out-Block}
use Rattle.sql_ast.specs.declared.tree.Factor.{Factor, out-Factor}
use Rattle.sql_ast.specs.declared.tree.Item.{Item, out-Item}
use Rattle.sql_ast.specs.declared.tree.Join.{Join, out-Join}
use Rattle.sql_ast.specs.declared.tree.Joined.{Joined, out-Joined}
use Rattle.sql_ast.specs.declared.tree.Select.{Select, out-Select}
use Rattle.sql_ast.specs.declared.tree.SetPart.{SetPart, out-SetPart}
use Rattle.sql_ast.specs.declared.tree.Term.{Term, out-Term}
use Rattle.sql_ast.specs.declared.tree.Block.TheOpen.{Clause-F, Expr-F, FromItem-F, Selected-F}
use Rattle.sql_ast.specs.declared.tree.Block.TheOpen.{Arm-F, Block-F, Factor-F, Item-F, Join-F}
use Rattle.sql_ast.specs.declared.tree.Block.TheOpen.{Joined-F, Term-F, Select-F, SetPart-F}
use Rattle.sql_ast.specs.declared.tree.Block.TheFolds.{fold_out-Clause, fold_out-Expr}
use Rattle.sql_ast.specs.declared.tree.Block.TheFolds.{fold_out-FromItem, fold_out-Selected}
use Rattle.sql_ast.specs.declared.tree.Block.TheFolds.{fold_out-Arm, fold_out-Block}
use Rattle.sql_ast.specs.declared.tree.Block.TheFolds.{fold_out-Factor, fold_out-Item}
use Rattle.sql_ast.specs.declared.tree.Block.TheFolds.{fold_out-Join, fold_out-Joined}
use Rattle.sql_ast.specs.declared.tree.Block.TheFolds.{fold_out-Term, map-Clause, map-Expr}
use Rattle.sql_ast.specs.declared.tree.Block.TheFolds.{map-FromItem, map-Selected, map-Arm}
use Rattle.sql_ast.specs.declared.tree.Block.TheFolds.{map-Block, map-Factor, map-Item, map-Join}
use Rattle.sql_ast.specs.declared.tree.Block.TheFolds.{map-Joined, map-Term, map-Select, map-SetPart}
use Rattle.sql_ast.specs.declared.tree.Block.TheFolds.{fold_out-Select, fold_out-SetPart}
use Rattle.sql_binder.specs.Sizes.{clause_size_step, expr_size_step, from_item_size_step}
use Rattle.sql_binder.specs.Sizes.{selected_size_step, arm_size_step, block_size_step}
use Rattle.sql_binder.specs.Sizes.{factor_size_step, item_size_step, join_size_step}
use Rattle.sql_binder.specs.Sizes.{joined_size_step, term_size_step, clause_size, size, select_size_step}
use Rattle.sql_binder.specs.Sizes.{set_part_size_step, select_size, set_part_size}
use Rattle.sql_binder.specs.Sizes.{from_item_size, selected_size, arm_size, block_size, factor_size}
use Rattle.sql_binder.specs.Sizes.{item_size, join_size, joined_size, term_size}

unfoldable pub clause_size_at : Clause-F Block Clause Expr FromItem Selected Arm Factor Item Join
    Joined Select SetPart Term → ℕ
clause_size_at x = clause_size_step
    (map-Clause Block Clause Expr FromItem Selected Arm Factor Item Join Joined Select SetPart Term
    ℕ ℕ ℕ ℕ ℕ ℕ ℕ ℕ ℕ ℕ ℕ ℕ ℕ block_size clause_size size from_item_size selected_size arm_size
    factor_size item_size join_size joined_size select_size set_part_size term_size x)

pub clause_size_is : (x : Clause) → clause_size x ≡ clause_size_at (out-Clause x)
unfolding block_size clause_size size from_item_size selected_size arm_size factor_size item_size
    join_size joined_size select_size set_part_size term_size clause_size_at
clause_size_is = fold_out-Clause ℕ ℕ ℕ ℕ ℕ ℕ ℕ ℕ ℕ ℕ ℕ ℕ ℕ block_size_step clause_size_step
    expr_size_step from_item_size_step selected_size_step arm_size_step factor_size_step
    item_size_step join_size_step joined_size_step select_size_step set_part_size_step
    term_size_step

unfoldable pub size_at : Expr-F Block Clause Expr FromItem Selected Arm Factor Item Join Joined
    Select SetPart Term
    → ℕ
size_at x = expr_size_step
    (map-Expr Block Clause Expr FromItem Selected Arm Factor Item Join Joined Select SetPart Term ℕ
    ℕ ℕ ℕ ℕ ℕ ℕ ℕ ℕ ℕ ℕ ℕ ℕ block_size clause_size size from_item_size selected_size arm_size
    factor_size item_size join_size joined_size select_size set_part_size term_size x)

pub size_is : (x : Expr) → size x ≡ size_at (out-Expr x)
unfolding block_size clause_size size from_item_size selected_size arm_size factor_size item_size
    join_size joined_size select_size set_part_size term_size size_at
size_is = fold_out-Expr ℕ ℕ ℕ ℕ ℕ ℕ ℕ ℕ ℕ ℕ ℕ ℕ ℕ block_size_step clause_size_step expr_size_step
    from_item_size_step selected_size_step arm_size_step factor_size_step item_size_step
    join_size_step joined_size_step select_size_step set_part_size_step term_size_step

unfoldable pub from_item_size_at : FromItem-F Block Clause Expr FromItem Selected Arm Factor Item
    Join Joined Select SetPart Term → ℕ
from_item_size_at x = from_item_size_step
    (map-FromItem Block Clause Expr FromItem Selected Arm Factor Item Join Joined Select SetPart
    Term ℕ ℕ ℕ ℕ ℕ ℕ ℕ ℕ ℕ ℕ ℕ ℕ ℕ block_size clause_size size from_item_size selected_size arm_size
    factor_size item_size join_size joined_size select_size set_part_size term_size x)

pub from_item_size_is : (x : FromItem) → from_item_size x ≡ from_item_size_at (out-FromItem x)
unfolding block_size clause_size size from_item_size selected_size arm_size factor_size item_size
    join_size joined_size select_size set_part_size term_size from_item_size_at
from_item_size_is = fold_out-FromItem ℕ ℕ ℕ ℕ ℕ ℕ ℕ ℕ ℕ ℕ ℕ ℕ ℕ block_size_step clause_size_step
    expr_size_step from_item_size_step selected_size_step arm_size_step factor_size_step
    item_size_step join_size_step joined_size_step select_size_step set_part_size_step
    term_size_step

unfoldable pub selected_size_at : Selected-F Block Clause Expr FromItem Selected Arm Factor Item
    Join Joined Select SetPart Term → ℕ
selected_size_at x = selected_size_step
    (map-Selected Block Clause Expr FromItem Selected Arm Factor Item Join Joined Select SetPart
    Term ℕ ℕ ℕ ℕ ℕ ℕ ℕ ℕ ℕ ℕ ℕ ℕ ℕ block_size clause_size size from_item_size selected_size arm_size
    factor_size item_size join_size joined_size select_size set_part_size term_size x)

pub selected_size_is : (x : Selected) → selected_size x ≡ selected_size_at (out-Selected x)
unfolding block_size clause_size size from_item_size selected_size arm_size factor_size item_size
    join_size joined_size select_size set_part_size term_size selected_size_at
selected_size_is = fold_out-Selected ℕ ℕ ℕ ℕ ℕ ℕ ℕ ℕ ℕ ℕ ℕ ℕ ℕ block_size_step clause_size_step
    expr_size_step from_item_size_step selected_size_step arm_size_step factor_size_step
    item_size_step join_size_step joined_size_step select_size_step set_part_size_step
    term_size_step

unfoldable pub arm_size_at : Arm-F Block Clause Expr FromItem Selected Arm Factor Item Join Joined
    Select SetPart Term → ℕ
arm_size_at x = arm_size_step
    (map-Arm Block Clause Expr FromItem Selected Arm Factor Item Join Joined Select SetPart Term ℕ ℕ
    ℕ ℕ ℕ ℕ ℕ ℕ ℕ ℕ ℕ ℕ ℕ block_size clause_size size from_item_size selected_size arm_size
    factor_size item_size join_size joined_size select_size set_part_size term_size x)

pub arm_size_is : (x : Arm) → arm_size x ≡ arm_size_at (out-Arm x)
unfolding block_size clause_size size from_item_size selected_size arm_size factor_size item_size
    join_size joined_size select_size set_part_size term_size arm_size_at
arm_size_is = fold_out-Arm ℕ ℕ ℕ ℕ ℕ ℕ ℕ ℕ ℕ ℕ ℕ ℕ ℕ block_size_step clause_size_step expr_size_step
    from_item_size_step selected_size_step arm_size_step factor_size_step item_size_step
    join_size_step joined_size_step select_size_step set_part_size_step term_size_step

unfoldable pub block_size_at : Block-F Block Clause Expr FromItem Selected Arm Factor Item Join
    Joined Select SetPart Term → ℕ
block_size_at x = block_size_step
    (map-Block Block Clause Expr FromItem Selected Arm Factor Item Join Joined Select SetPart Term ℕ
    ℕ ℕ ℕ ℕ ℕ ℕ ℕ ℕ ℕ ℕ ℕ ℕ block_size clause_size size from_item_size selected_size arm_size
    factor_size item_size join_size joined_size select_size set_part_size term_size x)

pub block_size_is : (x : Block) → block_size x ≡ block_size_at (out-Block x)
unfolding block_size clause_size size from_item_size selected_size arm_size factor_size item_size
    join_size joined_size select_size set_part_size term_size block_size_at
block_size_is = fold_out-Block ℕ ℕ ℕ ℕ ℕ ℕ ℕ ℕ ℕ ℕ ℕ ℕ ℕ block_size_step clause_size_step
    expr_size_step from_item_size_step selected_size_step arm_size_step factor_size_step
    item_size_step join_size_step joined_size_step select_size_step set_part_size_step
    term_size_step

unfoldable pub select_size_at : Select-F Block Clause Expr FromItem Selected Arm Factor Item Join
    Joined Select SetPart Term → ℕ
select_size_at x = select_size_step
    (map-Select Block Clause Expr FromItem Selected Arm Factor Item Join Joined Select SetPart Term ℕ
    ℕ ℕ ℕ ℕ ℕ ℕ ℕ ℕ ℕ ℕ ℕ ℕ block_size clause_size size from_item_size selected_size arm_size
    factor_size item_size join_size joined_size select_size set_part_size term_size x)

pub select_size_is : (x : Select) → select_size x ≡ select_size_at (out-Select x)
unfolding block_size clause_size size from_item_size selected_size arm_size factor_size item_size
    join_size joined_size select_size set_part_size term_size select_size_at
select_size_is = fold_out-Select ℕ ℕ ℕ ℕ ℕ ℕ ℕ ℕ ℕ ℕ ℕ ℕ ℕ block_size_step clause_size_step
    expr_size_step from_item_size_step selected_size_step arm_size_step factor_size_step
    item_size_step join_size_step joined_size_step select_size_step set_part_size_step
    term_size_step

unfoldable pub set_part_size_at : SetPart-F Block Clause Expr FromItem Selected Arm Factor Item Join
    Joined Select SetPart Term → ℕ
set_part_size_at x = set_part_size_step
    (map-SetPart Block Clause Expr FromItem Selected Arm Factor Item Join Joined Select SetPart Term ℕ
    ℕ ℕ ℕ ℕ ℕ ℕ ℕ ℕ ℕ ℕ ℕ ℕ block_size clause_size size from_item_size selected_size arm_size
    factor_size item_size join_size joined_size select_size set_part_size term_size x)

pub set_part_size_is : (x : SetPart) → set_part_size x ≡ set_part_size_at (out-SetPart x)
unfolding block_size clause_size size from_item_size selected_size arm_size factor_size item_size
    join_size joined_size select_size set_part_size term_size set_part_size_at
set_part_size_is = fold_out-SetPart ℕ ℕ ℕ ℕ ℕ ℕ ℕ ℕ ℕ ℕ ℕ ℕ ℕ block_size_step clause_size_step
    expr_size_step from_item_size_step selected_size_step arm_size_step factor_size_step
    item_size_step join_size_step joined_size_step select_size_step set_part_size_step
    term_size_step

unfoldable pub factor_size_at : Factor-F Block Clause Expr FromItem Selected Arm Factor Item Join
    Joined Select SetPart Term → ℕ
factor_size_at x = factor_size_step
    (map-Factor Block Clause Expr FromItem Selected Arm Factor Item Join Joined Select SetPart Term
    ℕ ℕ ℕ ℕ ℕ ℕ ℕ ℕ ℕ ℕ ℕ ℕ ℕ block_size clause_size size from_item_size selected_size arm_size
    factor_size item_size join_size joined_size select_size set_part_size term_size x)

pub factor_size_is : (x : Factor) → factor_size x ≡ factor_size_at (out-Factor x)
unfolding block_size clause_size size from_item_size selected_size arm_size factor_size item_size
    join_size joined_size select_size set_part_size term_size factor_size_at
factor_size_is = fold_out-Factor ℕ ℕ ℕ ℕ ℕ ℕ ℕ ℕ ℕ ℕ ℕ ℕ ℕ block_size_step clause_size_step
    expr_size_step from_item_size_step selected_size_step arm_size_step factor_size_step
    item_size_step join_size_step joined_size_step select_size_step set_part_size_step
    term_size_step

unfoldable pub item_size_at : Item-F Block Clause Expr FromItem Selected Arm Factor Item Join Joined
    Select SetPart Term → ℕ
item_size_at x = item_size_step
    (map-Item Block Clause Expr FromItem Selected Arm Factor Item Join Joined Select SetPart Term ℕ
    ℕ ℕ ℕ ℕ ℕ ℕ ℕ ℕ ℕ ℕ ℕ ℕ block_size clause_size size from_item_size selected_size arm_size
    factor_size item_size join_size joined_size select_size set_part_size term_size x)

pub item_size_is : (x : Item) → item_size x ≡ item_size_at (out-Item x)
unfolding block_size clause_size size from_item_size selected_size arm_size factor_size item_size
    join_size joined_size select_size set_part_size term_size item_size_at
item_size_is = fold_out-Item ℕ ℕ ℕ ℕ ℕ ℕ ℕ ℕ ℕ ℕ ℕ ℕ ℕ block_size_step clause_size_step
    expr_size_step from_item_size_step selected_size_step arm_size_step factor_size_step
    item_size_step join_size_step joined_size_step select_size_step set_part_size_step
    term_size_step

unfoldable pub join_size_at : Join-F Block Clause Expr FromItem Selected Arm Factor Item Join Joined
    Select SetPart Term → ℕ
join_size_at x = join_size_step
    (map-Join Block Clause Expr FromItem Selected Arm Factor Item Join Joined Select SetPart Term ℕ
    ℕ ℕ ℕ ℕ ℕ ℕ ℕ ℕ ℕ ℕ ℕ ℕ block_size clause_size size from_item_size selected_size arm_size
    factor_size item_size join_size joined_size select_size set_part_size term_size x)

pub join_size_is : (x : Join) → join_size x ≡ join_size_at (out-Join x)
unfolding block_size clause_size size from_item_size selected_size arm_size factor_size item_size
    join_size joined_size select_size set_part_size term_size join_size_at
join_size_is = fold_out-Join ℕ ℕ ℕ ℕ ℕ ℕ ℕ ℕ ℕ ℕ ℕ ℕ ℕ block_size_step clause_size_step
    expr_size_step from_item_size_step selected_size_step arm_size_step factor_size_step
    item_size_step join_size_step joined_size_step select_size_step set_part_size_step
    term_size_step

unfoldable pub joined_size_at : Joined-F Block Clause Expr FromItem Selected Arm Factor Item Join
    Joined Select SetPart Term → ℕ
joined_size_at x = joined_size_step
    (map-Joined Block Clause Expr FromItem Selected Arm Factor Item Join Joined Select SetPart Term
    ℕ ℕ ℕ ℕ ℕ ℕ ℕ ℕ ℕ ℕ ℕ ℕ ℕ block_size clause_size size from_item_size selected_size arm_size
    factor_size item_size join_size joined_size select_size set_part_size term_size x)

pub joined_size_is : (x : Joined) → joined_size x ≡ joined_size_at (out-Joined x)
unfolding block_size clause_size size from_item_size selected_size arm_size factor_size item_size
    join_size joined_size select_size set_part_size term_size joined_size_at
joined_size_is = fold_out-Joined ℕ ℕ ℕ ℕ ℕ ℕ ℕ ℕ ℕ ℕ ℕ ℕ ℕ block_size_step clause_size_step
    expr_size_step from_item_size_step selected_size_step arm_size_step factor_size_step
    item_size_step join_size_step joined_size_step select_size_step set_part_size_step
    term_size_step

unfoldable pub term_size_at : Term-F Block Clause Expr FromItem Selected Arm Factor Item Join Joined
    Select SetPart Term → ℕ
term_size_at x = term_size_step
    (map-Term Block Clause Expr FromItem Selected Arm Factor Item Join Joined Select SetPart Term ℕ
    ℕ ℕ ℕ ℕ ℕ ℕ ℕ ℕ ℕ ℕ ℕ ℕ block_size clause_size size from_item_size selected_size arm_size
    factor_size item_size join_size joined_size select_size set_part_size term_size x)

pub term_size_is : (x : Term) → term_size x ≡ term_size_at (out-Term x)
unfolding block_size clause_size size from_item_size selected_size arm_size factor_size item_size
    join_size joined_size select_size set_part_size term_size term_size_at
term_size_is = fold_out-Term ℕ ℕ ℕ ℕ ℕ ℕ ℕ ℕ ℕ ℕ ℕ ℕ ℕ block_size_step clause_size_step
    expr_size_step from_item_size_step selected_size_step arm_size_step factor_size_step
    item_size_step join_size_step joined_size_step select_size_step set_part_size_step
    term_size_step
