-- The meaning of each node, from the meanings of what stands in it.
use Rattle.std.proofs.Common.{◌≡◌}
use Rattle.sql_ast.specs.declared.tree.Arm.{Arm, out-Arm}
use Rattle.sql_ast.specs.declared.tree.Block.{Block, out-Block}
use Rattle.sql_ast.specs.declared.tree.Clause.{Clause, out-Clause}
use Rattle.sql_ast.specs.declared.tree.Block.TheOpen.{Expr-F, Term-F, Factor-F, Arm-F, Item-F}
use Rattle.sql_ast.specs.declared.tree.Block.TheOpen.{Selected-F, FromItem-F, Join-F, Joined-F}
use Rattle.sql_ast.specs.declared.tree.Block.TheOpen.{Clause-F, Block-F, Select-F, SetPart-F}
use Rattle.sql_ast.specs.declared.tree.Block.TheFolds.{fold_out-Clause, fold_out-Expr}
use Rattle.sql_ast.specs.declared.tree.Block.TheFolds.{fold_out-FromItem, fold_out-Selected}
use Rattle.sql_ast.specs.declared.tree.Block.TheFolds.{fold_out-Arm, fold_out-Block}
use Rattle.sql_ast.specs.declared.tree.Block.TheFolds.{fold_out-Factor, fold_out-Item}
use Rattle.sql_ast.specs.declared.tree.Block.TheFolds.{fold_out-Join, fold_out-Joined}
use Rattle.sql_ast.specs.declared.tree.Block.TheFolds.{fold_out-Term, map-Clause, map-Expr}
use Rattle.sql_ast.specs.declared.tree.Block.TheFolds.{map-FromItem, map-Selected, map-Arm}
use Rattle.sql_ast.specs.declared.tree.Block.TheFolds.{map-Block, map-Factor, map-Item, map-Join}
use Rattle.sql_ast.specs.declared.tree.Block.TheFolds.{map-Joined, map-Term, map-Select, map-SetPart}
use Rattle.sql_ast.specs.declared.tree.Block.TheFolds.{fold_out-Select, fold_out-SetPart}
use Rattle.sql_ast.specs.declared.tree.Expr.{Expr, out-Expr}
use Rattle.sql_ast.specs.declared.tree.Factor.{Factor, out-Factor}
use Rattle.sql_ast.specs.declared.tree.FromItem.{FromItem, out-FromItem}
use Rattle.sql_ast.specs.declared.tree.Item.{Item, out-Item}
use Rattle.sql_ast.specs.declared.tree.Join.{Join, out-Join}
use Rattle.sql_ast.specs.declared.tree.Joined.{Joined, out-Joined}
use Rattle.sql_ast.specs.declared.tree.Select.{Select, out-Select}
use Rattle.sql_ast.specs.declared.tree.Selected.{Selected, out-Selected}
use Rattle.sql_ast.specs.declared.tree.SetPart.{SetPart, out-SetPart}
use Rattle.sql_ast.specs.declared.tree.Term.{Term, out-Term}
use Rattle.sql_binder.specs.Meanings.{Meaning, ChainMeaning, ArmMeaning, ItemMeaning}
use Rattle.sql_binder.specs.Meanings.{SelectedMeaning, ClauseMeaning, FromItemMeaning, JoinMeaning}
use Rattle.sql_binder.specs.Meanings.{JoinedMeaning, BlockMeaning, SetPartMeaning}
use Rattle.sql_binder.specs.Clauses.{clause_step, selected_step, item_step}
use Rattle.sql_binder.specs.Expressions.{expr_step, arm_step, factor_step, term_step}
use Rattle.sql_binder.specs.FromLists.{from_item_step, join_step, joined_step}
use Rattle.sql_binder.specs.Blocks.{block_step, select_step, set_part_step}
use Rattle.sql_binder.specs.Binding.{clause_meaning, meaning, from_item_meaning, selected_meaning}
use Rattle.sql_binder.specs.Binding.{arm_meaning, block_meaning, factor_meaning, item_meaning}
use Rattle.sql_binder.specs.Binding.{join_meaning, joined_meaning, term_meaning, select_meaning, set_part_meaning}

unfoldable pub clause_meaning_at : Clause-F Block Clause Expr FromItem Selected Arm Factor Item Join
    Joined Select SetPart Term → ClauseMeaning
clause_meaning_at x = clause_step
    (map-Clause Block Clause Expr FromItem Selected Arm Factor Item Join Joined Select SetPart Term
    BlockMeaning ClauseMeaning Meaning FromItemMeaning SelectedMeaning ArmMeaning ChainMeaning
    ItemMeaning JoinMeaning JoinedMeaning BlockMeaning SetPartMeaning ChainMeaning block_meaning
    clause_meaning meaning from_item_meaning selected_meaning arm_meaning factor_meaning
    item_meaning join_meaning joined_meaning select_meaning set_part_meaning term_meaning
    x)

pub clause_meaning_is : (x : Clause) → clause_meaning x ≡ clause_meaning_at (out-Clause x)
unfolding block_meaning clause_meaning meaning from_item_meaning selected_meaning arm_meaning
    factor_meaning item_meaning join_meaning joined_meaning select_meaning set_part_meaning
    term_meaning clause_meaning_at
clause_meaning_is = fold_out-Clause BlockMeaning ClauseMeaning Meaning FromItemMeaning
    SelectedMeaning ArmMeaning ChainMeaning ItemMeaning JoinMeaning JoinedMeaning BlockMeaning
    SetPartMeaning ChainMeaning block_step clause_step expr_step from_item_step selected_step
    arm_step factor_step item_step join_step joined_step select_step set_part_step term_step

unfoldable pub meaning_at : Expr-F Block Clause Expr FromItem Selected Arm Factor Item Join Joined
    Select SetPart Term → Meaning
meaning_at x = expr_step
    (map-Expr Block Clause Expr FromItem Selected Arm Factor Item Join Joined Select SetPart Term
    BlockMeaning ClauseMeaning Meaning FromItemMeaning SelectedMeaning ArmMeaning ChainMeaning
    ItemMeaning JoinMeaning JoinedMeaning BlockMeaning SetPartMeaning ChainMeaning block_meaning
    clause_meaning meaning from_item_meaning selected_meaning arm_meaning factor_meaning
    item_meaning join_meaning joined_meaning select_meaning set_part_meaning term_meaning
    x)

pub meaning_is : (x : Expr) → meaning x ≡ meaning_at (out-Expr x)
unfolding block_meaning clause_meaning meaning from_item_meaning selected_meaning arm_meaning
    factor_meaning item_meaning join_meaning joined_meaning select_meaning set_part_meaning
    term_meaning meaning_at
meaning_is = fold_out-Expr BlockMeaning ClauseMeaning Meaning FromItemMeaning SelectedMeaning
    ArmMeaning ChainMeaning ItemMeaning JoinMeaning JoinedMeaning BlockMeaning SetPartMeaning
    ChainMeaning block_step clause_step expr_step from_item_step selected_step arm_step factor_step
    item_step join_step joined_step select_step set_part_step term_step

unfoldable pub from_item_meaning_at : FromItem-F Block Clause Expr FromItem Selected Arm Factor Item
    Join Joined Select SetPart Term → FromItemMeaning
from_item_meaning_at x =
    from_item_step (map-FromItem Block Clause Expr FromItem Selected Arm Factor Item Join Joined
    Select SetPart Term BlockMeaning ClauseMeaning Meaning FromItemMeaning SelectedMeaning
    ArmMeaning ChainMeaning ItemMeaning JoinMeaning JoinedMeaning BlockMeaning SetPartMeaning
    ChainMeaning block_meaning clause_meaning meaning from_item_meaning selected_meaning arm_meaning
    factor_meaning item_meaning join_meaning joined_meaning select_meaning set_part_meaning
    term_meaning x)

pub from_item_meaning_is : (x : FromItem)
    → from_item_meaning x ≡ from_item_meaning_at (out-FromItem x)
unfolding block_meaning clause_meaning meaning from_item_meaning selected_meaning arm_meaning
    factor_meaning item_meaning join_meaning joined_meaning select_meaning set_part_meaning
    term_meaning from_item_meaning_at
from_item_meaning_is = fold_out-FromItem BlockMeaning ClauseMeaning Meaning FromItemMeaning
    SelectedMeaning ArmMeaning ChainMeaning ItemMeaning JoinMeaning JoinedMeaning BlockMeaning
    SetPartMeaning ChainMeaning
    block_step clause_step expr_step from_item_step selected_step arm_step factor_step item_step
    join_step joined_step select_step set_part_step term_step

unfoldable pub selected_meaning_at : Selected-F Block Clause Expr FromItem Selected Arm Factor Item
    Join Joined Select SetPart Term → SelectedMeaning
selected_meaning_at x = selected_step
    (map-Selected Block Clause Expr FromItem Selected Arm Factor Item Join Joined Select SetPart
    Term BlockMeaning ClauseMeaning Meaning FromItemMeaning SelectedMeaning ArmMeaning ChainMeaning
    ItemMeaning JoinMeaning JoinedMeaning BlockMeaning SetPartMeaning ChainMeaning block_meaning
    clause_meaning meaning from_item_meaning selected_meaning arm_meaning factor_meaning
    item_meaning join_meaning joined_meaning select_meaning set_part_meaning term_meaning
    x)

pub selected_meaning_is : (x : Selected) → selected_meaning x ≡ selected_meaning_at (out-Selected x)
unfolding block_meaning clause_meaning meaning from_item_meaning selected_meaning arm_meaning
    factor_meaning item_meaning join_meaning joined_meaning select_meaning set_part_meaning
    term_meaning selected_meaning_at
selected_meaning_is = fold_out-Selected BlockMeaning ClauseMeaning Meaning FromItemMeaning
    SelectedMeaning ArmMeaning ChainMeaning ItemMeaning JoinMeaning JoinedMeaning BlockMeaning
    SetPartMeaning ChainMeaning
    block_step clause_step expr_step from_item_step selected_step arm_step factor_step item_step
    join_step joined_step select_step set_part_step term_step

unfoldable pub arm_meaning_at : Arm-F Block Clause Expr FromItem Selected Arm Factor Item Join
    Joined Select SetPart Term → ArmMeaning
arm_meaning_at x = arm_step
    (map-Arm Block Clause Expr FromItem Selected Arm Factor Item Join Joined Select SetPart Term
    BlockMeaning ClauseMeaning Meaning FromItemMeaning SelectedMeaning ArmMeaning ChainMeaning
    ItemMeaning JoinMeaning JoinedMeaning BlockMeaning SetPartMeaning ChainMeaning block_meaning
    clause_meaning meaning from_item_meaning selected_meaning arm_meaning factor_meaning
    item_meaning join_meaning joined_meaning select_meaning set_part_meaning term_meaning
    x)

pub arm_meaning_is : (x : Arm) → arm_meaning x ≡ arm_meaning_at (out-Arm x)
unfolding block_meaning clause_meaning meaning from_item_meaning selected_meaning arm_meaning
    factor_meaning item_meaning join_meaning joined_meaning select_meaning set_part_meaning
    term_meaning arm_meaning_at
arm_meaning_is = fold_out-Arm BlockMeaning ClauseMeaning Meaning FromItemMeaning SelectedMeaning
    ArmMeaning ChainMeaning ItemMeaning JoinMeaning JoinedMeaning BlockMeaning SetPartMeaning
    ChainMeaning block_step clause_step expr_step from_item_step selected_step arm_step factor_step
    item_step join_step joined_step select_step set_part_step term_step

unfoldable pub block_meaning_at : Block-F Block Clause Expr FromItem Selected Arm Factor Item Join
    Joined Select SetPart Term → BlockMeaning
block_meaning_at x = block_step
    (map-Block Block Clause Expr FromItem Selected Arm Factor Item Join Joined Select SetPart Term
    BlockMeaning ClauseMeaning Meaning FromItemMeaning SelectedMeaning ArmMeaning ChainMeaning
    ItemMeaning JoinMeaning JoinedMeaning BlockMeaning SetPartMeaning ChainMeaning block_meaning
    clause_meaning meaning from_item_meaning selected_meaning arm_meaning factor_meaning
    item_meaning join_meaning joined_meaning select_meaning set_part_meaning term_meaning
    x)

pub block_meaning_is : (x : Block) → block_meaning x ≡ block_meaning_at (out-Block x)
unfolding block_meaning clause_meaning meaning from_item_meaning selected_meaning arm_meaning
    factor_meaning item_meaning join_meaning joined_meaning select_meaning set_part_meaning
    term_meaning block_meaning_at
block_meaning_is = fold_out-Block BlockMeaning ClauseMeaning Meaning FromItemMeaning SelectedMeaning
    ArmMeaning ChainMeaning ItemMeaning JoinMeaning JoinedMeaning BlockMeaning SetPartMeaning
    ChainMeaning block_step clause_step expr_step from_item_step selected_step arm_step factor_step
    item_step join_step joined_step select_step set_part_step term_step

unfoldable pub select_meaning_at : Select-F Block Clause Expr FromItem Selected Arm Factor Item Join
    Joined Select SetPart Term → BlockMeaning
select_meaning_at x = select_step
    (map-Select Block Clause Expr FromItem Selected Arm Factor Item Join Joined Select SetPart Term
    BlockMeaning ClauseMeaning Meaning FromItemMeaning SelectedMeaning ArmMeaning ChainMeaning
    ItemMeaning JoinMeaning JoinedMeaning BlockMeaning SetPartMeaning ChainMeaning block_meaning
    clause_meaning meaning from_item_meaning selected_meaning arm_meaning factor_meaning
    item_meaning join_meaning joined_meaning select_meaning set_part_meaning term_meaning
    x)

pub select_meaning_is : (x : Select) → select_meaning x ≡ select_meaning_at (out-Select x)
unfolding block_meaning clause_meaning meaning from_item_meaning selected_meaning arm_meaning
    factor_meaning item_meaning join_meaning joined_meaning select_meaning set_part_meaning
    term_meaning select_meaning_at
select_meaning_is = fold_out-Select BlockMeaning ClauseMeaning Meaning FromItemMeaning SelectedMeaning
    ArmMeaning ChainMeaning ItemMeaning JoinMeaning JoinedMeaning BlockMeaning SetPartMeaning
    ChainMeaning block_step clause_step expr_step from_item_step selected_step arm_step factor_step
    item_step join_step joined_step select_step set_part_step term_step

unfoldable pub set_part_meaning_at : SetPart-F Block Clause Expr FromItem Selected Arm Factor Item Join
    Joined Select SetPart Term → SetPartMeaning
set_part_meaning_at x = set_part_step
    (map-SetPart Block Clause Expr FromItem Selected Arm Factor Item Join Joined Select SetPart Term
    BlockMeaning ClauseMeaning Meaning FromItemMeaning SelectedMeaning ArmMeaning ChainMeaning
    ItemMeaning JoinMeaning JoinedMeaning BlockMeaning SetPartMeaning ChainMeaning block_meaning
    clause_meaning meaning from_item_meaning selected_meaning arm_meaning factor_meaning
    item_meaning join_meaning joined_meaning select_meaning set_part_meaning term_meaning
    x)

pub set_part_meaning_is : (x : SetPart) → set_part_meaning x ≡ set_part_meaning_at (out-SetPart x)
unfolding block_meaning clause_meaning meaning from_item_meaning selected_meaning arm_meaning
    factor_meaning item_meaning join_meaning joined_meaning select_meaning set_part_meaning
    term_meaning set_part_meaning_at
set_part_meaning_is = fold_out-SetPart BlockMeaning ClauseMeaning Meaning FromItemMeaning SelectedMeaning
    ArmMeaning ChainMeaning ItemMeaning JoinMeaning JoinedMeaning BlockMeaning SetPartMeaning
    ChainMeaning block_step clause_step expr_step from_item_step selected_step arm_step factor_step
    item_step join_step joined_step select_step set_part_step term_step

unfoldable pub factor_meaning_at : Factor-F Block Clause Expr FromItem Selected Arm Factor Item Join
    Joined Select SetPart Term → ChainMeaning
factor_meaning_at x = factor_step
    (map-Factor Block Clause Expr FromItem Selected Arm Factor Item Join Joined Select SetPart Term
    BlockMeaning ClauseMeaning Meaning FromItemMeaning SelectedMeaning ArmMeaning ChainMeaning
    ItemMeaning JoinMeaning JoinedMeaning BlockMeaning SetPartMeaning ChainMeaning block_meaning
    clause_meaning meaning from_item_meaning selected_meaning arm_meaning factor_meaning
    item_meaning join_meaning joined_meaning select_meaning set_part_meaning term_meaning
    x)

pub factor_meaning_is : (x : Factor) → factor_meaning x ≡ factor_meaning_at (out-Factor x)
unfolding block_meaning clause_meaning meaning from_item_meaning selected_meaning arm_meaning
    factor_meaning item_meaning join_meaning joined_meaning select_meaning set_part_meaning
    term_meaning factor_meaning_at
factor_meaning_is = fold_out-Factor BlockMeaning ClauseMeaning Meaning FromItemMeaning
    SelectedMeaning ArmMeaning ChainMeaning ItemMeaning JoinMeaning JoinedMeaning BlockMeaning
    SetPartMeaning ChainMeaning block_step clause_step expr_step from_item_step selected_step
    arm_step factor_step item_step join_step joined_step select_step set_part_step term_step

unfoldable pub item_meaning_at : Item-F Block Clause Expr FromItem Selected Arm Factor Item Join
    Joined Select SetPart Term → ItemMeaning
item_meaning_at x = item_step
    (map-Item Block Clause Expr FromItem Selected Arm Factor Item Join Joined Select SetPart Term
    BlockMeaning ClauseMeaning Meaning FromItemMeaning SelectedMeaning ArmMeaning ChainMeaning
    ItemMeaning JoinMeaning JoinedMeaning BlockMeaning SetPartMeaning ChainMeaning block_meaning
    clause_meaning meaning from_item_meaning selected_meaning arm_meaning factor_meaning
    item_meaning join_meaning joined_meaning select_meaning set_part_meaning term_meaning
    x)

pub item_meaning_is : (x : Item) → item_meaning x ≡ item_meaning_at (out-Item x)
unfolding block_meaning clause_meaning meaning from_item_meaning selected_meaning arm_meaning
    factor_meaning item_meaning join_meaning joined_meaning select_meaning set_part_meaning
    term_meaning item_meaning_at
item_meaning_is = fold_out-Item BlockMeaning ClauseMeaning Meaning FromItemMeaning SelectedMeaning
    ArmMeaning ChainMeaning ItemMeaning JoinMeaning JoinedMeaning BlockMeaning SetPartMeaning
    ChainMeaning block_step clause_step expr_step from_item_step selected_step arm_step factor_step
    item_step join_step joined_step select_step set_part_step term_step

unfoldable pub join_meaning_at : Join-F Block Clause Expr FromItem Selected Arm Factor Item Join
    Joined Select SetPart Term → JoinMeaning
join_meaning_at x = join_step
    (map-Join Block Clause Expr FromItem Selected Arm Factor Item Join Joined Select SetPart Term
    BlockMeaning ClauseMeaning Meaning FromItemMeaning SelectedMeaning ArmMeaning ChainMeaning
    ItemMeaning JoinMeaning JoinedMeaning BlockMeaning SetPartMeaning ChainMeaning block_meaning
    clause_meaning meaning from_item_meaning selected_meaning arm_meaning factor_meaning
    item_meaning join_meaning joined_meaning select_meaning set_part_meaning term_meaning
    x)

pub join_meaning_is : (x : Join) → join_meaning x ≡ join_meaning_at (out-Join x)
unfolding block_meaning clause_meaning meaning from_item_meaning selected_meaning arm_meaning
    factor_meaning item_meaning join_meaning joined_meaning select_meaning set_part_meaning
    term_meaning join_meaning_at
join_meaning_is = fold_out-Join BlockMeaning ClauseMeaning Meaning FromItemMeaning SelectedMeaning
    ArmMeaning ChainMeaning ItemMeaning JoinMeaning JoinedMeaning BlockMeaning SetPartMeaning
    ChainMeaning block_step clause_step expr_step from_item_step selected_step arm_step factor_step
    item_step join_step joined_step select_step set_part_step term_step

unfoldable pub joined_meaning_at : Joined-F Block Clause Expr FromItem Selected Arm Factor Item Join
    Joined Select SetPart Term → JoinedMeaning
joined_meaning_at x = joined_step
    (map-Joined Block Clause Expr FromItem Selected Arm Factor Item Join Joined Select SetPart Term
    BlockMeaning ClauseMeaning Meaning FromItemMeaning SelectedMeaning ArmMeaning ChainMeaning
    ItemMeaning JoinMeaning JoinedMeaning BlockMeaning SetPartMeaning ChainMeaning block_meaning
    clause_meaning meaning from_item_meaning selected_meaning arm_meaning factor_meaning
    item_meaning join_meaning joined_meaning select_meaning set_part_meaning term_meaning
    x)

pub joined_meaning_is : (x : Joined) → joined_meaning x ≡ joined_meaning_at (out-Joined x)
unfolding block_meaning clause_meaning meaning from_item_meaning selected_meaning arm_meaning
    factor_meaning item_meaning join_meaning joined_meaning select_meaning set_part_meaning
    term_meaning joined_meaning_at
joined_meaning_is = fold_out-Joined BlockMeaning ClauseMeaning Meaning FromItemMeaning
    SelectedMeaning ArmMeaning ChainMeaning ItemMeaning JoinMeaning JoinedMeaning BlockMeaning
    SetPartMeaning ChainMeaning block_step clause_step expr_step from_item_step selected_step
    arm_step factor_step item_step join_step joined_step select_step set_part_step term_step

unfoldable pub term_meaning_at : Term-F Block Clause Expr FromItem Selected Arm Factor Item Join
    Joined Select SetPart Term → ChainMeaning
term_meaning_at x = term_step
    (map-Term Block Clause Expr FromItem Selected Arm Factor Item Join Joined Select SetPart Term
    BlockMeaning ClauseMeaning Meaning FromItemMeaning SelectedMeaning ArmMeaning ChainMeaning
    ItemMeaning JoinMeaning JoinedMeaning BlockMeaning SetPartMeaning ChainMeaning block_meaning
    clause_meaning meaning from_item_meaning selected_meaning arm_meaning factor_meaning
    item_meaning join_meaning joined_meaning select_meaning set_part_meaning term_meaning
    x)

pub term_meaning_is : (x : Term) → term_meaning x ≡ term_meaning_at (out-Term x)
unfolding block_meaning clause_meaning meaning from_item_meaning selected_meaning arm_meaning
    factor_meaning item_meaning join_meaning joined_meaning select_meaning set_part_meaning
    term_meaning term_meaning_at
term_meaning_is = fold_out-Term BlockMeaning ClauseMeaning Meaning FromItemMeaning SelectedMeaning
    ArmMeaning ChainMeaning ItemMeaning JoinMeaning JoinedMeaning BlockMeaning SetPartMeaning
    ChainMeaning block_step clause_step expr_step from_item_step selected_step arm_step factor_step
    item_step join_step joined_step select_step set_part_step term_step
