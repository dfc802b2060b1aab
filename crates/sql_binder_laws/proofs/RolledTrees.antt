-- What is typed of an opened node is typed of the tree.
use Rattle.std.proofs.Common.{sym, ap, ◌∙◌, subst}
use Rattle.sql_ast.specs.declared.tree.Clause.{Clause, roll-Clause, out-roll-Clause}
use Rattle.sql_ast.specs.declared.tree.Expr.{Expr, roll-Expr, out-roll-Expr}
use Rattle.sql_ast.specs.declared.tree.FromItem.{FromItem, roll-FromItem}
use Rattle.sql_ast.specs.declared.tree.FromItem.{out-roll-FromItem}
use Rattle.sql_ast.specs.declared.tree.Select.{Select, roll-Select, out-roll-Select}
use Rattle.sql_ast.specs.declared.tree.SetPart.{SetPart, roll-SetPart, out-roll-SetPart}
use Rattle.sql_ast.specs.declared.tree.Selected.{Selected, roll-Selected}
use Rattle.sql_ast.specs.declared.tree.Selected.{out-roll-Selected}
use Rattle.sql_ast.specs.declared.tree.Arm.{Arm, roll-Arm, out-roll-Arm}
use Rattle.sql_ast.specs.declared.tree.Block.{Block, roll-Block, out-roll-Block}
use Rattle.sql_ast.specs.declared.tree.Factor.{Factor, roll-Factor, out-roll-Factor}
use Rattle.sql_ast.specs.declared.tree.Item.{Item, roll-Item, out-roll-Item}
use Rattle.sql_ast.specs.declared.tree.Join.{Join, roll-Join, out-roll-Join}
use Rattle.sql_ast.specs.declared.tree.Joined.{Joined, roll-Joined, out-roll-Joined}
use Rattle.sql_ast.specs.declared.tree.Term.{Term, roll-Term, out-roll-Term}
use Rattle.sql_ast.specs.declared.tree.Block.TheOpen.{Clause-F, Expr-F, FromItem-F, Selected-F}
use Rattle.sql_ast.specs.declared.tree.Block.TheOpen.{Arm-F, Block-F, Factor-F, Item-F, Join-F}
use Rattle.sql_ast.specs.declared.tree.Block.TheOpen.{Joined-F, Term-F, Select-F, SetPart-F}
use Rattle.sql_binder.specs.Binding.{clause_meaning, meaning, from_item_meaning}
use Rattle.sql_binder.specs.Binding.{selected_meaning, arm_meaning, block_meaning, factor_meaning}
use Rattle.sql_binder.specs.Binding.{item_meaning, join_meaning, joined_meaning, term_meaning}
use Rattle.sql_binder.specs.Binding.{select_meaning, set_part_meaning}
use Rattle.sql_binder.proofs.Meant.{clause_meaning_at, clause_meaning_is, meaning_at, meaning_is}
use Rattle.sql_binder.proofs.Meant.{from_item_meaning_at, from_item_meaning_is}
use Rattle.sql_binder.proofs.Meant.{selected_meaning_at, selected_meaning_is, arm_meaning_at}
use Rattle.sql_binder.proofs.Meant.{arm_meaning_is, block_meaning_at, block_meaning_is}
use Rattle.sql_binder.proofs.Meant.{factor_meaning_at, factor_meaning_is, item_meaning_at}
use Rattle.sql_binder.proofs.Meant.{item_meaning_is, join_meaning_at, join_meaning_is}
use Rattle.sql_binder.proofs.Meant.{joined_meaning_at, joined_meaning_is, term_meaning_at}
use Rattle.sql_binder.proofs.Meant.{term_meaning_is, select_meaning_at, select_meaning_is}
use Rattle.sql_binder.proofs.Meant.{set_part_meaning_at, set_part_meaning_is}
use Rattle.sql_binder_laws.proofs.TypedNodes.{MeaningIs, ChainMeaningIs, ArmMeaningIs}
use Rattle.sql_binder_laws.proofs.TypedQueries.{BlockMeaningIs}
use Rattle.sql_binder_laws.proofs.TypedItems.{FromItemMeaningIs}
use Rattle.sql_binder_laws.proofs.TypedFrom.{JoinMeaningIs, JoinedMeaningIs}
use Rattle.sql_binder_laws.proofs.TypedClauses.{ClauseMeaningIs, SelectedMeaningIs, ItemMeaningIs}
use Rattle.sql_binder_laws.proofs.TypedSets.{SetPartMeaningIs}

pub clause_rolled : (z : Clause-F Block Clause Expr FromItem Selected Arm Factor Item Join Joined Select
    SetPart Term)
    → ClauseMeaningIs (clause_meaning_at z) → ClauseMeaningIs (clause_meaning (roll-Clause z))
clause_rolled z h = subst ClauseMeaningIs
    (sym (clause_meaning_is (roll-Clause z) ∙ ap clause_meaning_at (out-roll-Clause z))) h

pub expr_rolled : (z : Expr-F Block Clause Expr FromItem Selected Arm Factor Item Join Joined Select
    SetPart Term)
    → MeaningIs (meaning_at z) → MeaningIs (meaning (roll-Expr z))
expr_rolled z h = subst MeaningIs (sym (meaning_is (roll-Expr z) ∙ ap meaning_at (out-roll-Expr z)))
    h

pub from_item_rolled : (z : FromItem-F Block Clause Expr FromItem Selected Arm Factor Item Join Joined
    Select SetPart Term) → FromItemMeaningIs (from_item_meaning_at z)
    → FromItemMeaningIs (from_item_meaning (roll-FromItem z))
from_item_rolled z h = subst FromItemMeaningIs
    (sym (from_item_meaning_is (roll-FromItem z) ∙ ap from_item_meaning_at (out-roll-FromItem z))) h

pub selected_rolled : (z : Selected-F Block Clause Expr FromItem Selected Arm Factor Item Join Joined
    Select SetPart Term) → SelectedMeaningIs (selected_meaning_at z)
    → SelectedMeaningIs (selected_meaning (roll-Selected z))
selected_rolled z h = subst SelectedMeaningIs
    (sym (selected_meaning_is (roll-Selected z) ∙ ap selected_meaning_at (out-roll-Selected z))) h

pub arm_rolled : (z : Arm-F Block Clause Expr FromItem Selected Arm Factor Item Join Joined Select
    SetPart Term)
    → ArmMeaningIs (arm_meaning_at z) → ArmMeaningIs (arm_meaning (roll-Arm z))
arm_rolled z h = subst ArmMeaningIs
    (sym (arm_meaning_is (roll-Arm z) ∙ ap arm_meaning_at (out-roll-Arm z))) h

pub block_rolled : (z : Block-F Block Clause Expr FromItem Selected Arm Factor Item Join Joined Select
    SetPart Term)
    → BlockMeaningIs (block_meaning_at z) → BlockMeaningIs (block_meaning (roll-Block z))
block_rolled z h = subst BlockMeaningIs
    (sym (block_meaning_is (roll-Block z) ∙ ap block_meaning_at (out-roll-Block z))) h

pub select_rolled : (z : Select-F Block Clause Expr FromItem Selected Arm Factor Item Join Joined Select
    SetPart Term)
    → BlockMeaningIs (select_meaning_at z) → BlockMeaningIs (select_meaning (roll-Select z))
select_rolled z h = subst BlockMeaningIs
    (sym (select_meaning_is (roll-Select z) ∙ ap select_meaning_at (out-roll-Select z))) h

pub set_part_rolled : (z : SetPart-F Block Clause Expr FromItem Selected Arm Factor Item Join Joined Select
    SetPart Term)
    → SetPartMeaningIs (set_part_meaning_at z) → SetPartMeaningIs (set_part_meaning (roll-SetPart z))
set_part_rolled z h = subst SetPartMeaningIs
    (sym (set_part_meaning_is (roll-SetPart z) ∙ ap set_part_meaning_at (out-roll-SetPart z))) h

pub factor_rolled : (z : Factor-F Block Clause Expr FromItem Selected Arm Factor Item Join Joined Select
    SetPart Term)
    → ChainMeaningIs (factor_meaning_at z) → ChainMeaningIs (factor_meaning (roll-Factor z))
factor_rolled z h = subst ChainMeaningIs
    (sym (factor_meaning_is (roll-Factor z) ∙ ap factor_meaning_at (out-roll-Factor z))) h

pub item_rolled : (z : Item-F Block Clause Expr FromItem Selected Arm Factor Item Join Joined Select
    SetPart Term)
    → ItemMeaningIs (item_meaning_at z) → ItemMeaningIs (item_meaning (roll-Item z))
item_rolled z h = subst ItemMeaningIs
    (sym (item_meaning_is (roll-Item z) ∙ ap item_meaning_at (out-roll-Item z))) h

pub join_rolled : (z : Join-F Block Clause Expr FromItem Selected Arm Factor Item Join Joined Select
    SetPart Term)
    → JoinMeaningIs (join_meaning_at z) → JoinMeaningIs (join_meaning (roll-Join z))
join_rolled z h = subst JoinMeaningIs
    (sym (join_meaning_is (roll-Join z) ∙ ap join_meaning_at (out-roll-Join z))) h

pub joined_rolled : (z : Joined-F Block Clause Expr FromItem Selected Arm Factor Item Join Joined Select
    SetPart Term)
    → JoinedMeaningIs (joined_meaning_at z) → JoinedMeaningIs (joined_meaning (roll-Joined z))
joined_rolled z h = subst JoinedMeaningIs
    (sym (joined_meaning_is (roll-Joined z) ∙ ap joined_meaning_at (out-roll-Joined z))) h

pub term_rolled : (z : Term-F Block Clause Expr FromItem Selected Arm Factor Item Join Joined Select
    SetPart Term)
    → ChainMeaningIs (term_meaning_at z) → ChainMeaningIs (term_meaning (roll-Term z))
term_rolled z h = subst ChainMeaningIs
    (sym (term_meaning_is (roll-Term z) ∙ ap term_meaning_at (out-roll-Term z))) h
