-- The meanings of the parts of a query at what is collected before them, by which a query computes.
use Rattle.std.proofs.Common.{◌≡◌, ℕ, List, map, ap, ◌∙◌, length}
use Rattle.std.specs.Prelude.{Option}
use Rattle.sql_ast.specs.declared.tree.Block.{Block}
use Rattle.sql_ast.specs.declared.tree.Block.TheVariants as block
use Rattle.sql_ast.specs.declared.tree.Block.TheOpen.{FromItem-F}
use Rattle.sql_ast.specs.declared.tree.FromItem.TheVariants as from_item
use Rattle.sql_ast.specs.declared.tree.Join.{Join, out-Join}
use Rattle.sql_ast.specs.declared.tree.Joined.{Joined, out-Joined, out-roll-Joined}
use Rattle.sql_ast.specs.declared.tree.Select.{Select, out-Select, out-roll-Select}
use Rattle.sql_ast.specs.declared.tree.SetPart.{SetPart, out-SetPart, out-roll-SetPart}
use Rattle.sql_binder_steps.specs.declared.collected.BoundTable.{BoundTable}
use Rattle.sql_binder_steps.specs.declared.collected.Collected.{Collected}
use Rattle.sql_binder_steps.specs.declared.collected.FromRows.{FromRows}
use Rattle.sql_binder_steps.specs.declared.scope.ScopeColumn.{ScopeColumn}
use Rattle.sql_binder_steps.specs.Steps.{Name, Binding, apart, pure, lift, ◌>>=◌}
use Rattle.sql_binder_steps.specs.Names.{Sight}
use Rattle.sql_binder_steps.specs.Parts.{columns_so_far, first_rows, joining, once_each}
use Rattle.sql_binder_steps.specs.Sets.{set_table}
use Rattle.sql_binder.specs.Meanings.{FromItemMeaning, BlockMeaning}
use Rattle.sql_binder.specs.FromLists.{from_item_step, on_joining, chained}
use Rattle.sql_binder.specs.Blocks.{combined}
use Rattle.sql_binder.specs.Binding.{from_item_meaning, join_meaning, joined_meaning, block_meaning}
use Rattle.sql_binder.specs.Binding.{meaning, clauses_of, set_part_meaning}
use Rattle.sql_binder.proofs.Opened.{from_item_Table, from_item_Derived, from_item_Lateral, join_is}
use Rattle.sql_binder.proofs.Opened.{joined_is, select_is, set_part_is, block_Select, block_Combined}
use Rattle.sql_binder.proofs.Opened.{expr_opened, clause_opened}
use Rattle.sql_binder.proofs.Opened.{selected_opened, term_is, factor_is, arm_is, item_is}

pub table_at : (n : Name) (alias : Option Name) (sight : Sight) (left : List ScopeColumn)
    (s : Collected) → from_item_meaning (from_item.Table n alias) sight left s
    ≡ from_item_step (FromItem-F.Table n alias) sight left s
table_at n alias sight left s =
    ap (λ (m : FromItemMeaning). m sight left s) (from_item_Table n alias)

pub derived_at : (q : Block) (alias : Name) (names : List Name) (sight : Sight)
    (left : List ScopeColumn) (s : Collected)
    → from_item_meaning (from_item.Derived q alias names) sight left s
    ≡ from_item_step (FromItem-F.Derived (block_meaning q) alias names) sight left s
derived_at q alias names sight left s =
    ap (λ (m : FromItemMeaning). m sight left s) (from_item_Derived q alias names)

pub lateral_at : (q : Block) (alias : Name) (names : List Name) (sight : Sight)
    (left : List ScopeColumn) (s : Collected)
    → from_item_meaning (from_item.Lateral q alias names) sight left s
    ≡ from_item_step (FromItem-F.Lateral (block_meaning q) alias names) sight left s
lateral_at q alias names sight left s =
    ap (λ (m : FromItemMeaning). m sight left s) (from_item_Lateral q alias names)

pub join_at : (j : Join) (start : ℕ) (sight : Sight) (done : FromRows) (s : Collected)
    → join_meaning j start sight done s
    ≡ (from_item_meaning (out-Join j).item sight done.columns >>=
    (λ o. on_joining start sight (out-Join j).kind (joining done o)
    (meaning (out-Join j).condition))) s
join_at j start sight done s = ap (λ (m : Binding FromRows). m s) (join_is j start sight done)

pub joined_at : (j : Joined) (sight : Sight) (done : Option FromRows) (s : Collected)
    → joined_meaning j sight done s
    ≡ (from_item_meaning (out-Joined j).first sight (columns_so_far done) >>=
    (λ o. chained (length (columns_so_far done)) sight (first_rows done o)
    (map join_meaning (out-Joined j).joins))) s
joined_at j sight done s = ap (λ (m : Binding FromRows). m s) (joined_is j sight done)

pub select_at : (q : Select) (sight : Sight) (s : Collected)
    → block_meaning (block.Select q) sight s
    ≡ (apart (clauses_of q sight) >>= (λ t. pure (once_each (out-Select q).is_distinct t))) s
select_at q sight s =
    ap (λ (m : BlockMeaning). m sight s) (block_Select q)
    ∙ ap (λ (m : Binding BoundTable). m s) (select_is q sight)

pub combined_at : (first : Block) (parts : List SetPart) (sight : Sight) (s : Collected)
    → block_meaning (block.Combined first parts) sight s
    ≡ combined (block_meaning first) (map set_part_meaning parts) sight s
combined_at first parts sight s =
    ap (λ (m : BlockMeaning). m sight s) (block_Combined first parts)

pub set_part_at : (p : SetPart) (sight : Sight) (t : BoundTable) (s : Collected)
    → set_part_meaning p sight t s
    ≡ (block_meaning (out-SetPart p).query sight >>=
    (λ u. lift (set_table (out-SetPart p).operator (out-SetPart p).keeps_all t u))) s
set_part_at p sight t s = ap (λ (m : Binding BoundTable). m s) (set_part_is p sight t)

pub ruleset computed = (
  expr_opened,
  clause_opened,
  selected_opened,
  term_is,
  factor_is,
  arm_is,
  item_is,
  table_at,
  derived_at,
  lateral_at,
  join_at,
  joined_at,
  select_at,
  combined_at,
  set_part_at,
  out-roll-Select,
  out-roll-SetPart,
  out-roll-Joined,
)
