-- The meanings at each node, as a match of the code sees it.
use Rattle.std.proofs.Common.{◌≡◌, ℕ, ℤ, List, map, ap, ◌∙◌, length}
use Rattle.std.specs.Prelude.{Option}
use Rattle.sql_ast.specs.declared.tree.Arm.{Arm, out-Arm}
use Rattle.sql_ast.specs.declared.tree.Block.{Block}
use Rattle.sql_ast.specs.declared.tree.Block.TheVariants as block
use Rattle.sql_ast.specs.declared.tree.Clause.TheVariants as clause
use Rattle.sql_ast.specs.declared.tree.Block.TheOpen.{Expr-F}
use Rattle.sql_ast.specs.declared.tree.Block.TheOpen.{Selected-F, FromItem-F}
use Rattle.sql_ast.specs.declared.tree.Block.TheOpen.{Clause-F}
use Rattle.sql_ast.specs.declared.tree.Expr.{Expr}
use Rattle.sql_ast.specs.declared.tree.Expr.TheVariants as expr
use Rattle.sql_ast.specs.declared.tree.Factor.{Factor, out-Factor}
use Rattle.sql_ast.specs.declared.tree.FromItem.TheVariants as from_item
use Rattle.sql_ast.specs.declared.tree.Item.{Item, out-Item}
use Rattle.sql_ast.specs.declared.tree.Join.{Join, out-Join}
use Rattle.sql_ast.specs.declared.tree.Joined.{Joined, out-Joined}
use Rattle.sql_ast.specs.declared.tree.Select.{Select, out-Select}
use Rattle.sql_ast.specs.declared.tree.Selected.TheVariants as selected
use Rattle.sql_ast.specs.declared.tree.SetPart.{SetPart, out-SetPart}
use Rattle.sql_ast.specs.declared.tree.Term.{Term, out-Term}
use Rattle.sql_ast.specs.declared.words.Aggregate.{Aggregate}
use Rattle.sql_ast.specs.declared.words.Column.{Column}
use Rattle.sql_ast.specs.declared.words.Comparison.{Comparison}
use Rattle.sql_ast.specs.declared.words.Quantifier.{Quantifier}
use Rattle.sql_ast.specs.declared.words.Span.{Span}
use Rattle.sql_binder_steps.specs.declared.collected.BoundTable.{BoundTable}
use Rattle.sql_binder_steps.specs.declared.collected.FromRows.{FromRows}
use Rattle.sql_binder_steps.specs.Steps.{Name, apart, pure, lift, ◌>>=◌}
use Rattle.sql_binder_steps.specs.Names.{Sight}
use Rattle.sql_binder_steps.specs.Parts.{columns_so_far, first_rows, joining, once_each}
use Rattle.sql_binder_steps.specs.Sets.{set_table}
use Rattle.sql_binder.specs.Meanings.{JoinMeaning}
use Rattle.sql_binder.specs.Meanings.{JoinedMeaning, BlockMeaning, SetPartMeaning}
use Rattle.sql_binder.specs.Clauses.{clause_step, selected_step, item_step}
use Rattle.sql_binder.specs.Expressions.{expr_step, factor_step, term_step}
use Rattle.sql_binder.specs.FromLists.{from_item_step, on_joining, chained}
use Rattle.sql_binder.specs.Blocks.{combined}
use Rattle.sql_binder.specs.Binding.{clause_meaning, meaning, from_item_meaning, selected_meaning}
use Rattle.sql_binder.specs.Binding.{arm_meaning, block_meaning, factor_meaning, item_meaning}
use Rattle.sql_binder.specs.Binding.{join_meaning, joined_meaning, term_meaning, select_meaning}
use Rattle.sql_binder.specs.Binding.{set_part_meaning, clauses_of}
use Rattle.sql_binder.proofs.Meant.{clause_meaning_at, clause_meaning_is, meaning_at, meaning_is}
use Rattle.sql_binder.proofs.Meant.{from_item_meaning_at, from_item_meaning_is, selected_meaning_at}
use Rattle.sql_binder.proofs.Meant.{selected_meaning_is, arm_meaning_at, arm_meaning_is}
use Rattle.sql_binder.proofs.Meant.{block_meaning_at, block_meaning_is, select_meaning_at}
use Rattle.sql_binder.proofs.Meant.{select_meaning_is, set_part_meaning_at, set_part_meaning_is}
use Rattle.sql_binder.proofs.Meant.{factor_meaning_at, factor_meaning_is, item_meaning_at}
use Rattle.sql_binder.proofs.Meant.{item_meaning_is, join_meaning_at, join_meaning_is}
use Rattle.sql_binder.proofs.Meant.{joined_meaning_at, joined_meaning_is, term_meaning_at}
use Rattle.sql_binder.proofs.Meant.{term_meaning_is}

pub meaning_Number : (c : ℤ) (s : ℕ) → meaning (expr.Number c s) ≡ expr_step (Expr-F.Number c s)
unfolding meaning_at
meaning_Number c s = meaning_is (expr.Number c s) ∙ ap meaning_at (expr.outs-Number c s)

pub meaning_Text : (t : Name) → meaning (expr.Text t) ≡ expr_step (Expr-F.Text t)
unfolding meaning_at
meaning_Text t = meaning_is (expr.Text t) ∙ ap meaning_at (expr.outs-Text t)

pub meaning_Date : (t : Name) → meaning (expr.Date t) ≡ expr_step (Expr-F.Date t)
unfolding meaning_at
meaning_Date t = meaning_is (expr.Date t) ∙ ap meaning_at (expr.outs-Date t)

pub meaning_Interval : (t : Name) (s : Span)
    → meaning (expr.Interval t s) ≡ expr_step (Expr-F.Interval t s)
unfolding meaning_at
meaning_Interval t s = meaning_is (expr.Interval t s) ∙ ap meaning_at (expr.outs-Interval t s)

pub meaning_Column : (c : Column) → meaning (expr.Column c) ≡ expr_step (Expr-F.Column c)
unfolding meaning_at
meaning_Column c = meaning_is (expr.Column c) ∙ ap meaning_at (expr.outs-Column c)

pub meaning_Negative : (a : Expr)
    → meaning (expr.Negative a) ≡ expr_step (Expr-F.Negative (meaning a))
unfolding meaning_at
meaning_Negative a = meaning_is (expr.Negative a) ∙ ap meaning_at (expr.outs-Negative a)

pub meaning_Sum : (a : Expr) (terms : List Term)
    → meaning (expr.Sum a terms) ≡ expr_step (Expr-F.Sum (meaning a) (map term_meaning terms))
unfolding meaning_at
meaning_Sum a terms = meaning_is (expr.Sum a terms) ∙ ap meaning_at (expr.outs-Sum a terms)

pub meaning_Product : (a : Expr) (factors : List Factor)
    → meaning (expr.Product a factors)
    ≡ expr_step (Expr-F.Product (meaning a) (map factor_meaning factors))
unfolding meaning_at
meaning_Product a factors = meaning_is (expr.Product a factors)
    ∙ ap meaning_at (expr.outs-Product a factors)

pub meaning_Compare : (c : Comparison) (a : Expr) (b : Expr)
    → meaning (expr.Compare c a b) ≡ expr_step (Expr-F.Compare c (meaning a) (meaning b))
unfolding meaning_at
meaning_Compare c a b = meaning_is (expr.Compare c a b) ∙ ap meaning_at (expr.outs-Compare c a b)

pub meaning_IsNull : (a : Expr) → meaning (expr.IsNull a) ≡ expr_step (Expr-F.IsNull (meaning a))
unfolding meaning_at
meaning_IsNull a = meaning_is (expr.IsNull a) ∙ ap meaning_at (expr.outs-IsNull a)

pub meaning_Between : (a : Expr) (low : Expr) (high : Expr)
    → meaning (expr.Between a low high)
    ≡ expr_step (Expr-F.Between (meaning a) (meaning low) (meaning high))
unfolding meaning_at
meaning_Between a low high = meaning_is (expr.Between a low high)
    ∙ ap meaning_at (expr.outs-Between a low high)

pub meaning_Like : (a : Expr) (p : Name)
    → meaning (expr.Like a p) ≡ expr_step (Expr-F.Like (meaning a) p)
unfolding meaning_at
meaning_Like a p = meaning_is (expr.Like a p) ∙ ap meaning_at (expr.outs-Like a p)

pub meaning_InList : (a : Expr) (list : List Expr)
    → meaning (expr.InList a list) ≡ expr_step (Expr-F.InList (meaning a) (map meaning list))
unfolding meaning_at
meaning_InList a list = meaning_is (expr.InList a list) ∙ ap meaning_at (expr.outs-InList a list)

pub meaning_CompareQuery : (c : Comparison) (k : Quantifier) (a : Expr) (q : Block)
    → meaning (expr.CompareQuery c k a q)
    ≡ expr_step (Expr-F.CompareQuery c k (meaning a) (block_meaning q))
unfolding meaning_at
meaning_CompareQuery c k a q = meaning_is (expr.CompareQuery c k a q)
    ∙ ap meaning_at (expr.outs-CompareQuery c k a q)

pub meaning_InQuery : (a : Expr) (q : Block)
    → meaning (expr.InQuery a q) ≡ expr_step (Expr-F.InQuery (meaning a) (block_meaning q))
unfolding meaning_at
meaning_InQuery a q = meaning_is (expr.InQuery a q) ∙ ap meaning_at (expr.outs-InQuery a q)

pub meaning_Exists : (q : Block)
    → meaning (expr.Exists q) ≡ expr_step (Expr-F.Exists (block_meaning q))
unfolding meaning_at
meaning_Exists q = meaning_is (expr.Exists q) ∙ ap meaning_at (expr.outs-Exists q)

pub meaning_Scalar : (q : Block)
    → meaning (expr.Scalar q) ≡ expr_step (Expr-F.Scalar (block_meaning q))
unfolding meaning_at
meaning_Scalar q = meaning_is (expr.Scalar q) ∙ ap meaning_at (expr.outs-Scalar q)

pub meaning_Not : (a : Expr) → meaning (expr.Not a) ≡ expr_step (Expr-F.Not (meaning a))
unfolding meaning_at
meaning_Not a = meaning_is (expr.Not a) ∙ ap meaning_at (expr.outs-Not a)

pub meaning_And : (a : Expr) (rest : List Expr)
    → meaning (expr.And a rest) ≡ expr_step (Expr-F.And (meaning a) (map meaning rest))
unfolding meaning_at
meaning_And a rest = meaning_is (expr.And a rest) ∙ ap meaning_at (expr.outs-And a rest)

pub meaning_Or : (a : Expr) (rest : List Expr)
    → meaning (expr.Or a rest) ≡ expr_step (Expr-F.Or (meaning a) (map meaning rest))
unfolding meaning_at
meaning_Or a rest = meaning_is (expr.Or a rest) ∙ ap meaning_at (expr.outs-Or a rest)

pub meaning_Case : (arms : List Arm)
    → meaning (expr.Case arms) ≡ expr_step (Expr-F.Case (map arm_meaning arms))
unfolding meaning_at
meaning_Case arms = meaning_is (expr.Case arms) ∙ ap meaning_at (expr.outs-Case arms)

pub meaning_CaseElse : (arms : List Arm) (other : Expr)
    → meaning (expr.CaseElse arms other)
    ≡ expr_step (Expr-F.CaseElse (map arm_meaning arms) (meaning other))
unfolding meaning_at
meaning_CaseElse arms other = meaning_is (expr.CaseElse arms other)
    ∙ ap meaning_at (expr.outs-CaseElse arms other)

pub meaning_Extract : (s : Span) (a : Expr)
    → meaning (expr.Extract s a) ≡ expr_step (Expr-F.Extract s (meaning a))
unfolding meaning_at
meaning_Extract s a = meaning_is (expr.Extract s a) ∙ ap meaning_at (expr.outs-Extract s a)

pub meaning_Substring : (a : Expr) (from : ℕ) (count : ℕ)
    → meaning (expr.Substring a from count) ≡ expr_step (Expr-F.Substring (meaning a) from count)
unfolding meaning_at
meaning_Substring a from count = meaning_is (expr.Substring a from count)
    ∙ ap meaning_at (expr.outs-Substring a from count)

pub meaning_CountRows : meaning expr.CountRows ≡ expr_step Expr-F.CountRows
unfolding meaning_at
meaning_CountRows = meaning_is expr.CountRows ∙ ap meaning_at expr.outs-CountRows

pub meaning_Count : (a : Expr) → meaning (expr.Count a) ≡ expr_step (Expr-F.Count (meaning a))
unfolding meaning_at
meaning_Count a = meaning_is (expr.Count a) ∙ ap meaning_at (expr.outs-Count a)

pub meaning_CountDistinct : (a : Expr)
    → meaning (expr.CountDistinct a) ≡ expr_step (Expr-F.CountDistinct (meaning a))
unfolding meaning_at
meaning_CountDistinct a = meaning_is (expr.CountDistinct a)
    ∙ ap meaning_at (expr.outs-CountDistinct a)

pub meaning_Aggregate : (f : Aggregate) (a : Expr)
    → meaning (expr.Aggregate f a) ≡ expr_step (Expr-F.Aggregate f (meaning a))
unfolding meaning_at
meaning_Aggregate f a = meaning_is (expr.Aggregate f a) ∙ ap meaning_at (expr.outs-Aggregate f a)

pub clause_Absent : clause_meaning clause.Absent ≡ clause_step Clause-F.Absent
unfolding clause_meaning_at
clause_Absent = clause_meaning_is clause.Absent ∙ ap clause_meaning_at clause.outs-Absent

pub clause_Condition : (e : Expr)
    → clause_meaning (clause.Condition e) ≡ clause_step (Clause-F.Condition (meaning e))
unfolding clause_meaning_at
clause_Condition e = clause_meaning_is (clause.Condition e)
    ∙ ap clause_meaning_at (clause.outs-Condition e)

pub selected_All : selected_meaning selected.All ≡ selected_step Selected-F.All
unfolding selected_meaning_at
selected_All = selected_meaning_is selected.All ∙ ap selected_meaning_at selected.outs-All

pub selected_Items : (items : List Item)
    → selected_meaning (selected.Items items)
    ≡ selected_step (Selected-F.Items (map item_meaning items))
unfolding selected_meaning_at
selected_Items items = selected_meaning_is (selected.Items items)
    ∙ ap selected_meaning_at (selected.outs-Items items)

pub from_item_Table : (n : Name) (alias : Option Name)
    → from_item_meaning (from_item.Table n alias) ≡ from_item_step (FromItem-F.Table n alias)
unfolding from_item_meaning_at
from_item_Table n alias = from_item_meaning_is (from_item.Table n alias)
    ∙ ap from_item_meaning_at (from_item.outs-Table n alias)

pub from_item_Derived : (q : Block) (alias : Name) (names : List Name)
    → from_item_meaning (from_item.Derived q alias names)
    ≡ from_item_step (FromItem-F.Derived (block_meaning q) alias names)
unfolding from_item_meaning_at
from_item_Derived q alias names = from_item_meaning_is (from_item.Derived q alias names)
    ∙ ap from_item_meaning_at (from_item.outs-Derived q alias names)

pub from_item_Lateral : (q : Block) (alias : Name) (names : List Name)
    → from_item_meaning (from_item.Lateral q alias names)
    ≡ from_item_step (FromItem-F.Lateral (block_meaning q) alias names)
unfolding from_item_meaning_at
from_item_Lateral q alias names = from_item_meaning_is (from_item.Lateral q alias names)
    ∙ ap from_item_meaning_at (from_item.outs-Lateral q alias names)

pub term_is : (t : Term)
    → term_meaning t ≡ term_step
    (record { operator = (out-Term t).operator; value = meaning (out-Term t).value })
unfolding term_meaning_at
term_is t = term_meaning_is t

pub factor_is : (f : Factor)
    → factor_meaning f ≡ factor_step
    (record { operator = (out-Factor f).operator; value = meaning (out-Factor f).value })
unfolding factor_meaning_at
factor_is f = factor_meaning_is f

pub arm_is : (a : Arm) → arm_meaning a
    ≡ record { condition = meaning (out-Arm a).condition; value = meaning (out-Arm a).value }
unfolding arm_meaning_at
arm_is a = arm_meaning_is a

pub item_is : (i : Item)
    → item_meaning i ≡ item_step
    (record { value = meaning (out-Item i).value; alias = (out-Item i).alias })
unfolding item_meaning_at
item_is i = item_meaning_is i

pub join_is : (j : Join) (start : ℕ) (sight : Sight) (done : FromRows)
    → join_meaning j start sight done
    ≡ (from_item_meaning (out-Join j).item sight done.columns >>=
    (λ o. on_joining start sight (out-Join j).kind (joining done o)
    (meaning (out-Join j).condition)))
unfolding join_meaning_at
join_is j start sight done = ap (λ (m : JoinMeaning). m start sight done) (join_meaning_is j)

pub joined_is : (j : Joined) (sight : Sight) (done : Option FromRows) → joined_meaning j sight done
    ≡ (from_item_meaning (out-Joined j).first sight (columns_so_far done) >>=
    (λ o. chained (length (columns_so_far done)) sight (first_rows done o)
    (map join_meaning (out-Joined j).joins)))
unfolding joined_meaning_at
joined_is j sight done = ap (λ (m : JoinedMeaning). m sight done) (joined_meaning_is j)

pub select_is : (q : Select) (sight : Sight)
    → select_meaning q sight ≡ (apart (clauses_of q sight) >>=
    (λ t. pure (once_each (out-Select q).is_distinct t)))
unfolding select_meaning_at clauses_of
select_is q sight = ap (λ (m : BlockMeaning). m sight) (select_meaning_is q)

pub set_part_is : (p : SetPart) (sight : Sight) (t : BoundTable)
    → set_part_meaning p sight t ≡ (block_meaning (out-SetPart p).query sight >>=
    (λ u. lift (set_table (out-SetPart p).operator (out-SetPart p).keeps_all t u)))
unfolding set_part_meaning_at
set_part_is p sight t = ap (λ (m : SetPartMeaning). m sight t) (set_part_meaning_is p)

pub block_Select : (q : Select) → block_meaning (block.Select q) ≡ select_meaning q
unfolding block_meaning_at
block_Select q = block_meaning_is (block.Select q) ∙ ap block_meaning_at (block.outs-Select q)

pub block_Combined : (first : Block) (parts : List SetPart)
    → block_meaning (block.Combined first parts)
    ≡ combined (block_meaning first) (map set_part_meaning parts)
unfolding block_meaning_at
block_Combined first parts = block_meaning_is (block.Combined first parts)
    ∙ ap block_meaning_at (block.outs-Combined first parts)

pub ruleset expr_opened = (
  meaning_Number,
  meaning_Text,
  meaning_Date,
  meaning_Interval,
  meaning_Column,
  meaning_Negative,
  meaning_Sum,
  meaning_Product,
  meaning_Compare,
  meaning_CompareQuery,
  meaning_IsNull,
  meaning_Between,
  meaning_Like,
  meaning_InList,
  meaning_InQuery,
  meaning_Exists,
  meaning_Scalar,
  meaning_Not,
  meaning_And,
  meaning_Or,
  meaning_Case,
  meaning_CaseElse,
  meaning_Extract,
  meaning_Substring,
  meaning_CountRows,
  meaning_Count,
  meaning_CountDistinct,
  meaning_Aggregate,
)

pub ruleset clause_opened = (clause_Absent, clause_Condition)

pub ruleset selected_opened = (selected_All, selected_Items)

pub ruleset from_item_opened = (from_item_Table, from_item_Derived, from_item_Lateral)

pub ruleset block_opened = (block_Select, block_Combined)
