-- Each tree binds what is typed.
use Rattle.std.proofs.Common.{◌≡◌, ℕ, List, [], ◌∷◌, ◌++◌, map, sym, ap, ◌∙◌, subst, arith}
use Rattle.std.specs.Prelude.{Option, Some, None, unwrap_or, Result, Ok, Err, ok_or}
use Rattle.expr_scalar.specs.declared.kind.Kind.{Kind}
use Rattle.sql_bound_query.specs.Typing.{block_kinds}
use Rattle.sql_binder_steps.specs.declared.collected.BoundTable.{BoundTable}
use Rattle.sql_binder_steps.specs.declared.view.View.{View}
use Rattle.base_row_laws.specs.Bags.{Each}
use Rattle.base_row_laws.proofs.Lists.{Each-append}
use Rattle.base_date.specs.Date.{date_of}
use Rattle.base_date.specs.declared.DateFault.{DateFault}
use Rattle.base_date.specs.declared.DateFault.TheVariants as fault
use Rattle.expr_aggregates.specs.declared.function.AggregateFunction.TheVariants.{Count}
use Rattle.expr_aggregates.specs.declared.function.AggregateFunction.TheVariants.{CountDistinct}
use Rattle.sql_ast.specs.declared.statement.WithQuery.{WithQuery}
use Rattle.sql_ast.specs.declared.tree.Clause.{Clause, roll-Clause}
use Rattle.sql_ast.specs.declared.tree.Expr.{Expr, roll-Expr}
use Rattle.sql_ast.specs.declared.tree.FromItem.{FromItem, roll-FromItem}
use Rattle.sql_ast.specs.declared.tree.Select.{Select, roll-Select}
use Rattle.sql_ast.specs.declared.tree.SetPart.{SetPart, roll-SetPart}
use Rattle.sql_ast.specs.declared.tree.Selected.{Selected, roll-Selected}
use Rattle.sql_ast.specs.declared.tree.Arm.{Arm, roll-Arm}
use Rattle.sql_ast.specs.declared.tree.Block.{Block, roll-Block}
use Rattle.sql_ast.specs.declared.tree.Factor.{Factor, roll-Factor}
use Rattle.sql_ast.specs.declared.tree.Item.{Item, roll-Item}
use Rattle.sql_ast.specs.declared.tree.Join.{Join, roll-Join}
use Rattle.sql_ast.specs.declared.tree.Joined.{Joined, roll-Joined}
use Rattle.sql_ast.specs.declared.tree.Term.{Term, roll-Term}
use Rattle.sql_ast.specs.declared.tree.Block.TheOpen.{Clause-F, Expr-F, FromItem-F, Selected-F}
use Rattle.sql_ast.specs.declared.tree.Block.TheOpen.{Arm-F, Block-F, Factor-F, Item-F, Join-F}
use Rattle.sql_ast.specs.declared.tree.Block.TheOpen.{Joined-F, Term-F, Select-F, SetPart-F}
use Rattle.sql_ast.specs.declared.tree.Block.TheFolds.{ind-Block, map-Clause, map-Expr}
use Rattle.sql_ast.specs.declared.tree.Block.TheFolds.{map-FromItem, map-Selected, map-Arm}
use Rattle.sql_ast.specs.declared.tree.Block.TheFolds.{map-Block, map-Factor, map-Item, map-Join}
use Rattle.sql_ast.specs.declared.tree.Block.TheFolds.{map-Joined, map-Term, map-Select}
use Rattle.sql_ast.specs.declared.tree.Block.TheFolds.{map-SetPart}
use Rattle.sql_ast.specs.declared.words.Adding.{Adding}
use Rattle.sql_ast.specs.declared.words.Span.{Span}
use Rattle.sql_bound_query.specs.declared.query.BoundQuery.{BoundQuery}
use Rattle.sql_binder_steps.specs.declared.collected.Chain.{Chain}
use Rattle.sql_binder_steps.specs.declared.collected.Collected.{Collected}
use Rattle.sql_binder_steps.specs.declared.collected.Typed.{Typed}
use Rattle.sql_binder.specs.Binding.{bound_view, clause_meaning, meaning, from_item_meaning}
use Rattle.sql_binder.specs.Binding.{selected_meaning, arm_meaning, block_meaning, factor_meaning}
use Rattle.sql_binder.specs.Binding.{item_meaning, join_meaning, joined_meaning, term_meaning}
use Rattle.sql_binder.specs.Binding.{select_meaning, set_part_meaning}
use Rattle.sql_binder.specs.Binding.{bound_query, bound_table, counted_table, start, with_views}
use Rattle.sql_binder.specs.Binding.{with_views_from}
use Rattle.sql_binder.specs.Meanings.{Meaning}
use Rattle.sql_binder_steps.specs.Names.{Sight}
use Rattle.sql_binder.specs.Operands.{term_by}
use Rattle.sql_binder_steps.specs.Parts.{function_of, order_of, outermost, distinct_names}
use Rattle.sql_binder_steps.specs.Parts.{renamed_headers, new_name}
use Rattle.sql_binder_steps.specs.Steps.{Name, lift}
use Rattle.sql_binder_steps.specs.Values.{adding_of, multiplying_of, date_literal, dated_by}
use Rattle.sql_binder_steps.specs.Values.{shifted}
use Rattle.sql_binder_steps.specs.Values.{operated}
use Rattle.sql_binder.proofs.Meant.{clause_meaning_at, meaning_at}
use Rattle.sql_binder.proofs.Meant.{from_item_meaning_at}
use Rattle.sql_binder.proofs.Meant.{selected_meaning_at, arm_meaning_at}
use Rattle.sql_binder.proofs.Meant.{block_meaning_at}
use Rattle.sql_binder.proofs.Meant.{factor_meaning_at, item_meaning_at}
use Rattle.sql_binder.proofs.Meant.{join_meaning_at}
use Rattle.sql_binder.proofs.Meant.{joined_meaning_at, term_meaning_at}
use Rattle.sql_binder.proofs.Meant.{select_meaning_at}
use Rattle.sql_binder.proofs.Meant.{set_part_meaning_at}
use Rattle.sql_binder_laws.specs.WellTyped.{TableIsWellTyped, ViewIsWellTyped, BoundIsWellTyped}
use Rattle.sql_binder_laws.specs.WellTyped.{header_kinds, ViewsAreTyped}
use Rattle.sql_binder_laws.proofs.TypedOperands.{went, ok_is, number_typed, text_typed, date_typed}
use Rattle.sql_binder_laws.proofs.TypedSteps.{Ready, Fits, Known, Goes, goes_on, goes_lift}
use Rattle.sql_binder_laws.proofs.TypedSteps.{goes_pure}
use Rattle.sql_binder_laws.proofs.TypedSteps.{known_on}
use Rattle.sql_binder_laws.proofs.TypedMade.{TypedIs}
use Rattle.sql_binder_laws.proofs.TypedNodes.{TypedIn, MeaningIs, ChainMeaningIs, ArmMeaningIs}
use Rattle.sql_binder_laws.proofs.TypedMade.{ChainIs, operated_is, shifted_is}
use Rattle.sql_binder_laws.proofs.TypedNodes.{negative_goes}
use Rattle.sql_binder_laws.proofs.TypedNodes.{null_test_goes, not_goes, like_goes, extract_goes}
use Rattle.sql_binder_laws.proofs.TypedNodes.{substring_goes, compare_goes, between_goes}
use Rattle.sql_binder_laws.proofs.TypedNodes.{in_list_goes}
use Rattle.sql_binder_laws.proofs.TypedNodes.{and_goes, or_goes, chain_goes, case_goes}
use Rattle.sql_binder_laws.proofs.TypedNodes.{case_else_goes}
use Rattle.sql_binder_laws.proofs.TypedNodes.{column_goes}
use Rattle.sql_binder_laws.proofs.TypedQueries.{BlockMeaningIs, count_rows_goes, aggregate_goes}
use Rattle.sql_binder_laws.proofs.TypedQueries.{exists_goes, scalar_goes, in_query_goes}
use Rattle.sql_binder_laws.proofs.TypedQueries.{compare_query_goes}
use Rattle.sql_binder_laws.proofs.TypedItems.{FromItemMeaningIs}
use Rattle.sql_binder_laws.proofs.TypedFrom.{JoinMeaningIs, JoinedMeaningIs}
use Rattle.sql_binder_laws.proofs.TypedItems.{renamed_kinds, table_rows_is, derived_rows_is}
use Rattle.sql_binder_laws.proofs.TypedItems.{lateral_rows_is}
use Rattle.sql_binder_laws.proofs.TypedFrom.{join_is_typed, joined_is_typed}
use Rattle.sql_binder_laws.proofs.TypedClauses.{ClauseMeaningIs, SelectedMeaningIs, ItemMeaningIs}
use Rattle.sql_binder_laws.proofs.TypedBlocks.{select_typed}
use Rattle.sql_binder_laws.proofs.TypedSets.{SetPartMeaningIs, set_part_typed, combined_typed}
use Rattle.sql_binder_laws.proofs.RolledTrees.{clause_rolled, expr_rolled, from_item_rolled}
use Rattle.sql_binder_laws.proofs.RolledTrees.{selected_rolled, arm_rolled, block_rolled}
use Rattle.sql_binder_laws.proofs.RolledTrees.{select_rolled, set_part_rolled, factor_rolled}
use Rattle.sql_binder_laws.proofs.RolledTrees.{item_rolled, join_rolled, joined_rolled, term_rolled}

-- each part with what there is to show of it
abbrev ClauseWith : Type 0
ClauseWith = (x : Clause) × ClauseMeaningIs (clause_meaning x)

abbrev ExprWith : Type 0
ExprWith = (x : Expr) × MeaningIs (meaning x)

abbrev FromItemWith : Type 0
FromItemWith = (x : FromItem) × FromItemMeaningIs (from_item_meaning x)

abbrev SelectedWith : Type 0
SelectedWith = (x : Selected) × SelectedMeaningIs (selected_meaning x)

abbrev ArmWith : Type 0
ArmWith = (x : Arm) × ArmMeaningIs (arm_meaning x)

abbrev BlockWith : Type 0
BlockWith = (x : Block) × BlockMeaningIs (block_meaning x)

abbrev SelectWith : Type 0
SelectWith = (x : Select) × BlockMeaningIs (select_meaning x)

abbrev SetPartWith : Type 0
SetPartWith = (x : SetPart) × SetPartMeaningIs (set_part_meaning x)

abbrev FactorWith : Type 0
FactorWith = (x : Factor) × ChainMeaningIs (factor_meaning x)

abbrev ItemWith : Type 0
ItemWith = (x : Item) × ItemMeaningIs (item_meaning x)

abbrev JoinWith : Type 0
JoinWith = (x : Join) × JoinMeaningIs (join_meaning x)

abbrev JoinedWith : Type 0
JoinedWith = (x : Joined) × JoinedMeaningIs (joined_meaning x)

abbrev TermWith : Type 0
TermWith = (x : Term) × ChainMeaningIs (term_meaning x)

-- all of a list
each_of : {X M : Type 0} (g : X → M) (Q : M → Type 0) (xs : List ((x : X) × Q (g x)))
    → Each Q (map g (map (λ x. x.0) xs))
each_of g Q [] = tt
each_of g Q (x ∷ xs) = (x.1, each_of g Q xs)

dated_by_is : (r : Result ℕ DateFault) (t : Typed) (ks : List Kind) → dated_by r ≡ Ok t
    → TypedIs t ks
dated_by_is (Ok d) t ks h = subst (λ (x : Typed). TypedIs x ks) (ok_is _ t h) (date_typed d ks)
dated_by_is (Err why) t ks h = cc

date_literal_is : (text : Name) (t : Typed) (ks : List Kind) → date_literal text ≡ Ok t
    → TypedIs t ks
unfolding date_literal
date_literal_is text t ks h = dated_by_is (ok_or (date_of text) fault.BadDate) t ks h

-- a term
term_goes : (interval : Option (Name × Span)) (operator : Adding) (m : Meaning) → MeaningIs m
    → (sight : Sight) (s : Collected) (c : Chain) → Ready sight
    → Known sight (λ w. ChainIs c w.kinds) s
    → Goes sight (λ w d. ChainIs d w.kinds) (term_by interval operator m sight c) s
term_goes (Some i) operator m is sight s c ready known =
    goes_lift sight (λ w d. ChainIs d w.kinds) (shifted operator c i.0 i.1) s
    (λ d h. λ w p q. shifted_is operator c d i.0 i.1 w.kinds h)
term_goes None operator m is sight s c ready known =
    goes_on sight (TypedIn sight) (λ w d. ChainIs d w.kinds) (m.binds sight)
    (λ b. lift (operated (adding_of operator) c b)) s (is sight s ready)
    (λ b t g k. goes_lift sight (λ w d. ChainIs d w.kinds) (operated (adding_of operator) c b) t
    (λ d h. λ w p q. operated_is (adding_of operator) c b d w.kinds h
    (known_on sight (λ v. ChainIs c v.kinds) s t g known w p q) (k w p q)))

expr_node : (y : Expr-F BlockWith ClauseWith ExprWith FromItemWith SelectedWith ArmWith FactorWith
    ItemWith JoinWith JoinedWith SelectWith SetPartWith TermWith)
    → MeaningIs (meaning_at (map-Expr BlockWith ClauseWith ExprWith FromItemWith SelectedWith
    ArmWith FactorWith ItemWith JoinWith JoinedWith SelectWith SetPartWith TermWith Block Clause
    Expr FromItem Selected
    Arm Factor Item Join Joined Select SetPart Term (λ x. x.0) (λ x. x.0) (λ x. x.0) (λ x. x.0) (λ
    x. x.0) (λ x. x.0) (λ x. x.0) (λ x. x.0) (λ x. x.0) (λ x. x.0) (λ x. x.0) (λ x. x.0) (λ x. x.0)
    y))
unfolding meaning_at
expr_node (Expr-F.Number c scale) sight s ready =
    goes_pure sight (TypedIn sight) _ s (λ w p q. number_typed scale c w.kinds)
expr_node (Expr-F.Text t) sight s ready =
    goes_pure sight (TypedIn sight) _ s (λ w p q. text_typed t w.kinds)
expr_node (Expr-F.Date t) sight s ready =
    goes_lift sight (TypedIn sight) (date_literal t) s
    (λ r h. λ w p q. date_literal_is t r w.kinds h)
expr_node (Expr-F.Interval t span) sight s ready = λ a u h. cc
expr_node (Expr-F.Column name) sight s ready = column_goes sight ready name s
expr_node (Expr-F.Negative a) sight s ready = negative_goes sight ready (meaning a.0) s a.1
expr_node (Expr-F.Sum a terms) sight s ready =
    chain_goes sight ready (meaning a.0) (map term_meaning (map (λ x. x.0) terms)) s a.1
    (each_of term_meaning ChainMeaningIs terms)
expr_node (Expr-F.Product a factors) sight s ready =
    chain_goes sight ready (meaning a.0) (map factor_meaning (map (λ x. x.0) factors)) s a.1
    (each_of factor_meaning ChainMeaningIs factors)
expr_node (Expr-F.Compare c a b) sight s ready =
    compare_goes sight ready c (meaning a.0) (meaning b.0) s a.1 b.1
expr_node (Expr-F.CompareQuery c k a q) sight s ready =
    compare_query_goes sight ready c k (meaning a.0) (block_meaning q.0) s a.1 q.1
expr_node (Expr-F.IsNull a) sight s ready = null_test_goes sight ready (meaning a.0) s a.1
expr_node (Expr-F.Between a low high) sight s ready =
    between_goes sight ready (meaning a.0) (meaning low.0) (meaning high.0) s a.1 low.1 high.1
expr_node (Expr-F.Like a pattern) sight s ready = like_goes sight ready (meaning a.0) pattern s a.1
expr_node (Expr-F.InList a list) sight s ready =
    in_list_goes sight ready (meaning a.0) (map meaning (map (λ x. x.0) list)) s a.1
    (each_of meaning MeaningIs list)
expr_node (Expr-F.InQuery a q) sight s ready =
    in_query_goes sight ready (meaning a.0) (block_meaning q.0) s a.1 q.1
expr_node (Expr-F.Exists q) sight s ready = exists_goes sight ready (block_meaning q.0) s q.1
expr_node (Expr-F.Scalar q) sight s ready = scalar_goes sight ready (block_meaning q.0) s q.1
expr_node (Expr-F.Not a) sight s ready = not_goes sight ready (meaning a.0) s a.1
expr_node (Expr-F.And a rest) sight s ready =
    and_goes sight ready (meaning a.0) (map meaning (map (λ x. x.0) rest)) s a.1
    (each_of meaning MeaningIs rest)
expr_node (Expr-F.Or a rest) sight s ready =
    or_goes sight ready (meaning a.0) (map meaning (map (λ x. x.0) rest)) s a.1
    (each_of meaning MeaningIs rest)
expr_node (Expr-F.Case arms) sight s ready =
    case_goes sight ready (map arm_meaning (map (λ x. x.0) arms)) s
    (each_of arm_meaning ArmMeaningIs arms)
expr_node (Expr-F.CaseElse arms other) sight s ready =
    case_else_goes sight ready (map arm_meaning (map (λ x. x.0) arms)) (meaning other.0) s
    (each_of arm_meaning ArmMeaningIs arms) other.1
expr_node (Expr-F.Extract span a) sight s ready = extract_goes sight ready span (meaning a.0) s a.1
expr_node (Expr-F.Substring a from count) sight s ready =
    substring_goes sight ready (meaning a.0) from count s a.1
expr_node Expr-F.CountRows sight s ready = count_rows_goes sight ready s
expr_node (Expr-F.Count a) sight s ready = aggregate_goes sight ready Count (meaning a.0) s a.1
expr_node (Expr-F.CountDistinct a) sight s ready =
    aggregate_goes sight ready CountDistinct (meaning a.0) s a.1
expr_node (Expr-F.Aggregate f a) sight s ready =
    aggregate_goes sight ready (function_of f) (meaning a.0) s a.1

clause_node : (y : Clause-F BlockWith ClauseWith ExprWith FromItemWith SelectedWith ArmWith
    FactorWith ItemWith JoinWith JoinedWith SelectWith SetPartWith TermWith)
    → ClauseMeaningIs (clause_meaning_at
    (map-Clause BlockWith ClauseWith ExprWith FromItemWith SelectedWith ArmWith FactorWith ItemWith
    JoinWith JoinedWith SelectWith SetPartWith TermWith Block Clause Expr FromItem Selected Arm
    Factor Item Join Joined
    Select SetPart Term (λ x. x.0) (λ x. x.0) (λ x. x.0) (λ x. x.0) (λ x. x.0) (λ x. x.0) (λ x. x.0)
    (λ x. x.0) (λ x. x.0) (λ x. x.0) (λ x. x.0) (λ x. x.0) (λ x. x.0) y))
unfolding clause_meaning_at
clause_node Clause-F.Absent = tt
clause_node (Clause-F.Condition e) = e.1

from_item_node : (y : FromItem-F BlockWith ClauseWith ExprWith FromItemWith SelectedWith ArmWith
    FactorWith ItemWith JoinWith JoinedWith SelectWith SetPartWith TermWith)
    → FromItemMeaningIs (from_item_meaning_at
    (map-FromItem BlockWith ClauseWith ExprWith FromItemWith SelectedWith ArmWith FactorWith
    ItemWith JoinWith JoinedWith SelectWith SetPartWith TermWith Block Clause Expr FromItem Selected
    Arm Factor Item Join
    Joined Select SetPart Term (λ x. x.0) (λ x. x.0) (λ x. x.0) (λ x. x.0) (λ x. x.0) (λ x. x.0) (λ
    x. x.0) (λ x. x.0) (λ x. x.0) (λ x. x.0) (λ x. x.0) (λ x. x.0) (λ x. x.0) y))
unfolding from_item_meaning_at
from_item_node (FromItem-F.Table name alias) = table_rows_is name (unwrap_or alias name)
from_item_node (FromItem-F.Derived q alias names) =
    derived_rows_is (block_meaning q.0) alias names q.1
from_item_node (FromItem-F.Lateral q alias names) =
    lateral_rows_is (block_meaning q.0) alias names q.1

selected_node : (y : Selected-F BlockWith ClauseWith ExprWith FromItemWith SelectedWith ArmWith
    FactorWith ItemWith JoinWith JoinedWith SelectWith SetPartWith TermWith)
    → SelectedMeaningIs (selected_meaning_at
    (map-Selected BlockWith ClauseWith ExprWith FromItemWith SelectedWith ArmWith FactorWith
    ItemWith JoinWith JoinedWith SelectWith SetPartWith TermWith Block Clause Expr FromItem Selected
    Arm Factor Item Join
    Joined Select SetPart Term (λ x. x.0) (λ x. x.0) (λ x. x.0) (λ x. x.0) (λ x. x.0) (λ x. x.0) (λ
    x. x.0) (λ x. x.0) (λ x. x.0) (λ x. x.0) (λ x. x.0) (λ x. x.0) (λ x. x.0) y))
unfolding selected_meaning_at
selected_node Selected-F.All = tt
selected_node (Selected-F.Items items) = each_of item_meaning ItemMeaningIs items

arm_node : (y : Arm-F BlockWith ClauseWith ExprWith FromItemWith SelectedWith ArmWith FactorWith
    ItemWith JoinWith JoinedWith SelectWith SetPartWith TermWith)
    → ArmMeaningIs (arm_meaning_at
    (map-Arm BlockWith ClauseWith ExprWith FromItemWith SelectedWith ArmWith FactorWith ItemWith
    JoinWith JoinedWith SelectWith SetPartWith TermWith Block Clause Expr FromItem Selected Arm
    Factor Item Join Joined
    Select SetPart Term (λ x. x.0) (λ x. x.0) (λ x. x.0) (λ x. x.0) (λ x. x.0) (λ x. x.0) (λ x. x.0)
    (λ x. x.0) (λ x. x.0) (λ x. x.0) (λ x. x.0) (λ x. x.0) (λ x. x.0) y))
unfolding arm_meaning_at
arm_node y = (y.condition.1, y.value.1)

block_node : (y : Block-F BlockWith ClauseWith ExprWith FromItemWith SelectedWith ArmWith FactorWith
    ItemWith JoinWith JoinedWith SelectWith SetPartWith TermWith)
    → BlockMeaningIs (block_meaning_at
    (map-Block BlockWith ClauseWith ExprWith FromItemWith SelectedWith ArmWith FactorWith ItemWith
    JoinWith JoinedWith SelectWith SetPartWith TermWith Block Clause Expr FromItem Selected Arm
    Factor Item Join Joined
    Select SetPart Term (λ x. x.0) (λ x. x.0) (λ x. x.0) (λ x. x.0) (λ x. x.0) (λ x. x.0) (λ x. x.0)
    (λ x. x.0) (λ x. x.0) (λ x. x.0) (λ x. x.0) (λ x. x.0) (λ x. x.0) y))
unfolding block_meaning_at
block_node (Block-F.Select q) = q.1
block_node (Block-F.Combined first parts) =
    combined_typed (block_meaning first.0) (map set_part_meaning (map (λ x. x.0) parts)) first.1
    (each_of set_part_meaning SetPartMeaningIs parts)

select_node : (y : Select-F BlockWith ClauseWith ExprWith FromItemWith SelectedWith ArmWith FactorWith
    ItemWith JoinWith JoinedWith SelectWith SetPartWith TermWith)
    → BlockMeaningIs (select_meaning_at
    (map-Select BlockWith ClauseWith ExprWith FromItemWith SelectedWith ArmWith FactorWith ItemWith
    JoinWith JoinedWith SelectWith SetPartWith TermWith Block Clause Expr FromItem Selected Arm
    Factor Item Join Joined
    Select SetPart Term (λ x. x.0) (λ x. x.0) (λ x. x.0) (λ x. x.0) (λ x. x.0) (λ x. x.0) (λ x. x.0)
    (λ x. x.0) (λ x. x.0) (λ x. x.0) (λ x. x.0) (λ x. x.0) (λ x. x.0) y))
unfolding select_meaning_at
select_node y =
    select_typed _ y.selected.1 (each_of joined_meaning JoinedMeaningIs y.from) y.condition.1
    y.having.1

set_part_node : (y : SetPart-F BlockWith ClauseWith ExprWith FromItemWith SelectedWith ArmWith FactorWith
    ItemWith JoinWith JoinedWith SelectWith SetPartWith TermWith)
    → SetPartMeaningIs (set_part_meaning_at
    (map-SetPart BlockWith ClauseWith ExprWith FromItemWith SelectedWith ArmWith FactorWith ItemWith
    JoinWith JoinedWith SelectWith SetPartWith TermWith Block Clause Expr FromItem Selected Arm
    Factor Item Join Joined
    Select SetPart Term (λ x. x.0) (λ x. x.0) (λ x. x.0) (λ x. x.0) (λ x. x.0) (λ x. x.0) (λ x. x.0)
    (λ x. x.0) (λ x. x.0) (λ x. x.0) (λ x. x.0) (λ x. x.0) (λ x. x.0) y))
unfolding set_part_meaning_at
set_part_node y =
    set_part_typed y.operator y.keeps_all (block_meaning y.query.0) y.query.1

factor_node : (y : Factor-F BlockWith ClauseWith ExprWith FromItemWith SelectedWith ArmWith
    FactorWith ItemWith JoinWith JoinedWith SelectWith SetPartWith TermWith)
    → ChainMeaningIs (factor_meaning_at
    (map-Factor BlockWith ClauseWith ExprWith FromItemWith SelectedWith ArmWith FactorWith ItemWith
    JoinWith JoinedWith SelectWith SetPartWith TermWith Block Clause Expr FromItem Selected Arm
    Factor Item Join Joined
    Select SetPart Term (λ x. x.0) (λ x. x.0) (λ x. x.0) (λ x. x.0) (λ x. x.0) (λ x. x.0) (λ x. x.0)
    (λ x. x.0) (λ x. x.0) (λ x. x.0) (λ x. x.0) (λ x. x.0) (λ x. x.0) y))
unfolding factor_meaning_at
factor_node y sight s c ready known =
    goes_on sight (TypedIn sight) (λ w d. ChainIs d w.kinds) ((meaning y.value.0).binds sight)
    (λ b. lift (operated (multiplying_of y.operator) c b)) s (y.value.1 sight s ready)
    (λ b t g k. goes_lift sight (λ w d. ChainIs d w.kinds)
    (operated (multiplying_of y.operator) c b) t
    (λ d h. λ w p q. operated_is (multiplying_of y.operator) c b d w.kinds h
    (known_on sight (λ v. ChainIs c v.kinds) s t g known w p q) (k w p q)))

item_node : (y : Item-F BlockWith ClauseWith ExprWith FromItemWith SelectedWith ArmWith FactorWith
    ItemWith JoinWith JoinedWith SelectWith SetPartWith TermWith)
    → ItemMeaningIs (item_meaning_at
    (map-Item BlockWith ClauseWith ExprWith FromItemWith SelectedWith ArmWith FactorWith ItemWith
    JoinWith JoinedWith SelectWith SetPartWith TermWith Block Clause Expr FromItem Selected Arm
    Factor Item Join Joined
    Select SetPart Term (λ x. x.0) (λ x. x.0) (λ x. x.0) (λ x. x.0) (λ x. x.0) (λ x. x.0) (λ x. x.0)
    (λ x. x.0) (λ x. x.0) (λ x. x.0) (λ x. x.0) (λ x. x.0) (λ x. x.0) y))
unfolding item_meaning_at
item_node y = y.value.1

join_node : (y : Join-F BlockWith ClauseWith ExprWith FromItemWith SelectedWith ArmWith FactorWith
    ItemWith JoinWith JoinedWith SelectWith SetPartWith TermWith)
    → JoinMeaningIs (join_meaning_at
    (map-Join BlockWith ClauseWith ExprWith FromItemWith SelectedWith ArmWith FactorWith ItemWith
    JoinWith JoinedWith SelectWith SetPartWith TermWith Block Clause Expr FromItem Selected Arm
    Factor Item Join Joined
    Select SetPart Term (λ x. x.0) (λ x. x.0) (λ x. x.0) (λ x. x.0) (λ x. x.0) (λ x. x.0) (λ x. x.0)
    (λ x. x.0) (λ x. x.0) (λ x. x.0) (λ x. x.0) (λ x. x.0) (λ x. x.0) y))
unfolding join_meaning_at
join_node y = join_is_typed (from_item_meaning y.item.0) y.kind (meaning y.condition.0) y.item.1
    y.condition.1

joined_node : (y : Joined-F BlockWith ClauseWith ExprWith FromItemWith SelectedWith ArmWith
    FactorWith ItemWith JoinWith JoinedWith SelectWith SetPartWith TermWith)
    → JoinedMeaningIs (joined_meaning_at
    (map-Joined BlockWith ClauseWith ExprWith FromItemWith SelectedWith ArmWith FactorWith ItemWith
    JoinWith JoinedWith SelectWith SetPartWith TermWith Block Clause Expr FromItem Selected Arm
    Factor Item Join Joined
    Select SetPart Term (λ x. x.0) (λ x. x.0) (λ x. x.0) (λ x. x.0) (λ x. x.0) (λ x. x.0) (λ x. x.0)
    (λ x. x.0) (λ x. x.0) (λ x. x.0) (λ x. x.0) (λ x. x.0) (λ x. x.0) y))
unfolding joined_meaning_at
joined_node y = joined_is_typed (from_item_meaning y.first.0)
    (map join_meaning (map (λ x. x.0) y.joins)) y.first.1
    (each_of join_meaning JoinMeaningIs y.joins)

term_node : (y : Term-F BlockWith ClauseWith ExprWith FromItemWith SelectedWith ArmWith FactorWith
    ItemWith JoinWith JoinedWith SelectWith SetPartWith TermWith)
    → ChainMeaningIs (term_meaning_at
    (map-Term BlockWith ClauseWith ExprWith FromItemWith SelectedWith ArmWith FactorWith ItemWith
    JoinWith JoinedWith SelectWith SetPartWith TermWith Block Clause Expr FromItem Selected Arm
    Factor Item Join Joined
    Select SetPart Term (λ x. x.0) (λ x. x.0) (λ x. x.0) (λ x. x.0) (λ x. x.0) (λ x. x.0) (λ x. x.0)
    (λ x. x.0) (λ x. x.0) (λ x. x.0) (λ x. x.0) (λ x. x.0) (λ x. x.0) y))
unfolding term_meaning_at
term_node y = term_goes (meaning y.value.0).interval y.operator (meaning y.value.0) y.value.1

pub each_block : (q : Block) → BlockMeaningIs (block_meaning q)
each_block =
    ind-Block
    (λ x. BlockMeaningIs (block_meaning x))
    (λ x. ClauseMeaningIs (clause_meaning x))
    (λ x. MeaningIs (meaning x))
    (λ x. FromItemMeaningIs (from_item_meaning x))
    (λ x. SelectedMeaningIs (selected_meaning x))
    (λ x. ArmMeaningIs (arm_meaning x))
    (λ x. ChainMeaningIs (factor_meaning x))
    (λ x. ItemMeaningIs (item_meaning x))
    (λ x. JoinMeaningIs (join_meaning x))
    (λ x. JoinedMeaningIs (joined_meaning x))
    (λ x. BlockMeaningIs (select_meaning x))
    (λ x. SetPartMeaningIs (set_part_meaning x))
    (λ x. ChainMeaningIs (term_meaning x))
    (λ x y is. subst (λ z. BlockMeaningIs (block_meaning (roll-Block z))) is
    (block_rolled _ (block_node y)))
    (λ x y is. subst (λ z. ClauseMeaningIs (clause_meaning (roll-Clause z))) is
    (clause_rolled _ (clause_node y)))
    (λ x y is. subst (λ z. MeaningIs (meaning (roll-Expr z))) is
    (expr_rolled _ (expr_node y)))
    (λ x y is. subst (λ z. FromItemMeaningIs (from_item_meaning (roll-FromItem z))) is
    (from_item_rolled _ (from_item_node y)))
    (λ x y is. subst (λ z. SelectedMeaningIs (selected_meaning (roll-Selected z))) is
    (selected_rolled _ (selected_node y)))
    (λ x y is. subst (λ z. ArmMeaningIs (arm_meaning (roll-Arm z))) is
    (arm_rolled _ (arm_node y)))
    (λ x y is. subst (λ z. ChainMeaningIs (factor_meaning (roll-Factor z))) is
    (factor_rolled _ (factor_node y)))
    (λ x y is. subst (λ z. ItemMeaningIs (item_meaning (roll-Item z))) is
    (item_rolled _ (item_node y)))
    (λ x y is. subst (λ z. JoinMeaningIs (join_meaning (roll-Join z))) is
    (join_rolled _ (join_node y)))
    (λ x y is. subst (λ z. JoinedMeaningIs (joined_meaning (roll-Joined z))) is
    (joined_rolled _ (joined_node y)))
    (λ x y is. subst (λ z. BlockMeaningIs (select_meaning (roll-Select z))) is
    (select_rolled _ (select_node y)))
    (λ x y is. subst (λ z. SetPartMeaningIs (set_part_meaning (roll-SetPart z))) is
    (set_part_rolled _ (set_part_node y)))
    (λ x y is. subst (λ z. ChainMeaningIs (term_meaning (roll-Term z))) is
    (term_rolled _ (term_node y)))

-- the sight of a whole statement, under no rows
fits_outermost : (views : List View) → Fits (outermost views) []
fits_outermost views = record { row = λ level q below at. cc }

-- a query by itself
pub table_is_well_typed : TableIsWellTyped
table_is_well_typed q views t items typed is =
    let w = went (bound_table q views) (λ r. Ok (r.0, r.1.items)) (t, items) is in
    let b = each_block q (outermost views) start (record { views = typed; hidden = omega arith })
    w.it.0 w.it.1 w.is in
    let same : w.it.0 ≡ t =
    ap (λ (r : BoundTable × ℕ). r.0) (ok_is (w.it.0, w.it.1.items) (t, items) w.gives) in
    subst (λ (y : BoundTable). block_kinds y.block [] ≡ Some (header_kinds y.headers)) same
    (b.kinds [] (fits_outermost views))

-- a view
pub view_is_well_typed : ViewIsWellTyped
unfolding bound_view
view_is_well_typed name names q views v typed is =
    let d = went (distinct_names names) _ v is in
    let w = went (counted_table q views) _ v d.gives in
    let h = went (renamed_headers names w.it.0.headers) _ v w.gives in
    let made : View = record {
      name = name;
      columns = h.it;
      block = w.it.0.block;
      items = w.it.1;
      kept = None;
    } in
    let e : made ≡ v = ok_is made v h.gives in
    let kinds = renamed_kinds names w.it.0.headers h.it h.is in
    let t = table_is_well_typed q views w.it.0 w.it.1 typed w.is in
    subst (λ (y : View). block_kinds y.block [] ≡ Some (header_kinds y.columns)) e
    (t ∙ ap Some (sym kinds))

-- the queries of WITH
with_are_typed : (done : List View) (ws : List WithQuery) (views named : List View)
    → ViewsAreTyped done → ViewsAreTyped views → with_views_from done ws views ≡ Ok named
    → ViewsAreTyped named
with_are_typed done [] views named before typed is =
    subst ViewsAreTyped (ok_is done named is) before
with_are_typed done (w ∷ ws) views named before typed is =
    let all = Each-append _ done views before typed in
    let n = went (new_name w.name done) _ named is in
    let b = went (bound_view w.name w.columns w.block (done ++ views)) _ named n.gives in
    let t = view_is_well_typed w.name w.columns w.block (done ++ views) b.it all b.is in
    with_are_typed (done ++ b.it ∷ []) ws views named
    (Each-append _ done (b.it ∷ []) before (t, tt)) typed b.gives

-- a statement
pub bound_is_well_typed : BoundIsWellTyped
unfolding bound_query
bound_is_well_typed q views bound typed is =
    let n = went (with_views q.with_queries views) _ bound is.is in
    let named = with_are_typed [] q.with_queries views n.it tt typed n.is in
    let all = Each-append _ n.it views named typed in
    let w = went (counted_table q.block (n.it ++ views)) _ bound n.gives in
    let t = table_is_well_typed q.block (n.it ++ views) w.it.0 w.it.1 all w.is in
    let x = went (order_of w.it.0.headers q.order) _ bound w.gives in
    let made : BoundQuery = record { block = w.it.0.block; order = x.it; limit = q.limit } in
    let e : made ≡ bound = ok_is made bound x.gives in (
      header_kinds w.it.0.headers,
      subst (λ (y : BoundQuery). block_kinds y.block [] ≡ Some (header_kinds w.it.0.headers)) e t,
    )
