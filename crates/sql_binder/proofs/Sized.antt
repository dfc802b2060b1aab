-- That parts are smaller than what they stand in.
use Rattle.std.proofs.Common.{◌≡◌, ℕ, ◌+◌, ◌<◌, List, map, ap, ◌∙◌, arith}
use Rattle.sql_ast.specs.declared.tree.Clause.{Clause}
use Rattle.sql_ast.specs.declared.tree.Expr.{Expr}
use Rattle.sql_ast.specs.declared.tree.FromItem.{FromItem}
use Rattle.sql_ast.specs.declared.tree.Selected.{Selected}
use Rattle.sql_ast.specs.declared.tree.Arm.{Arm, out-Arm}
use Rattle.sql_ast.specs.declared.tree.Block.{Block}
use Rattle.sql_ast.specs.declared.tree.Block.TheVariants as block
use Rattle.sql_ast.specs.declared.tree.Factor.{Factor, out-Factor}
use Rattle.sql_ast.specs.declared.tree.Item.{Item, out-Item}
use Rattle.sql_ast.specs.declared.tree.Join.{Join, out-Join}
use Rattle.sql_ast.specs.declared.tree.Joined.{Joined, out-Joined}
use Rattle.sql_ast.specs.declared.tree.Select.{Select, out-Select}
use Rattle.sql_ast.specs.declared.tree.SetPart.{SetPart, out-SetPart}
use Rattle.sql_ast.specs.declared.tree.Term.{Term, out-Term}
use Rattle.sql_ast.specs.declared.tree.Clause.TheVariants as clause
use Rattle.sql_ast.specs.declared.tree.Expr.TheVariants as expr
use Rattle.sql_ast.specs.declared.tree.FromItem.TheVariants as from_item
use Rattle.sql_ast.specs.declared.tree.Selected.TheVariants as selected
use Rattle.sql_ast.specs.declared.words.Aggregate.{Aggregate}
use Rattle.sql_ast.specs.declared.words.Comparison.{Comparison}
use Rattle.sql_ast.specs.declared.words.Quantifier.{Quantifier}
use Rattle.sql_ast.specs.declared.words.Span.{Span}
use Rattle.sql_binder_steps.specs.Steps.{Name}
use Rattle.sql_binder.specs.Sizes.{total}
use Rattle.sql_binder.specs.Sizes.{clause_size, size}
use Rattle.sql_binder.specs.Sizes.{select_size, set_part_size}
use Rattle.sql_binder.specs.Sizes.{from_item_size, selected_size, arm_size, block_size, factor_size}
use Rattle.sql_binder.specs.Sizes.{item_size, join_size, joined_size, term_size}
use Rattle.sql_binder.proofs.SizesAt.{clause_size_at, clause_size_is, size_at, size_is}
use Rattle.sql_binder.proofs.SizesAt.{from_item_size_at, from_item_size_is, selected_size_at}
use Rattle.sql_binder.proofs.SizesAt.{selected_size_is, arm_size_at, arm_size_is, block_size_at}
use Rattle.sql_binder.proofs.SizesAt.{block_size_is, select_size_at, select_size_is}
use Rattle.sql_binder.proofs.SizesAt.{set_part_size_at, set_part_size_is, factor_size_at}
use Rattle.sql_binder.proofs.SizesAt.{factor_size_is, item_size_at, item_size_is, join_size_at}
use Rattle.sql_binder.proofs.SizesAt.{join_size_is, joined_size_at, joined_size_is, term_size_at}
use Rattle.sql_binder.proofs.SizesAt.{term_size_is}

size_Negative : (a : Expr) → size (expr.Negative a) ≡ 1 + size a
unfolding size_at
size_Negative a = size_is (expr.Negative a) ∙ ap size_at (expr.outs-Negative a)

size_Sum : (a : Expr) (terms : List Term)
    → size (expr.Sum a terms) ≡ 1 + size a + total (map term_size terms)
unfolding size_at
size_Sum a terms = size_is (expr.Sum a terms) ∙ ap size_at (expr.outs-Sum a terms)

size_Product : (a : Expr) (factors : List Factor)
    → size (expr.Product a factors) ≡ 1 + size a + total (map factor_size factors)
unfolding size_at
size_Product a factors = size_is (expr.Product a factors) ∙ ap size_at (expr.outs-Product a factors)

size_Compare : (c : Comparison) (a : Expr) (b : Expr)
    → size (expr.Compare c a b) ≡ 1 + size a + size b
unfolding size_at
size_Compare c a b = size_is (expr.Compare c a b) ∙ ap size_at (expr.outs-Compare c a b)

size_IsNull : (a : Expr) → size (expr.IsNull a) ≡ 1 + size a
unfolding size_at
size_IsNull a = size_is (expr.IsNull a) ∙ ap size_at (expr.outs-IsNull a)

size_Between : (a : Expr) (low : Expr) (high : Expr)
    → size (expr.Between a low high) ≡ 1 + size a + size low + size high
unfolding size_at
size_Between a low high = size_is (expr.Between a low high)
    ∙ ap size_at (expr.outs-Between a low high)

size_Like : (a : Expr) (pattern : Name) → size (expr.Like a pattern) ≡ 1 + size a
unfolding size_at
size_Like a pattern = size_is (expr.Like a pattern) ∙ ap size_at (expr.outs-Like a pattern)

size_InList : (a : Expr) (list : List Expr)
    → size (expr.InList a list) ≡ 1 + size a + total (map size list)
unfolding size_at
size_InList a list = size_is (expr.InList a list) ∙ ap size_at (expr.outs-InList a list)

size_CompareQuery : (c : Comparison) (k : Quantifier) (a : Expr) (q : Block)
    → size (expr.CompareQuery c k a q) ≡ 1 + size a + block_size q
unfolding size_at
size_CompareQuery c k a q = size_is (expr.CompareQuery c k a q)
    ∙ ap size_at (expr.outs-CompareQuery c k a q)

size_InQuery : (a : Expr) (q : Block) → size (expr.InQuery a q) ≡ 1 + size a + block_size q
unfolding size_at
size_InQuery a q = size_is (expr.InQuery a q) ∙ ap size_at (expr.outs-InQuery a q)

size_Exists : (q : Block) → size (expr.Exists q) ≡ 1 + block_size q
unfolding size_at
size_Exists q = size_is (expr.Exists q) ∙ ap size_at (expr.outs-Exists q)

size_Scalar : (q : Block) → size (expr.Scalar q) ≡ 1 + block_size q
unfolding size_at
size_Scalar q = size_is (expr.Scalar q) ∙ ap size_at (expr.outs-Scalar q)

size_Not : (a : Expr) → size (expr.Not a) ≡ 1 + size a
unfolding size_at
size_Not a = size_is (expr.Not a) ∙ ap size_at (expr.outs-Not a)

size_And : (a : Expr) (rest : List Expr)
    → size (expr.And a rest) ≡ 1 + size a + total (map size rest)
unfolding size_at
size_And a rest = size_is (expr.And a rest) ∙ ap size_at (expr.outs-And a rest)

size_Or : (a : Expr) (rest : List Expr) → size (expr.Or a rest) ≡ 1 + size a + total (map size rest)
unfolding size_at
size_Or a rest = size_is (expr.Or a rest) ∙ ap size_at (expr.outs-Or a rest)

size_Case : (arms : List Arm) → size (expr.Case arms) ≡ 1 + total (map arm_size arms)
unfolding size_at
size_Case arms = size_is (expr.Case arms) ∙ ap size_at (expr.outs-Case arms)

size_CaseElse : (arms : List Arm) (other : Expr)
    → size (expr.CaseElse arms other) ≡ 1 + total (map arm_size arms) + size other
unfolding size_at
size_CaseElse arms other = size_is (expr.CaseElse arms other)
    ∙ ap size_at (expr.outs-CaseElse arms other)

size_Extract : (s : Span) (a : Expr) → size (expr.Extract s a) ≡ 1 + size a
unfolding size_at
size_Extract s a = size_is (expr.Extract s a) ∙ ap size_at (expr.outs-Extract s a)

size_Substring : (a : Expr) (from : ℕ) (count : ℕ) → size (expr.Substring a from count) ≡ 1 + size a
unfolding size_at
size_Substring a from count = size_is (expr.Substring a from count)
    ∙ ap size_at (expr.outs-Substring a from count)

size_Count : (a : Expr) → size (expr.Count a) ≡ 1 + size a
unfolding size_at
size_Count a = size_is (expr.Count a) ∙ ap size_at (expr.outs-Count a)

size_CountDistinct : (a : Expr) → size (expr.CountDistinct a) ≡ 1 + size a
unfolding size_at
size_CountDistinct a = size_is (expr.CountDistinct a) ∙ ap size_at (expr.outs-CountDistinct a)

size_Aggregate : (f : Aggregate) (a : Expr) → size (expr.Aggregate f a) ≡ 1 + size a
unfolding size_at
size_Aggregate f a = size_is (expr.Aggregate f a) ∙ ap size_at (expr.outs-Aggregate f a)

clause_Condition : (e : Expr) → clause_size (clause.Condition e) ≡ size e
unfolding clause_size_at
clause_Condition e = clause_size_is (clause.Condition e)
    ∙ ap clause_size_at (clause.outs-Condition e)

selected_Items : (items : List Item)
    → selected_size (selected.Items items) ≡ total (map item_size items)
unfolding selected_size_at
selected_Items items = selected_size_is (selected.Items items)
    ∙ ap selected_size_at (selected.outs-Items items)

pub clause_falls : (c : Clause) (e : Expr) → c ≡ clause.Condition e → clause_size c ≡ size e
clause_falls c e is = ap clause_size is ∙ clause_Condition e

pub selected_falls : (s : Selected) (items : List Item) → s ≡ selected.Items items
    → selected_size s ≡ total (map item_size items)
selected_falls s items is = ap selected_size is ∙ selected_Items items

pub derived_falls : (i : FromItem) (q : Block) (alias : Name) (names : List Name)
    → i ≡ from_item.Derived q alias names → from_item_size i ≡ block_size q
unfolding from_item_size_at
derived_falls i q alias names is = ap from_item_size is ∙ from_item_size_is _
    ∙ ap from_item_size_at (from_item.outs-Derived q alias names)

pub lateral_falls : (i : FromItem) (q : Block) (alias : Name) (names : List Name)
    → i ≡ from_item.Lateral q alias names → from_item_size i ≡ block_size q
unfolding from_item_size_at
lateral_falls i q alias names is = ap from_item_size is ∙ from_item_size_is _
    ∙ ap from_item_size_at (from_item.outs-Lateral q alias names)

pub term_size_of : (t : Term) → term_size t ≡ size (out-Term t).value
unfolding term_size_at
term_size_of t = term_size_is t

pub factor_size_of : (f : Factor) → factor_size f ≡ size (out-Factor f).value
unfolding factor_size_at
factor_size_of f = factor_size_is f

pub arm_size_of : (a : Arm) → arm_size a ≡ size (out-Arm a).condition + size (out-Arm a).value
unfolding arm_size_at
arm_size_of a = arm_size_is a

pub item_size_of : (i : Item) → item_size i ≡ size (out-Item i).value
unfolding item_size_at
item_size_of i = item_size_is i

pub join_size_of : (j : Join)
    → join_size j ≡ from_item_size (out-Join j).item + size (out-Join j).condition
unfolding join_size_at
join_size_of j = join_size_is j

pub joined_size_of : (j : Joined)
    → joined_size j ≡ from_item_size (out-Joined j).first
    + total (map join_size (out-Joined j).joins)
unfolding joined_size_at
joined_size_of j = joined_size_is j

pub select_size_of : (q : Select)
    → select_size q ≡ 1 + selected_size (out-Select q).selected
    + total (map joined_size (out-Select q).from) + clause_size (out-Select q).condition
    + clause_size (out-Select q).having
unfolding select_size_at
select_size_of q = select_size_is q

pub set_part_size_of : (p : SetPart) → set_part_size p ≡ block_size (out-SetPart p).query
unfolding set_part_size_at
set_part_size_of p = set_part_size_is p

pub size_Select : (q : Select) → block_size (block.Select q) ≡ select_size q
unfolding block_size_at
size_Select q = block_size_is (block.Select q) ∙ ap block_size_at (block.outs-Select q)

pub size_Combined : (first : Block) (parts : List SetPart)
    → block_size (block.Combined first parts)
    ≡ 1 + block_size first + total (map set_part_size parts)
unfolding block_size_at
size_Combined first parts = block_size_is (block.Combined first parts)
    ∙ ap block_size_at (block.outs-Combined first parts)

pub select_of : (q : Block) (s : Select) → q ≡ block.Select s → select_size s ≡ block_size q
select_of q s is = let e : block_size q ≡ select_size s = ap block_size is ∙ size_Select s in
    omega (arith, e)

pub first_of : (q first : Block) (parts : List SetPart) → q ≡ block.Combined first parts
    → block_size first < block_size q
first_of q first parts is = let s : block_size q
    ≡ 1 + block_size first + total (map set_part_size parts) = ap block_size is
    ∙ size_Combined first parts in omega (arith, s)

pub parts_of : (q first : Block) (parts : List SetPart) → q ≡ block.Combined first parts
    → total (map set_part_size parts) < block_size q
parts_of q first parts is = let s : block_size q
    ≡ 1 + block_size first + total (map set_part_size parts) = ap block_size is
    ∙ size_Combined first parts in omega (arith, s)

pub a_of_Negative : (e : Expr) (a : Expr) → e ≡ expr.Negative a → size a < size e
a_of_Negative e a is = let s : size e ≡ 1 + size a = ap size is ∙ size_Negative a in
    omega (arith, s)

pub a_of_Sum : (e : Expr) (a : Expr) (terms : List Term) → e ≡ expr.Sum a terms → size a < size e
a_of_Sum e a terms is = let s : size e
    ≡ 1 + size a + total (map term_size terms) = ap size is ∙ size_Sum a terms in omega (arith, s)

pub terms_of_Sum : (e : Expr) (a : Expr) (terms : List Term) → e ≡ expr.Sum a terms
    → total (map term_size terms) < size e
terms_of_Sum e a terms is = let s : size e
    ≡ 1 + size a + total (map term_size terms) = ap size is ∙ size_Sum a terms in omega (arith, s)

pub a_of_Product : (e : Expr) (a : Expr) (factors : List Factor) → e ≡ expr.Product a factors
    → size a < size e
a_of_Product e a factors is = let s : size e
    ≡ 1 + size a + total (map factor_size factors) = ap size is ∙ size_Product a factors in
    omega (arith, s)

pub factors_of_Product : (e : Expr) (a : Expr) (factors : List Factor) → e ≡ expr.Product a factors
    → total (map factor_size factors) < size e
factors_of_Product e a factors is = let s : size e
    ≡ 1 + size a + total (map factor_size factors) = ap size is ∙ size_Product a factors in
    omega (arith, s)

pub a_of_Compare : (e : Expr) (c : Comparison) (a : Expr) (b : Expr) → e ≡ expr.Compare c a b
    → size a < size e
a_of_Compare e c a b is = let s : size e ≡ 1 + size a + size b = ap size is ∙ size_Compare c a b in
    omega (arith, s)

pub b_of_Compare : (e : Expr) (c : Comparison) (a : Expr) (b : Expr) → e ≡ expr.Compare c a b
    → size b < size e
b_of_Compare e c a b is = let s : size e ≡ 1 + size a + size b = ap size is ∙ size_Compare c a b in
    omega (arith, s)

pub a_of_IsNull : (e : Expr) (a : Expr) → e ≡ expr.IsNull a → size a < size e
a_of_IsNull e a is = let s : size e ≡ 1 + size a = ap size is ∙ size_IsNull a in omega (arith, s)

pub a_of_Between : (e : Expr) (a : Expr) (low : Expr) (high : Expr) → e ≡ expr.Between a low high
    → size a < size e
a_of_Between e a low high is = let s : size e
    ≡ 1 + size a + size low + size high = ap size is ∙ size_Between a low high in omega (arith, s)

pub low_of_Between : (e : Expr) (a : Expr) (low : Expr) (high : Expr) → e ≡ expr.Between a low high
    → size low < size e
low_of_Between e a low high is = let s : size e
    ≡ 1 + size a + size low + size high = ap size is ∙ size_Between a low high in omega (arith, s)

pub high_of_Between : (e : Expr) (a : Expr) (low : Expr) (high : Expr) → e ≡ expr.Between a low high
    → size high < size e
high_of_Between e a low high is = let s : size e
    ≡ 1 + size a + size low + size high = ap size is ∙ size_Between a low high in omega (arith, s)

pub a_of_Like : (e : Expr) (a : Expr) (pattern : Name) → e ≡ expr.Like a pattern → size a < size e
a_of_Like e a pattern is = let s : size e ≡ 1 + size a = ap size is ∙ size_Like a pattern in
    omega (arith, s)

pub a_of_InList : (e : Expr) (a : Expr) (list : List Expr) → e ≡ expr.InList a list
    → size a < size e
a_of_InList e a list is = let s : size e
    ≡ 1 + size a + total (map size list) = ap size is ∙ size_InList a list in omega (arith, s)

pub list_of_InList : (e : Expr) (a : Expr) (list : List Expr) → e ≡ expr.InList a list
    → total (map size list) < size e
list_of_InList e a list is = let s : size e
    ≡ 1 + size a + total (map size list) = ap size is ∙ size_InList a list in omega (arith, s)

pub a_of_CompareQuery : (e : Expr) (c : Comparison) (k : Quantifier) (a : Expr) (q : Block)
    → e ≡ expr.CompareQuery c k a q → size a < size e
a_of_CompareQuery e c k a q is = let s : size e
    ≡ 1 + size a + block_size q = ap size is ∙ size_CompareQuery c k a q in omega (arith, s)

pub q_of_CompareQuery : (e : Expr) (c : Comparison) (k : Quantifier) (a : Expr) (q : Block)
    → e ≡ expr.CompareQuery c k a q → block_size q < size e
q_of_CompareQuery e c k a q is = let s : size e
    ≡ 1 + size a + block_size q = ap size is ∙ size_CompareQuery c k a q in omega (arith, s)

pub a_of_InQuery : (e : Expr) (a : Expr) (q : Block) → e ≡ expr.InQuery a q → size a < size e
a_of_InQuery e a q is = let s : size e
    ≡ 1 + size a + block_size q = ap size is ∙ size_InQuery a q in omega (arith, s)

pub q_of_InQuery : (e : Expr) (a : Expr) (q : Block) → e ≡ expr.InQuery a q → block_size q < size e
q_of_InQuery e a q is = let s : size e
    ≡ 1 + size a + block_size q = ap size is ∙ size_InQuery a q in omega (arith, s)

pub q_of_Exists : (e : Expr) (q : Block) → e ≡ expr.Exists q → block_size q < size e
q_of_Exists e q is = let s : size e ≡ 1 + block_size q = ap size is ∙ size_Exists q in
    omega (arith, s)

pub q_of_Scalar : (e : Expr) (q : Block) → e ≡ expr.Scalar q → block_size q < size e
q_of_Scalar e q is = let s : size e ≡ 1 + block_size q = ap size is ∙ size_Scalar q in
    omega (arith, s)

pub a_of_Not : (e : Expr) (a : Expr) → e ≡ expr.Not a → size a < size e
a_of_Not e a is = let s : size e ≡ 1 + size a = ap size is ∙ size_Not a in omega (arith, s)

pub a_of_And : (e : Expr) (a : Expr) (rest : List Expr) → e ≡ expr.And a rest → size a < size e
a_of_And e a rest is = let s : size e
    ≡ 1 + size a + total (map size rest) = ap size is ∙ size_And a rest in omega (arith, s)

pub rest_of_And : (e : Expr) (a : Expr) (rest : List Expr) → e ≡ expr.And a rest
    → total (map size rest) < size e
rest_of_And e a rest is = let s : size e
    ≡ 1 + size a + total (map size rest) = ap size is ∙ size_And a rest in omega (arith, s)

pub a_of_Or : (e : Expr) (a : Expr) (rest : List Expr) → e ≡ expr.Or a rest → size a < size e
a_of_Or e a rest is = let s : size e
    ≡ 1 + size a + total (map size rest) = ap size is ∙ size_Or a rest in omega (arith, s)

pub rest_of_Or : (e : Expr) (a : Expr) (rest : List Expr) → e ≡ expr.Or a rest
    → total (map size rest) < size e
rest_of_Or e a rest is = let s : size e
    ≡ 1 + size a + total (map size rest) = ap size is ∙ size_Or a rest in omega (arith, s)

pub arms_of_Case : (e : Expr) (arms : List Arm) → e ≡ expr.Case arms
    → total (map arm_size arms) < size e
arms_of_Case e arms is = let s : size e
    ≡ 1 + total (map arm_size arms) = ap size is ∙ size_Case arms in omega (arith, s)

pub arms_of_CaseElse : (e : Expr) (arms : List Arm) (other : Expr) → e ≡ expr.CaseElse arms other
    → total (map arm_size arms) < size e
arms_of_CaseElse e arms other is = let s : size e
    ≡ 1 + total (map arm_size arms) + size other = ap size is ∙ size_CaseElse arms other in
    omega (arith, s)

pub other_of_CaseElse : (e : Expr) (arms : List Arm) (other : Expr) → e ≡ expr.CaseElse arms other
    → size other < size e
other_of_CaseElse e arms other is = let s : size e
    ≡ 1 + total (map arm_size arms) + size other = ap size is ∙ size_CaseElse arms other in
    omega (arith, s)

pub a_of_Extract : (e : Expr) (s : Span) (a : Expr) → e ≡ expr.Extract s a → size a < size e
a_of_Extract e s a is = let s : size e ≡ 1 + size a = ap size is ∙ size_Extract s a in
    omega (arith, s)

pub a_of_Substring : (e : Expr) (a : Expr) (from : ℕ) (count : ℕ) → e ≡ expr.Substring a from count
    → size a < size e
a_of_Substring e a from count is = let s : size e
    ≡ 1 + size a = ap size is ∙ size_Substring a from count in omega (arith, s)

pub a_of_Count : (e : Expr) (a : Expr) → e ≡ expr.Count a → size a < size e
a_of_Count e a is = let s : size e ≡ 1 + size a = ap size is ∙ size_Count a in omega (arith, s)

pub a_of_CountDistinct : (e : Expr) (a : Expr) → e ≡ expr.CountDistinct a → size a < size e
a_of_CountDistinct e a is = let s : size e ≡ 1 + size a = ap size is ∙ size_CountDistinct a in
    omega (arith, s)

pub a_of_Aggregate : (e : Expr) (f : Aggregate) (a : Expr) → e ≡ expr.Aggregate f a
    → size a < size e
a_of_Aggregate e f a is = let s : size e ≡ 1 + size a = ap size is ∙ size_Aggregate f a in
    omega (arith, s)
