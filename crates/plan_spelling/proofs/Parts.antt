-- Expressions, branches and operations from their spellings.
use Rattle.std.proofs.Common.{◌≡◌, ℕ, List, [], ◌∷◌, ◌++◌, map, refl, ap, sym, ◌∙◌, take, drop, length}
use Rattle.std.proofs.lemmas.List.{take_at, drop_at}
use Rattle.std.specs.Prelude.{◌==◌, if◌then◌else◌, Option, None, Some, option_map}
use Rattle.base_value.specs.declared.value.Value.{Value}
use Rattle.expr_operators.specs.declared.operator.Comparison.{Comparison}
use Rattle.expr_operators.specs.declared.operator.DatePart.{DatePart}
use Rattle.expr_scalar.specs.declared.expr.Branch.{Branch}
use Rattle.expr_scalar.specs.declared.expr.Expr.{Expr}
use Rattle.expr_scalar.specs.declared.expr.Expr.TheVariants as e
use Rattle.expr_scalar.specs.declared.expr.Operation.{Operation}
use Rattle.expr_scalar.proofs.Induction.{exprs, branches, operations, induction}
use Rattle.base_schema.specs.Tables.{table_name, table_of}
use Rattle.base_schema.specs.declared.table.TableName.{TableName}
use Rattle.base_schema.specs.declared.table.TableName.TheVariants as t
use Rattle.plan_algebra.specs.declared.aggregate.Aggregate.{Aggregate}
use Rattle.plan_algebra.specs.declared.aggregate.Aggregate.TheVariants.{CountRows, Of}
use Rattle.expr_aggregates.specs.declared.function.AggregateFunction.TheVariants.{Count, Sum}
use Rattle.plan_algebra.specs.declared.kept_plan.KeptAggregate.{KeptAggregate}
use Rattle.plan_algebra.specs.declared.kept_plan.KeptAggregate.TheVariants as kept
use Rattle.plan_algebra.specs.declared.kept_plan.KeptPlan.{KeptPlan}
use Rattle.plan_algebra.specs.declared.node.Node.{Node}
use Rattle.plan_algebra.specs.declared.node.Node.TheVariants as n
use Rattle.plan_algebra.specs.KeptPlans.{plain_aggregate}
use Rattle.plan_spelling.specs.Plans.{aggregate_spelling, function_number, kept_numbers, node_spelling, operation_number, pair_numbers, value_spelling}
use Rattle.plan_spelling.specs.Exprs.{arithmetic_number, branch_spelling, comparison_number, expr_spelling, operation_spelling, part_number, spelled, value_numbers}
use Rattle.plan_spelling.proofs.Opened.{spelling_Branch, spelling_Operation, spelling_Column, spelling_Literal, spelling_Negative, spelling_Arithmetic, spelling_Case, spelling_Extract, spelling_Substring, spelling_Compare, spelling_Between, spelling_Like, spelling_InList, spelling_IsNull, spelling_Not, spelling_All, spelling_Any, spelling_IsMarked}
use Rattle.plan_spelling.proofs.NodeSteps.{spelled_Kept, spelled_Scan, spelled_Domain, spelled_Select, spelled_Project, spelled_Join, spelled_Outer, spelled_Mark, spelled_Single, spelled_Group, spelled_Fill, spelled_Distinct, spelled_Set}
use Rattle.plan_spelling.proofs.Readback.{arithmetic_of, arithmetic_back, comparison_of, comparison_back, part_of, part_back, value_of, value_back, function_of, function_back, set_operation_of, set_operation_back, pairs_of, pairs_back}

pub data Part : Type 0 where
  expr : Expr → Part
  branch : Branch → Part
  operation : Operation → Part
  aggregate : Aggregate → Part
  value : Value → Part
  node : Node → Part

abbrev pub part_spelling : Part → List ℕ
part_spelling (expr a) = expr_spelling a
part_spelling (branch b) = branch_spelling b
part_spelling (operation o) = operation_spelling o
part_spelling (aggregate a) = aggregate_spelling a
part_spelling (value x) = value_spelling x
part_spelling (node n) = node_spelling n

-- what parts are rebuilt to, where they are of the right kinds

abbrev expr_of : Part → Option Expr
expr_of (expr a) = Some a
expr_of p = None

abbrev branch_of : Part → Option Branch
branch_of (branch b) = Some b
branch_of p = None

abbrev operation_of : Part → Option Operation
operation_of (operation o) = Some o
operation_of p = None

abbrev aggregate_of : Part → Option Aggregate
aggregate_of (aggregate a) = Some a
aggregate_of p = None

abbrev value_part : Part → Option Value
value_part (value x) = Some x
value_part p = None

abbrev put_before : {A : Type 0} → Option A → Option (List A) → Option (List A)
put_before (Some a) (Some us) = Some (a ∷ us)
put_before (Some a) None = None
put_before None us = None

abbrev all_of : {A : Type 0} → (Part → Option A) → List Part → Option (List A)
all_of g [] = Some []
all_of g (p ∷ ps) = put_before (g p) (all_of g ps)

abbrev exprs_of : List Part → Option (List Expr)
exprs_of = all_of expr_of

abbrev branches_of : List Part → Option (List Branch)
branches_of = all_of branch_of

abbrev operations_of : List Part → Option (List Operation)
operations_of = all_of operation_of

abbrev leaf : Part → List Part → Option Part
leaf p [] = Some p
leaf p (q ∷ ps) = None

abbrev one : (Expr → Part) → List Part → Option Part
one g (expr a ∷ []) = Some (g a)
one g ps = None

abbrev two : (Expr → Expr → Part) → List Part → Option Part
two g (expr a ∷ expr b ∷ []) = Some (g a b)
two g ps = None

abbrev three : (Expr → Expr → Expr → Part) → List Part → Option Part
three g (expr a ∷ expr b ∷ expr d ∷ []) = Some (g a b d)
three g ps = None

abbrev many : (List Expr → Expr) → List Part → Option Part
many g ps = option_map (λ us. expr (g us)) (exprs_of ps)

abbrev listed : List Part → Option Part
listed (expr a ∷ ps) = option_map (λ us. expr (e.InList a us)) (exprs_of ps)
listed ps = None

abbrev chained : List Part → Option Part
chained (expr a ∷ ps) = option_map (λ os. expr (e.Arithmetic a os)) (operations_of ps)
chained ps = None

abbrev cased : List ℕ → List Part → Option Part
cased (scale ∷ []) (expr a ∷ ps) = option_map (λ bs. expr (e.Case scale bs a)) (branches_of ps)
cased ns ps = None

abbrev column : List ℕ → List Part → Option Part
column (place ∷ []) ps = leaf (expr (e.Column place)) ps
column ns ps = None

abbrev literal : Option Value → List Part → Option Part
literal (Some x) ps = leaf (expr (e.Literal x)) ps
literal None ps = None

abbrev extracted : List ℕ → List Part → Option Part
extracted (n ∷ []) ps = one (λ a. expr (e.Extract (part_of n) a)) ps
extracted ns ps = None

abbrev shortened : List ℕ → List Part → Option Part
shortened (from ∷ count ∷ []) ps = one (λ a. expr (e.Substring a from count)) ps
shortened ns ps = None

abbrev compared : List ℕ → List Part → Option Part
compared (n ∷ []) ps = two (λ a b. expr (e.Compare (comparison_of n) a b)) ps
compared ns ps = None

abbrev operated : List ℕ → List Part → Option Part
operated (n ∷ []) ps = one (λ a. operation (record { operator = arithmetic_of n; operand = a })) ps
operated ns ps = None

abbrev few : ℕ → List ℕ → List Part → Option Part
few tag ns ps =
    if tag == 0 then column ns ps else (if tag == 1 then literal (value_of ns) ps else (if tag == 2 then one (λ a. expr (e.Negative a)) ps else (if tag == 3 then chained ps else (if tag == 4 then cased ns ps else (if tag == 5 then extracted ns ps else (if tag == 6 then shortened ns ps else (if tag == 7 then compared ns ps else None)))))))

abbrev more : ℕ → List ℕ → List Part → Option Part
more tag ns ps =
    if tag == 8 then three (λ a b d. expr (e.Between a b d)) ps else (if tag == 9 then one (λ a. expr (e.Like a ns)) ps else (if tag == 10 then listed ps else (if tag == 11 then one (λ a. expr (e.IsNull a)) ps else (if tag == 12 then one (λ a. expr (e.Not a)) ps else (if tag == 13 then many e.All ps else (if tag == 14 then many e.Any ps else (if tag == 15 then one (λ a. expr (e.IsMarked a)) ps else (if tag == 16 then two (λ a b. branch (record { when = a; gives = b })) ps else (if tag == 17 then operated ns ps else None)))))))))

abbrev scanned : Option TableName → List Part → Option Part
scanned (Some table) ps = leaf (node (n.Scan table)) ps
scanned None ps = None

abbrev summed : List ℕ → List Part → Option Part
summed (f ∷ scale ∷ []) ps = one (λ a. aggregate (Of (function_of f) scale a)) ps
summed ns ps = None

abbrev constant : Option Value → List Part → Option Part
constant (Some x) ps = leaf (value x) ps
constant None ps = None

abbrev over_one : (ℕ → List ℕ → List Part → Option Part) → List ℕ → List Part → Option Part
over_one g [] ps = None
over_one g (i ∷ ns) ps = g i ns ps

abbrev over_two : (ℕ → ℕ → List ℕ → List Part → Option Part) → List ℕ → List Part → Option Part
over_two g (i ∷ j ∷ ns) ps = g i j ns ps
over_two g ns ps = None

abbrev over_three : (ℕ → ℕ → ℕ → List ℕ → List Part → Option Part) → List ℕ → List Part → Option Part
over_three g (i ∷ j ∷ k ∷ ns) ps = g i j k ns ps
over_three g ns ps = None

abbrev nodes : ℕ → List ℕ → List Part → Option Part
nodes tag ns ps =
    if tag == 18 then leaf (aggregate CountRows) ps else (if tag == 19 then summed ns ps else (if tag == 20 then constant (value_of ns) ps else (if tag == 21 then scanned (table_of ns) ps else (if tag == 22 then over_one (λ i cs. leaf (node (n.Domain i cs))) ns ps else (if tag == 23 then over_one (λ i rest. one (λ a. node (n.Select i a))) ns ps else (if tag == 24 then over_one (λ i rest ps. option_map (λ us. node (n.Project i us)) (exprs_of ps)) ns ps else None))))))

-- a kept aggregate, of an aggregate
abbrev kept_of : Aggregate → Option KeptAggregate
kept_of CountRows = Some kept.CountRows
kept_of (Of Count scale a) = Some (kept.Count a)
kept_of (Of Sum scale a) = Some (kept.Sum scale a)
kept_of other = None

abbrev kept_part : Part → Option KeptAggregate
kept_part (aggregate a) = kept_of a
kept_part other = None

abbrev kept_made : ℕ → List ℕ → List ℕ → Option TableName → Expr → Option (List KeptAggregate) → Option Part
kept_made number by list (Some t) c (Some us) = Some (node (n.Kept number (record { table = t; condition = c; by = by; aggregates = us; list = list })))
kept_made number by list t c us = None

abbrev kept_read : ℕ → ℕ → ℕ → List ℕ → List Part → Option Part
kept_read number m k ns (expr c ∷ ps) =
    kept_made number (take m ns) (take k (drop m ns)) (table_of (drop k (drop m ns))) c (all_of kept_part ps)
kept_read number m k ns ps = None

abbrev joins : ℕ → List ℕ → List Part → Option Part
joins tag ns ps =
    if tag == 25 then over_two (λ i j rest. one (λ a. node (n.Join i j (pairs_of rest) a))) ns ps else (if tag == 26 then over_three (λ i j k rest. one (λ a. node (n.Outer i j (pairs_of rest) k a))) ns ps else (if tag == 27 then over_two (λ i j rest. one (λ a. node (n.Mark i j (pairs_of rest) a))) ns ps else (if tag == 28 then over_three (λ i j k rest. leaf (node (n.Single i j (pairs_of rest) k))) ns ps else (if tag == 29 then over_one (λ i by ps. option_map (λ us. node (n.Group i by us)) (all_of aggregate_of ps)) ns ps else (if tag == 30 then over_two (λ i j rest ps. option_map (λ xs. node (n.Fill i j xs)) (all_of value_part ps)) ns ps else (if tag == 31 then over_one (λ i rest. leaf (node (n.Distinct i))) ns ps else (if tag == 32 then over_three (λ i j k rest. leaf (node (n.Set i j (set_operation_of k)))) ns ps else (if tag == 33 then over_three kept_read ns ps else None))))))))

abbrev or_else : Option Part → Option Part → Option Part
or_else (Some p) other = Some p
or_else None other = other

abbrev pub rebuilt : List ℕ → List Part → Option Part
rebuilt [] ps = None
rebuilt (tag ∷ ns) ps = or_else (few tag ns ps) (or_else (more tag ns ps) (or_else (nodes tag ns ps) (joins tag ns ps)))

pub all_back : {A : Type 0} (g : Part → Option A) (f : A → Part) → ((a : A) → g (f a) ≡ Some a) → (us : List A) → all_of g (map f us) ≡ Some us
all_back g f back [] = refl
all_back g f back (a ∷ us) = ap (λ o. put_before o (all_of g (map f us))) (back a) ∙ ap (put_before (Some a)) (all_back g f back us)

pub exprs_back : (us : List Expr) → exprs_of (map expr us) ≡ Some us
exprs_back = all_back expr_of expr (λ a. refl)

pub branches_back : (bs : List Branch) → branches_of (map branch bs) ≡ Some bs
branches_back = all_back branch_of branch (λ b. refl)

pub operations_back : (os : List Operation) → operations_of (map operation os) ≡ Some os
operations_back = all_back operation_of operation (λ o. refl)

pub all_spelled : {A : Type 0} (g : A → List ℕ) (f : A → Part) → ((a : A) → part_spelling (f a) ≡ g a) → (us : List A) → map part_spelling (map f us) ≡ map g us
all_spelled g f is [] = refl
all_spelled g f is (a ∷ us) = ap (λ x. x ∷ map part_spelling (map f us)) (is a) ∙ ap (λ l. g a ∷ l) (all_spelled g f is us)

pub exprs_spelled : (us : List Expr) → map part_spelling (map expr us) ≡ map expr_spelling us
exprs_spelled = all_spelled expr_spelling expr (λ a. refl)

pub branches_spelled : (bs : List Branch) → map part_spelling (map branch bs) ≡ map branch_spelling bs
branches_spelled = all_spelled branch_spelling branch (λ b. refl)

pub operations_spelled : (os : List Operation) → map part_spelling (map operation os) ≡ map operation_spelling os
operations_spelled = all_spelled operation_spelling operation (λ o. refl)

-- what a part is, and the parts below it, from which it is rebuilt
pub record Described (p : Part) : Type 0 where
  pub what : List ℕ
  pub below : List Part
  pub is : part_spelling p ≡ spelled what (map part_spelling below)
  pub back : rebuilt what below ≡ Some p

abbrev pub a_column : (place : ℕ) → Described (expr (e.Column place))
a_column place = record { what = 0 ∷ place ∷ []; below = []; is = spelling_Column place; back = refl }

abbrev pub a_literal : (x : Value) → Described (expr (e.Literal x))
a_literal x = record {
  what = 1 ∷ value_numbers x;
  below = [];
  is = spelling_Literal x;
  back = ap (λ o. or_else (literal o []) None) (value_back x);
}

abbrev pub a_negative : (a : Expr) → Described (expr (e.Negative a))
a_negative a = record { what = 2 ∷ []; below = expr a ∷ []; is = spelling_Negative a; back = refl }

abbrev pub a_chain : (a : Expr) (os : List Operation) → Described (expr (e.Arithmetic a os))
a_chain a os = record {
  what = 3 ∷ [];
  below = expr a ∷ map operation os;
  is = spelling_Arithmetic a os ∙ ap (λ l. spelled (3 ∷ []) (expr_spelling a ∷ l)) (sym (operations_spelled os));
  back = ap (λ o. or_else (option_map (λ xs. expr (e.Arithmetic a xs)) o) None) (operations_back os);
}

abbrev pub a_case : (scale : ℕ) (bs : List Branch) (a : Expr) → Described (expr (e.Case scale bs a))
a_case scale bs a = record {
  what = 4 ∷ scale ∷ [];
  below = expr a ∷ map branch bs;
  is = spelling_Case scale bs a ∙ ap (λ l. spelled (4 ∷ scale ∷ []) (expr_spelling a ∷ l)) (sym (branches_spelled bs));
  back = ap (λ o. or_else (option_map (λ xs. expr (e.Case scale xs a)) o) None) (branches_back bs);
}

abbrev pub an_extract : (part : DatePart) (a : Expr) → Described (expr (e.Extract part a))
an_extract part a = record {
  what = 5 ∷ part_number part ∷ [];
  below = expr a ∷ [];
  is = spelling_Extract part a;
  back = ap (λ p. Some (expr (e.Extract p a))) (part_back part);
}

abbrev pub a_substring : (a : Expr) (from count : ℕ) → Described (expr (e.Substring a from count))
a_substring a from count = record { what = 6 ∷ from ∷ count ∷ []; below = expr a ∷ []; is = spelling_Substring a from count; back = refl }

abbrev pub a_comparison : (c : Comparison) (a b : Expr) → Described (expr (e.Compare c a b))
a_comparison c a b = record {
  what = 7 ∷ comparison_number c ∷ [];
  below = expr a ∷ expr b ∷ [];
  is = spelling_Compare c a b;
  back = ap (λ d. Some (expr (e.Compare d a b))) (comparison_back c);
}

abbrev pub a_between : (a b d : Expr) → Described (expr (e.Between a b d))
a_between a b d = record { what = 8 ∷ []; below = expr a ∷ expr b ∷ expr d ∷ []; is = spelling_Between a b d; back = refl }

abbrev pub a_like : (a : Expr) (pattern : List ℕ) → Described (expr (e.Like a pattern))
a_like a pattern = record { what = 9 ∷ pattern; below = expr a ∷ []; is = spelling_Like a pattern; back = refl }

abbrev pub a_list : (a : Expr) (us : List Expr) → Described (expr (e.InList a us))
a_list a us = record {
  what = 10 ∷ [];
  below = expr a ∷ map expr us;
  is = spelling_InList a us ∙ ap (λ l. spelled (10 ∷ []) (expr_spelling a ∷ l)) (sym (exprs_spelled us));
  back = ap (λ o. or_else (option_map (λ xs. expr (e.InList a xs)) o) None) (exprs_back us);
}

abbrev pub a_null_test : (a : Expr) → Described (expr (e.IsNull a))
a_null_test a = record { what = 11 ∷ []; below = expr a ∷ []; is = spelling_IsNull a; back = refl }

abbrev pub a_not : (a : Expr) → Described (expr (e.Not a))
a_not a = record { what = 12 ∷ []; below = expr a ∷ []; is = spelling_Not a; back = refl }

abbrev pub an_all : (us : List Expr) → Described (expr (e.All us))
an_all us = record {
  what = 13 ∷ [];
  below = map expr us;
  is = spelling_All us ∙ ap (spelled (13 ∷ [])) (sym (exprs_spelled us));
  back = ap (λ o. or_else (option_map (λ xs. expr (e.All xs)) o) None) (exprs_back us);
}

abbrev pub an_any : (us : List Expr) → Described (expr (e.Any us))
an_any us = record {
  what = 14 ∷ [];
  below = map expr us;
  is = spelling_Any us ∙ ap (spelled (14 ∷ [])) (sym (exprs_spelled us));
  back = ap (λ o. or_else (option_map (λ xs. expr (e.Any xs)) o) None) (exprs_back us);
}

abbrev pub a_mark_test : (a : Expr) → Described (expr (e.IsMarked a))
a_mark_test a = record { what = 15 ∷ []; below = expr a ∷ []; is = spelling_IsMarked a; back = refl }

abbrev pub a_branch : (b : Branch) → Described (branch b)
a_branch b = record { what = 16 ∷ []; below = expr b.when ∷ expr b.gives ∷ []; is = spelling_Branch b; back = refl }

abbrev pub an_operation : (o : Operation) → Described (operation o)
an_operation o = record {
  what = 17 ∷ arithmetic_number o.operator ∷ [];
  below = expr o.operand ∷ [];
  is = spelling_Operation o;
  back = ap (λ a. Some (operation (record { operator = a; operand = o.operand }))) (arithmetic_back o.operator);
}

abbrev pub an_aggregate : (a : Aggregate) → Described (aggregate a)
an_aggregate CountRows = record { what = 18 ∷ []; below = []; is = refl; back = refl }
an_aggregate (Of f scale a) = record {
  what = 19 ∷ function_number f ∷ scale ∷ [];
  below = expr a ∷ [];
  is = refl;
  back = ap (λ g. Some (aggregate (Of g scale a))) (function_back f);
}

abbrev pub a_value : (x : Value) → Described (value x)
a_value x = record {
  what = 20 ∷ value_numbers x;
  below = [];
  is = refl;
  back = ap (λ o. or_else (constant o []) None) (value_back x);
}

pub table_back : (t : TableName) → table_of (table_name t) ≡ Some t
table_back t.Region = refl
table_back t.Nation = refl
table_back t.Part = refl
table_back t.Supplier = refl
table_back t.Partsupp = refl
table_back t.Customer = refl
table_back t.Orders = refl
table_back t.Lineitem = refl

pub kept_back : (a : KeptAggregate) → kept_part (aggregate (plain_aggregate a)) ≡ Some a
kept_back kept.CountRows = refl
kept_back (kept.Count e) = refl
kept_back (kept.Sum scale e) = refl

-- the numbers of a kept plan, read back
pub kept_numbers_back : (number : ℕ) (plan : KeptPlan) (ps : List Part)
    → kept_read number (length plan.by) (length plan.list) (plan.by ++ (plan.list ++ table_name plan.table)) (expr plan.condition ∷ ps)
    ≡ kept_made number plan.by plan.list (Some plan.table) plan.condition (all_of kept_part ps)
kept_numbers_back number plan ps =
    let name = table_name plan.table in let rest = plan.list ++ name in let us = all_of kept_part ps in
    let m = length plan.by in let k = length plan.list in
    let first : take m (plan.by ++ rest) ≡ plan.by = take_at plan.by rest m refl in
    let after : drop m (plan.by ++ rest) ≡ rest = drop_at plan.by rest m refl in
    let shown : take k rest ≡ plan.list = take_at plan.list name k refl in
    let last : drop k rest ≡ name = drop_at plan.list name k refl in
    ap (λ y. kept_made number y (take k (drop m (plan.by ++ rest))) (table_of (drop k (drop m (plan.by ++ rest)))) plan.condition us) first
    ∙ ap (λ y. kept_made number plan.by (take k y) (table_of (drop k y)) plan.condition us) after
    ∙ ap (λ y. kept_made number plan.by y (table_of (drop k rest)) plan.condition us) shown
    ∙ ap (λ y. kept_made number plan.by plan.list (table_of y) plan.condition us) last
    ∙ ap (λ t. kept_made number plan.by plan.list t plan.condition us) (table_back plan.table)

abbrev pub a_node : (x : Node) → Described (node x)
a_node (n.Scan table) = record {
  what = 21 ∷ table_name table;
  below = [];
  is = spelled_Scan table;
  back = ap (λ o. or_else (scanned o []) None) (table_back table);
}
a_node (n.Domain i cs) = record { what = 22 ∷ i ∷ cs; below = []; is = spelled_Domain i cs; back = refl }
a_node (n.Select i a) = record { what = 23 ∷ i ∷ []; below = expr a ∷ []; is = spelled_Select i a; back = refl }
a_node (n.Project i us) = record {
  what = 24 ∷ i ∷ [];
  below = map expr us;
  is = spelled_Project i us ∙ ap (spelled (24 ∷ i ∷ [])) (sym (exprs_spelled us));
  back = ap (λ o. or_else (option_map (λ xs. node (n.Project i xs)) o) None) (exprs_back us);
}
a_node (n.Join i j matched a) = record {
  what = 25 ∷ i ∷ j ∷ pair_numbers matched;
  below = expr a ∷ [];
  is = spelled_Join i j matched a;
  back = ap (λ ps. Some (node (n.Join i j ps a))) (pairs_back matched);
}
a_node (n.Outer i j matched k a) = record {
  what = 26 ∷ i ∷ j ∷ k ∷ pair_numbers matched;
  below = expr a ∷ [];
  is = spelled_Outer i j matched k a;
  back = ap (λ ps. Some (node (n.Outer i j ps k a))) (pairs_back matched);
}
a_node (n.Mark i j matched a) = record {
  what = 27 ∷ i ∷ j ∷ pair_numbers matched;
  below = expr a ∷ [];
  is = spelled_Mark i j matched a;
  back = ap (λ ps. Some (node (n.Mark i j ps a))) (pairs_back matched);
}
a_node (n.Single i j matched k) = record {
  what = 28 ∷ i ∷ j ∷ k ∷ pair_numbers matched;
  below = [];
  is = spelled_Single i j matched k;
  back = ap (λ ps. Some (node (n.Single i j ps k))) (pairs_back matched);
}
a_node (n.Group i by us) = record {
  what = 29 ∷ i ∷ by;
  below = map aggregate us;
  is = spelled_Group i by us ∙ ap (spelled (29 ∷ i ∷ by)) (sym (all_spelled aggregate_spelling aggregate (λ a. refl) us));
  back = ap (option_map (λ xs. node (n.Group i by xs))) (all_back aggregate_of aggregate (λ a. refl) us);
}
a_node (n.Fill i j xs) = record {
  what = 30 ∷ i ∷ j ∷ [];
  below = map value xs;
  is = spelled_Fill i j xs ∙ ap (spelled (30 ∷ i ∷ j ∷ [])) (sym (all_spelled value_spelling value (λ x. refl) xs));
  back = ap (option_map (λ ys. node (n.Fill i j ys))) (all_back value_part value (λ x. refl) xs);
}
a_node (n.Distinct i) = record { what = 31 ∷ i ∷ []; below = []; is = spelled_Distinct i; back = refl }
a_node (n.Set i j o) = record {
  what = 32 ∷ i ∷ j ∷ operation_number o ∷ [];
  below = [];
  is = spelled_Set i j o;
  back = ap (λ k. Some (node (n.Set i j k))) (set_operation_back o);
}
a_node (n.Kept number plan) = record {
  what = 33 ∷ number ∷ kept_numbers plan;
  below = expr plan.condition ∷ map (λ a. aggregate (plain_aggregate a)) plan.aggregates;
  is = spelled_Kept number plan
      ∙ ap (λ l. spelled (33 ∷ number ∷ kept_numbers plan) (expr_spelling plan.condition ∷ l))
      (sym (all_spelled (λ a. aggregate_spelling (plain_aggregate a)) (λ a. aggregate (plain_aggregate a)) (λ a. refl) plan.aggregates));
  back = kept_numbers_back number plan (map (λ a. aggregate (plain_aggregate a)) plan.aggregates)
      ∙ ap (kept_made number plan.by plan.list (Some plan.table) plan.condition)
      (all_back kept_part (λ a. aggregate (plain_aggregate a)) kept_back plan.aggregates);
}

pub described : (p : Part) → Described p
described (expr x) =
    induction (λ a. Described (expr a)) (λ b. Unit {0}) (λ o. Unit {0}) (record {
      column = a_column;
      literal = a_literal;
      negative = λ a is. a_negative a;
      arithmetic = λ a is os. a_chain a (operations {R = λ o. Unit {0}} os);
      case = λ scale bs a is. a_case scale (branches {Q = λ b. Unit {0}} bs) a;
      extract = λ part a is. an_extract part a;
      substring = λ a is from count. a_substring a from count;
      compare = λ c a is b also. a_comparison c a b;
      between = λ a is b also d too. a_between a b d;
      like = λ a is pattern. a_like a pattern;
      in_list = λ a is es. a_list a (exprs {P = λ a. Described (expr a)} es);
      is_null = λ a is. a_null_test a;
      not = λ a is. a_not a;
      all = λ es. an_all (exprs {P = λ a. Described (expr a)} es);
      any = λ es. an_any (exprs {P = λ a. Described (expr a)} es);
      is_marked = λ a is. a_mark_test a;
      branch = λ a b is also. tt;
      operation = λ a b is. tt;
    }) x
described (branch b) = a_branch b
described (operation o) = an_operation o
described (aggregate a) = an_aggregate a
described (value x) = a_value x
described (node x) = a_node x
