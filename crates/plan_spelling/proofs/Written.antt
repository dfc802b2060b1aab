-- Spellings as they are appended, piece by piece.
use Rattle.std.proofs.Common.{◌≡◌, ℕ, suc, ◌+◌, ◌*◌, List, [], ◌∷◌, ◌++◌, map, length, refl, ap, sym, ◌∙◌, append_assoc, append-nil, arith}
use Rattle.std.specs.List.{flat_map}
use Rattle.std.proofs.lemmas.List.{length-append}
use Rattle.base_value.specs.declared.value.Value.{Value}
use Rattle.expr_scalar.specs.declared.expr.Branch.{Branch}
use Rattle.expr_scalar.specs.declared.expr.Expr.{Expr}
use Rattle.expr_scalar.specs.declared.expr.Expr.TheVariants as e
use Rattle.expr_scalar.specs.declared.expr.Operation.{Operation}
use Rattle.plan_algebra.specs.declared.aggregate.Aggregate.{Aggregate}
use Rattle.plan_algebra.specs.declared.kept_plan.KeptPlan.{KeptPlan}
use Rattle.plan_algebra.specs.declared.node.Node.{Node}
use Rattle.plan_algebra.specs.declared.node.Node.TheVariants as n
use Rattle.base_schema.specs.Tables.{table_name}
use Rattle.base_schema.specs.declared.table.TableName.{TableName}
use Rattle.plan_spelling.proofs.NodeSteps.{spelled_Kept, spelled_Scan, spelled_Domain, spelled_Select, spelled_Project, spelled_Join, spelled_Outer, spelled_Mark, spelled_Single, spelled_Group, spelled_Fill, spelled_Distinct, spelled_Set}
use Rattle.plan_spelling.specs.Exprs.{branch_spelling, expr_spelling, operation_spelling, parts}
use Rattle.plan_algebra.specs.KeptPlans.{plain_aggregate}
use Rattle.plan_spelling.specs.Plans.{aggregate_spelling, kept_parts, node_spelling, pair_numbers, plan_spelling, value_spelling}
use Rattle.plan_spelling.proofs.Lists.{parts_of}
use Rattle.plan_spelling.proofs.Opened.{spelling_Branch, spelling_Operation, spelling_Column, spelling_Literal, spelling_Negative, spelling_Arithmetic, spelling_Case, spelling_Extract, spelling_Substring, spelling_Compare, spelling_Between, spelling_Like, spelling_InList, spelling_IsNull, spelling_Not, spelling_All, spelling_Any, spelling_IsMarked}

-- the parts of a node with one before the others
first_parts : {A : Type 0} (f : A → List ℕ) (x : List ℕ) (us : List A) → parts (x ∷ map f us) ≡ (length us + 1) ∷ (x ++ flat_map f us)
first_parts f x us =
    let all : length (map f us) ∷ flat_map (λ s. s) (map f us) ≡ length us ∷ flat_map f us = parts_of f us in
    let count : length (map f us) ≡ length us = cc in
    let rest : flat_map (λ s. s) (map f us) ≡ flat_map f us = cc in
    let more : suc (length (map f us)) ≡ length us + 1 = omega (arith, count) in
    cc

pub written_Arithmetic : (a : Expr) (os : List Operation) → expr_spelling (e.Arithmetic a os) ≡ 1 ∷ 3 ∷ (length os + 1) ∷ (expr_spelling a ++ flat_map operation_spelling os)
written_Arithmetic a os = spelling_Arithmetic a os ∙ ap (λ l. 1 ∷ 3 ∷ l) (first_parts operation_spelling (expr_spelling a) os)

pub written_Case : (scale : ℕ) (bs : List Branch) (a : Expr) → expr_spelling (e.Case scale bs a) ≡ 2 ∷ 4 ∷ scale ∷ (length bs + 1) ∷ (expr_spelling a ++ flat_map branch_spelling bs)
written_Case scale bs a = spelling_Case scale bs a ∙ ap (λ l. 2 ∷ 4 ∷ scale ∷ l) (first_parts branch_spelling (expr_spelling a) bs)

pub written_InList : (a : Expr) (es : List Expr) → expr_spelling (e.InList a es) ≡ 1 ∷ 10 ∷ (length es + 1) ∷ (expr_spelling a ++ flat_map expr_spelling es)
written_InList a es = spelling_InList a es ∙ ap (λ l. 1 ∷ 10 ∷ l) (first_parts expr_spelling (expr_spelling a) es)

pub written_All : (es : List Expr) → expr_spelling (e.All es) ≡ 1 ∷ 13 ∷ length es ∷ flat_map expr_spelling es
written_All es = spelling_All es ∙ ap (λ l. 1 ∷ 13 ∷ l) (parts_of expr_spelling es)

pub written_Any : (es : List Expr) → expr_spelling (e.Any es) ≡ 1 ∷ 14 ∷ length es ∷ flat_map expr_spelling es
written_Any es = spelling_Any es ∙ ap (λ l. 1 ∷ 14 ∷ l) (parts_of expr_spelling es)

pub written_Like : (a : Expr) (pattern : List ℕ) → expr_spelling (e.Like a pattern) ≡ (length pattern + 1) ∷ 9 ∷ (pattern ++ 1 ∷ expr_spelling a)
written_Like a pattern =
    let more : suc (length pattern) ≡ length pattern + 1 = omega arith in
    let none : expr_spelling a ++ [] ≡ expr_spelling a = append-nil (expr_spelling a) in
    spelling_Like a pattern ∙ ap (λ n. n ∷ 9 ∷ (pattern ++ 1 ∷ (expr_spelling a ++ []))) more ∙ ap (λ l. (length pattern + 1) ∷ 9 ∷ (pattern ++ 1 ∷ l)) none

pub ruleset expr_written = (append_assoc, append-nil, spelling_Column, spelling_Literal, spelling_Negative, written_Arithmetic, written_Case, spelling_Extract, spelling_Substring, spelling_Compare, spelling_Between, written_Like, written_InList, spelling_IsNull, spelling_Not, written_All, written_Any, spelling_IsMarked)

pub ruleset branch_written = (append_assoc, append-nil, spelling_Branch)

pub ruleset operation_written = (append_assoc, append-nil, spelling_Operation)

length_pairs : (pairs : List (ℕ × ℕ)) → length (pair_numbers pairs) ≡ length pairs * 2
length_pairs [] = refl
length_pairs (pair ∷ pairs) = omega (arith, length_pairs pairs)

pub written_Scan : (t : TableName) → node_spelling (n.Scan t) ≡ (length (table_name t) + 1) ∷ 21 ∷ (table_name t ++ 0 ∷ [])
written_Scan t =
    let count : suc (length (table_name t)) ≡ length (table_name t) + 1 = omega arith in
    spelled_Scan t ∙ ap (λ m. m ∷ 21 ∷ (table_name t ++ 0 ∷ [])) count

pub written_Domain : (i : ℕ) (cs : List ℕ) → node_spelling (n.Domain i cs) ≡ (length cs + 2) ∷ 22 ∷ i ∷ (cs ++ 0 ∷ [])
written_Domain i cs =
    let count : suc (suc (length cs)) ≡ length cs + 2 = omega arith in
    spelled_Domain i cs ∙ ap (λ m. m ∷ 22 ∷ i ∷ (cs ++ 0 ∷ [])) count

pub written_Project : (i : ℕ) (us : List Expr) → node_spelling (n.Project i us) ≡ 2 ∷ 24 ∷ i ∷ length us ∷ flat_map expr_spelling us
written_Project i us = spelled_Project i us ∙ ap (λ l. 2 ∷ 24 ∷ i ∷ l) (parts_of expr_spelling us)

pub written_Join : (i j : ℕ) (pairs : List (ℕ × ℕ)) (a : Expr) → node_spelling (n.Join i j pairs a) ≡ (length pairs * 2 + 3) ∷ 25 ∷ i ∷ j ∷ (pair_numbers pairs ++ 1 ∷ (expr_spelling a ++ []))
written_Join i j pairs a =
    let count : suc (suc (suc (length (pair_numbers pairs)))) ≡ length pairs * 2 + 3 = omega (arith, length_pairs pairs) in
    spelled_Join i j pairs a ∙ ap (λ m. m ∷ 25 ∷ i ∷ j ∷ (pair_numbers pairs ++ 1 ∷ (expr_spelling a ++ []))) count

pub written_Outer : (i j : ℕ) (pairs : List (ℕ × ℕ)) (k : ℕ) (a : Expr) → node_spelling (n.Outer i j pairs k a) ≡ (length pairs * 2 + 4) ∷ 26 ∷ i ∷ j ∷ k ∷ (pair_numbers pairs ++ 1 ∷ (expr_spelling a ++ []))
written_Outer i j pairs k a =
    let count : suc (suc (suc (suc (length (pair_numbers pairs))))) ≡ length pairs * 2 + 4 = omega (arith, length_pairs pairs) in
    spelled_Outer i j pairs k a ∙ ap (λ m. m ∷ 26 ∷ i ∷ j ∷ k ∷ (pair_numbers pairs ++ 1 ∷ (expr_spelling a ++ []))) count

pub written_Mark : (i j : ℕ) (pairs : List (ℕ × ℕ)) (a : Expr) → node_spelling (n.Mark i j pairs a) ≡ (length pairs * 2 + 3) ∷ 27 ∷ i ∷ j ∷ (pair_numbers pairs ++ 1 ∷ (expr_spelling a ++ []))
written_Mark i j pairs a =
    let count : suc (suc (suc (length (pair_numbers pairs)))) ≡ length pairs * 2 + 3 = omega (arith, length_pairs pairs) in
    spelled_Mark i j pairs a ∙ ap (λ m. m ∷ 27 ∷ i ∷ j ∷ (pair_numbers pairs ++ 1 ∷ (expr_spelling a ++ []))) count

pub written_Single : (i j : ℕ) (pairs : List (ℕ × ℕ)) (k : ℕ) → node_spelling (n.Single i j pairs k) ≡ (length pairs * 2 + 4) ∷ 28 ∷ i ∷ j ∷ k ∷ (pair_numbers pairs ++ 0 ∷ [])
written_Single i j pairs k =
    let count : suc (suc (suc (suc (length (pair_numbers pairs))))) ≡ length pairs * 2 + 4 = omega (arith, length_pairs pairs) in
    spelled_Single i j pairs k ∙ ap (λ m. m ∷ 28 ∷ i ∷ j ∷ k ∷ (pair_numbers pairs ++ 0 ∷ [])) count

pub written_Group : (i : ℕ) (by : List ℕ) (us : List Aggregate) → node_spelling (n.Group i by us) ≡ (length by + 2) ∷ 29 ∷ i ∷ (by ++ length us ∷ flat_map aggregate_spelling us)
written_Group i by us =
    let count : suc (suc (length by)) ≡ length by + 2 = omega arith in
    spelled_Group i by us ∙ ap (λ l. suc (suc (length by)) ∷ 29 ∷ i ∷ (by ++ l)) (parts_of aggregate_spelling us)
    ∙ ap (λ m. m ∷ 29 ∷ i ∷ (by ++ length us ∷ flat_map aggregate_spelling us)) count

pub written_Fill : (i j : ℕ) (xs : List Value) → node_spelling (n.Fill i j xs) ≡ 3 ∷ 30 ∷ i ∷ j ∷ length xs ∷ flat_map value_spelling xs
written_Fill i j xs = spelled_Fill i j xs ∙ ap (λ l. 3 ∷ 30 ∷ i ∷ j ∷ l) (parts_of value_spelling xs)

-- a kept plan, piece by piece
pub written_Kept : (number : ℕ) (plan : KeptPlan) → node_spelling (n.Kept number plan)
    ≡ (length plan.by + length plan.list + length (table_name plan.table) + 4) ∷ 33 ∷ number ∷ length plan.by ∷ length plan.list
    ∷ (plan.by ++ (plan.list ++ (table_name plan.table ++ (length plan.aggregates + 1)
    ∷ (expr_spelling plan.condition ++ flat_map (λ a. aggregate_spelling (plain_aggregate a)) plan.aggregates))))
written_Kept number plan =
    let name = table_name plan.table in
    let l = length-append plan.by (plan.list ++ name) in let k = length-append plan.list name in
    let count : suc (suc (suc (suc (length (plan.by ++ (plan.list ++ name)))))) ≡ length plan.by + length plan.list + length name + 4 = omega (arith, l, k) in
    let below = parts (kept_parts plan) in
    let run : (plan.by ++ (plan.list ++ name)) ++ below ≡ plan.by ++ (plan.list ++ (name ++ below)) =
    append_assoc plan.by (plan.list ++ name) below ∙ ap (λ y. plan.by ++ y) (append_assoc plan.list name below) in
    spelled_Kept number plan
    ∙ ap (λ m. m ∷ 33 ∷ number ∷ length plan.by ∷ length plan.list ∷ ((plan.by ++ (plan.list ++ name)) ++ below)) count
    ∙ ap (λ y. (length plan.by + length plan.list + length name + 4) ∷ 33 ∷ number ∷ length plan.by ∷ length plan.list ∷ y) run
    ∙ ap (λ y. (length plan.by + length plan.list + length name + 4) ∷ 33 ∷ number ∷ length plan.by ∷ length plan.list ∷ (plan.by ++ (plan.list ++ (name ++ y))))
    (first_parts (λ a. aggregate_spelling (plain_aggregate a)) (expr_spelling plan.condition) plan.aggregates)

pub ruleset kept_written = (append_assoc, append-nil, written_Kept)

pub ruleset node_written = (append_assoc, append-nil, written_Scan, written_Domain, spelled_Select, written_Project, written_Join, written_Outer, written_Mark, written_Single, written_Group, written_Fill, spelled_Distinct, spelled_Set)

pub ruleset aggregate_written = (append_assoc, append-nil)

pub plan_written : (nodes : List Node) → plan_spelling nodes ≡ 0 ∷ length nodes ∷ flat_map node_spelling nodes
unfolding plan_spelling
plan_written nodes = ap (λ l. 0 ∷ l) (parts_of node_spelling nodes)
