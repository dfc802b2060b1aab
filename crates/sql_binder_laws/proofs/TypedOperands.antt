-- Operands, chains and lists made of what is typed are typed.
use Rattle.std.proofs.Common.{◌≡◌, ℕ, ℤ, ◌+◌, nat_le, List, [], ◌∷◌, ◌++◌}
use Rattle.std.proofs.Common.{map, Bool, true, false, ◌&&◌, if◌then◌else◌, refl}
use Rattle.std.proofs.Common.{ap, ◌∙◌, subst}
use Rattle.std.specs.Prelude.{Some, Ok, Err, slice_get}
use Rattle.std.specs.Cmp.{first_so, second_so}
use Rattle.std.specs.List.{list_all}
use Rattle.expr_operators.specs.declared.operator.Arithmetic.{Arithmetic}
use Rattle.expr_operators.specs.declared.operator.Arithmetic.TheVariants.{Add, Subtract, Multiply}
use Rattle.expr_operators.specs.declared.operator.Arithmetic.TheVariants.{Divide}
use Rattle.expr_operators.specs.declared.operator.Comparison.{Comparison}
use Rattle.expr_operators.specs.declared.operator.DatePart.{DatePart}
use Rattle.base_refusals.specs.declared.bind.BindRefusal.TheVariants.{ScaleTooWide}
use Rattle.expr_scalar.specs.declared.expr.Branch.{Branch}
use Rattle.expr_scalar.specs.declared.expr.Expr.{Expr}
use Rattle.expr_scalar.specs.declared.expr.Expr.TheOpen as node
use Rattle.expr_scalar.specs.declared.expr.Expr.TheVariants as e
use Rattle.expr_scalar.specs.declared.expr.Operation.{Operation}
use Rattle.expr_scalar.specs.declared.kind.Kind.{Kind}
use Rattle.expr_scalar.specs.declared.kind.Kind.TheVariants.{Number, Text, Date}
use Rattle.expr_scalar.specs.Typing.{Typing, Sort, Unfit, Nulls, Of, sort_of}
use Rattle.expr_scalar.specs.Typing.{branch_sort, operation_sort, typing, comparable, column_sort}
use Rattle.expr_scalar.specs.Typing.{literal_sort, negative_sort, arithmetic_sort, result_sort}
use Rattle.expr_scalar.specs.Typing.{extract_sort, substring_sort}
use Rattle.expr_scalar.specs.Typing.{branches_sorts, case_sort, sort_in_turn, is_fit}
use Rattle.expr_scalar.specs.Typing.{is_number, is_text}
use Rattle.expr_scalar.specs.Typing.{is_condition as is_test}
use Rattle.expr_scalar.proofs.Typed.{sort_at_node, test_at_node, operation_sort_is}
use Rattle.base_value.specs.declared.value.Value.{Value as Datum}
use Rattle.base_value.specs.declared.value.Value.TheVariants as value
use Rattle.sql_binder_steps.specs.declared.collected.BoundKind.{BoundKind}
use Rattle.sql_binder_steps.specs.declared.collected.BoundKind.TheVariants.{Value, Condition}
use Rattle.sql_binder_steps.specs.Steps.{Checked, and_then}
use Rattle.sql_binder_steps.specs.Kinds as kinds
use Rattle.sql_binder_steps.specs.Kinds.{where_fit, fits}

-- an expression is of this kind over inputs of these kinds
abbrev pub IsOf : Expr → BoundKind → List Kind → Type 0
IsOf v (Value k) ks = sort_of v ks ≡ Of k
IsOf v Condition ks = is_test v ks ≡ true

-- ---- results

pub record Went {A B : Type 0} (r : Checked A) (f : A → Checked B) (b : B) : Type 0 where
  pub it : A
  pub is : r ≡ Ok it
  pub gives : f it ≡ Ok b

pub went : {A B : Type 0} (r : Checked A) (f : A → Checked B) (b : B) → and_then r f ≡ Ok b
    → Went r f b
went (Ok a) f b h = record { it = a; is = refl; gives = h }
went (Err why) f b h = cc

pub ok_is : {A : Type 0} (a b : A) → (let r : Checked A = Ok a in r ≡ Ok b) → a ≡ b
ok_is a b h = cc

-- what passed a test
pub record Fit {A : Type 0} (b : Bool) (a c : A) : Type 0 where
  pub test : b ≡ true
  pub same : a ≡ c

pub fit : {A : Type 0} (b : Bool) (a c : A) → where_fit b a ≡ Ok c → Fit b a c
fit true a c h = record { test = refl; same = ok_is a c h }
fit false a c h = cc

-- ---- nodes

column_is : (n : ℕ) (ks : List Kind) → sort_of (e.Column n) ks ≡ column_sort (slice_get ks n)
column_is n ks = sort_at_node (e.Column n) (node.Column n) ks (e.outs-Column n)

literal_is : (v : Datum) (ks : List Kind) → sort_of (e.Literal v) ks ≡ literal_sort v
literal_is v ks = sort_at_node (e.Literal v) (node.Literal v) ks (e.outs-Literal v)

negative_is : (a : Expr) (ks : List Kind) → sort_of (e.Negative a) ks ≡ negative_sort (sort_of a ks)
unfolding sort_of
negative_is a ks = sort_at_node (e.Negative a) (node.Negative a) ks (e.outs-Negative a)

arithmetic_is : (v : Expr) (os : List Operation) (ks : List Kind)
    → sort_of (e.Arithmetic v os) ks ≡ sort_in_turn (sort_of v ks) (map operation_sort os) ks
unfolding sort_of
arithmetic_is v os ks = sort_at_node (e.Arithmetic v os) (node.Arithmetic v os) ks
    (e.outs-Arithmetic v os)

pub case_is : (scale : ℕ) (bs : List Branch) (other : Expr) (ks : List Kind)
    → sort_of (e.Case scale bs other) ks
    ≡ case_sort scale (branches_sorts (map branch_sort bs) ks) (sort_of other ks)
unfolding sort_of
case_is scale bs other ks =
    sort_at_node (e.Case scale bs other) (node.Case scale bs other) ks (e.outs-Case scale bs other)

extract_is : (p : DatePart) (a : Expr) (ks : List Kind)
    → sort_of (e.Extract p a) ks ≡ extract_sort (sort_of a ks)
unfolding sort_of
extract_is p a ks = sort_at_node (e.Extract p a) (node.Extract p a) ks (e.outs-Extract p a)

substring_is : (a : Expr) (from count : ℕ) (ks : List Kind)
    → sort_of (e.Substring a from count) ks ≡ substring_sort (sort_of a ks)
unfolding sort_of
substring_is a from count ks =
    sort_at_node (e.Substring a from count) (node.Substring a from count) ks
    (e.outs-Substring a from count)

compare_is : (c : Comparison) (a b : Expr) (ks : List Kind)
    → is_test (e.Compare c a b) ks ≡ comparable (sort_of a ks) (sort_of b ks)
unfolding sort_of
compare_is c a b ks = test_at_node (e.Compare c a b) (node.Compare c a b) ks (e.outs-Compare c a b)

between_is : (a low high : Expr) (ks : List Kind)
    → is_test (e.Between a low high) ks
    ≡ (comparable (sort_of a ks) (sort_of low ks) && comparable (sort_of a ks) (sort_of high ks))
unfolding sort_of
between_is a low high ks =
    test_at_node (e.Between a low high) (node.Between a low high) ks (e.outs-Between a low high)

like_is : (a : Expr) (pattern : List ℕ) (ks : List Kind)
    → is_test (e.Like a pattern) ks ≡ is_text (sort_of a ks)
unfolding sort_of
like_is a pattern ks = test_at_node (e.Like a pattern) (node.Like a pattern) ks
    (e.outs-Like a pattern)

in_list_is : (a : Expr) (es : List Expr) (ks : List Kind)
    → is_test (e.InList a es) ks
    ≡ (is_fit (sort_of a ks) && list_all (λ (x : Typing). comparable (sort_of a ks) (x.sort ks))
    (map typing es))
unfolding sort_of
in_list_is a es ks = test_at_node (e.InList a es) (node.InList a es) ks (e.outs-InList a es)

is_null_is : (a : Expr) (ks : List Kind) → is_test (e.IsNull a) ks ≡ is_fit (sort_of a ks)
unfolding sort_of
is_null_is a ks = test_at_node (e.IsNull a) (node.IsNull a) ks (e.outs-IsNull a)

not_is : (a : Expr) (ks : List Kind) → is_test (e.Not a) ks ≡ is_test a ks
unfolding is_test
not_is a ks = test_at_node (e.Not a) (node.Not a) ks (e.outs-Not a)

all_is : (es : List Expr) (ks : List Kind)
    → is_test (e.All es) ks ≡ list_all (λ (x : Typing). x.is_condition ks) (map typing es)
all_is es ks = test_at_node (e.All es) (node.All es) ks (e.outs-All es)

any_is : (es : List Expr) (ks : List Kind)
    → is_test (e.Any es) ks ≡ list_all (λ (x : Typing). x.is_condition ks) (map typing es)
any_is es ks = test_at_node (e.Any es) (node.Any es) ks (e.outs-Any es)

marked_is : (a : Expr) (ks : List Kind) → is_test (e.IsMarked a) ks ≡ is_number (sort_of a ks)
unfolding sort_of
marked_is a ks = test_at_node (e.IsMarked a) (node.IsMarked a) ks (e.outs-IsMarked a)

pub column_typed : (n : ℕ) (k : Kind) (ks : List Kind) → slice_get ks n ≡ Some k
    → IsOf (e.Column n) (Value k) ks
column_typed n k ks h = column_is n ks ∙ ap column_sort h

pub mark_typed : (n s : ℕ) (ks : List Kind) → slice_get ks n ≡ Some (Number s)
    → IsOf (e.IsMarked (e.Column n)) Condition ks
mark_typed n s ks h = marked_is (e.Column n) ks ∙ ap is_number (column_typed n (Number s) ks h)

pub number_typed : (s : ℕ) (c : ℤ) (ks : List Kind)
    → IsOf (e.Literal (value.Number s c)) (Value (Number s)) ks
number_typed s c ks = literal_is (value.Number s c) ks

pub text_typed : (t : List ℕ) (ks : List Kind) → IsOf (e.Literal (value.Text t)) (Value Text) ks
text_typed t ks = literal_is (value.Text t) ks

pub date_typed : (d : ℕ) (ks : List Kind) → IsOf (e.Literal (value.Date d)) (Value Date) ks
date_typed d ks = literal_is (value.Date d) ks

pub null_is : (ks : List Kind) → sort_of (e.Literal value.Null) ks ≡ Nulls
null_is ks = literal_is value.Null ks

-- ---- one operand and two

pub negative_typed : (v : Expr) (k : BoundKind) (ks : List Kind) → kinds.is_number k ≡ true
    → IsOf v k ks → IsOf (e.Negative v) k ks
negative_typed v (Value (Number s)) ks t h = negative_is v ks ∙ ap negative_sort h
negative_typed v (Value Text) ks t h = cc
negative_typed v (Value Date) ks t h = cc
negative_typed v Condition ks t h = cc

pub comparable_of : (j k : BoundKind) (v w : Expr) (ks : List Kind) → fits j k ≡ true → IsOf v j ks
    → IsOf w k ks → comparable (sort_of v ks) (sort_of w ks) ≡ true
comparable_of (Value (Number s)) (Value (Number t)) v w ks f h i = rw (h, i) refl
comparable_of (Value Text) (Value Text) v w ks f h i = rw (h, i) refl
comparable_of (Value Date) (Value Date) v w ks f h i = rw (h, i) refl
comparable_of (Value (Number s)) (Value Text) v w ks f h i = cc
comparable_of (Value (Number s)) (Value Date) v w ks f h i = cc
comparable_of (Value (Number s)) Condition v w ks f h i = cc
comparable_of (Value Text) (Value (Number t)) v w ks f h i = cc
comparable_of (Value Text) (Value Date) v w ks f h i = cc
comparable_of (Value Text) Condition v w ks f h i = cc
comparable_of (Value Date) (Value (Number t)) v w ks f h i = cc
comparable_of (Value Date) (Value Text) v w ks f h i = cc
comparable_of (Value Date) Condition v w ks f h i = cc
comparable_of Condition (Value k) v w ks f h i = cc
comparable_of Condition Condition v w ks f h i = cc

pub compared_typed : (c : Comparison) (j k : BoundKind) (v w : Expr) (ks : List Kind)
    → fits j k ≡ true → IsOf v j ks → IsOf w k ks → IsOf (e.Compare c v w) Condition ks
compared_typed c j k v w ks f h i = compare_is c v w ks ∙ comparable_of j k v w ks f h i

both_so : (a b : Bool) → a ≡ true → b ≡ true → (a && b) ≡ true
both_so a b p q = rw (p, q) refl

pub between_typed : (j k l : BoundKind) (v low high : Expr) (ks : List Kind)
    → (fits j k && fits j l) ≡ true → IsOf v j ks → IsOf low k ks → IsOf high l ks
    → IsOf (e.Between v low high) Condition ks
between_typed j k l v low high ks f h a b =
    between_is v low high ks
    ∙ both_so _ _ (comparable_of j k v low ks (first_so (fits j k) (fits j l) f) h a)
    (comparable_of j l v high ks (second_so (fits j k) (fits j l) f) h b)

fit_of : (k : BoundKind) (v : Expr) (ks : List Kind) → kinds.is_value k ≡ true → IsOf v k ks
    → is_fit (sort_of v ks) ≡ true
fit_of (Value k) v ks t h = rw h refl
fit_of Condition v ks t h = cc

pub null_test_typed : (k : BoundKind) (v : Expr) (ks : List Kind) → kinds.is_value k ≡ true
    → IsOf v k ks → IsOf (e.IsNull v) Condition ks
null_test_typed k v ks t h = is_null_is v ks ∙ fit_of k v ks t h

pub liked_typed : (k : BoundKind) (v : Expr) (pattern : List ℕ) (ks : List Kind)
    → kinds.is_text k ≡ true → IsOf v k ks → IsOf (e.Like v pattern) Condition ks
liked_typed (Value Text) v pattern ks t h = like_is v pattern ks ∙ ap is_text h
liked_typed (Value (Number s)) v pattern ks t h = cc
liked_typed (Value Date) v pattern ks t h = cc
liked_typed Condition v pattern ks t h = cc

pub denied_typed : (k : BoundKind) (v : Expr) (ks : List Kind) → kinds.is_condition k ≡ true
    → IsOf v k ks → IsOf (e.Not v) Condition ks
denied_typed Condition v ks t h = not_is v ks ∙ h
denied_typed (Value k) v ks t h = cc

pub extracted_typed : (p : DatePart) (k : BoundKind) (v : Expr) (ks : List Kind)
    → kinds.is_date k ≡ true → IsOf v k ks → IsOf (e.Extract p v) (Value (Number 0)) ks
extracted_typed p (Value Date) v ks t h = extract_is p v ks ∙ ap extract_sort h
extracted_typed p (Value (Number s)) v ks t h = cc
extracted_typed p (Value Text) v ks t h = cc
extracted_typed p Condition v ks t h = cc

pub substring_typed : (k : BoundKind) (v : Expr) (from count : ℕ) (ks : List Kind)
    → kinds.is_text k ≡ true → IsOf v k ks → IsOf (e.Substring v from count) (Value Text) ks
substring_typed (Value Text) v from count ks t h = substring_is v from count ks
    ∙ ap substring_sort h
substring_typed (Value (Number s)) v from count ks t h = cc
substring_typed (Value Date) v from count ks t h = cc
substring_typed Condition v from count ks t h = cc

-- ---- chains

-- a chain of operations so far is of this kind
abbrev pub IsChain : Expr → List Operation → BoundKind → List Kind → Type 0
IsChain v os (Value k) ks = sort_in_turn (sort_of v ks) (map operation_sort os) ks ≡ Of k
IsChain v os Condition ks = (os ≡ []) × (is_test v ks ≡ true)

pub begun_typed : (v : Expr) (k : BoundKind) (ks : List Kind) → IsOf v k ks → IsChain v [] k ks
begun_typed v (Value k) ks h = h
begun_typed v Condition ks h = (refl, h)

turn_more : (os : List Operation) (o : Operation) (x : Sort) (ks : List Kind)
    → sort_in_turn x (map operation_sort (os ++ o ∷ [])) ks
    ≡ operation_sort o (sort_in_turn x (map operation_sort os) ks) ks
turn_more [] o x ks = refl
turn_more (p ∷ os) o x ks = turn_more os o (operation_sort p x ks) ks

number_scale_is : (k : BoundKind) (s : ℕ) → kinds.number_scale k ≡ Ok s → k ≡ Value (Number s)
number_scale_is (Value (Number t)) s h = ap (λ n. Value (Number n)) (ok_is t s h)
number_scale_is (Value Text) s h = cc
number_scale_is (Value Date) s h = cc
number_scale_is Condition s h = cc

product_is : (b : Bool) (n : ℕ) (k : Kind)
    → (let r : Checked Kind = if b then Ok (Number n) else Err ScaleTooWide in r ≡ Ok k)
    → (if b then Of (Number n) else Unfit) ≡ Of k
product_is true n k h = ap Of (ok_is _ k h)
product_is false n k h = cc

result_is : (operator : Arithmetic) (s t : ℕ) (k : Kind) → kinds.result_kind operator s t ≡ Ok k
    → result_sort operator s t ≡ Of k
result_is Add s t k h = ap Of (ok_is _ k h)
result_is Subtract s t k h = ap Of (ok_is _ k h)
result_is Divide s t k h = ap Of (ok_is _ k h)
result_is Multiply s t k h = product_is (nat_le (s + t) 18) (s + t) k h

chain_number : (v : Expr) (os : List Operation) (k : BoundKind) (s : ℕ) (ks : List Kind)
    → k ≡ Value (Number s) → IsChain v os k ks
    → sort_in_turn (sort_of v ks) (map operation_sort os) ks ≡ Of (Number s)
chain_number v os k s ks e h = subst (λ (j : BoundKind). IsChain v os j ks) e h

value_number : (v : Expr) (k : BoundKind) (s : ℕ) (ks : List Kind) → k ≡ Value (Number s)
    → IsOf v k ks → sort_of v ks ≡ Of (Number s)
value_number v k s ks e h = subst (λ (j : BoundKind). IsOf v j ks) e h

pub operated_typed : (operator : Arithmetic) (v : Expr) (os : List Operation) (j : BoundKind)
    (w : Expr) (k : BoundKind) (r : Kind) (ks : List Kind)
    → kinds.operated_kind operator j k ≡ Ok r → IsChain v os j ks → IsOf w k ks
    → IsChain v (os ++ record { operator = operator; operand = w } ∷ []) (Value r) ks
operated_typed operator v os j w k r ks h c i =
    let a = went (kinds.number_scale j) _ r h in
    let b = went (kinds.number_scale k) _ r a.gives in
    let left = chain_number v os j a.it ks (number_scale_is j a.it a.is) c in
    let right = value_number w k b.it ks (number_scale_is k b.it b.is) i in
    let o : Operation = record { operator = operator; operand = w } in
    turn_more os o (sort_of v ks) ks
    ∙ operation_sort_is o (sort_in_turn (sort_of v ks) (map operation_sort os) ks) ks
    ∙ ap (λ x. arithmetic_sort operator x (sort_of w ks)) left
    ∙ ap (arithmetic_sort operator (Of (Number a.it))) right
    ∙ result_is operator a.it b.it r b.gives

pub chain_typed : (v : Expr) (os : List Operation) (k : BoundKind) (ks : List Kind)
    → IsChain v os k ks → (os ≡ [] → ⊥) → IsOf (e.Arithmetic v os) k ks
chain_typed v os (Value k) ks h some = arithmetic_is v os ks ∙ h
chain_typed v os Condition ks h some = absurd (some h.0)

pub chain_alone : (v : Expr) (k : BoundKind) (ks : List Kind) → IsChain v [] k ks → IsOf v k ks
chain_alone v (Value k) ks h = h
chain_alone v Condition ks h = h.1

-- ---- AND, OR and lists

-- operands are conditions
abbrev pub AreTests : List Expr → List Kind → Type 0
AreTests [] ks = Unit {0}
AreTests (v ∷ vs) ks = (is_test v ks ≡ true) × AreTests vs ks

pub tests_more : (vs : List Expr) (v : Expr) (ks : List Kind) → AreTests vs ks → is_test v ks ≡ true
    → AreTests (vs ++ v ∷ []) ks
tests_more [] v ks h i = (i, tt)
tests_more (w ∷ vs) v ks h i = (h.0, tests_more vs v ks h.1 i)

pub test_of : (k : BoundKind) (v : Expr) (ks : List Kind) → kinds.is_condition k ≡ true
    → IsOf v k ks → is_test v ks ≡ true
test_of Condition v ks t h = h
test_of (Value k) v ks t h = cc

all_tests : (vs : List Expr) (ks : List Kind) → AreTests vs ks
    → list_all (λ (x : Typing). x.is_condition ks) (map typing vs) ≡ true
unfolding is_test
all_tests [] ks h = refl
all_tests (v ∷ vs) ks h = both_so _ _ h.0 (all_tests vs ks h.1)

pub all_typed : (vs : List Expr) (ks : List Kind) → AreTests vs ks → IsOf (e.All vs) Condition ks
all_typed vs ks h = all_is vs ks ∙ all_tests vs ks h

pub any_typed : (vs : List Expr) (ks : List Kind) → AreTests vs ks → IsOf (e.Any vs) Condition ks
any_typed vs ks h = any_is vs ks ∙ all_tests vs ks h

-- operands are of these kinds
abbrev pub AreOf : List Expr → List BoundKind → List Kind → Type 0
AreOf [] [] ks = Unit {0}
AreOf [] (k ∷ js) ks = ⊥
AreOf (v ∷ vs) [] ks = ⊥
AreOf (v ∷ vs) (k ∷ js) ks = IsOf v k ks × AreOf vs js ks

pub are_more : (vs : List Expr) (js : List BoundKind) (v : Expr) (k : BoundKind) (ks : List Kind)
    → AreOf vs js ks → IsOf v k ks → AreOf (vs ++ v ∷ []) (js ++ k ∷ []) ks
are_more [] [] v k ks h i = (i, tt)
are_more [] (j ∷ js) v k ks h i = absurd h
are_more (w ∷ vs) [] v k ks h i = absurd h
are_more (w ∷ vs) (j ∷ js) v k ks h i = (h.0, are_more vs js v k ks h.1 i)

list_comparable : (j : BoundKind) (v : Expr) (vs : List Expr) (js : List BoundKind) (ks : List Kind)
    → list_all (fits j) js ≡ true → IsOf v j ks → AreOf vs js ks
    → list_all (λ (x : Typing). comparable (sort_of v ks) (x.sort ks)) (map typing vs) ≡ true
unfolding sort_of
list_comparable j v [] js ks f h a = refl
list_comparable j v (w ∷ vs) [] ks f h a = absurd a
list_comparable j v (w ∷ vs) (k ∷ js) ks f h a =
    both_so _ _ (comparable_of j k v w ks (first_so (fits j k) (list_all (fits j) js) f) h a.0)
    (list_comparable j v vs js ks (second_so (fits j k) (list_all (fits j) js) f) h a.1)

pub in_list_typed : (j : BoundKind) (v : Expr) (vs : List Expr) (js : List BoundKind)
    (ks : List Kind) → (kinds.is_value j && list_all (fits j) js) ≡ true → IsOf v j ks
    → AreOf vs js ks → IsOf (e.InList v vs) Condition ks
in_list_typed j v vs js ks f h a =
    in_list_is v vs ks ∙ both_so _ _
    (fit_of j v ks (first_so (kinds.is_value j) (list_all (fits j) js) f) h)
    (list_comparable j v vs js ks (second_so (kinds.is_value j) (list_all (fits j) js) f) h a)
