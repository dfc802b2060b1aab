-- Over rows without nulls a well-typed expression is not null, and a well-typed condition not
-- Unknown.
use Rattle.std.proofs.Common.{◌≡◌, ℕ, List, [], ◌∷◌, map, Bool, true, false, not, ◌&&◌, ◌||◌, if◌then◌else◌, refl, ap, sym, ◌∙◌, ◌≢◌, Option, Some, None, unwrap_or}
use Rattle.std.specs.Cmp.{first_so, second_so}
use Rattle.std.specs.List.{list_all}
use Rattle.base_value.specs.declared.truth.Standing.TheVariants.{AtFault, AtTrue}
use Rattle.base_value.specs.declared.truth.Truth.{Truth}
use Rattle.base_value.specs.declared.truth.Truth.TheVariants.{False, Unknown, Stands}
use Rattle.base_value.specs.declared.value.Value.{Value}
use Rattle.base_value.specs.declared.value.Value.TheVariants.{Null}
use Rattle.expr_operators.specs.declared.operator.Arithmetic.{Arithmetic}
use Rattle.expr_scalar.specs.declared.expr.Branch.{Branch}
use Rattle.expr_operators.specs.declared.operator.Comparison.TheVariants.{Equal, LessOrEqual, GreaterOrEqual}
use Rattle.expr_scalar.specs.declared.expr.Expr.{Expr, Expr-F, out-Expr}
use Rattle.expr_scalar.specs.declared.expr.Expr.TheFolds.{fold_out-Expr, fold_out-Branch, fold_out-Operation, map-Expr}
use Rattle.expr_scalar.specs.declared.expr.Expr.TheOpen as f
use Rattle.expr_scalar.specs.declared.expr.Expr.TheVariants as e
use Rattle.expr_scalar.specs.declared.expr.Operation.{Operation}
use Rattle.expr_scalar.specs.declared.kind.Kind.{Kind}
use Rattle.expr_scalar.specs.Known.{is_known, some_null, null_step, branch_null_step, operation_null_step, has_null, branch_has_null, operation_has_null, ConditionsGiveNoKind, NullsComeFromNulls}
use Rattle.expr_scalar.specs.Meaning.{value, truth, values, truths, chosen, branch_value, operation_value, operated, decided, first_of, in_list}
use Rattle.expr_operators.specs.Operators.{arithmetic, negative, at_scale, holds, compared, between}
use Rattle.expr_scalar.specs.Typing.{row_is_of, Sort, Unfit, Nulls, Of, negative_sort, arithmetic_sort, extract_sort, substring_sort, scaled_sort, all_sorts, branches_sorts, sort_in_turn, comparable, is_fit, sort_gives, sort_of, is_condition, typing, branch_sort, operation_sort, Typing, BranchTyping, OperationTyping, sort_step, condition_step}
use Rattle.expr_scalar.proofs.Induction.{Exprs, Branches, Operations, exprs, branches, operations, induction}
use Rattle.expr_scalar.proofs.Opened.{branch_is, operation_is, value_Column, value_Literal, value_Negative, value_Arithmetic, value_Case, value_Extract, value_Substring, truth_Compare, truth_Between, truth_Like, truth_InList, truth_IsNull, truth_Not, truth_All, truth_Any, truth_IsMarked}
use Rattle.expr_scalar.proofs.Typed.{fits, all_typed, with_typings, sort_at_node, test_at_node, branch_sort_is, operation_sort_is, arithmetic_typed}
use Rattle.expr_scalar.proofs.KnownTruths.{is_decided, lesser_decided, negated_decided, least_decided, greatest_decided, compared_decided, comparable_left, comparable_right, liked_decided, text_fits, mark_decided, number_fits, null_test_decided}
use Rattle.expr_scalar.proofs.KnownValues.{or_left, or_right, negative_known, arithmetic_known, left_fits, right_fits, extract_known, substring_known, scaled_known, inside_fits, first_fits, second_fits, column_known, literal_known}

-- ---- nulls written in a node

abbrev with_nulls : Expr-F Expr Branch Operation → Expr-F Bool Bool Bool
with_nulls = map-Expr Expr Branch Operation Bool Bool Bool has_null branch_has_null operation_has_null

null_at : (x : Expr) (u : Expr-F Expr Branch Operation) → out-Expr x ≡ u → has_null x ≡ null_step (with_nulls u)
unfolding has_null branch_has_null operation_has_null
null_at x u is = fold_out-Expr Bool Bool Bool null_step branch_null_step operation_null_step x ∙ ap (λ n. null_step (with_nulls n)) is

branch_null_is : (b : Branch) → branch_has_null b ≡ (has_null b.when || has_null b.gives)
unfolding has_null branch_has_null operation_has_null
branch_null_is = fold_out-Branch Bool Bool Bool null_step branch_null_step operation_null_step

operation_null_is : (o : Operation) → operation_has_null o ≡ has_null o.operand
unfolding has_null branch_has_null operation_has_null
operation_null_is = fold_out-Operation Bool Bool Bool null_step branch_null_step operation_null_step

-- ---- the induction

abbrev sort_at : Expr-F Expr Branch Operation → List Kind → Sort
sort_at u ks = sort_step (with_typings u) ks

abbrev condition_at : Expr-F Expr Branch Operation → List Kind → Bool
condition_at u ks = condition_step (with_typings u) ks

record Known (ks : List Kind) (row : List Value) (x : Expr) : Type 0 where
  value : has_null x ≡ false → is_fit (sort_of x ks) ≡ true → is_known (value x row) ≡ true
  truth : has_null x ≡ false → is_condition x ks ≡ true → is_decided (truth x row) ≡ true

-- what a branch gives, brought to a scale
abbrev is_known_if_there : ℕ → Option Value → Bool
is_known_if_there scale None = true
is_known_if_there scale (Some v) = is_known (at_scale scale v)

abbrev BranchKnown : List Kind → List Value → Branch → Type 0
BranchKnown ks row b = (scale : ℕ) → branch_has_null b ≡ false → is_fit (scaled_sort scale (branch_sort b ks)) ≡ true → is_known_if_there scale (branch_value b row) ≡ true

abbrev OperationKnown : List Kind → List Value → Operation → Type 0
OperationKnown ks row o = (x : Sort) (v : Value) → fits x v ≡ true → is_known v ≡ true → operation_has_null o ≡ false → is_fit (operation_sort o x ks) ≡ true
    → (fits (operation_sort o x ks) (operation_value o v row) ≡ true) × (is_known (operation_value o v row) ≡ true)

-- a value node, from the node and its value
value_node : (ks : List Kind) (row : List Value) (x : Expr) (u : Expr-F Expr Branch Operation) (v : Value) → out-Expr x ≡ u → value x row ≡ v
    → (null_step (with_nulls u) ≡ false → is_fit (sort_at u ks) ≡ true → is_known v ≡ true) → (condition_at u ks ≡ false) → Known ks row x
value_node ks row x u v is means h none = record {
  value = λ n g. ap is_known means ∙ h (sym (null_at x u is) ∙ n) (ap is_fit (sym (sort_at_node x u ks is)) ∙ g);
  truth = λ n g. let no : false ≡ true = sym none ∙ sym (test_at_node x u ks is) ∙ g in cc;
}

-- a condition, from the node and its truth
truth_node : (ks : List Kind) (row : List Value) (x : Expr) (u : Expr-F Expr Branch Operation) (t : Truth) → out-Expr x ≡ u → truth x row ≡ t
    → (null_step (with_nulls u) ≡ false → condition_at u ks ≡ true → is_decided t ≡ true) → (sort_at u ks ≡ Unfit) → Known ks row x
truth_node ks row x u t is means h none = record {
  value = λ n g. let no : false ≡ true = ap is_fit (sym none) ∙ ap is_fit (sym (sort_at_node x u ks is)) ∙ g in cc;
  truth = λ n g. ap is_decided means ∙ h (sym (null_at x u is) ∙ n) (sym (test_at_node x u ks is) ∙ g);
}

in_turn_fits : (ks : List Kind) (os : List Operation) (x : Sort) → is_fit (sort_in_turn x (map operation_sort os) ks) ≡ true → is_fit x ≡ true
in_turn_fits ks [] x g = g
in_turn_fits ks (o ∷ os) x g =
    left_fits o.operator x (sort_of o.operand ks) (ap is_fit (sym (operation_sort_is o x ks)) ∙ in_turn_fits ks os (operation_sort o x ks) g)

operated_known : (ks : List Kind) (row : List Value) (os : Operations (OperationKnown ks row)) (x : Sort) (v : Value) → fits x v ≡ true → is_known v ≡ true
    → some_null (map operation_has_null (operations {R = OperationKnown ks row} os)) ≡ false
    → is_fit (sort_in_turn x (map operation_sort (operations {R = OperationKnown ks row} os)) ks) ≡ true
    → is_known (operated v (operations {R = OperationKnown ks row} os) row) ≡ true
unfolding operated
operated_known ks row [] x v h k n g = k
operated_known ks row (o ∷ os) x v h k n g =
    let rest = operations {R = OperationKnown ks row} os in
    let step = o.1 x v h k (or_left (operation_has_null o.0) (some_null (map operation_has_null rest)) n) (in_turn_fits ks rest (operation_sort o.0 x ks) g) in
    operated_known ks row os (operation_sort o.0 x ks) (operation_value o.0 v row) step.0 step.1
    (or_right (operation_has_null o.0) (some_null (map operation_has_null rest)) n) g

operation_known : (ks : List Kind) (row : List Value) → row_is_of ks row ≡ true → (operator : Arithmetic) (operand : Expr) → Known ks row operand
    → OperationKnown ks row (record { operator = operator; operand = operand })
operation_known ks row r operator operand d x v h k n g =
    let o : Operation = record { operator = operator; operand = operand } in
    let typed = all_typed operand ks row r in
    let fit : is_fit (arithmetic_sort operator x (sort_of operand ks)) ≡ true = ap is_fit (sym (operation_sort_is o x ks)) ∙ g in
    let known = d.value (sym (operation_null_is o) ∙ n) (right_fits operator x (sort_of operand ks) fit) in (
      ap (λ s. fits s (operation_value o v row)) (operation_sort_is o x ks) ∙ ap (fits (arithmetic_sort operator x (sort_of operand ks))) (operation_is o v row)
          ∙ arithmetic_typed operator x (sort_of operand ks) v (value operand row) h typed,
      ap is_known (operation_is o v row) ∙ arithmetic_known operator x (sort_of operand ks) v (value operand row) h typed k known fit,
    )

first_known : (scale : ℕ) (o p : Option Value) → is_known_if_there scale o ≡ true → is_known_if_there scale p ≡ true → is_known_if_there scale (first_of o p) ≡ true
first_known scale None p h k = k
first_known scale (Some v) p h k = h

chosen_known : (ks : List Kind) (row : List Value) (scale : ℕ) (bs : Branches (BranchKnown ks row)) → some_null (map branch_has_null (branches {Q = BranchKnown ks row} bs)) ≡ false
    → is_fit (all_sorts (map (scaled_sort scale) (branches_sorts (map branch_sort (branches {Q = BranchKnown ks row} bs)) ks))) ≡ true
    → is_known_if_there scale (chosen (branches {Q = BranchKnown ks row} bs) row) ≡ true
unfolding chosen
chosen_known ks row scale [] n g = refl
chosen_known ks row scale (b ∷ bs) n g =
    let rest = branches {Q = BranchKnown ks row} bs in
    let first = scaled_sort scale (branch_sort b.0 ks) in
    let others = all_sorts (map (scaled_sort scale) (branches_sorts (map branch_sort rest) ks)) in
    first_known scale (branch_value b.0 row) (chosen rest row)
    (b.1 scale (or_left (branch_has_null b.0) (some_null (map branch_has_null rest)) n) (first_fits first others g))
    (chosen_known ks row scale bs (or_right (branch_has_null b.0) (some_null (map branch_has_null rest)) n) (second_fits first others g))

either_known : (scale : ℕ) (o : Option Value) (v : Value) → is_known_if_there scale o ≡ true → is_known (at_scale scale v) ≡ true → is_known (at_scale scale (unwrap_or o v)) ≡ true
either_known scale None v h k = k
either_known scale (Some w) v h k = h

decided_known : (scale : ℕ) (t : Truth) (v : Value) → is_known (at_scale scale v) ≡ true → is_known_if_there scale (decided t v) ≡ true
decided_known scale False v h = refl
decided_known scale Unknown v h = refl
decided_known scale (Stands AtTrue) v h = h
decided_known scale (Stands (AtFault a)) v h = refl

branch_fits : (scale : ℕ) (b : Bool) (x : Sort) → is_fit (scaled_sort scale (if b then x else Unfit)) ≡ true → is_fit (scaled_sort scale x) ≡ true
branch_fits scale true x h = h
branch_fits scale false x h = cc

branch_known : (ks : List Kind) (row : List Value) → row_is_of ks row ≡ true → (when gives : Expr) → Known ks row when → Known ks row gives
    → BranchKnown ks row (record { when = when; gives = gives })
branch_known ks row r when gives w d scale n g =
    let b : Branch = record { when = when; gives = gives } in
    let fit = branch_fits scale (is_condition when ks) (sort_of gives ks) (ap (λ s. is_fit (scaled_sort scale s)) (sym (branch_sort_is b ks)) ∙ g) in
    let known = d.value (or_right (has_null when) (has_null gives) (sym (branch_null_is b) ∙ n)) (inside_fits (scaled_sort scale) refl (sort_of gives ks) fit) in
    ap (is_known_if_there scale) (branch_is b row)
    ∙ decided_known scale (truth when row) (value gives row) (scaled_known scale (sort_of gives ks) (value gives row) (all_typed gives ks row r) known fit)

truths_decided : (ks : List Kind) (row : List Value) (es : Exprs (Known ks row)) → some_null (map has_null (exprs {P = Known ks row} es)) ≡ false
    → list_all (λ (x : Typing). x.is_condition ks) (map typing (exprs {P = Known ks row} es)) ≡ true
    → list_all is_decided (truths (exprs {P = Known ks row} es) row) ≡ true
unfolding truths is_condition
truths_decided ks row [] n g = refl
truths_decided ks row (x ∷ es) n g =
    let rest = exprs {P = Known ks row} es in
    let others = list_all (λ (y : Typing). y.is_condition ks) (map typing rest) in
    let here = x.1.truth (or_left (has_null x.0) (some_null (map has_null rest)) n) (first_so (is_condition x.0 ks) others g) in
    ap (λ b. b && list_all is_decided (truths rest row)) here
    ∙ truths_decided ks row es (or_right (has_null x.0) (some_null (map has_null rest)) n) (second_so (is_condition x.0 ks) others g)

equals_decided : (ks : List Kind) (row : List Value) → row_is_of ks row ≡ true → (s : Sort) (v : Value) → fits s v ≡ true → (es : Exprs (Known ks row))
    → some_null (map has_null (exprs {P = Known ks row} es)) ≡ false → (is_fit s ≡ true → is_known v ≡ true)
    → list_all (λ (x : Typing). comparable s (x.sort ks)) (map typing (exprs {P = Known ks row} es)) ≡ true
    → list_all is_decided (map (compared Equal v) (values (exprs {P = Known ks row} es) row)) ≡ true
unfolding values sort_of
equals_decided ks row r s v h [] n k g = refl
equals_decided ks row r s v h (x ∷ es) n k g =
    let rest = exprs {P = Known ks row} es in
    let others = list_all (λ (y : Typing). comparable s (y.sort ks)) (map typing rest) in
    let fit = first_so (comparable s (sort_of x.0 ks)) others g in
    let known = x.1.value (or_left (has_null x.0) (some_null (map has_null rest)) n) (comparable_right s (sort_of x.0 ks) fit) in
    let here = compared_decided Equal s (sort_of x.0 ks) v (value x.0 row) h (all_typed x.0 ks row r) (k (comparable_left s (sort_of x.0 ks) fit)) known fit in
    ap (λ b. b && list_all is_decided (map (compared Equal v) (values rest row))) here
    ∙ equals_decided ks row r s v h es (or_right (has_null x.0) (some_null (map has_null rest)) n) k (second_so (comparable s (sort_of x.0 ks)) others g)

between_decided : (x y z : Sort) (u v w : Value) → fits x u ≡ true → fits y v ≡ true → fits z w ≡ true → is_known u ≡ true → is_known v ≡ true → is_known w ≡ true
    → comparable x y ≡ true → comparable x z ≡ true → is_decided (between u v w) ≡ true
between_decided x y z u v w a b c k l m g h =
    lesser_decided (compared GreaterOrEqual u v) (compared LessOrEqual u w) (compared_decided GreaterOrEqual x y u v a b k l g) (compared_decided LessOrEqual x z u w a c k m h)

all_known : (ks : List Kind) (row : List Value) → row_is_of ks row ≡ true → list_all is_known row ≡ true → (x : Expr) → Known ks row x
unfolding sort_of is_condition
all_known ks row r there = induction (Known ks row) (BranchKnown ks row) (OperationKnown ks row) (record {
  column = λ i. value_node ks row _ (f.Column i) _ (e.outs-Column i) (value_Column i row) (λ n g. column_known ks row i r there g) refl;
  literal = λ v. value_node ks row _ (f.Literal v) _ (e.outs-Literal v) (value_Literal v row) (λ n g. literal_known v n) refl;
  negative = λ a h. value_node ks row _ (f.Negative a) _ (e.outs-Negative a) (value_Negative a row)
      (λ n g. negative_known (sort_of a ks) (value a row) (all_typed a ks row r) (h.value n (inside_fits negative_sort refl (sort_of a ks) g)) g) refl;
  arithmetic = λ a h os. let list = operations {R = OperationKnown ks row} os in
      value_node ks row _ (f.Arithmetic a list) _ (e.outs-Arithmetic a list) (value_Arithmetic a list row)
      (λ n g. operated_known ks row os (sort_of a ks) (value a row) (all_typed a ks row r) (h.value (or_left (has_null a) (some_null (map operation_has_null list)) n) (in_turn_fits ks list (sort_of a ks) g)) (or_right (has_null a) (some_null (map operation_has_null list)) n) g) refl;
  case = λ scale bs a h. let list = branches {Q = BranchKnown ks row} bs in
      let sorts = all_sorts (map (scaled_sort scale) (branches_sorts (map branch_sort list) ks)) in
      value_node ks row _ (f.Case scale list a) _ (e.outs-Case scale list a) (value_Case scale list a row)
      (λ n g. let fit = second_fits sorts (scaled_sort scale (sort_of a ks)) g in
      either_known scale (chosen list row) (value a row) (chosen_known ks row scale bs (or_left (some_null (map branch_has_null list)) (has_null a) n) (first_fits sorts (scaled_sort scale (sort_of a ks)) g))
      (scaled_known scale (sort_of a ks) (value a row) (all_typed a ks row r) (h.value (or_right (some_null (map branch_has_null list)) (has_null a) n) (inside_fits (scaled_sort scale) refl (sort_of a ks) fit)) fit)) refl;
  extract = λ part a h. value_node ks row _ (f.Extract part a) _ (e.outs-Extract part a) (value_Extract part a row)
      (λ n g. extract_known part (sort_of a ks) (value a row) (all_typed a ks row r) (h.value n (inside_fits extract_sort refl (sort_of a ks) g)) g) refl;
  substring = λ a h from count. value_node ks row _ (f.Substring a from count) _ (e.outs-Substring a from count) (value_Substring a from count row)
      (λ n g. substring_known from count (sort_of a ks) (value a row) (all_typed a ks row r) (h.value n (inside_fits substring_sort refl (sort_of a ks) g)) g) refl;
  compare = λ comparison a h b k. truth_node ks row _ (f.Compare comparison a b) _ (e.outs-Compare comparison a b) (truth_Compare comparison a b row)
      (λ n g. compared_decided comparison (sort_of a ks) (sort_of b ks) (value a row) (value b row) (all_typed a ks row r) (all_typed b ks row r)
      (h.value (or_left (has_null a) (has_null b) n) (comparable_left (sort_of a ks) (sort_of b ks) g)) (k.value (or_right (has_null a) (has_null b) n) (comparable_right (sort_of a ks) (sort_of b ks) g)) g) refl;
  between = λ a h b k d l. truth_node ks row _ (f.Between a b d) _ (e.outs-Between a b d) (truth_Between a b d row)
      (λ n g. let low = first_so (comparable (sort_of a ks) (sort_of b ks)) (comparable (sort_of a ks) (sort_of d ks)) g in
      let high = second_so (comparable (sort_of a ks) (sort_of b ks)) (comparable (sort_of a ks) (sort_of d ks)) g in
      let bounds = or_right (has_null a) (has_null b || has_null d) n in
      between_decided (sort_of a ks) (sort_of b ks) (sort_of d ks) (value a row) (value b row) (value d row) (all_typed a ks row r) (all_typed b ks row r) (all_typed d ks row r)
      (h.value (or_left (has_null a) (has_null b || has_null d) n) (comparable_left (sort_of a ks) (sort_of b ks) low)) (k.value (or_left (has_null b) (has_null d) bounds) (comparable_right (sort_of a ks) (sort_of b ks) low))
      (l.value (or_right (has_null b) (has_null d) bounds) (comparable_right (sort_of a ks) (sort_of d ks) high)) low high) refl;
  like = λ a h pattern. truth_node ks row _ (f.Like a pattern) _ (e.outs-Like a pattern) (truth_Like a pattern row)
      (λ n g. liked_decided pattern (sort_of a ks) (value a row) (all_typed a ks row r) (h.value n (text_fits (sort_of a ks) g)) g) refl;
  in_list = λ a h es. let list = exprs {P = Known ks row} es in
      truth_node ks row _ (f.InList a list) _ (e.outs-InList a list) (truth_InList a list row)
      (λ n g. greatest_decided (map (compared Equal (value a row)) (values list row)) False refl
      (equals_decided ks row r (sort_of a ks) (value a row) (all_typed a ks row r) es (or_right (has_null a) (some_null (map has_null list)) n) (h.value (or_left (has_null a) (some_null (map has_null list)) n))
      (second_so (is_fit (sort_of a ks)) (list_all (λ (y : Typing). comparable (sort_of a ks) (y.sort ks)) (map typing list)) g))) refl;
  is_null = λ a h. truth_node ks row _ (f.IsNull a) _ (e.outs-IsNull a) (truth_IsNull a row) (λ n g. null_test_decided (value a row)) refl;
  not = λ a h. truth_node ks row _ (f.Not a) _ (e.outs-Not a) (truth_Not a row) (λ n g. negated_decided (truth a row) (h.truth n g)) refl;
  all = λ es. let list = exprs {P = Known ks row} es in
      truth_node ks row _ (f.All list) _ (e.outs-All list) (truth_All list row) (λ n g. least_decided (truths list row) (Stands AtTrue) refl (truths_decided ks row es n g)) refl;
  any = λ es. let list = exprs {P = Known ks row} es in
      truth_node ks row _ (f.Any list) _ (e.outs-Any list) (truth_Any list row) (λ n g. greatest_decided (truths list row) False refl (truths_decided ks row es n g)) refl;
  is_marked = λ a h. truth_node ks row _ (f.IsMarked a) _ (e.outs-IsMarked a) (truth_IsMarked a row) (λ n g. mark_decided (sort_of a ks) (value a row) (all_typed a ks row r) (h.value n (number_fits (sort_of a ks) g)) g) refl;
  branch = branch_known ks row r;
  operation = operation_known ks row r;
})

-- ---- the laws

not_true : (b : Bool) → not b ≡ true → b ≡ false
not_true false h = refl
not_true true h = cc

given_fits : (x : Sort) (k : Kind) → sort_gives x k ≡ true → is_fit x ≡ true
given_fits Unfit k h = cc
given_fits Nulls k h = refl
given_fits (Of j) k h = refl

not_null : (v : Value) → is_known v ≡ true → v ≢ Null
not_null v h is = let no : true ≡ false = sym h ∙ ap is_known is in cc

not_unknown : (t : Truth) → is_decided t ≡ true → t ≢ Unknown
not_unknown t h is = let no : true ≡ false = sym h ∙ ap is_decided is in cc

pub nulls_come_from_nulls : NullsComeFromNulls
nulls_come_from_nulls x ks row r there n =
    let known = all_known ks row r there x in
    let clean = not_true (has_null x) n in
    (λ k g. not_null (value x row) (known.value clean (given_fits (sort_of x ks) k g)), λ g. not_unknown (truth x row) (known.truth clean g))

-- a condition fits nothing
no_sort : (u : Expr-F Typing BranchTyping OperationTyping) (ks : List Kind) → condition_step u ks ≡ true → sort_step u ks ≡ Unfit
no_sort (f.Column i) ks h = cc
no_sort (f.Literal v) ks h = cc
no_sort (f.Negative a) ks h = cc
no_sort (f.Arithmetic a os) ks h = cc
no_sort (f.Case scale bs a) ks h = cc
no_sort (f.Extract part a) ks h = cc
no_sort (f.Substring a from count) ks h = cc
no_sort u ks h = refl

pub conditions_give_no_kind : ConditionsGiveNoKind
conditions_give_no_kind x ks k h =
    let none = sort_at_node x (out-Expr x) ks refl ∙ no_sort (with_typings (out-Expr x)) ks (sym (test_at_node x (out-Expr x) ks refl) ∙ h) in
    ap (λ s. not (sort_gives s k)) none
