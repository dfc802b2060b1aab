-- The columns that an expression uses, node by node, and what its meaning depends on.
use Rattle.std.proofs.Common.{◌≡◌, ℕ, ◌+◌, ◌<◌, List, [], ◌∷◌, ◌++◌, map, length, get_or, take, refl, ap, sym, subst, ◌∙◌, unwrap_or, append_assoc, append-nil}
use Rattle.std.proofs.lemmas.List.{map-append, take_more}
use Rattle.base_value.specs.Truth.{negated}
use Rattle.base_value.specs.declared.value.Value.{Value}
use Rattle.expr_operators.specs.declared.operator.Arithmetic.{Arithmetic}
use Rattle.expr_scalar.specs.declared.expr.Branch.{Branch}
use Rattle.expr_operators.specs.declared.operator.Comparison.{Comparison}
use Rattle.expr_operators.specs.declared.operator.DatePart.{DatePart}
use Rattle.expr_scalar.specs.declared.expr.Expr.{Expr, Expr-F, out-Expr}
use Rattle.expr_scalar.specs.declared.expr.Expr.TheFolds.{fold_out-Expr, fold_out-Branch, fold_out-Operation, map-Expr}
use Rattle.expr_scalar.specs.declared.expr.Expr.TheVariants as e
use Rattle.expr_scalar.specs.declared.expr.Operation.{Operation}
use Rattle.expr_scalar.specs.Meaning.{value, truth, values, truths, chosen, branch_value, operation_value, operated, first_of, decided, least, greatest, in_list}
use Rattle.expr_operators.specs.Operators.{at_scale, negative, computed, extracted, part_of, compared, between, liked, null_test, truth_of_mark}
use Rattle.expr_scalar.specs.Rename.{gathered}
use Rattle.expr_scalar.specs.Used.{one_list, used_step, branch_used_step, operation_used_step, used, branch_used, operation_used, all_used, branches_used, operations_used, SameAt, UsedColumnsDecide}
use Rattle.expr_scalar.proofs.Induction.{Exprs, Branches, Operations, exprs, branches, operations, induction}
use Rattle.expr_scalar.proofs.Opened.{branch_is, operation_is, value_Column, truth_Column, value_Literal, truth_Literal, value_Negative, truth_Negative, value_Arithmetic, truth_Arithmetic, value_Case, truth_Case, value_Extract, truth_Extract, value_Substring, truth_Substring, value_Compare, truth_Compare, value_Between, truth_Between, value_Like, truth_Like, value_InList, truth_InList, value_IsNull, truth_IsNull, value_Not, truth_Not, value_All, truth_All, value_Any, truth_Any, value_IsMarked, truth_IsMarked}

abbrev used_at : Expr-F Expr Branch Operation → List ℕ
used_at x = used_step (map-Expr Expr Branch Operation (List ℕ) (List ℕ) (List ℕ) used branch_used operation_used x)

used_is : (e : Expr) → used e ≡ used_at (out-Expr e)
unfolding used branch_used operation_used
used_is = fold_out-Expr (List ℕ) (List ℕ) (List ℕ) used_step branch_used_step operation_used_step

pub branch_used_is : (b : Branch) → branch_used b ≡ used b.when ++ used b.gives
unfolding used branch_used operation_used
branch_used_is = fold_out-Branch (List ℕ) (List ℕ) (List ℕ) used_step branch_used_step operation_used_step

pub operation_used_is : (o : Operation) → operation_used o ≡ used o.operand
unfolding used branch_used operation_used
operation_used_is = fold_out-Operation (List ℕ) (List ℕ) (List ℕ) used_step branch_used_step operation_used_step

pub used_Column : (place : ℕ) → used (e.Column place) ≡ place ∷ []
used_Column place = used_is (e.Column place) ∙ ap used_at (e.outs-Column place)

pub used_Literal : (v : Value) → used (e.Literal v) ≡ []
used_Literal v = used_is (e.Literal v) ∙ ap used_at (e.outs-Literal v)

pub used_Negative : (a : Expr) → used (e.Negative a) ≡ used a
used_Negative a = used_is (e.Negative a) ∙ ap used_at (e.outs-Negative a)

pub used_Arithmetic : (a : Expr) (os : List Operation) → used (e.Arithmetic a os) ≡ used a ++ operations_used os
unfolding operations_used
used_Arithmetic a os = used_is (e.Arithmetic a os) ∙ ap used_at (e.outs-Arithmetic a os)

pub used_Case : (scale : ℕ) (bs : List Branch) (a : Expr) → used (e.Case scale bs a) ≡ branches_used bs ++ used a
unfolding branches_used
used_Case scale bs a = used_is (e.Case scale bs a) ∙ ap used_at (e.outs-Case scale bs a)

pub used_Extract : (part : DatePart) (a : Expr) → used (e.Extract part a) ≡ used a
used_Extract part a = used_is (e.Extract part a) ∙ ap used_at (e.outs-Extract part a)

pub used_Substring : (a : Expr) (from : ℕ) (count : ℕ) → used (e.Substring a from count) ≡ used a
used_Substring a from count = used_is (e.Substring a from count) ∙ ap used_at (e.outs-Substring a from count)

pub used_Compare : (comparison : Comparison) (a : Expr) (b : Expr) → used (e.Compare comparison a b) ≡ used a ++ used b
used_Compare comparison a b = used_is (e.Compare comparison a b) ∙ ap used_at (e.outs-Compare comparison a b)

pub used_Between : (a : Expr) (b : Expr) (d : Expr) → used (e.Between a b d) ≡ used a ++ used b ++ used d
used_Between a b d = used_is (e.Between a b d) ∙ ap used_at (e.outs-Between a b d)

pub used_Like : (a : Expr) (pattern : List ℕ) → used (e.Like a pattern) ≡ used a
used_Like a pattern = used_is (e.Like a pattern) ∙ ap used_at (e.outs-Like a pattern)

pub used_InList : (a : Expr) (es : List Expr) → used (e.InList a es) ≡ used a ++ all_used es
unfolding all_used
used_InList a es = used_is (e.InList a es) ∙ ap used_at (e.outs-InList a es)

pub used_IsNull : (a : Expr) → used (e.IsNull a) ≡ used a
used_IsNull a = used_is (e.IsNull a) ∙ ap used_at (e.outs-IsNull a)

pub used_Not : (a : Expr) → used (e.Not a) ≡ used a
used_Not a = used_is (e.Not a) ∙ ap used_at (e.outs-Not a)

pub used_All : (es : List Expr) → used (e.All es) ≡ all_used es
unfolding all_used
used_All es = used_is (e.All es) ∙ ap used_at (e.outs-All es)

pub used_Any : (es : List Expr) → used (e.Any es) ≡ all_used es
unfolding all_used
used_Any es = used_is (e.Any es) ∙ ap used_at (e.outs-Any es)

pub used_IsMarked : (a : Expr) → used (e.IsMarked a) ≡ used a
used_IsMarked a = used_is (e.IsMarked a) ∙ ap used_at (e.outs-IsMarked a)

pub ruleset used_opened = (append_assoc, append-nil, used_Column, used_Literal, used_Negative, used_Arithmetic, used_Case, used_Extract, used_Substring, used_Compare, used_Between, used_Like, used_InList, used_IsNull, used_Not, used_All, used_Any, used_IsMarked)

one_list-push : (xs : List (List ℕ)) (x : List ℕ) → one_list (xs ++ x ∷ []) ≡ one_list xs ++ x
one_list-push [] x = append-nil x
one_list-push (y ∷ xs) x = ap (λ l. y ++ l) (one_list-push xs x) ∙ sym (append_assoc y (one_list xs) x)

all_used-push : (es : List Expr) (x : Expr) → all_used (es ++ x ∷ []) ≡ all_used es ++ used x
unfolding all_used
all_used-push es x = ap one_list (map-append used es (x ∷ [])) ∙ one_list-push (map used es) (used x)

branches_used-push : (bs : List Branch) (b : Branch) → branches_used (bs ++ b ∷ []) ≡ branches_used bs ++ branch_used b
unfolding branches_used
branches_used-push bs b = ap one_list (map-append branch_used bs (b ∷ [])) ∙ one_list-push (map branch_used bs) (branch_used b)

operations_used-push : (os : List Operation) (o : Operation) → operations_used (os ++ o ∷ []) ≡ operations_used os ++ operation_used o
unfolding operations_used
operations_used-push os o = ap one_list (map-append operation_used os (o ∷ [])) ∙ one_list-push (map operation_used os) (operation_used o)

-- the steps of the loops
pub no_uses : (start : List ℕ) → start ≡ start ++ all_used []
unfolding all_used
no_uses start = sym (append-nil start)

pub no_branch_uses : (start : List ℕ) → start ≡ start ++ branches_used []
unfolding branches_used
no_branch_uses start = sym (append-nil start)

pub no_operation_uses : (start : List ℕ) → start ≡ start ++ operations_used []
unfolding operations_used
no_operation_uses start = sym (append-nil start)

pub more_used : (start now next : List ℕ) (es : List Expr) (i : ℕ) (x : Expr) → i < length es → x ≡ get_or es i x
    → now ≡ start ++ all_used (take i es) → next ≡ now ++ used x → next ≡ start ++ all_used (take (i + 1) es)
more_used start now next es i x lt is before new =
    new ∙ ap (λ l. l ++ used x) before ∙ append_assoc start (all_used (take i es)) (used x)
    ∙ ap (λ l. start ++ l) (sym (all_used-push (take i es) x))
    ∙ ap (λ l. start ++ all_used l) (sym (take_more es i x lt ∙ ap (λ y. take i es ++ y ∷ []) (sym is)))

pub more_branches_used : (start now next last : List ℕ) (bs : List Branch) (i : ℕ) (b : Branch) → i < length bs → b ≡ get_or bs i b
    → now ≡ start ++ branches_used (take i bs) → next ≡ now ++ used b.when → last ≡ next ++ used b.gives → last ≡ start ++ branches_used (take (i + 1) bs)
more_branches_used start now next last bs i b lt is before new newer =
    newer ∙ ap (λ l. l ++ used b.gives) new ∙ append_assoc now (used b.when) (used b.gives)
    ∙ ap (λ l. now ++ l) (sym (branch_used_is b)) ∙ ap (λ l. l ++ branch_used b) before
    ∙ append_assoc start (branches_used (take i bs)) (branch_used b)
    ∙ ap (λ l. start ++ l) (sym (branches_used-push (take i bs) b))
    ∙ ap (λ l. start ++ branches_used l) (sym (take_more bs i b lt ∙ ap (λ y. take i bs ++ y ∷ []) (sym is)))

pub more_operations_used : (start now next : List ℕ) (os : List Operation) (i : ℕ) (o : Operation) → i < length os → o ≡ get_or os i o
    → now ≡ start ++ operations_used (take i os) → next ≡ now ++ used o.operand → next ≡ start ++ operations_used (take (i + 1) os)
more_operations_used start now next os i o lt is before new =
    new ∙ ap (λ l. now ++ l) (sym (operation_used_is o)) ∙ ap (λ l. l ++ operation_used o) before
    ∙ append_assoc start (operations_used (take i os)) (operation_used o)
    ∙ ap (λ l. start ++ l) (sym (operations_used-push (take i os) o))
    ∙ ap (λ l. start ++ operations_used l) (sym (take_more os i o lt ∙ ap (λ y. take i os ++ y ∷ []) (sym is)))

-- ---- rows with the same values at some places

left_part : (xs ys : List ℕ) (row other : List Value) → SameAt (xs ++ ys) row other → SameAt xs row other
unfolding gathered
left_part [] ys row other h = refl
left_part (x ∷ xs) ys row other h =
    let t : SameAt (xs ++ ys) row other = cc in
    let k : SameAt xs row other = left_part xs ys row other t in
    cc

right_part : (xs ys : List ℕ) (row other : List Value) → SameAt (xs ++ ys) row other → SameAt ys row other
unfolding gathered
right_part [] ys row other h = h
right_part (x ∷ xs) ys row other h =
    let t : SameAt (xs ++ ys) row other = cc in
    right_part xs ys row other t

same_here : (place : ℕ) (row other : List Value) → SameAt (place ∷ []) row other → value (e.Column place) row ≡ value (e.Column place) other
unfolding gathered
same_here place row other h =
    let k : value (e.Column place) row ≡ value (e.Column place) other = cc (h, value_Column place row, value_Column place other) in k

pub record Same (x : Expr) (row other : List Value) : Type 0 where
  pub value : value x row ≡ value x other
  pub truth : truth x row ≡ truth x other

abbrev Decides : Expr → Type 0
Decides x = (row other : List Value) → SameAt (used x) row other → Same x row other

abbrev BranchDecides : Branch → Type 0
BranchDecides b = (row other : List Value) → SameAt (branch_used b) row other → branch_value b row ≡ branch_value b other

abbrev OperationDecides : Operation → Type 0
OperationDecides o = (x : Value) (row other : List Value) → SameAt (operation_used o) row other → operation_value o x row ≡ operation_value o x other

same_values : (xs : Exprs Decides) (row other : List Value) → SameAt (all_used (exprs {P = Decides} xs)) row other → values (exprs {P = Decides} xs) row ≡ values (exprs {P = Decides} xs) other
unfolding all_used values
same_values [] row other h = refl
same_values (x ∷ xs) row other h =
    let first = x.1 row other (left_part (used x.0) (all_used (exprs {P = Decides} xs)) row other h) in
    ap (λ v. v ∷ values (exprs {P = Decides} xs) row) first.value
    ∙ ap (λ vs. value x.0 other ∷ vs) (same_values xs row other (right_part (used x.0) (all_used (exprs {P = Decides} xs)) row other h))

same_truths : (xs : Exprs Decides) (row other : List Value) → SameAt (all_used (exprs {P = Decides} xs)) row other → truths (exprs {P = Decides} xs) row ≡ truths (exprs {P = Decides} xs) other
unfolding all_used truths
same_truths [] row other h = refl
same_truths (x ∷ xs) row other h =
    let first = x.1 row other (left_part (used x.0) (all_used (exprs {P = Decides} xs)) row other h) in
    ap (λ v. v ∷ truths (exprs {P = Decides} xs) row) first.truth
    ∙ ap (λ vs. truth x.0 other ∷ vs) (same_truths xs row other (right_part (used x.0) (all_used (exprs {P = Decides} xs)) row other h))

same_chosen : (bs : Branches BranchDecides) (row other : List Value) → SameAt (branches_used (branches {Q = BranchDecides} bs)) row other → chosen (branches {Q = BranchDecides} bs) row ≡ chosen (branches {Q = BranchDecides} bs) other
unfolding branches_used chosen
same_chosen [] row other h = refl
same_chosen (b ∷ bs) row other h =
    ap (λ o. first_of o (chosen (branches {Q = BranchDecides} bs) row)) (b.1 row other (left_part (branch_used b.0) (branches_used (branches {Q = BranchDecides} bs)) row other h))
    ∙ ap (first_of (branch_value b.0 other)) (same_chosen bs row other (right_part (branch_used b.0) (branches_used (branches {Q = BranchDecides} bs)) row other h))

same_operated : (x : Value) (os : Operations OperationDecides) (row other : List Value) → SameAt (operations_used (operations {R = OperationDecides} os)) row other
    → operated x (operations {R = OperationDecides} os) row ≡ operated x (operations {R = OperationDecides} os) other
unfolding operations_used operated
same_operated x [] row other h = refl
same_operated x (o ∷ os) row other h =
    let rest = operations {R = OperationDecides} os in
    ap (λ y. operated y rest row) (o.1 x row other (left_part (operation_used o.0) (operations_used rest) row other h))
    ∙ same_operated (operation_value o.0 x other) os row other (right_part (operation_used o.0) (operations_used rest) row other h)

same_operation : (operator : Arithmetic) (operand : Expr) → Decides operand → OperationDecides (record { operator = operator; operand = operand })
same_operation operator operand d x row other h =
    let o : Operation = record { operator = operator; operand = operand } in
    let all : SameAt (used operand) row other = subst (λ u. SameAt u row other) (operation_used_is o) h in
    operation_is o x row ∙ ap (λ v. computed operator x v) (d row other all).value ∙ sym (operation_is o x other)

same_branch : (when gives : Expr) → Decides when → Decides gives → BranchDecides (record { when = when; gives = gives })
same_branch when gives w g row other h =
    let b : Branch = record { when = when; gives = gives } in
    let all : SameAt (used when ++ used gives) row other = subst (λ u. SameAt u row other) (branch_used_is b) h in
    let first = w row other (left_part (used when) (used gives) row other all) in
    let second = g row other (right_part (used when) (used gives) row other all) in
    branch_is b row ∙ ap (λ t. decided t (value gives row)) first.truth
    ∙ ap (λ v. decided (truth when other) v) second.value ∙ sym (branch_is b other)

same_Column : (place : ℕ) → Decides (e.Column place)
same_Column place row other h = record { value = same_here place row other (subst (λ u. SameAt u row other) (used_Column place) h); truth = truth_Column place row ∙ sym (truth_Column place other) }

same_Literal : (v : Value) → Decides (e.Literal v)
same_Literal v row other h = record { value = value_Literal v row ∙ sym (value_Literal v other); truth = truth_Literal v row ∙ sym (truth_Literal v other) }

same_Negative : (a : Expr) → Decides a → Decides (e.Negative a)
same_Negative a ha row other h =
    let all : SameAt (used a) row other = subst (λ u. SameAt u row other) (used_Negative a) h in
    record {
      value = value_Negative a row ∙ ap (λ x. negative x) (ha row other all).value ∙ sym (value_Negative a other);
      truth = truth_Negative a row ∙ sym (truth_Negative a other);
    }

same_Arithmetic : (a : Expr) → Decides a → (os : Operations OperationDecides) → Decides (e.Arithmetic a (operations {R = OperationDecides} os))
same_Arithmetic a ha os row other h =
    let list = operations {R = OperationDecides} os in
    let all : SameAt (used a ++ operations_used list) row other = subst (λ u. SameAt u row other) (used_Arithmetic a list) h in
    let p1 : SameAt (operations_used list) row other = right_part (used a) (operations_used list) row other all in
    let q1 : SameAt (used a) row other = left_part (used a) (operations_used list) row other all in
    record {
      value = value_Arithmetic a list row ∙ ap (λ x. operated x list row) (ha row other q1).value ∙ same_operated (value a other) os row other p1 ∙ sym (value_Arithmetic a list other);
      truth = truth_Arithmetic a list row ∙ sym (truth_Arithmetic a list other);
    }

same_Case : (scale : ℕ) → (xs : Branches BranchDecides) → (a : Expr) → Decides a → Decides (e.Case scale (branches {Q = BranchDecides} xs) a)
same_Case scale xs a ha row other h =
    let all : SameAt (branches_used (branches {Q = BranchDecides} xs) ++ used a) row other = subst (λ u. SameAt u row other) (used_Case scale (branches {Q = BranchDecides} xs) a) h in
    let p1 : SameAt (used a) row other = right_part (branches_used (branches {Q = BranchDecides} xs)) (used a) row other all in
    let q1 : SameAt (branches_used (branches {Q = BranchDecides} xs)) row other = left_part (branches_used (branches {Q = BranchDecides} xs)) (used a) row other all in
    record {
      value = value_Case scale (branches {Q = BranchDecides} xs) a row ∙ ap (λ x. at_scale scale (unwrap_or x (value a row))) (same_chosen xs row other q1) ∙ ap (λ x. at_scale scale (unwrap_or (chosen (branches {Q = BranchDecides} xs) other) x)) (ha row other p1).value ∙ sym (value_Case scale (branches {Q = BranchDecides} xs) a other);
      truth = truth_Case scale (branches {Q = BranchDecides} xs) a row ∙ sym (truth_Case scale (branches {Q = BranchDecides} xs) a other);
    }

same_Extract : (part : DatePart) → (a : Expr) → Decides a → Decides (e.Extract part a)
same_Extract part a ha row other h =
    let all : SameAt (used a) row other = subst (λ u. SameAt u row other) (used_Extract part a) h in
    record {
      value = value_Extract part a row ∙ ap (λ x. extracted part x) (ha row other all).value ∙ sym (value_Extract part a other);
      truth = truth_Extract part a row ∙ sym (truth_Extract part a other);
    }

same_Substring : (a : Expr) → Decides a → (from : ℕ) → (count : ℕ) → Decides (e.Substring a from count)
same_Substring a ha from count row other h =
    let all : SameAt (used a) row other = subst (λ u. SameAt u row other) (used_Substring a from count) h in
    record {
      value = value_Substring a from count row ∙ ap (λ x. part_of from count x) (ha row other all).value ∙ sym (value_Substring a from count other);
      truth = truth_Substring a from count row ∙ sym (truth_Substring a from count other);
    }

same_Compare : (comparison : Comparison) → (a : Expr) → Decides a → (b : Expr) → Decides b → Decides (e.Compare comparison a b)
same_Compare comparison a ha b hb row other h =
    let all : SameAt (used a ++ used b) row other = subst (λ u. SameAt u row other) (used_Compare comparison a b) h in
    let p1 : SameAt (used b) row other = right_part (used a) (used b) row other all in
    let q1 : SameAt (used a) row other = left_part (used a) (used b) row other all in
    record {
      value = value_Compare comparison a b row ∙ sym (value_Compare comparison a b other);
      truth = truth_Compare comparison a b row ∙ ap (λ x. compared comparison x (value b row)) (ha row other q1).value ∙ ap (λ x. compared comparison (value a other) x) (hb row other p1).value ∙ sym (truth_Compare comparison a b other);
    }

same_Between : (a : Expr) → Decides a → (b : Expr) → Decides b → (d : Expr) → Decides d → Decides (e.Between a b d)
same_Between a ha b hb d hd row other h =
    let all : SameAt (used a ++ used b ++ used d) row other = subst (λ u. SameAt u row other) (used_Between a b d) h in
    let p2 : SameAt (used d) row other = right_part (used a ++ used b) (used d) row other all in
    let q2 : SameAt (used a ++ used b) row other = left_part (used a ++ used b) (used d) row other all in
    let p1 : SameAt (used b) row other = right_part (used a) (used b) row other q2 in
    let q1 : SameAt (used a) row other = left_part (used a) (used b) row other q2 in
    record {
      value = value_Between a b d row ∙ sym (value_Between a b d other);
      truth = truth_Between a b d row ∙ ap (λ x. between x (value b row) (value d row)) (ha row other q1).value ∙ ap (λ x. between (value a other) x (value d row)) (hb row other p1).value ∙ ap (λ x. between (value a other) (value b other) x) (hd row other p2).value ∙ sym (truth_Between a b d other);
    }

same_Like : (a : Expr) → Decides a → (pattern : List ℕ) → Decides (e.Like a pattern)
same_Like a ha pattern row other h =
    let all : SameAt (used a) row other = subst (λ u. SameAt u row other) (used_Like a pattern) h in
    record {
      value = value_Like a pattern row ∙ sym (value_Like a pattern other);
      truth = truth_Like a pattern row ∙ ap (λ x. liked pattern x) (ha row other all).value ∙ sym (truth_Like a pattern other);
    }

same_InList : (a : Expr) → Decides a → (xs : Exprs Decides) → Decides (e.InList a (exprs {P = Decides} xs))
same_InList a ha xs row other h =
    let all : SameAt (used a ++ all_used (exprs {P = Decides} xs)) row other = subst (λ u. SameAt u row other) (used_InList a (exprs {P = Decides} xs)) h in
    let p1 : SameAt (all_used (exprs {P = Decides} xs)) row other = right_part (used a) (all_used (exprs {P = Decides} xs)) row other all in
    let q1 : SameAt (used a) row other = left_part (used a) (all_used (exprs {P = Decides} xs)) row other all in
    record {
      value = value_InList a (exprs {P = Decides} xs) row ∙ sym (value_InList a (exprs {P = Decides} xs) other);
      truth = truth_InList a (exprs {P = Decides} xs) row ∙ ap (λ x. in_list x (values (exprs {P = Decides} xs) row)) (ha row other q1).value ∙ ap (λ x. in_list (value a other) x) (same_values xs row other p1) ∙ sym (truth_InList a (exprs {P = Decides} xs) other);
    }

same_IsNull : (a : Expr) → Decides a → Decides (e.IsNull a)
same_IsNull a ha row other h =
    let all : SameAt (used a) row other = subst (λ u. SameAt u row other) (used_IsNull a) h in
    record {
      value = value_IsNull a row ∙ sym (value_IsNull a other);
      truth = truth_IsNull a row ∙ ap (λ x. null_test x) (ha row other all).value ∙ sym (truth_IsNull a other);
    }

same_Not : (a : Expr) → Decides a → Decides (e.Not a)
same_Not a ha row other h =
    let all : SameAt (used a) row other = subst (λ u. SameAt u row other) (used_Not a) h in
    record {
      value = value_Not a row ∙ sym (value_Not a other);
      truth = truth_Not a row ∙ ap (λ x. negated x) (ha row other all).truth ∙ sym (truth_Not a other);
    }

same_All : (xs : Exprs Decides) → Decides (e.All (exprs {P = Decides} xs))
same_All xs row other h =
    let all : SameAt (all_used (exprs {P = Decides} xs)) row other = subst (λ u. SameAt u row other) (used_All (exprs {P = Decides} xs)) h in
    record {
      value = value_All (exprs {P = Decides} xs) row ∙ sym (value_All (exprs {P = Decides} xs) other);
      truth = truth_All (exprs {P = Decides} xs) row ∙ ap (λ x. least x) (same_truths xs row other all) ∙ sym (truth_All (exprs {P = Decides} xs) other);
    }

same_Any : (xs : Exprs Decides) → Decides (e.Any (exprs {P = Decides} xs))
same_Any xs row other h =
    let all : SameAt (all_used (exprs {P = Decides} xs)) row other = subst (λ u. SameAt u row other) (used_Any (exprs {P = Decides} xs)) h in
    record {
      value = value_Any (exprs {P = Decides} xs) row ∙ sym (value_Any (exprs {P = Decides} xs) other);
      truth = truth_Any (exprs {P = Decides} xs) row ∙ ap (λ x. greatest x) (same_truths xs row other all) ∙ sym (truth_Any (exprs {P = Decides} xs) other);
    }

same_IsMarked : (a : Expr) → Decides a → Decides (e.IsMarked a)
same_IsMarked a ha row other h =
    let all : SameAt (used a) row other = subst (λ u. SameAt u row other) (used_IsMarked a) h in
    record {
      value = value_IsMarked a row ∙ sym (value_IsMarked a other);
      truth = truth_IsMarked a row ∙ ap (λ x. truth_of_mark x) (ha row other all).value ∙ sym (truth_IsMarked a other);
    }

all_decide : (x : Expr) → Decides x
all_decide = induction Decides BranchDecides OperationDecides (record {
  column = same_Column;
  literal = same_Literal;
  negative = same_Negative;
  arithmetic = same_Arithmetic;
  case = same_Case;
  extract = same_Extract;
  substring = same_Substring;
  compare = same_Compare;
  between = same_Between;
  like = same_Like;
  in_list = same_InList;
  is_null = same_IsNull;
  not = same_Not;
  all = same_All;
  any = same_Any;
  is_marked = same_IsMarked;
  branch = same_branch;
  operation = same_operation;
})

pub used_columns_decide_lem : UsedColumnsDecide
used_columns_decide_lem x row other h = ((all_decide x row other h).value, (all_decide x row other h).truth)
