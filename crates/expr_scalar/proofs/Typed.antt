-- A well-typed expression gives values of its kind.
use Rattle.std.proofs.Common.{◌≡◌, ℕ, ◌+◌, max, zero, suc, List, [], ◌∷◌, map, Bool, true, false, ◌==◌, nat_le, if◌then◌else◌, refl, ap, sym, subst, ◌∙◌, Option, Some, None, unwrap_or, ℤ, Result, Ok, Err, slice_index_or, slice_get}
use Rattle.std.specs.Cmp.{first_so, second_so}
use Rattle.std.specs.Prelude.{option_map}
use Rattle.std.proofs.lemmas.Bool.Decides.{Decides-eqb}
use Rattle.base_decimal.specs.Decimal.{rescaled, sum_of, difference_of, product_of, quotient_of, quotient_scale}
use Rattle.base_decimal.specs.declared.arithmetic.NumberFault.{NumberFault}
use Rattle.base_decimal.specs.declared.arithmetic.NumberFault.TheVariants as decimal
use Rattle.base_value.specs.Truth.{least_fault}
use Rattle.base_value.specs.declared.truth.Fault.{Fault}
use Rattle.base_value.specs.declared.truth.Standing.TheVariants.{AtFault, AtTrue}
use Rattle.base_value.specs.declared.truth.Truth.{Truth}
use Rattle.base_value.specs.declared.truth.Truth.TheVariants.{False, Unknown, Stands}
use Rattle.base_value.specs.declared.value.Value.{Value}
use Rattle.base_value.specs.declared.value.Value.TheVariants.{Null, Fault as Failed, Number, Text, Date}
use Rattle.expr_operators.specs.declared.operator.Arithmetic.{Arithmetic}
use Rattle.expr_operators.specs.declared.operator.Arithmetic.TheVariants.{Add, Subtract, Multiply, Divide}
use Rattle.expr_scalar.specs.declared.expr.Branch.{Branch}
use Rattle.expr_operators.specs.declared.operator.DatePart.{DatePart}
use Rattle.expr_scalar.specs.declared.expr.Expr.{Expr, Expr-F, out-Expr}
use Rattle.expr_scalar.specs.declared.expr.Expr.TheFolds.{fold_out-Expr, fold_out-Branch, fold_out-Operation, map-Expr}
use Rattle.expr_scalar.specs.declared.expr.Expr.TheVariants as e
use Rattle.expr_scalar.specs.declared.expr.Operation.{Operation}
use Rattle.expr_scalar.specs.declared.kind.Kind.{Kind}
use Rattle.expr_scalar.specs.declared.kind.Kind.TheVariants as kind
use Rattle.expr_scalar.specs.Meaning.{value, truth, chosen, branch_value, operation_value, operated, decided, first_of}
use Rattle.expr_operators.specs.Operators.{number_or_fault, arithmetic, computed, negative, at_scale, extracted, part_of}
use Rattle.expr_scalar.specs.Typing.{same_kind, is_of_kind, row_is_of, Sort, Unfit, Nulls, Of, column_sort, literal_sort, negative_sort, result_sort, arithmetic_sort, extract_sort, substring_sort, scaled_sort, both_sorts, all_sorts, branches_sorts, sort_in_turn, sort_gives, sort_of, is_condition, typing, branch_sort, operation_sort, Typing, BranchTyping, OperationTyping, typing_step, branch_sort_step, operation_sort_step, sort_step, condition_step, WellTypedGivesItsKind}
use Rattle.expr_scalar.proofs.Induction.{Branches, Operations, exprs, branches, operations, induction}
use Rattle.expr_scalar.proofs.Opened.{branch_is, operation_is, value_Column, value_Literal, value_Negative, value_Arithmetic, value_Case, value_Extract, value_Substring, value_Compare, value_Between, value_Like, value_InList, value_IsNull, value_Not, value_All, value_Any, value_IsMarked}

-- a value that an expression of the sort can have
abbrev pub fits : Sort → Value → Bool
fits s Null = true
fits s (Failed f) = true
fits Unfit v = true
fits Nulls v = false
fits (Of k) v = is_of_kind k v

same_scale : (s : ℕ) → (s == s) ≡ true
same_scale s = (Decides-eqb s s).1 refl

fits_null : (x : Sort) → fits x Null ≡ true
fits_null Unfit = refl
fits_null Nulls = refl
fits_null (Of k) = refl

fits_fault : (x : Sort) (f : Fault) → fits x (Failed f) ≡ true
fits_fault Unfit f = refl
fits_fault Nulls f = refl
fits_fault (Of k) f = refl

of_kind : (k : Kind) (v : Value) → fits (Of k) v ≡ is_of_kind k v
of_kind k Null = refl
of_kind k (Failed f) = refl
of_kind k (Number s c) = refl
of_kind k (Text t) = refl
of_kind k (Date d) = refl

unfit : (v : Value) → fits Unfit v ≡ true
unfit Null = refl
unfit (Failed f) = refl
unfit (Number s c) = refl
unfit (Text t) = refl
unfit (Date d) = refl

column_typed : (ks : List Kind) (row : List Value) (i : ℕ) → row_is_of ks row ≡ true → fits (column_sort (slice_get ks i)) (slice_index_or row i Null) ≡ true
column_typed [] row i r = unfit (slice_index_or row i Null)
column_typed (k ∷ ks) [] i r = cc
column_typed (k ∷ ks) (v ∷ vs) zero r = of_kind k v ∙ first_so (is_of_kind k v) (row_is_of ks vs) r
column_typed (k ∷ ks) (v ∷ vs) (suc i) r = column_typed ks vs i (second_so (is_of_kind k v) (row_is_of ks vs) r)

literal_typed : (v : Value) → fits (literal_sort v) v ≡ true
literal_typed Null = refl
literal_typed (Failed f) = refl
literal_typed (Number s c) = same_scale s
literal_typed (Text t) = refl
literal_typed (Date d) = refl

number_typed : (s : ℕ) (r : Result ℤ NumberFault) → fits (Of (kind.Number s)) (number_or_fault s r) ≡ true
number_typed s (Ok c) = same_scale s
number_typed s (Err decimal.NumberRange) = refl
number_typed s (Err decimal.DivideByZero) = refl

test_typed : (b : Bool) (s : ℕ) (r : Result ℤ NumberFault) → fits (if b then Of (kind.Number s) else Unfit) (if b then number_or_fault s r else Null) ≡ true
test_typed true s r = number_typed s r
test_typed false s r = refl

negative_typed : (x : Sort) (v : Value) → fits x v ≡ true → fits (negative_sort x) (negative v) ≡ true
negative_typed Unfit v h = unfit (negative v)
negative_typed Nulls v h = unfit (negative v)
negative_typed (Of kind.Text) v h = unfit (negative v)
negative_typed (Of kind.Date) v h = unfit (negative v)
negative_typed (Of (kind.Number s)) Null h = refl
negative_typed (Of (kind.Number s)) (Failed f) h = refl
negative_typed (Of (kind.Number s)) (Number t c) h =
    let is : s ≡ t = (Decides-eqb s t).0 h in
    subst (λ u. fits (Of (kind.Number u)) (negative (Number t c)) ≡ true) (sym is) (number_typed t _)
negative_typed (Of (kind.Number s)) (Text t) h = cc
negative_typed (Of (kind.Number s)) (Date d) h = cc

result_typed : (operator : Arithmetic) (s t : ℕ) (a b : ℤ) → fits (result_sort operator s t) (arithmetic operator s a t b) ≡ true
result_typed Add s t a b = number_typed (max s t) (sum_of a s b t)
result_typed Subtract s t a b = number_typed (max s t) (difference_of a s b t)
result_typed Multiply s t a b = test_typed (nat_le (s + t) 18) (s + t) (product_of a b)
result_typed Divide s t a b = number_typed (quotient_scale s) (quotient_of a s b t)

both_numbers : (operator : Arithmetic) (s t : ℕ) (v w : Value) → fits (Of (kind.Number s)) v ≡ true → fits (Of (kind.Number t)) w ≡ true
    → fits (result_sort operator s t) (computed operator v w) ≡ true
both_numbers operator s t Null w h k = fits_null (result_sort operator s t)
both_numbers operator s t (Failed f) Null h k = fits_null (result_sort operator s t)
both_numbers operator s t (Failed f) (Failed g) h k = fits_fault (result_sort operator s t) (least_fault f g)
both_numbers operator s t (Failed f) (Number u c) h k = fits_fault (result_sort operator s t) f
both_numbers operator s t (Failed f) (Text x) h k = cc
both_numbers operator s t (Failed f) (Date x) h k = cc
both_numbers operator s t (Number r a) Null h k = fits_null (result_sort operator s t)
both_numbers operator s t (Number r a) (Failed g) h k = fits_fault (result_sort operator s t) g
both_numbers operator s t (Number r a) (Number u b) h k =
    let left : s ≡ r = (Decides-eqb s r).0 h in
    let right : t ≡ u = (Decides-eqb t u).0 k in
    subst (λ p. fits (result_sort operator p t) (arithmetic operator r a u b) ≡ true) (sym left)
    (subst (λ p. fits (result_sort operator r p) (arithmetic operator r a u b) ≡ true) (sym right) (result_typed operator r u a b))
both_numbers operator s t (Number r a) (Text x) h k = cc
both_numbers operator s t (Number r a) (Date x) h k = cc
both_numbers operator s t (Text x) w h k = cc
both_numbers operator s t (Date x) w h k = cc

pub arithmetic_typed : (operator : Arithmetic) (x y : Sort) (v w : Value) → fits x v ≡ true → fits y w ≡ true
    → fits (arithmetic_sort operator x y) (computed operator v w) ≡ true
arithmetic_typed operator (Of (kind.Number s)) (Of (kind.Number t)) v w h k = both_numbers operator s t v w h k
arithmetic_typed operator (Of (kind.Number s)) (Of kind.Text) v w h k = unfit (computed operator v w)
arithmetic_typed operator (Of (kind.Number s)) (Of kind.Date) v w h k = unfit (computed operator v w)
arithmetic_typed operator (Of (kind.Number s)) Nulls v w h k = unfit (computed operator v w)
arithmetic_typed operator (Of (kind.Number s)) Unfit v w h k = unfit (computed operator v w)
arithmetic_typed operator (Of kind.Text) y v w h k = unfit (computed operator v w)
arithmetic_typed operator (Of kind.Date) y v w h k = unfit (computed operator v w)
arithmetic_typed operator Nulls y v w h k = unfit (computed operator v w)
arithmetic_typed operator Unfit y v w h k = unfit (computed operator v w)

extract_typed : (part : DatePart) (x : Sort) (v : Value) → fits x v ≡ true → fits (extract_sort x) (extracted part v) ≡ true
extract_typed part Unfit v h = unfit (extracted part v)
extract_typed part Nulls v h = unfit (extracted part v)
extract_typed part (Of (kind.Number s)) v h = unfit (extracted part v)
extract_typed part (Of kind.Text) v h = unfit (extracted part v)
extract_typed part (Of kind.Date) Null h = refl
extract_typed part (Of kind.Date) (Failed f) h = refl
extract_typed part (Of kind.Date) (Date d) h = refl
extract_typed part (Of kind.Date) (Number s c) h = cc
extract_typed part (Of kind.Date) (Text t) h = cc

substring_typed : (from count : ℕ) (x : Sort) (v : Value) → fits x v ≡ true → fits (substring_sort x) (part_of from count v) ≡ true
substring_typed from count Unfit v h = unfit (part_of from count v)
substring_typed from count Nulls v h = unfit (part_of from count v)
substring_typed from count (Of (kind.Number s)) v h = unfit (part_of from count v)
substring_typed from count (Of kind.Date) v h = unfit (part_of from count v)
substring_typed from count (Of kind.Text) Null h = refl
substring_typed from count (Of kind.Text) (Failed f) h = refl
substring_typed from count (Of kind.Text) (Text t) h = refl
substring_typed from count (Of kind.Text) (Number s c) h = cc
substring_typed from count (Of kind.Text) (Date d) h = cc

-- ---- CASE

scaled_typed : (scale : ℕ) (x : Sort) (v : Value) → fits x v ≡ true → fits (scaled_sort scale x) (at_scale scale v) ≡ true
scaled_typed scale x Null h = fits_null (scaled_sort scale x)
scaled_typed scale x (Failed f) h = fits_fault (scaled_sort scale x) f
scaled_typed scale Unfit (Number s c) h = unfit (at_scale scale (Number s c))
scaled_typed scale Unfit (Text t) h = refl
scaled_typed scale Unfit (Date d) h = refl
scaled_typed scale Nulls (Number s c) h = cc
scaled_typed scale Nulls (Text t) h = cc
scaled_typed scale Nulls (Date d) h = cc
scaled_typed scale (Of (kind.Number r)) (Number s c) h =
    let is : r ≡ s = (Decides-eqb r s).0 h in
    subst (λ u. fits (scaled_sort scale (Of (kind.Number u))) (at_scale scale (Number s c)) ≡ true) (sym is)
    (test_typed (nat_le s scale) scale (rescaled c s scale))
scaled_typed scale (Of (kind.Number r)) (Text t) h = cc
scaled_typed scale (Of (kind.Number r)) (Date d) h = cc
scaled_typed scale (Of kind.Text) (Number s c) h = cc
scaled_typed scale (Of kind.Text) (Text t) h = refl
scaled_typed scale (Of kind.Text) (Date d) h = cc
scaled_typed scale (Of kind.Date) (Number s c) h = cc
scaled_typed scale (Of kind.Date) (Text t) h = cc
scaled_typed scale (Of kind.Date) (Date d) h = refl

nulls_only : (y : Sort) (v : Value) → fits Nulls v ≡ true → fits y v ≡ true
nulls_only y Null h = fits_null y
nulls_only y (Failed f) h = fits_fault y f
nulls_only y (Number s c) h = cc
nulls_only y (Text t) h = cc
nulls_only y (Date d) h = cc

other_kind : (j k : Kind) (v : Value) → same_kind j k ≡ true → is_of_kind k v ≡ true → is_of_kind j v ≡ true
other_kind (kind.Number s) (kind.Number t) v e h = let is : s ≡ t = (Decides-eqb s t).0 e in subst (λ u. is_of_kind (kind.Number u) v ≡ true) (sym is) h
other_kind kind.Text kind.Text v e h = h
other_kind kind.Date kind.Date v e h = h
other_kind (kind.Number s) kind.Text v e h = cc
other_kind (kind.Number s) kind.Date v e h = cc
other_kind kind.Text (kind.Number s) v e h = cc
other_kind kind.Text kind.Date v e h = cc
other_kind kind.Date (kind.Number s) v e h = cc
other_kind kind.Date kind.Text v e h = cc

kinds_left : (b : Bool) (j : Kind) (v : Value) → fits (Of j) v ≡ true → fits (if b then Of j else Unfit) v ≡ true
kinds_left true j v h = h
kinds_left false j v h = unfit v

kinds_right : (b : Bool) (j k : Kind) (v : Value) → same_kind j k ≡ b → fits (Of k) v ≡ true → fits (if b then Of j else Unfit) v ≡ true
kinds_right true j k v e h = of_kind j v ∙ other_kind j k v e (sym (of_kind k v) ∙ h)
kinds_right false j k v e h = unfit v

both_left : (x y : Sort) (v : Value) → fits x v ≡ true → fits (both_sorts x y) v ≡ true
both_left Unfit y v h = unfit v
both_left Nulls y v h = nulls_only y v h
both_left (Of j) Unfit v h = unfit v
both_left (Of j) Nulls v h = h
both_left (Of j) (Of k) v h = kinds_left (same_kind j k) j v h

both_right : (x y : Sort) (v : Value) → fits y v ≡ true → fits (both_sorts x y) v ≡ true
both_right Unfit y v h = unfit v
both_right Nulls y v h = h
both_right (Of j) Unfit v h = unfit v
both_right (Of j) Nulls v h = nulls_only (Of j) v h
both_right (Of j) (Of k) v h = kinds_right (same_kind j k) j k v refl h

-- what is there fits
abbrev pub some_fits : Sort → Option Value → Bool
some_fits x None = true
some_fits x (Some v) = fits x v

abbrev scaled_value : ℕ → Option Value → Option Value
scaled_value scale o = option_map (at_scale scale) o

some_left : (x y : Sort) (o : Option Value) → some_fits x o ≡ true → some_fits (both_sorts x y) o ≡ true
some_left x y None h = refl
some_left x y (Some v) h = both_left x y v h

some_right : (x y : Sort) (o : Option Value) → some_fits y o ≡ true → some_fits (both_sorts x y) o ≡ true
some_right x y None h = refl
some_right x y (Some v) h = both_right x y v h

scaled_some : (scale : ℕ) (x : Sort) (o : Option Value) → some_fits x o ≡ true → some_fits (scaled_sort scale x) (scaled_value scale o) ≡ true
scaled_some scale x None h = refl
scaled_some scale x (Some v) h = scaled_typed scale x v h

first_typed : (scale : ℕ) (x y : Sort) (o p : Option Value) → some_fits x (scaled_value scale o) ≡ true → some_fits y (scaled_value scale p) ≡ true
    → some_fits (both_sorts x y) (scaled_value scale (first_of o p)) ≡ true
first_typed scale x y None p h k = some_right x y (scaled_value scale p) k
first_typed scale x y (Some v) p h k = some_left x y (Some (at_scale scale v)) h

case_typed : (scale : ℕ) (x y : Sort) (o : Option Value) (v : Value) → some_fits x (scaled_value scale o) ≡ true → fits y v ≡ true
    → fits (both_sorts x (scaled_sort scale y)) (at_scale scale (unwrap_or o v)) ≡ true
case_typed scale x y None v h k = both_right x (scaled_sort scale y) (at_scale scale v) (scaled_typed scale y v k)
case_typed scale x y (Some w) v h k = both_left x (scaled_sort scale y) (at_scale scale w) h

decided_typed : (x : Sort) (t : Truth) (v : Value) → fits x v ≡ true → some_fits x (decided t v) ≡ true
decided_typed x False v h = refl
decided_typed x Unknown v h = refl
decided_typed x (Stands AtTrue) v h = h
decided_typed x (Stands (AtFault f)) v h = fits_fault x f

tested_branch : (b : Bool) (x : Sort) (o : Option Value) → some_fits x o ≡ true → some_fits (if b then x else Unfit) o ≡ true
tested_branch true x o h = h
tested_branch false x None h = refl
tested_branch false x (Some v) h = unfit v

-- ---- the sorts of nodes

-- a node with the typings of its parts in their place
abbrev pub with_typings : Expr-F Expr Branch Operation → Expr-F Typing BranchTyping OperationTyping
with_typings = map-Expr Expr Branch Operation Typing BranchTyping OperationTyping typing branch_sort operation_sort

abbrev sort_at : Expr-F Expr Branch Operation → List Kind → Sort
sort_at x = sort_step (with_typings x)

pub typing_is : (e : Expr) → typing e ≡ typing_step (with_typings (out-Expr e))
unfolding typing branch_sort operation_sort
typing_is = fold_out-Expr Typing BranchTyping OperationTyping typing_step branch_sort_step operation_sort_step

sort_is : (e : Expr) (ks : List Kind) → sort_of e ks ≡ sort_at (out-Expr e) ks
unfolding sort_of
sort_is e ks = ap (λ (t : Typing). t.sort ks) (typing_is e)

-- the sort and the test at a node
pub sort_at_node : (e : Expr) (x : Expr-F Expr Branch Operation) (ks : List Kind) → out-Expr e ≡ x → sort_of e ks ≡ sort_step (with_typings x) ks
sort_at_node e x ks is = sort_is e ks ∙ ap (λ n. sort_at n ks) is

pub test_at_node : (e : Expr) (x : Expr-F Expr Branch Operation) (ks : List Kind) → out-Expr e ≡ x → is_condition e ks ≡ condition_step (with_typings x) ks
unfolding is_condition
test_at_node e x ks is = ap (λ (t : Typing). t.is_condition ks) (typing_is e) ∙ ap (λ n. condition_step (with_typings n) ks) is

pub branch_sort_is : (b : Branch) (ks : List Kind) → branch_sort b ks ≡ (if is_condition b.when ks then sort_of b.gives ks else Unfit)
unfolding typing branch_sort operation_sort is_condition sort_of
branch_sort_is b ks = ap (λ (t : BranchTyping). t ks) (fold_out-Branch Typing BranchTyping OperationTyping typing_step branch_sort_step operation_sort_step b)

pub operation_sort_is : (o : Operation) (x : Sort) (ks : List Kind) → operation_sort o x ks ≡ arithmetic_sort o.operator x (sort_of o.operand ks)
unfolding typing branch_sort operation_sort sort_of
operation_sort_is o x ks = ap (λ (t : OperationTyping). t x ks) (fold_out-Operation Typing BranchTyping OperationTyping typing_step branch_sort_step operation_sort_step o)

-- ---- the induction

abbrev pub IsTyped : Expr → Type 0
IsTyped x = (ks : List Kind) (row : List Value) → row_is_of ks row ≡ true → fits (sort_of x ks) (value x row) ≡ true

abbrev BranchTyped : Branch → Type 0
BranchTyped b = (ks : List Kind) (row : List Value) → row_is_of ks row ≡ true → some_fits (branch_sort b ks) (branch_value b row) ≡ true

abbrev OperationTyped : Operation → Type 0
OperationTyped o = (x : Sort) (v : Value) (ks : List Kind) (row : List Value) → row_is_of ks row ≡ true → fits x v ≡ true
    → fits (operation_sort o x ks) (operation_value o v row) ≡ true

-- from what the sort and the value are
by_parts : (x y : Sort) (v w : Value) → x ≡ y → v ≡ w → fits y w ≡ true → fits x v ≡ true
by_parts x y v w p q h = ap (λ s. fits s v) p ∙ ap (fits y) q ∙ h

branches_typed : (scale : ℕ) (bs : Branches BranchTyped) (ks : List Kind) (row : List Value) → row_is_of ks row ≡ true
    → some_fits (all_sorts (map (scaled_sort scale) (branches_sorts (map branch_sort (branches {Q = BranchTyped} bs)) ks))) (scaled_value scale (chosen (branches {Q = BranchTyped} bs) row)) ≡ true
unfolding chosen
branches_typed scale [] ks row r = refl
branches_typed scale (b ∷ bs) ks row r =
    first_typed scale (scaled_sort scale (branch_sort b.0 ks)) (all_sorts (map (scaled_sort scale) (branches_sorts (map branch_sort (branches {Q = BranchTyped} bs)) ks)))
    (branch_value b.0 row) (chosen (branches {Q = BranchTyped} bs) row)
    (scaled_some scale (branch_sort b.0 ks) (branch_value b.0 row) (b.1 ks row r))
    (branches_typed scale bs ks row r)

operations_typed : (os : Operations OperationTyped) (x : Sort) (v : Value) (ks : List Kind) (row : List Value) → row_is_of ks row ≡ true → fits x v ≡ true
    → fits (sort_in_turn x (map operation_sort (operations {R = OperationTyped} os)) ks) (operated v (operations {R = OperationTyped} os) row) ≡ true
unfolding operated
operations_typed [] x v ks row r h = h
operations_typed (o ∷ os) x v ks row r h = operations_typed os (operation_sort o.0 x ks) (operation_value o.0 v row) ks row r (o.1 x v ks row r h)

operation_typed : (operator : Arithmetic) (operand : Expr) → IsTyped operand → OperationTyped (record { operator = operator; operand = operand })
operation_typed operator operand d x v ks row r h =
    let o : Operation = record { operator = operator; operand = operand } in
    by_parts _ _ _ _ (operation_sort_is o x ks) (operation_is o v row) (arithmetic_typed operator x (sort_of operand ks) v (value operand row) h (d ks row r))

branch_typed : (when gives : Expr) → IsTyped when → IsTyped gives → BranchTyped (record { when = when; gives = gives })
branch_typed when gives w g ks row r =
    let b : Branch = record { when = when; gives = gives } in
    ap (λ s. some_fits s (branch_value b row)) (branch_sort_is b ks)
    ∙ ap (some_fits (if is_condition when ks then sort_of gives ks else Unfit)) (branch_is b row)
    ∙ tested_branch (is_condition when ks) (sort_of gives ks) (decided (truth when row) (value gives row))
    (decided_typed (sort_of gives ks) (truth when row) (value gives row) (g ks row r))

pub all_typed : (x : Expr) → IsTyped x
unfolding sort_of
all_typed = induction IsTyped BranchTyped OperationTyped (record {
  column = λ place ks row r. by_parts _ _ _ _ (sort_at_node (e.Column place) _ ks (e.outs-Column place)) (value_Column place row) (column_typed ks row place r);
  literal = λ v ks row r. by_parts _ _ _ _ (sort_at_node (e.Literal v) _ ks (e.outs-Literal v)) (value_Literal v row) (literal_typed v);
  negative = λ a h ks row r. by_parts _ _ _ _ (sort_at_node (e.Negative a) _ ks (e.outs-Negative a)) (value_Negative a row) (negative_typed (sort_of a ks) (value a row) (h ks row r));
  arithmetic = λ a h os ks row r. by_parts _ _ _ _ (sort_at_node (e.Arithmetic a (operations {R = OperationTyped} os)) _ ks (e.outs-Arithmetic a (operations {R = OperationTyped} os))) (value_Arithmetic a (operations {R = OperationTyped} os) row) (operations_typed os (sort_of a ks) (value a row) ks row r (h ks row r));
  case = λ scale bs a h ks row r. by_parts _ _ _ _ (sort_at_node (e.Case scale (branches {Q = BranchTyped} bs) a) _ ks (e.outs-Case scale (branches {Q = BranchTyped} bs) a)) (value_Case scale (branches {Q = BranchTyped} bs) a row) (case_typed scale (all_sorts (map (scaled_sort scale) (branches_sorts (map branch_sort (branches {Q = BranchTyped} bs)) ks))) (sort_of a ks) (chosen (branches {Q = BranchTyped} bs) row) (value a row) (branches_typed scale bs ks row r) (h ks row r));
  extract = λ part a h ks row r. by_parts _ _ _ _ (sort_at_node (e.Extract part a) _ ks (e.outs-Extract part a)) (value_Extract part a row) (extract_typed part (sort_of a ks) (value a row) (h ks row r));
  substring = λ a h from count ks row r. by_parts _ _ _ _ (sort_at_node (e.Substring a from count) _ ks (e.outs-Substring a from count)) (value_Substring a from count row) (substring_typed from count (sort_of a ks) (value a row) (h ks row r));
  compare = λ comparison a h b k ks row r. ap (fits (sort_of (e.Compare comparison a b) ks)) (value_Compare comparison a b row) ∙ fits_null (sort_of (e.Compare comparison a b) ks);
  between = λ a h b k d l ks row r. ap (fits (sort_of (e.Between a b d) ks)) (value_Between a b d row) ∙ fits_null (sort_of (e.Between a b d) ks);
  like = λ a h pattern ks row r. ap (fits (sort_of (e.Like a pattern) ks)) (value_Like a pattern row) ∙ fits_null (sort_of (e.Like a pattern) ks);
  in_list = λ a h es ks row r. ap (fits (sort_of (e.InList a (exprs {P = IsTyped} es)) ks)) (value_InList a (exprs {P = IsTyped} es) row) ∙ fits_null (sort_of (e.InList a (exprs {P = IsTyped} es)) ks);
  is_null = λ a h ks row r. ap (fits (sort_of (e.IsNull a) ks)) (value_IsNull a row) ∙ fits_null (sort_of (e.IsNull a) ks);
  not = λ a h ks row r. ap (fits (sort_of (e.Not a) ks)) (value_Not a row) ∙ fits_null (sort_of (e.Not a) ks);
  all = λ es ks row r. ap (fits (sort_of (e.All (exprs {P = IsTyped} es)) ks)) (value_All (exprs {P = IsTyped} es) row) ∙ fits_null (sort_of (e.All (exprs {P = IsTyped} es)) ks);
  any = λ es ks row r. ap (fits (sort_of (e.Any (exprs {P = IsTyped} es)) ks)) (value_Any (exprs {P = IsTyped} es) row) ∙ fits_null (sort_of (e.Any (exprs {P = IsTyped} es)) ks);
  is_marked = λ a h ks row r. ap (fits (sort_of (e.IsMarked a) ks)) (value_IsMarked a row) ∙ fits_null (sort_of (e.IsMarked a) ks);
  branch = branch_typed;
  operation = operation_typed;
})

same_kind_back : (j k : Kind) → same_kind j k ≡ true → same_kind k j ≡ true
same_kind_back (kind.Number s) (kind.Number t) h = let is : t ≡ s = sym ((Decides-eqb s t).0 h) in (Decides-eqb t s).1 is
same_kind_back kind.Text kind.Text h = refl
same_kind_back kind.Date kind.Date h = refl
same_kind_back (kind.Number s) kind.Text h = cc
same_kind_back (kind.Number s) kind.Date h = cc
same_kind_back kind.Text (kind.Number s) h = cc
same_kind_back kind.Text kind.Date h = cc
same_kind_back kind.Date (kind.Number s) h = cc
same_kind_back kind.Date kind.Text h = cc

given_kind : (x : Sort) (k : Kind) (v : Value) → sort_gives x k ≡ true → fits x v ≡ true → is_of_kind k v ≡ true
given_kind Unfit k v g h = cc
given_kind Nulls k v g h = sym (of_kind k v) ∙ nulls_only (Of k) v h
given_kind (Of j) k v g h = other_kind k j v (same_kind_back j k g) (sym (of_kind j v) ∙ h)

pub well_typed : WellTypedGivesItsKind
well_typed x ks k row g r = given_kind (sort_of x ks) k (value x row) g (all_typed x ks row r)
