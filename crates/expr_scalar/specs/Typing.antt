-- Well-typed expressions: what kind of values each gives over rows of these kinds.
use Rattle.std.specs.Prelude.{ℕ, ◌+◌, max, nat_le, Bool, true, false, ◌&&◌, ◌==◌, if◌then◌else◌}
use Rattle.std.specs.Prelude.{List, [], ◌∷◌, map, fold, Option, Some, None, slice_get, IsTrue}
use Rattle.std.specs.List.{list_all}
use Rattle.base_decimal.specs.Decimal.{quotient_scale}
use Rattle.base_value.specs.declared.value.Value.{Value}
use Rattle.base_value.specs.declared.value.Value.TheVariants as value
use Rattle.expr_operators.specs.declared.operator.Arithmetic.{Arithmetic}
use Rattle.expr_operators.specs.declared.operator.Arithmetic.TheVariants.{Add, Subtract, Multiply}
use Rattle.expr_operators.specs.declared.operator.Arithmetic.TheVariants.{Divide}
use Rattle.expr_scalar.specs.declared.expr.Branch.{Branch}
use Rattle.expr_scalar.specs.declared.expr.Expr.{Expr, Expr-F}
use Rattle.expr_scalar.specs.declared.expr.Expr.TheOpen as node
use Rattle.expr_scalar.specs.declared.expr.Expr.TheFolds.{fold-Expr, fold-Branch, fold-Operation}
use Rattle.expr_scalar.specs.declared.expr.Operation.{Operation}
use Rattle.expr_scalar.specs.declared.kind.Kind.{Kind}
use Rattle.expr_scalar.specs.declared.kind.Kind.TheVariants.{Number, Text, Date}
use Rattle.expr_scalar.specs.Meaning.{value}

-- two kinds are one: numbers have to be of one scale
abbrev pub same_kind : Kind → Kind → Bool
same_kind (Number s) (Number t) = s == t
same_kind Text Text = true
same_kind Date Date = true
same_kind j k = false

-- a value of that kind and scale, or null, or a fault
abbrev pub is_of_kind : Kind → Value → Bool
is_of_kind k value.Null = true
is_of_kind k (value.Fault f) = true
is_of_kind (Number s) (value.Number t c) = s == t
is_of_kind Text (value.Text t) = true
is_of_kind Date (value.Date d) = true
is_of_kind k v = false

-- a row has a value of each of the kinds
abbrev pub row_is_of : List Kind → List Value → Bool
row_is_of [] [] = true
row_is_of (k ∷ ks) (v ∷ vs) = is_of_kind k v && row_is_of ks vs
row_is_of ks vs = false

-- what an expression's values can be: it does not fit together, nulls and faults alone, or values
-- of one kind too
pub data Sort : Type 0 where
  Unfit : Sort
  Nulls : Sort
  Of : (k : Kind) → Sort

-- of a column: its kind, where it is there
abbrev pub column_sort : Option Kind → Sort
column_sort None = Unfit
column_sort (Some k) = Of k

-- of a written value: its kind, where it has one
abbrev pub literal_sort : Value → Sort
literal_sort value.Null = Nulls
literal_sort (value.Fault f) = Nulls
literal_sort (value.Number s c) = Of (Number s)
literal_sort (value.Text t) = Of Text
literal_sort (value.Date d) = Of Date

-- of a minus: a number of the same scale
abbrev pub negative_sort : Sort → Sort
negative_sort (Of (Number s)) = Of (Number s)
negative_sort x = Unfit

-- the scale of a sum, a difference, a product (18 at most) and a quotient
abbrev pub result_sort : Arithmetic → ℕ → ℕ → Sort
result_sort Add s t = Of (Number (max s t))
result_sort Subtract s t = Of (Number (max s t))
result_sort Multiply s t = if nat_le (s + t) 18 then Of (Number (s + t)) else Unfit
result_sort Divide s t = Of (Number (quotient_scale s))

-- of an operator: both operands are numbers
abbrev pub arithmetic_sort : Arithmetic → Sort → Sort → Sort
arithmetic_sort operator (Of (Number s)) (Of (Number t)) = result_sort operator s t
arithmetic_sort operator x y = Unfit

-- of a part of a date: a whole number
abbrev pub extract_sort : Sort → Sort
extract_sort (Of Date) = Of (Number 0)
extract_sort x = Unfit

-- of a part of a text: a text
abbrev pub substring_sort : Sort → Sort
substring_sort (Of Text) = Of Text
substring_sort x = Unfit

-- numbers of a scale that CASE can raise to its own
abbrev pub scaled_sort : ℕ → Sort → Sort
scaled_sort scale (Of (Number s)) = if nat_le s scale then Of (Number scale) else Unfit
scaled_sort scale x = x

-- both: nulls fit every kind, and kinds have to be the same
abbrev pub both_sorts : Sort → Sort → Sort
both_sorts Unfit y = Unfit
both_sorts Nulls y = y
both_sorts (Of j) Unfit = Unfit
both_sorts (Of j) Nulls = Of j
both_sorts (Of j) (Of k) = if same_kind j k then Of j else Unfit

-- all of them
abbrev pub all_sorts : List Sort → Sort
all_sorts [] = Nulls
all_sorts (x ∷ xs) = both_sorts x (all_sorts xs)

-- values that can be compared: both numbers, both texts or both dates
abbrev pub comparable : Sort → Sort → Bool
comparable (Of (Number s)) (Of (Number t)) = true
comparable (Of Text) (Of Text) = true
comparable (Of Date) (Of Date) = true
comparable x y = false

-- a text
abbrev pub is_text : Sort → Bool
is_text (Of Text) = true
is_text x = false

-- a number, of whatever scale
abbrev pub is_number : Sort → Bool
is_number (Of (Number s)) = true
is_number x = false

-- it fits together
abbrev pub is_fit : Sort → Bool
is_fit Unfit = false
is_fit x = true

-- what an expression is over rows of some kinds
pub record Typing : Type 0 where
  pub sort : List Kind → Sort
  pub is_condition : List Kind → Bool

-- what a branch of a CASE gives over rows of some kinds
abbrev pub BranchTyping : Type 0
BranchTyping = List Kind → Sort

-- what an operation makes of the sort on its left
abbrev pub OperationTyping : Type 0
OperationTyping = Sort → List Kind → Sort

-- a branch: what it gives, where its condition is one
abbrev pub branch_sort_step : node.Branch-F Typing BranchTyping OperationTyping → BranchTyping
branch_sort_step b ks = if b.when.is_condition ks then b.gives.sort ks else Unfit

-- an operation: its operator on the sort on its left and that of its operand
abbrev pub operation_sort_step : node.Operation-F Typing BranchTyping OperationTyping
    → OperationTyping
operation_sort_step o x ks = arithmetic_sort o.operator x (o.operand.sort ks)

-- the operations on a sort, from left to right
abbrev pub sort_in_turn : Sort → List OperationTyping → List Kind → Sort
sort_in_turn x operations ks = fold (λ y (o : OperationTyping). o y ks) x operations

-- what each branch gives
abbrev pub branches_sorts : List BranchTyping → List Kind → List Sort
branches_sorts [] ks = []
branches_sorts (b ∷ bs) ks = b ks ∷ branches_sorts bs ks

-- of a CASE: what all its branches and its ELSE give, once numbers are brought to its scale
abbrev pub case_sort : ℕ → List Sort → Sort → Sort
case_sort scale branches other =
    both_sorts (all_sorts (map (scaled_sort scale) branches)) (scaled_sort scale other)

-- of each node that has a value, from its parts; a condition has none
abbrev pub sort_step : Expr-F Typing BranchTyping OperationTyping → List Kind → Sort
sort_step (node.Column place) ks = column_sort (slice_get ks place)
sort_step (node.Literal v) ks = literal_sort v
sort_step (node.Negative e) ks = negative_sort (e.sort ks)
sort_step (node.Arithmetic first operations) ks = sort_in_turn (first.sort ks) operations ks
sort_step (node.Case scale branches other) ks =
    case_sort scale (branches_sorts branches ks) (other.sort ks)
sort_step (node.Extract part e) ks = extract_sort (e.sort ks)
sort_step (node.Substring e from count) ks = substring_sort (e.sort ks)
sort_step condition ks = Unfit

-- whether a node is a condition whose parts fit together
abbrev pub condition_step : Expr-F Typing BranchTyping OperationTyping → List Kind → Bool
condition_step (node.Compare comparison a b) ks = comparable (a.sort ks) (b.sort ks)
condition_step (node.Between e low high) ks = comparable (e.sort ks) (low.sort ks)
    && comparable (e.sort ks) (high.sort ks)
condition_step (node.Like e pattern) ks = is_text (e.sort ks)
condition_step (node.InList e es) ks = is_fit (e.sort ks)
    && list_all (λ (x : Typing). comparable (e.sort ks) (x.sort ks)) es
condition_step (node.IsNull e) ks = is_fit (e.sort ks)
condition_step (node.Not e) ks = e.is_condition ks
condition_step (node.All es) ks = list_all (λ (x : Typing). x.is_condition ks) es
condition_step (node.Any es) ks = list_all (λ (x : Typing). x.is_condition ks) es
condition_step (node.IsMarked e) ks = is_number (e.sort ks)
condition_step e ks = false

-- a node, from the typings of its parts
abbrev pub typing_step : Expr-F Typing BranchTyping OperationTyping → Typing
typing_step e = record { sort = sort_step e; is_condition = condition_step e }

-- a whole expression, node by node from its leaves
unfoldable pub typing : Expr → Typing
typing = fold-Expr Typing BranchTyping OperationTyping typing_step branch_sort_step
    operation_sort_step

-- the same of a branch
unfoldable pub branch_sort : Branch → List Kind → Sort
branch_sort =
    fold-Branch Typing BranchTyping OperationTyping typing_step branch_sort_step operation_sort_step

-- the same of an operation
unfoldable pub operation_sort : Operation → Sort → List Kind → Sort
operation_sort =
    fold-Operation Typing BranchTyping OperationTyping typing_step branch_sort_step
    operation_sort_step

-- what the values of an expression can be over rows of these kinds
unfoldable pub sort_of : Expr → List Kind → Sort
sort_of e ks = (typing e).sort ks

-- a condition that fits together over rows of these kinds
unfoldable pub is_condition : Expr → List Kind → Bool
is_condition e ks = (typing e).is_condition ks

-- values of a sort are of the kind, nulls or faults
abbrev pub sort_gives : Sort → Kind → Bool
sort_gives Unfit k = false
sort_gives Nulls k = true
sort_gives (Of j) k = same_kind j k

-- an expression that fits together and gives values of the kind over rows of these kinds
abbrev pub gives : Expr → List Kind → Kind → Bool
gives e ks k = sort_gives (sort_of e ks) k

-- Over a row of the kinds, an expression that gives a kind has a value of that kind and scale, null
-- or a fault.
abbrev pub WellTypedGivesItsKind : Type 0
WellTypedGivesItsKind = (e : Expr) (ks : List Kind) (k : Kind) (row : List Value)
    → IsTrue (gives e ks k) → IsTrue (row_is_of ks row)
    → IsTrue (is_of_kind k (value e row))
