-- An expression over other columns, node by node.
use Rattle.std.proofs.Common.{◌≡◌, ℕ, ◌+◌, ◌<◌, List, [], ◌∷◌, ◌++◌, map, length, get_or, take, ap, sym, ◌∙◌, slice_get}
use Rattle.std.proofs.lemmas.List.{map-append, take_more}
use Rattle.base_value.specs.declared.value.Value.{Value}
use Rattle.expr_operators.specs.declared.operator.Arithmetic.{Arithmetic}
use Rattle.expr_scalar.specs.declared.expr.Branch.{Branch, roll-Branch}
use Rattle.expr_operators.specs.declared.operator.Comparison.{Comparison}
use Rattle.expr_operators.specs.declared.operator.DatePart.{DatePart}
use Rattle.expr_scalar.specs.declared.expr.Expr.{Expr, Expr-F, out-Expr}
use Rattle.expr_scalar.specs.declared.expr.Expr.TheFolds.{fold_out-Expr, fold_out-Branch, fold_out-Operation, map-Expr}
use Rattle.expr_scalar.specs.declared.expr.Expr.TheVariants as e
use Rattle.expr_scalar.specs.declared.expr.Operation.{Operation, roll-Operation}
use Rattle.expr_scalar.specs.Rename.{column_or_null, renamed_step, renamed, renamed_branch, renamed_operation}

abbrev renamed_at : List ℕ → Expr-F Expr Branch Operation → Expr
renamed_at m x = renamed_step m (map-Expr Expr Branch Operation Expr Branch Operation (renamed m) (renamed_branch m) (renamed_operation m) x)

renamed_is : (m : List ℕ) (x : Expr) → renamed m x ≡ renamed_at m (out-Expr x)
unfolding renamed renamed_branch renamed_operation
renamed_is m = fold_out-Expr Expr Branch Operation (renamed_step m) roll-Branch roll-Operation

pub renamed_branch_is : (m : List ℕ) (b : Branch) → renamed_branch m b ≡ record { when = renamed m b.when; gives = renamed m b.gives }
unfolding renamed renamed_branch renamed_operation
renamed_branch_is m = fold_out-Branch Expr Branch Operation (renamed_step m) roll-Branch roll-Operation

pub renamed_operation_is : (m : List ℕ) (o : Operation) → renamed_operation m o ≡ record { operator = o.operator; operand = renamed m o.operand }
unfolding renamed renamed_branch renamed_operation
renamed_operation_is m = fold_out-Operation Expr Branch Operation (renamed_step m) roll-Branch roll-Operation

pub renamed_Column : (m : List ℕ) (place : ℕ) → renamed m (e.Column place) ≡ column_or_null (slice_get m place)
renamed_Column m place = renamed_is m (e.Column place) ∙ ap (renamed_at m) (e.outs-Column place)

pub renamed_Literal : (m : List ℕ) (v : Value) → renamed m (e.Literal v) ≡ e.Literal v
renamed_Literal m v = renamed_is m (e.Literal v) ∙ ap (renamed_at m) (e.outs-Literal v) ∙ e.rolls-Literal v

pub renamed_Negative : (m : List ℕ) (a : Expr) → renamed m (e.Negative a) ≡ e.Negative (renamed m a)
renamed_Negative m a = renamed_is m (e.Negative a) ∙ ap (renamed_at m) (e.outs-Negative a) ∙ e.rolls-Negative (renamed m a)

pub renamed_Arithmetic : (m : List ℕ) (a : Expr) (os : List Operation) → renamed m (e.Arithmetic a os) ≡ e.Arithmetic (renamed m a) (map (renamed_operation m) os)
renamed_Arithmetic m a os = renamed_is m (e.Arithmetic a os) ∙ ap (renamed_at m) (e.outs-Arithmetic a os) ∙ e.rolls-Arithmetic (renamed m a) (map (renamed_operation m) os)

pub renamed_Case : (m : List ℕ) (scale : ℕ) (bs : List Branch) (a : Expr) → renamed m (e.Case scale bs a) ≡ e.Case scale (map (renamed_branch m) bs) (renamed m a)
renamed_Case m scale bs a = renamed_is m (e.Case scale bs a) ∙ ap (renamed_at m) (e.outs-Case scale bs a) ∙ e.rolls-Case scale (map (renamed_branch m) bs) (renamed m a)

pub renamed_Extract : (m : List ℕ) (part : DatePart) (a : Expr) → renamed m (e.Extract part a) ≡ e.Extract part (renamed m a)
renamed_Extract m part a = renamed_is m (e.Extract part a) ∙ ap (renamed_at m) (e.outs-Extract part a) ∙ e.rolls-Extract part (renamed m a)

pub renamed_Substring : (m : List ℕ) (a : Expr) (from count : ℕ) → renamed m (e.Substring a from count) ≡ e.Substring (renamed m a) from count
renamed_Substring m a from count = renamed_is m (e.Substring a from count) ∙ ap (renamed_at m) (e.outs-Substring a from count) ∙ e.rolls-Substring (renamed m a) from count

pub renamed_Compare : (m : List ℕ) (comparison : Comparison) (a b : Expr) → renamed m (e.Compare comparison a b) ≡ e.Compare comparison (renamed m a) (renamed m b)
renamed_Compare m comparison a b = renamed_is m (e.Compare comparison a b) ∙ ap (renamed_at m) (e.outs-Compare comparison a b) ∙ e.rolls-Compare comparison (renamed m a) (renamed m b)

pub renamed_Between : (m : List ℕ) (a b d : Expr) → renamed m (e.Between a b d) ≡ e.Between (renamed m a) (renamed m b) (renamed m d)
renamed_Between m a b d = renamed_is m (e.Between a b d) ∙ ap (renamed_at m) (e.outs-Between a b d) ∙ e.rolls-Between (renamed m a) (renamed m b) (renamed m d)

pub renamed_Like : (m : List ℕ) (a : Expr) (pattern : List ℕ) → renamed m (e.Like a pattern) ≡ e.Like (renamed m a) pattern
renamed_Like m a pattern = renamed_is m (e.Like a pattern) ∙ ap (renamed_at m) (e.outs-Like a pattern) ∙ e.rolls-Like (renamed m a) pattern

pub renamed_InList : (m : List ℕ) (a : Expr) (es : List Expr) → renamed m (e.InList a es) ≡ e.InList (renamed m a) (map (renamed m) es)
renamed_InList m a es = renamed_is m (e.InList a es) ∙ ap (renamed_at m) (e.outs-InList a es) ∙ e.rolls-InList (renamed m a) (map (renamed m) es)

pub renamed_IsNull : (m : List ℕ) (a : Expr) → renamed m (e.IsNull a) ≡ e.IsNull (renamed m a)
renamed_IsNull m a = renamed_is m (e.IsNull a) ∙ ap (renamed_at m) (e.outs-IsNull a) ∙ e.rolls-IsNull (renamed m a)

pub renamed_Not : (m : List ℕ) (a : Expr) → renamed m (e.Not a) ≡ e.Not (renamed m a)
renamed_Not m a = renamed_is m (e.Not a) ∙ ap (renamed_at m) (e.outs-Not a) ∙ e.rolls-Not (renamed m a)

pub renamed_All : (m : List ℕ) (es : List Expr) → renamed m (e.All es) ≡ e.All (map (renamed m) es)
renamed_All m es = renamed_is m (e.All es) ∙ ap (renamed_at m) (e.outs-All es) ∙ e.rolls-All (map (renamed m) es)

pub renamed_Any : (m : List ℕ) (es : List Expr) → renamed m (e.Any es) ≡ e.Any (map (renamed m) es)
renamed_Any m es = renamed_is m (e.Any es) ∙ ap (renamed_at m) (e.outs-Any es) ∙ e.rolls-Any (map (renamed m) es)

pub renamed_IsMarked : (m : List ℕ) (a : Expr) → renamed m (e.IsMarked a) ≡ e.IsMarked (renamed m a)
renamed_IsMarked m a = renamed_is m (e.IsMarked a) ∙ ap (renamed_at m) (e.outs-IsMarked a) ∙ e.rolls-IsMarked (renamed m a)

-- for the functions that go over the nodes
pub ruleset renamed_opened = (renamed_Column, renamed_Literal, renamed_Negative, renamed_Arithmetic, renamed_Case, renamed_Extract, renamed_Substring, renamed_Compare, renamed_Between, renamed_Like, renamed_InList, renamed_IsNull, renamed_Not, renamed_All, renamed_Any, renamed_IsMarked)

-- a list that is made one by one
made_more : {X Y : Type 0} (f : X → Y) (xs : List X) (i : ℕ) (x : X) (y : Y) (now next : List Y) → i < length xs → x ≡ get_or xs i x
    → y ≡ f x → now ≡ map f (take i xs) → next ≡ now ++ y ∷ [] → next ≡ map f (take (i + 1) xs)
made_more f xs i x y now next lt is by before new =
    new ∙ ap (λ l. l ++ y ∷ []) before ∙ ap (λ z. map f (take i xs) ++ z ∷ []) by
    ∙ sym (map-append f (take i xs) (x ∷ []))
    ∙ ap (map f) (sym (take_more xs i x lt ∙ ap (λ z. take i xs ++ z ∷ []) (sym is)))

pub branch_made : (m : List ℕ) (bs : List Branch) (i : ℕ) (b new : Branch) (now next : List Branch) → i < length bs → b ≡ get_or bs i b
    → new.when ≡ renamed m b.when → new.gives ≡ renamed m b.gives → now ≡ map (renamed_branch m) (take i bs) → next ≡ now ++ new ∷ []
    → next ≡ map (renamed_branch m) (take (i + 1) bs)
branch_made m bs i b new now next lt is when gives before more =
    let with_when : Expr → Branch = λ w. record { when = w; gives = new.gives } in
    let with_gives : Expr → Branch = λ g. record { when = renamed m b.when; gives = g } in
    let same : new ≡ renamed_branch m b = ap with_when when ∙ ap with_gives gives ∙ sym (renamed_branch_is m b) in
    made_more (renamed_branch m) bs i b new now next lt is same before more

pub operation_made : (m : List ℕ) (os : List Operation) (i : ℕ) (o new : Operation) (now next : List Operation) → i < length os → o ≡ get_or os i o
    → new.operator ≡ o.operator → new.operand ≡ renamed m o.operand → now ≡ map (renamed_operation m) (take i os) → next ≡ now ++ new ∷ []
    → next ≡ map (renamed_operation m) (take (i + 1) os)
operation_made m os i o new now next lt is operator operand before more =
    let with_operator : Arithmetic → Operation = λ a. record { operator = a; operand = new.operand } in
    let with_operand : Expr → Operation = λ x. record { operator = o.operator; operand = x } in
    let same : new ≡ renamed_operation m o = ap with_operator operator ∙ ap with_operand operand ∙ sym (renamed_operation_is m o) in
    made_more (renamed_operation m) os i o new now next lt is same before more
