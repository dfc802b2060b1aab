-- Induction over expressions: one step for each node.
use Rattle.std.proofs.Common.{ℕ, List, map, sym, subst}
use Rattle.base_value.specs.declared.value.Value.{Value}
use Rattle.expr_operators.specs.declared.operator.Arithmetic.{Arithmetic}
use Rattle.expr_scalar.specs.declared.expr.Branch.{Branch, roll-Branch}
use Rattle.expr_operators.specs.declared.operator.Comparison.{Comparison}
use Rattle.expr_operators.specs.declared.operator.DatePart.{DatePart}
use Rattle.expr_scalar.specs.declared.expr.Expr.{Expr, roll-Expr}
use Rattle.expr_scalar.specs.declared.expr.Expr.TheFolds.{ind-Expr, map-Expr}
use Rattle.expr_scalar.specs.declared.expr.Expr.TheOpen as f
use Rattle.expr_scalar.specs.declared.expr.Expr.TheVariants as e
use Rattle.expr_scalar.specs.declared.expr.Operation.{Operation, roll-Operation}

-- expressions, each with a fact about it
abbrev pub Exprs : (Expr → Type 0) → Type 0
Exprs P = List ((x : Expr) × P x)

-- branches, each with a fact about it
abbrev pub Branches : (Branch → Type 0) → Type 0
Branches Q = List ((b : Branch) × Q b)

-- operations, each with a fact about it
abbrev pub Operations : (Operation → Type 0) → Type 0
Operations R = List ((o : Operation) × R o)

abbrev pub exprs : {P : Expr → Type 0} → Exprs P → List Expr
exprs xs = map (λ x. x.0) xs

abbrev pub branches : {Q : Branch → Type 0} → Branches Q → List Branch
branches bs = map (λ b. b.0) bs

abbrev pub operations : {R : Operation → Type 0} → Operations R → List Operation
operations os = map (λ o. o.0) os

-- what there is to show of each node
pub record Steps (P : Expr → Type 0) (Q : Branch → Type 0) (R : Operation → Type 0) : Type 0 where
  pub column : (place : ℕ) → P (e.Column place)
  pub literal : (v : Value) → P (e.Literal v)
  pub negative : (a : Expr) → P a → P (e.Negative a)
  pub arithmetic : (a : Expr) → P a → (os : Operations R) → P (e.Arithmetic a (operations {R = R} os))
  pub case : (scale : ℕ) → (bs : Branches Q) → (a : Expr) → P a → P (e.Case scale (branches {Q = Q} bs) a)
  pub extract : (part : DatePart) → (a : Expr) → P a → P (e.Extract part a)
  pub substring : (a : Expr) → P a → (from : ℕ) → (count : ℕ) → P (e.Substring a from count)
  pub compare : (comparison : Comparison) → (a : Expr) → P a → (b : Expr) → P b → P (e.Compare comparison a b)
  pub between : (a : Expr) → P a → (b : Expr) → P b → (d : Expr) → P d → P (e.Between a b d)
  pub like : (a : Expr) → P a → (pattern : List ℕ) → P (e.Like a pattern)
  pub in_list : (a : Expr) → P a → (es : Exprs P) → P (e.InList a (exprs {P = P} es))
  pub is_null : (a : Expr) → P a → P (e.IsNull a)
  pub not : (a : Expr) → P a → P (e.Not a)
  pub all : (es : Exprs P) → P (e.All (exprs {P = P} es))
  pub any : (es : Exprs P) → P (e.Any (exprs {P = P} es))
  pub is_marked : (a : Expr) → P a → P (e.IsMarked a)
  pub branch : (when gives : Expr) → P when → P gives → Q (record { when = when; gives = gives })
  pub operation : (operator : Arithmetic) (operand : Expr) → P operand → R (record { operator = operator; operand = operand })

node : (P : Expr → Type 0) (Q : Branch → Type 0) (R : Operation → Type 0) → Steps P Q R
    → (y : f.Expr-F ((x : Expr) × P x) ((b : Branch) × Q b) ((o : Operation) × R o))
    → P (roll-Expr (map-Expr ((x : Expr) × P x) ((b : Branch) × Q b) ((o : Operation) × R o) Expr Branch Operation (λ x. x.0) (λ b. b.0) (λ o. o.0) y))
node P Q R s (f.Column place) = subst P (sym (e.rolls-Column place)) (s.column place)
node P Q R s (f.Literal v) = subst P (sym (e.rolls-Literal v)) (s.literal v)
node P Q R s (f.Negative a) = subst P (sym (e.rolls-Negative a.0)) (s.negative a.0 a.1)
node P Q R s (f.Arithmetic a os) = subst P (sym (e.rolls-Arithmetic a.0 (operations {R = R} os))) (s.arithmetic a.0 a.1 os)
node P Q R s (f.Case scale bs a) = subst P (sym (e.rolls-Case scale (branches {Q = Q} bs) a.0)) (s.case scale bs a.0 a.1)
node P Q R s (f.Extract part a) = subst P (sym (e.rolls-Extract part a.0)) (s.extract part a.0 a.1)
node P Q R s (f.Substring a from count) = subst P (sym (e.rolls-Substring a.0 from count)) (s.substring a.0 a.1 from count)
node P Q R s (f.Compare comparison a b) = subst P (sym (e.rolls-Compare comparison a.0 b.0)) (s.compare comparison a.0 a.1 b.0 b.1)
node P Q R s (f.Between a b d) = subst P (sym (e.rolls-Between a.0 b.0 d.0)) (s.between a.0 a.1 b.0 b.1 d.0 d.1)
node P Q R s (f.Like a pattern) = subst P (sym (e.rolls-Like a.0 pattern)) (s.like a.0 a.1 pattern)
node P Q R s (f.InList a es) = subst P (sym (e.rolls-InList a.0 (exprs {P = P} es))) (s.in_list a.0 a.1 es)
node P Q R s (f.IsNull a) = subst P (sym (e.rolls-IsNull a.0)) (s.is_null a.0 a.1)
node P Q R s (f.Not a) = subst P (sym (e.rolls-Not a.0)) (s.not a.0 a.1)
node P Q R s (f.All es) = subst P (sym (e.rolls-All (exprs {P = P} es))) (s.all es)
node P Q R s (f.Any es) = subst P (sym (e.rolls-Any (exprs {P = P} es))) (s.any es)
node P Q R s (f.IsMarked a) = subst P (sym (e.rolls-IsMarked a.0)) (s.is_marked a.0 a.1)

pub induction : (P : Expr → Type 0) (Q : Branch → Type 0) (R : Operation → Type 0) → Steps P Q R → (x : Expr) → P x
induction P Q R s =
    ind-Expr P Q R
    (λ x y is. subst (λ z. P (roll-Expr z)) is (node P Q R s y))
    (λ x y is. subst (λ z. Q (roll-Branch z)) is (s.branch y.when.0 y.gives.0 y.when.1 y.gives.1))
    (λ x y is. subst (λ z. R (roll-Operation z)) is (s.operation y.operator y.operand.0 y.operand.1))
