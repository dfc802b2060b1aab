-- Groups over the columns alone that they read are the same.
use Rattle.std.proofs.Common.{◌≡◌, ℕ, ◌+◌, List, map, sym, ◌∙◌, ap, subst}
use Rattle.expr_scalar.specs.declared.expr.Expr.{Expr}
use Rattle.expr_scalar.specs.declared.expr.Expr.TheVariants as e
use Rattle.plan_algebra.specs.declared.aggregate.Aggregate.{Aggregate}
use Rattle.plan_algebra.specs.declared.tree.DepTree.{DepTree}
use Rattle.plan_algebra.specs.declared.tree.DepTree.TheVariants as t
use Rattle.plan_predicate_sinking.specs.Arranged.{SameRows}
use Rattle.plan_predicate_sinking.specs.Narrow.{whole_columns}
use Rattle.plan_tree_moves.specs.Regroup.{KeysMove, AggregatesMove}
use Rattle.plan_tree_moves.proofs.Regrouping.{regrouped}
use Rattle.plan_predicate_sinking.proofs.SameNodes.{same_group}
use Rattle.plan_predicate_sinking.proofs.Sinking.{trans}

-- the same, each value where the code read it
pub regrouped_seen : (n : ℕ) (own whole w1 w2 by keys : List ℕ) (xs ys : List Aggregate)
    (list : List Expr) → whole ≡ whole_columns n own → list ≡ map (λ c. e.Column (n + c)) own
    → w1 ≡ whole → KeysMove w1 by keys → w2 ≡ whole → AggregatesMove w2 xs ys → (a : DepTree)
    → SameRows n (t.Group a by xs) (t.Group (t.Project a list) keys ys)
regrouped_seen n own whole w1 w2 by keys xs ys list is cols i1 k i2 m a =
    regrouped n own whole by keys xs ys list is cols (subst (λ l. KeysMove l by keys) i1 k)
    (subst (λ l. AggregatesMove l xs ys) i2 m) a

pub grouped_some : (n : ℕ) (a child made : DepTree) (list list1 : List Expr)
    (by keys keys1 : List ℕ) (xs ys ys1 : List Aggregate)
    → ((b : DepTree) → SameRows n (t.Group b by xs) (t.Group (t.Project b list) keys ys))
    → list1 ≡ list → SameRows n (t.Project a list1) child → keys1 ≡ keys → ys1 ≡ ys
    → made ≡ t.Group child keys1 ys1 → SameRows n (t.Group a by xs) made
grouped_some n a child made list list1 by keys keys1 xs ys ys1 same il s ik iy made_is =
    trans n (t.Group a by xs) (t.Group (t.Project a list) keys ys) made (same a)
    (subst (λ y. SameRows n (t.Group (t.Project a list) keys ys) y)
    (sym (made_is ∙ ap (λ (k : List ℕ). t.Group child k ys1) ik
    ∙ ap (λ (k : List Aggregate). t.Group child keys k) iy))
    (same_group n (t.Project a list) child keys ys
    (subst (λ l. SameRows n (t.Project a l) child) il s)))

pub grouped_none : (n : ℕ) (a child made : DepTree) (by : List ℕ) (xs : List Aggregate)
    → SameRows n a child → made ≡ t.Group child by xs → SameRows n (t.Group a by xs) made
grouped_none n a child made by xs s made_is =
    subst (λ y. SameRows n (t.Group a by xs) y) (sym made_is) (same_group n a child by xs s)
