-- The kinds of tree with two sides.
use Rattle.std.proofs.Common.{◌≡◌, ℕ, ◌+◌, ◌-◌, ◌<◌, List, [], ◌++◌, sym, ◌∙◌, ap, subst, arith, length}
use Rattle.std.specs.Prelude.{replicate}
use Rattle.std.proofs.lemmas.List.{append-nil}
use Rattle.base_row_laws.specs.Domains.{Answers}
use Rattle.base_row_laws.specs.Operators.{mark_of, scalar_of}
use Rattle.base_row_laws.specs.Matched.{side_matched}
use Rattle.base_row_laws.specs.Trees.{side_width, side_domain}
use Rattle.base_row_laws.proofs.Sides.{inner_side, outer_side, attach_side}
use Rattle.base_set_rows.specs.declared.kind.SetOperation.{SetOperation}
use Rattle.base_set_rows.proofs.Operations.{set_rows_answer}
use Rattle.base_row_laws.proofs.Values.{mark_bag, scalar_bag}
use Rattle.base_value.specs.declared.value.Value.TheVariants.{Null}
use Rattle.base_value.specs.Value.{same_value}
use Rattle.base_value.proofs.Identity.{value_identity}
use Rattle.expr_scalar.specs.declared.expr.Expr.{Expr}
use Rattle.expr_aggregates.specs.Values.{written, value_rank}
use Rattle.plan_algebra.specs.declared.node.Node.{Node}
use Rattle.plan_algebra.specs.declared.node.Node.TheVariants as node
use Rattle.plan_algebra.specs.declared.tree.DepTree.TheOpen as t
use Rattle.plan_algebra.specs.declared.tree.Side.{Side}
use Rattle.plan_algebra.specs.declared.tree.Side.TheVariants.{Shared}
use Rattle.plan_algebra.proofs.Opened.{together_is}
use Rattle.expr_conditions.specs.Ranks.{rank_of, says}
use Rattle.plan_algebra.specs.Trees.{TreeMeaning, tree_step, side_of, right_row, mark_under, scalar_at, together, combined}
use Rattle.plan_algebra.specs.Plans.{node_rows, plan_rows, plan_width, made_from}
use Rattle.plan_unnested_nodes.specs.declared.footing.Footing.{Footing}
use Rattle.plan_unnested_nodes.specs.Footings.{footing_width, footing_rows}
use Rattle.plan_unnested_nodes.specs.Growth.{IsPut}
use Rattle.plan_unnested_nodes.specs.Lowerings.{Lowers, LowersRight, LowersSides}
use Rattle.plan_unnested_nodes.proofs.Columns.{side_length}
use Rattle.plan_unnested_nodes.proofs.Grown.{grown_length, both_more, kept_rows, kept_width}
use Rattle.plan_unnested_nodes.proofs.Kept.{both_same, holds_later}
use Rattle.plan_unnested_nodes.proofs.Arms.{puts}

-- two sides
pub sides : (before a c : List Node) (l r : TreeMeaning) (side : Side) (f g h : Footing) (outer rows : ℕ)
    → Lowers before a l f g outer → LowersRight a c r side g h outer rows → LowersSides before c l r side f h outer rows
sides before a c l r side f g h outer rows left right =
    let there : outer < length a = let e = left.last in omega arith in
    record {
      most = left.most + right.most;
      plan = both_more left.plan right.plan;
      few = let x = left.few in let y = right.few in omega (arith, x, y);
      same = both_same left.same right.same;
      outer_within = let k = grown_length right.plan in omega arith;
      last = right.last;
      outer_width = kept_width outer right.plan there ∙ left.width;
      rows_width = right.width ∙ ap (λ n. side_width (side_of side) n + r.width) left.same.width;
      answers = λ db holds.
          let ds = footing_rows db before f.rows in
          let xs = plan_rows db a outer in
          let kept : plan_rows db c outer ≡ xs = kept_rows db outer right.plan there in
          record {
            domain = holds.is_domain;
            left = subst (λ z. Answers same_value ds z (l.rows db)) (sym kept) (left.answers db holds);
            right = subst (λ z. Answers same_value (side_domain same_value Null (side_of side) ds z) (plan_rows db c rows) (r.rows db)) (sym kept)
                (subst (λ e. Answers same_value (side_domain same_value Null (side_of side) e xs) (plan_rows db c rows) (r.rows db)) (left.same.rows db)
                (right.answers db (holds_later db left.same holds)));
          };
    }

matched_width : (side : Side) (n w o p q : ℕ) → p ≡ n + o → q ≡ side_width (side_of side) n + w → p + (q - length (side_matched (side_of side) n)) ≡ n + (o + w)
matched_width side n w o p q e g = let k = side_length side n in omega (arith, e, g, k)

pub join_lowers : (before c new : List Node) (l r : TreeMeaning) (side : Side) (f h : Footing) (outer rows id : ℕ) (e : Expr)
    → LowersSides before c l r side f h outer rows → IsPut c new (node.Join outer rows (side_matched (side_of side) (footing_width f.rows)) e) id
    → Lowers before new (tree_step (t.Join l r side e)) f h id
unfolding says right_row plan_rows plan_width
join_lowers before c new l r side f h outer rows id e s p =
    let n = footing_width f.rows in
    puts before c new (l.scans ++ r.scans) s.most (tree_step (t.Join l r side e)) f h id
    (node.Join outer rows (side_matched (side_of side) n) e) s.plan s.same p (append-nil (l.scans ++ r.scans)) (let d = s.few in omega arith)
    (matched_width side n r.width l.width (plan_width c outer) (plan_width c rows) s.outer_width s.rows_width)
    (λ db k.
    let a = s.answers db k in
    inner_side same_value value_identity Null (side_of side) (rank_of e) n (footing_rows db before f.rows) (plan_rows db c outer) (plan_rows db c rows)
    (l.rows db) (r.rows db) a.domain a.left a.right)

pub outer_lowers : (before c new : List Node) (l r : TreeMeaning) (side : Side) (f h : Footing) (outer rows nulls id : ℕ) (e : Expr)
    → LowersSides before c l r side f h outer rows → nulls ≡ r.width → IsPut c new (node.Outer outer rows (side_matched (side_of side) (footing_width f.rows)) nulls e) id
    → Lowers before new (tree_step (t.Outer l r side e)) f h id
unfolding says right_row plan_rows plan_width
outer_lowers before c new l r side f h outer rows nulls id e s w p =
    let n = footing_width f.rows in
    puts before c new (l.scans ++ r.scans) s.most (tree_step (t.Outer l r side e)) f h id
    (node.Outer outer rows (side_matched (side_of side) n) nulls e) s.plan s.same p (append-nil (l.scans ++ r.scans)) (let d = s.few in omega arith)
    (let o = s.outer_width in omega (arith, o, w))
    (λ db k.
    let a = s.answers db k in
    subst (λ w. Answers same_value (footing_rows db before f.rows) (node_rows db (made_from (node_rows db) [] c) (node.Outer outer rows (side_matched (side_of side) n) w e)) ((tree_step (t.Outer l r side e)).rows db)) (sym w)
    (outer_side same_value value_identity Null (side_of side) (replicate r.width Null) (rank_of e) n (footing_rows db before f.rows) (plan_rows db c outer) (plan_rows db c rows)
    (l.rows db) (r.rows db) a.domain a.left a.right))

pub mark_lowers : (before c new : List Node) (l r : TreeMeaning) (side : Side) (f h : Footing) (outer rows id : ℕ) (e : Expr)
    → LowersSides before c l r side f h outer rows → IsPut c new (node.Mark outer rows (side_matched (side_of side) (footing_width f.rows)) e) id
    → Lowers before new (tree_step (t.Mark l r side e)) f h id
unfolding mark_under right_row plan_rows plan_width
mark_lowers before c new l r side f h outer rows id e s p =
    let n = footing_width f.rows in
    puts before c new (l.scans ++ r.scans) s.most (tree_step (t.Mark l r side e)) f h id
    (node.Mark outer rows (side_matched (side_of side) n) e) s.plan s.same p (append-nil (l.scans ++ r.scans)) (let d = s.few in omega arith)
    (let o = s.outer_width in omega (arith, o))
    (λ db k.
    let a = s.answers db k in
    attach_side same_value value_identity Null (side_of side) (mark_of written (rank_of e)) (mark_bag written (rank_of e)) n (footing_rows db before f.rows)
    (plan_rows db c outer) (plan_rows db c rows) (l.rows db) (r.rows db) a.domain a.left a.right)

pub single_lowers : (before c new : List Node) (l r : TreeMeaning) (side : Side) (f h : Footing) (outer rows id column : ℕ)
    → LowersSides before c l r side f h outer rows → IsPut c new (node.Single outer rows (side_matched (side_of side) (footing_width f.rows)) column) id
    → Lowers before new (tree_step (t.Single l r side column)) f h id
unfolding scalar_at right_row plan_rows plan_width
single_lowers before c new l r side f h outer rows id column s p =
    let n = footing_width f.rows in
    puts before c new (l.scans ++ r.scans) s.most (tree_step (t.Single l r side column)) f h id
    (node.Single outer rows (side_matched (side_of side) n) column) s.plan s.same p (append-nil (l.scans ++ r.scans)) (let d = s.few in omega arith)
    (let o = s.outer_width in omega (arith, o))
    (λ db k.
    let a = s.answers db k in
    attach_side same_value value_identity Null (side_of side) (λ x us. scalar_of written value_rank column us) (λ x. scalar_bag same_value value_identity written value_rank column) n
    (footing_rows db before f.rows) (plan_rows db c outer) (plan_rows db c rows) (l.rows db) (r.rows db) a.domain a.left a.right)

-- a set operation, whose right side is over the same rows as the left one
pub set_lowers : (before c new : List Node) (l r : TreeMeaning) (operation : SetOperation) (f h : Footing) (outer rows id : ℕ) → l.width ≡ r.width
    → LowersSides before c l r Shared f h outer rows → IsPut c new (node.Set outer rows operation) id → Lowers before new (combined operation l r) f h id
unfolding plan_rows plan_width
set_lowers before c new l r operation f h outer rows id even s p =
    subst (λ m. Lowers before new m f h id) (sym (together_is operation l r even))
    (puts before c new (l.scans ++ r.scans) s.most (together operation l r) f h id (node.Set outer rows operation) s.plan s.same p (append-nil (l.scans ++ r.scans)) (let d = s.few in omega arith)
    s.outer_width
    (λ db k.
    let a = s.answers db k in
    set_rows_answer same_value value_identity operation (footing_rows db before f.rows) (plan_rows db c outer) (plan_rows db c rows) (l.rows db) (r.rows db) a.left a.right))

-- both sides are of one width
pub set_wide : {before c : List Node} {l r : TreeMeaning} {f h : Footing} {outer rows : ℕ} → l.width ≡ r.width → LowersSides before c l r Shared f h outer rows → plan_width c outer ≡ plan_width c rows
set_wide {f = f} even s = s.outer_width ∙ ap (λ w. footing_width f.rows + w) even ∙ sym s.rows_width
