-- The sides of a well-typed join, and its ON condition, are supplied where it is.
use Rattle.std.proofs.Common.{◌≡◌, ℕ, suc, ◌+◌, ◌<◌, List, ◌∷◌, ◌++◌, Bool, true}
use Rattle.std.proofs.Common.{◌||◌, length, refl, sym, ap, ◌∙◌}
use Rattle.std.proofs.lemmas.List.{length-append}
use Rattle.expr_scalar.specs.declared.kind.Kind.{Kind}
use Rattle.sql_bound_query.specs.declared.query.BoundExpr.{BoundExpr}
use Rattle.sql_bound_query.specs.declared.query.BoundSource.{BoundSource}
use Rattle.sql_bound_query.specs.declared.query.BoundSource.TheVariants as source
use Rattle.sql_bound_query.specs.Typing.{from_kinds}
use Rattle.plan_dependent_nodes.specs.declared.sight.OuterColumn.{OuterColumn}
use Rattle.plan_dependent_nodes.specs.Seeks.{Seeks, has, has_place, seeks_of_source, seeks_so_far}
use Rattle.plan_dependent_nodes.specs.Seeks.{seeks_of_expr}
use Rattle.plan_dependent_nodes.specs.Supplied.{SourceIsSupplied, JoinIsSupplied, ExprIsSupplied}
use Rattle.plan_dependent_nodes.specs.Supplied.{IsSourceWidth}
use Rattle.plan_dependent_nodes.proofs.SeeksOpened.{seeks_Inner, seeks_Outer, so_far_Inner}
use Rattle.plan_dependent_nodes.proofs.SeeksOpened.{so_far_Outer}
use Rattle.plan_dependent_nodes.proofs.TypedParts.{input_kinds, CrossTyped, JoinTyped, inner_typed}
use Rattle.plan_dependent_nodes.proofs.TypedParts.{OuterTyped, outer_typed}
use Rattle.plan_dependent_nodes.proofs.Supplies.{or_left, or_right, expr_supplied}
use Rattle.plan_dependent_tree.proofs.SuppliedSources.{both_width, left_side, right_side}

-- ---- joins

module _ (outer : List OuterColumn) (so_far : List ℕ) (n : ℕ) (a b : BoundSource)
    (on : BoundExpr) {s : BoundSource} (supplied : SourceIsSupplied s outer so_far n n)
    (is : s ≡ source.Inner a b on) where
  inner_parts : JoinTyped a b on supplied.before supplied.around supplied.kinds
  inner_parts = inner_typed a b on supplied.before supplied.around supplied.kinds
      (sym (ap (λ z. from_kinds z supplied.before supplied.around) is) ∙ supplied.typed)

  inner_all : (level place : ℕ)
      → (seeks_of_source a level place || seeks_of_source b level place
      || seeks_of_expr on (suc level) place) ≡ true
      → has outer level place ≡ true
  inner_all level place e =
      supplied.there level place
      (ap (λ z. seeks_of_source z level place) is
      ∙ ap (λ (m : Seeks). m level place) (seeks_Inner a b on) ∙ e)

  inner_there : (level place : ℕ)
      → (seeks_of_source a level place || seeks_of_source b level place) ≡ true
      → has outer level place ≡ true
  inner_there level place e =
      inner_all level place
      (or_left (seeks_of_source a level place || seeks_of_source b level place)
      (seeks_of_expr on (suc level) place) e)

  inner_stands : (place : ℕ) → place < n → (seeks_so_far a place || seeks_so_far b place) ≡ true
      → has_place so_far place ≡ true
  inner_stands place below e =
      supplied.stands place below
      (ap (λ z. seeks_so_far z place) is
      ∙ ap (λ (m : ℕ → Bool). m place) (so_far_Inner a b on) ∙ e)

  pub inner_left_supplied : {seen : BoundSource} → seen ≡ a → SourceIsSupplied seen outer so_far n n
  inner_left_supplied get =
      left_side outer so_far n a b supplied.width inner_parts.sides inner_there inner_stands get

  pub inner_right_supplied : {seen other : BoundSource} {v : ℕ} → seen ≡ a → IsSourceWidth seen v
      → other ≡ b → SourceIsSupplied other outer so_far n (n + v)
  inner_right_supplied get left also =
      right_side outer so_far n a b supplied.width inner_parts.sides inner_there inner_stands get
      left also

  pub inner_on_supplied : {seen other : BoundSource} {v u m : ℕ} → seen ≡ a → IsSourceWidth seen v
      → other ≡ b → IsSourceWidth other u → m ≡ v + u → ExprIsSupplied on outer m
  inner_on_supplied {seen} {other} {v} {u} {m} get left also right wide =
      expr_supplied supplied.kinds supplied.around outer m
      (wide ∙ both_width a b supplied.before supplied.around supplied.kinds inner_parts.sides get
      left also right)
      on inner_parts.inputs
      (λ level place e.
      inner_all level place
      (or_right (seeks_of_source a level place || seeks_of_source b level place)
      (seeks_of_expr on (suc level) place) e))

pub inner_width : (on : BoundExpr) {s a b seen other : BoundSource} {w v n m : ℕ}
    → s ≡ source.Inner a b on → seen ≡ a → IsSourceWidth seen w → other ≡ b
    → IsSourceWidth other v → n ≡ w + v → m ≡ n → IsSourceWidth s m
inner_width on {s} {a} {b} {seen} {other} {w} {v} {n} {m} is get left also right wide same = record {
  is = λ before around kinds e.
      let t : JoinTyped a b on before around kinds =
      inner_typed a b on before around kinds
      (sym (ap (λ z. from_kinds z before around) is) ∙ e) in
      same ∙ wide ∙ both_width a b before around kinds t.sides get left also right;
}

-- ---- left outer joins

module _ (outer : List OuterColumn) (so_far : List ℕ) (n : ℕ) (a b : BoundSource) (nulls : ℕ)
    (on : BoundExpr) {s : BoundSource} (supplied : SourceIsSupplied s outer so_far n n)
    (is : s ≡ source.Outer a b nulls on) where
  outer_parts : OuterTyped a b nulls on supplied.before supplied.around supplied.kinds
  outer_parts = outer_typed a b nulls on supplied.before supplied.around supplied.kinds
      (sym (ap (λ z. from_kinds z supplied.before supplied.around) is) ∙ supplied.typed)

  outer_sides : CrossTyped a b supplied.before supplied.around supplied.kinds
  outer_sides = outer_parts.join.sides

  outer_all : (level place : ℕ)
      → (seeks_of_source a level place || seeks_of_source b level place
      || seeks_of_expr on (suc level) place) ≡ true
      → has outer level place ≡ true
  outer_all level place e =
      supplied.there level place
      (ap (λ z. seeks_of_source z level place) is
      ∙ ap (λ (m : Seeks). m level place) (seeks_Outer a b nulls on) ∙ e)

  outer_there : (level place : ℕ)
      → (seeks_of_source a level place || seeks_of_source b level place) ≡ true
      → has outer level place ≡ true
  outer_there level place e =
      outer_all level place
      (or_left (seeks_of_source a level place || seeks_of_source b level place)
      (seeks_of_expr on (suc level) place) e)

  outer_stands : (place : ℕ) → place < n → (seeks_so_far a place || seeks_so_far b place) ≡ true
      → has_place so_far place ≡ true
  outer_stands place below e =
      supplied.stands place below
      (ap (λ z. seeks_so_far z place) is
      ∙ ap (λ (m : ℕ → Bool). m place) (so_far_Outer a b nulls on) ∙ e)

  pub outer_left_supplied : {seen : BoundSource} → seen ≡ a → SourceIsSupplied seen outer so_far n n
  outer_left_supplied get =
      left_side outer so_far n a b supplied.width outer_sides outer_there outer_stands get

  pub outer_right_supplied : {v : ℕ} → IsSourceWidth a v → SourceIsSupplied b outer so_far n (n + v)
  outer_right_supplied left =
      right_side outer so_far n a b supplied.width outer_sides outer_there outer_stands refl left
      refl

  -- the left side and the nulls have as many columns as the join
  outer_long : {v : ℕ} → IsSourceWidth a v → v + nulls ≡ length supplied.kinds
  unfolding outer_parts outer_sides
  outer_long {v} left =
      ap (λ k. k + nulls) (left.is supplied.before supplied.around outer_sides.ls outer_sides.left)
      ∙ ap (λ k. length outer_sides.ls + k) outer_parts.nulls
      ∙ sym (length-append outer_sides.ls outer_sides.rs) ∙ ap length outer_sides.both

  outer_reads : (level place : ℕ) → seeks_of_expr on (suc level) place ≡ true
      → has outer level place ≡ true
  outer_reads level place e =
      outer_all level place
      (or_right (seeks_of_source a level place || seeks_of_source b level place)
      (seeks_of_expr on (suc level) place) e)

  pub outer_on_supplied : {v m : ℕ} → IsSourceWidth a v → m ≡ v + nulls → ExprIsSupplied on outer m
  outer_on_supplied {v} {m} left wide =
      expr_supplied supplied.kinds supplied.around outer m (wide ∙ outer_long left) on
      outer_parts.join.inputs outer_reads

  -- the right side has as many columns as nulls stand for
  pub outer_nulls : {u : ℕ} → IsSourceWidth b u → u ≡ nulls
  unfolding outer_parts outer_sides
  outer_nulls {u} right =
      right.is (supplied.before ++ outer_sides.ls) supplied.around outer_sides.rs outer_sides.right
      ∙ sym outer_parts.nulls

  pub outer_join_supplied : {v : ℕ} → IsSourceWidth a v
      → JoinIsSupplied b on nulls outer so_far n v
  unfolding outer_parts outer_sides
  outer_join_supplied {v} left = record {
    before = supplied.before;
    before_width = supplied.width;
    left = outer_sides.ls;
    around = supplied.around;
    kinds = outer_sides.rs;
    inputs = outer_parts.join.inputs.it;
    width = left.is supplied.before supplied.around outer_sides.ls outer_sides.left;
    nulls_stand = outer_parts.nulls;
    right = outer_sides.right;
    there = λ level place e.
        outer_there level place
        (or_right (seeks_of_source a level place) (seeks_of_source b level place) e);
    stands = λ place below e.
        outer_stands place below (or_right (seeks_so_far a place) (seeks_so_far b place) e);
    typed = ap (λ z. input_kinds on.inputs (z ∷ supplied.around)) outer_sides.both
        ∙ outer_parts.join.inputs.is;
    reads = outer_reads;
  }

pub outer_width : (b : BoundSource) (on : BoundExpr) {s a seen : BoundSource} {nulls w m : ℕ}
    → s ≡ source.Outer a b nulls on → seen ≡ a → IsSourceWidth seen w → m ≡ w + nulls
    → IsSourceWidth s m
outer_width b on {s} {a} {seen} {nulls} {w} {m} is get left wide = record {
  is = λ before around kinds e.
      let t : OuterTyped a b nulls on before around kinds =
      outer_typed a b nulls on before around kinds
      (sym (ap (λ z. from_kinds z before around) is) ∙ e) in
      let ls : List Kind = t.join.sides.ls in
      wide
      ∙ ap (λ n. n + nulls)
      (left.is before around ls (ap (λ z. from_kinds z before around) get ∙ t.join.sides.left))
      ∙ ap (λ n. length ls + n) t.nulls ∙ sym (length-append ls t.join.sides.rs)
      ∙ ap length t.join.sides.both;
}
