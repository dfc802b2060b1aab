-- What stands in FROM is supplied where its FROM is.
use Rattle.std.proofs.Common.{◌≡◌, ℕ, zero, suc, ◌+◌, ◌<◌, List, [], ◌∷◌, ◌++◌, Bool, true}
use Rattle.std.proofs.Common.{◌||◌, length, refl, sym, ap, ◌∙◌, subst, arith}
use Rattle.std.specs.Prelude.{Option, Some}
use Rattle.std.proofs.lemmas.List.{length-append, length-map}
use Rattle.expr_scalar.specs.declared.kind.Kind.{Kind}
use Rattle.base_schema.specs.declared.table.TableName.{TableName}
use Rattle.base_schema.specs.Tables.{kinds_of}
use Rattle.sql_bound_query.specs.declared.query.BoundBlock.{BoundBlock}
use Rattle.sql_bound_query.specs.declared.query.BoundSource.{BoundSource}
use Rattle.sql_bound_query.specs.declared.query.BoundSource.TheVariants as source
use Rattle.sql_bound_query.specs.Typing.{EnvKinds, FromKinds, kind_of_column}
use Rattle.sql_bound_query.specs.Typing.{column_kinds, block_kinds, from_kinds}
use Rattle.sql_bound_query.proofs.TypingOpened.{kinds_Table, kinds_Derived, kinds_Lateral}
use Rattle.sql_bound_query.proofs.Keeps.{some_is}
use Rattle.plan_dependent_nodes.specs.declared.sight.OuterColumn.{OuterColumn}
use Rattle.plan_dependent_nodes.specs.FromGrowth.{lateral_columns}
use Rattle.plan_dependent_nodes.specs.Seeks.{Seeks, has, has_place, seeks_of, seeks_of_source}
use Rattle.plan_dependent_nodes.specs.Seeks.{seeks_so_far}
use Rattle.plan_dependent_nodes.specs.Supplied.{QueryIsSupplied, FromIsSupplied, SourceIsSupplied}
use Rattle.plan_dependent_nodes.specs.Supplied.{IsWidthOf, IsSourceWidth}
use Rattle.plan_dependent_nodes.proofs.SeeksOpened.{seeks_Lateral, seeks_Cross, so_far_Lateral}
use Rattle.plan_dependent_nodes.proofs.SeeksOpened.{so_far_Cross}
use Rattle.plan_dependent_nodes.proofs.TypedParts.{CrossTyped, cross_typed}
use Rattle.plan_dependent_nodes.proofs.Within.{query_within}
use Rattle.plan_dependent_nodes.proofs.Supplies.{or_left, or_right}
use Rattle.plan_dependent_nodes.proofs.LateralColumns.{has_nearest, has_further}

-- ---- FROM

-- it begins with a row so far of no columns
pub from_supplied : (s : BoundSource) (outer : List OuterColumn) → FromIsSupplied s outer
    → SourceIsSupplied s outer [] 0 0
from_supplied s outer supplied = record {
  before = [];
  around = supplied.around;
  kinds = supplied.kinds;
  width = refl;
  typed = supplied.typed;
  there = supplied.there;
  stands = λ place below e. absurd (let n : place < 0 = below in omega (arith, n));
}

pub from_width : (s : BoundSource) {w : ℕ} → IsSourceWidth s w → IsWidthOf (from_kinds s []) w
from_width s {w} width = record { is = λ around kinds e. width.is [] around kinds e }

-- ---- tables, derived tables and lateral items

pub table_width : {s : BoundSource} {table : TableName} {w : ℕ} → s ≡ source.Table table
    → w ≡ length (kinds_of table) → IsSourceWidth s w
table_width {s} {table} {w} is wide = record {
  is = λ before around kinds e.
      let t : Some (column_kinds table) ≡ Some kinds =
      sym (ap (λ (m : FromKinds). m before around) (kinds_Table table))
      ∙ sym (ap (λ z. from_kinds z before around) is) ∙ e in
      wide ∙ sym (length-map (kinds_of table) kind_of_column)
      ∙ ap length (some_is (column_kinds table) kinds t);
}

module _ (outer : List OuterColumn) (so_far : List ℕ) (n : ℕ) {s : BoundSource}
    (supplied : SourceIsSupplied s outer so_far n n) where
  -- a derived table reads nothing of any row around
  pub derived_supplied : {kept : Option ℕ} {q seen : BoundBlock} → s ≡ source.Derived kept q
      → seen ≡ q → QueryIsSupplied seen []
  derived_supplied {kept} {q} {seen} is get =
      let t : block_kinds q [] ≡ Some supplied.kinds =
      sym (ap (λ (m : FromKinds). m supplied.before supplied.around) (kinds_Derived kept q))
      ∙ sym (ap (λ z. from_kinds z supplied.before supplied.around) is) ∙ supplied.typed in
      subst (λ z. QueryIsSupplied z []) (sym get) (record {
        around = [];
        kinds = supplied.kinds;
        typed = t;
        there = λ level place h.
            absurd (let n : place < 0 = query_within q [] supplied.kinds t level place h in
            omega (arith, n));
      })

  lateral_typed : (q : BoundBlock) → s ≡ source.Lateral q
      → block_kinds q (supplied.before ∷ supplied.around) ≡ Some supplied.kinds
  lateral_typed q is =
      sym (ap (λ (m : FromKinds). m supplied.before supplied.around) (kinds_Lateral q))
      ∙ sym (ap (λ z. from_kinds z supplied.before supplied.around) is) ∙ supplied.typed

  -- what the query of a lateral item reads, its nearest row being the row so far
  lateral_there : (q : BoundBlock) → s ≡ source.Lateral q → (level place : ℕ)
      → seeks_of q level place ≡ true
      → has (lateral_columns outer so_far) level place ≡ true
  lateral_there q is zero place e =
      let within : place < length supplied.before =
      query_within q (supplied.before ∷ supplied.around) supplied.kinds (lateral_typed q is) 0 place e
      in
      let wide : n ≡ length supplied.before = supplied.width in
      has_nearest outer so_far place
      (supplied.stands place (omega (arith, within, wide))
      (ap (λ z. seeks_so_far z place) is
      ∙ ap (λ (m : ℕ → Bool). m place) (so_far_Lateral q) ∙ e))
  lateral_there q is (suc level) place e =
      has_further outer so_far level place
      (supplied.there level place
      (ap (λ z. seeks_of_source z level place) is
      ∙ ap (λ (m : Seeks). m level place) (seeks_Lateral q) ∙ e))

  pub lateral_supplied : {q seen : BoundBlock} {listed : List OuterColumn} → s ≡ source.Lateral q
      → seen ≡ q → listed ≡ lateral_columns outer so_far → QueryIsSupplied seen listed
  lateral_supplied {q} {seen} {listed} is get all =
      subst (λ z. QueryIsSupplied z listed) (sym get)
      (subst (λ z. QueryIsSupplied q z) (sym all) (record {
        around = supplied.before ∷ supplied.around;
        kinds = supplied.kinds;
        typed = lateral_typed q is;
        there = lateral_there q is;
      }))

pub derived_width : {s : BoundSource} {kept : Option ℕ} {q seen : BoundBlock} {w : ℕ}
    → s ≡ source.Derived kept q → seen ≡ q → IsWidthOf (block_kinds seen) w → IsSourceWidth s w
derived_width {s} {kept} {q} {seen} {w} is get width = record {
  is = λ before around kinds e.
      width.is [] kinds
      (ap (λ z. block_kinds z []) get
      ∙ sym (ap (λ (m : FromKinds). m before around) (kinds_Derived kept q))
      ∙ sym (ap (λ z. from_kinds z before around) is) ∙ e);
}

pub lateral_width : {s : BoundSource} {q seen : BoundBlock} {w : ℕ} → s ≡ source.Lateral q
    → seen ≡ q → IsWidthOf (block_kinds seen) w → IsSourceWidth s w
lateral_width {s} {q} {seen} {w} is get width = record {
  is = λ before around kinds e.
      width.is (before ∷ around) kinds
      (ap (λ z. block_kinds z (before ∷ around)) get
      ∙ sym (ap (λ (m : FromKinds). m before around) (kinds_Lateral q))
      ∙ sym (ap (λ z. from_kinds z before around) is) ∙ e);
}

-- ---- the two sides of a source

pub both_width : (a b : BoundSource) (before : List Kind) (around : EnvKinds) (kinds : List Kind)
    {x y : BoundSource} {w v : ℕ} → CrossTyped a b before around kinds → x ≡ a → IsSourceWidth x w
    → y ≡ b → IsSourceWidth y v → w + v ≡ length kinds
both_width a b before around kinds {x} {y} {w} {v} t get left also right =
    ap (λ n. n + v) (left.is before around t.ls (ap (λ z. from_kinds z before around) get ∙ t.left))
    ∙ ap (λ n. length t.ls + n)
    (right.is (before ++ t.ls) around t.rs
    (ap (λ z. from_kinds z (before ++ t.ls) around) also ∙ t.right))
    ∙ sym (length-append t.ls t.rs) ∙ ap length t.both

module _ (outer : List OuterColumn) (so_far : List ℕ) (n : ℕ) (a b : BoundSource)
    {before : List Kind} {around : EnvKinds} {kinds : List Kind} (wide : n ≡ length before)
    (sides : CrossTyped a b before around kinds)
    (there : (level place : ℕ)
    → (seeks_of_source a level place || seeks_of_source b level place) ≡ true
    → has outer level place ≡ true)
    (stands : (place : ℕ) → place < n → (seeks_so_far a place || seeks_so_far b place) ≡ true
    → has_place so_far place ≡ true) where
  pub left_side : {seen : BoundSource} → seen ≡ a → SourceIsSupplied seen outer so_far n n
  left_side {seen} get = subst (λ z. SourceIsSupplied z outer so_far n n) (sym get) (record {
    before = before;
    around = around;
    kinds = sides.ls;
    width = wide;
    typed = sides.left;
    there = λ level place e.
        there level place (or_left (seeks_of_source a level place) (seeks_of_source b level place) e);
    stands = λ place below e.
        stands place below (or_left (seeks_so_far a place) (seeks_so_far b place) e);
  })

  -- the right one stands behind the left one's columns
  right_own : {seen : BoundSource} {v : ℕ} → seen ≡ a → IsSourceWidth seen v
      → SourceIsSupplied b outer so_far n (n + v)
  right_own {seen} {v} get left = record {
    before = before ++ sides.ls;
    around = around;
    kinds = sides.rs;
    width = ap (λ k. k + v) wide
        ∙ ap (λ k. length before + k)
        (left.is before around sides.ls (ap (λ z. from_kinds z before around) get ∙ sides.left))
        ∙ sym (length-append before sides.ls);
    typed = sides.right;
    there = λ level place e.
        there level place
        (or_right (seeks_of_source a level place) (seeks_of_source b level place) e);
    stands = λ place below e.
        stands place below (or_right (seeks_so_far a place) (seeks_so_far b place) e);
  }

  pub right_side : {seen other : BoundSource} {v : ℕ} → seen ≡ a → IsSourceWidth seen v → other ≡ b
      → SourceIsSupplied other outer so_far n (n + v)
  right_side {seen} {other} {v} get left also =
      subst (λ z. SourceIsSupplied z outer so_far n (n + v)) (sym also) (right_own get left)

-- ---- FROM a, b

module _ (outer : List OuterColumn) (so_far : List ℕ) (n : ℕ) (a b : BoundSource)
    {s : BoundSource} (supplied : SourceIsSupplied s outer so_far n n)
    (is : s ≡ source.Cross a b) where
  cross_parts : CrossTyped a b supplied.before supplied.around supplied.kinds
  cross_parts = cross_typed a b supplied.before supplied.around supplied.kinds
      (sym (ap (λ z. from_kinds z supplied.before supplied.around) is) ∙ supplied.typed)

  cross_there : (level place : ℕ)
      → (seeks_of_source a level place || seeks_of_source b level place) ≡ true
      → has outer level place ≡ true
  cross_there level place e =
      supplied.there level place
      (ap (λ z. seeks_of_source z level place) is
      ∙ ap (λ (m : Seeks). m level place) (seeks_Cross a b) ∙ e)

  cross_stands : (place : ℕ) → place < n → (seeks_so_far a place || seeks_so_far b place) ≡ true
      → has_place so_far place ≡ true
  cross_stands place below e =
      supplied.stands place below
      (ap (λ z. seeks_so_far z place) is
      ∙ ap (λ (m : ℕ → Bool). m place) (so_far_Cross a b) ∙ e)

  pub cross_left_supplied : {seen : BoundSource} → seen ≡ a → SourceIsSupplied seen outer so_far n n
  cross_left_supplied get =
      left_side outer so_far n a b supplied.width cross_parts cross_there cross_stands get

  pub cross_right_supplied : {seen other : BoundSource} {v : ℕ} → seen ≡ a → IsSourceWidth seen v
      → other ≡ b → SourceIsSupplied other outer so_far n (n + v)
  cross_right_supplied get left also =
      right_side outer so_far n a b supplied.width cross_parts cross_there cross_stands get left
      also

pub cross_width : {s a b seen other : BoundSource} {w v n : ℕ} → s ≡ source.Cross a b → seen ≡ a
    → IsSourceWidth seen w → other ≡ b → IsSourceWidth other v → n ≡ w + v → IsSourceWidth s n
cross_width {s} {a} {b} {seen} {other} {w} {v} {n} is get left also right wide = record {
  is = λ before around kinds e.
      wide
      ∙ both_width a b before around kinds (cross_typed a b before around kinds
      (sym (ap (λ z. from_kinds z before around) is) ∙ e)) get left also right;
}
