-- The arms of the code for FROM's items: one variable for each value that the code reads.
use Rattle.std.proofs.Common.{◌≡◌, ℕ, suc, ◌+◌, ◌<◌, List, [], ◌++◌, true, ◌||◌, refl, sym, ap}
use Rattle.std.proofs.Common.{◌∙◌, subst, length}
use Rattle.std.specs.Prelude.{Option, Some}
use Rattle.expr_scalar.specs.declared.expr.Expr.{Expr}
use Rattle.expr_scalar.specs.declared.expr.Expr.TheVariants.{All}
use Rattle.expr_conditions.specs.Ranks.{columns_from}
use Rattle.base_schema.specs.declared.table.TableName.{TableName}
use Rattle.base_schema.specs.Tables.{kinds_of}
use Rattle.sql_bound_query.specs.declared.query.BoundBlock.{BoundBlock}
use Rattle.sql_bound_query.specs.declared.query.BoundExpr.{BoundExpr}
use Rattle.sql_bound_query.specs.declared.query.BoundSource.{BoundSource}
use Rattle.sql_bound_query.specs.declared.query.BoundSource.TheVariants as source
use Rattle.plan_kept_queries.specs.Scans.{derived_tables, tables, tables_of_expr}
use Rattle.plan_algebra.specs.declared.tree.DepTree.{DepTree}
use Rattle.plan_algebra.specs.declared.tree.DepTree.TheVariants as t
use Rattle.plan_algebra.specs.declared.tree.Side.{Side}
use Rattle.plan_algebra.specs.declared.tree.Side.TheVariants.{Dependent}
use Rattle.plan_dependent_nodes.specs.declared.sight.OuterColumn.{OuterColumn}
use Rattle.plan_dependent_nodes.specs.FromGrowth.{FromDomains, AreRightPlaces, IsSourceTree}
use Rattle.plan_dependent_nodes.specs.FromGrowth.{IsRightSource, IsKeptRight, IsKept}
use Rattle.plan_dependent_nodes.specs.FromGrowth.{lateral_columns}
use Rattle.plan_dependent_nodes.specs.FromGrowth.{IsKeptDomain, KeepsRight}
use Rattle.plan_dependent_nodes.specs.Growth.{IsTree, IsTreeIn, IsTrimmed, Attaches, IsPlain}
use Rattle.plan_dependent_nodes.specs.Growth.{ExprAt, block_of, closed_of}
use Rattle.plan_dependent_nodes.specs.Seeks.{has, has_place, seeks_of_source, seeks_so_far}
use Rattle.plan_dependent_nodes.specs.Seeks.{seeks_of_expr}
use Rattle.plan_dependent_tree.proofs.FromTrees.{table_arm, derived_arm, lateral_arm, cross_arm}
use Rattle.plan_dependent_tree.proofs.FromTrees.{inner_arm, right_dependent}
use Rattle.plan_dependent_nodes.proofs.KeptTrees.{kept_arm}
use Rattle.plan_dependent_tree.proofs.OuterTrees.{plain_outer_arm, kept_outer_arm, kept_right_arm}
use Rattle.plan_dependent_tree.proofs.SeenArms.{attached_to}

module _ (outer : List OuterColumn) (so_far : List ℕ) (n start : ℕ) where
  -- a source by another name
  of_source : {x y : BoundSource} {w m : ℕ} {tree new : DepTree} → x ≡ y → new ≡ tree → m ≡ w
      → IsSourceTree y outer so_far n start tree w → IsSourceTree x outer so_far n start new m
  of_source {x} {y} {w} {m} {tree} {new} e f g is =
      subst (λ z. IsSourceTree z outer so_far n start new m) (sym e)
      (subst (λ z. IsSourceTree y outer so_far n start z m) (sym f)
      (subst (λ k. IsSourceTree y outer so_far n start tree k) (sym g) is))

  pub table_seen : {s : BoundSource} {table : TableName} {tree : DepTree} {w : ℕ}
      → s ≡ source.Table table → (tree ≡ t.Scan table) × (w ≡ length (kinds_of table))
      → IsSourceTree s outer so_far n start tree w
  table_seen {s} {table} {tree} {w} e is =
      of_source e is.0 refl
      (λ p m. table_arm (FromDomains outer so_far start p) table p w is.1)

  pub derived_seen : {s : BoundSource} {kept : Option ℕ} {q seen : BoundBlock} {tree : DepTree}
      {w : ℕ} → s ≡ source.Derived kept q → seen ≡ q
      → IsTree (derived_tables kept seen (tables seen)) (closed_of seen) [] start tree w
      → IsSourceTree s outer so_far n start tree w
  derived_seen {s} {kept} {q} {seen} {tree} {w} e f is =
      of_source e refl refl
      (λ p m. derived_arm kept q outer so_far start p w tree
      (subst (λ z. IsTree (derived_tables kept z (tables z)) (closed_of z) [] start tree w) f is))

  pub lateral_seen : {s : BoundSource} {q seen : BoundBlock} {listed : List OuterColumn}
      {tree : DepTree} {w : ℕ} → s ≡ source.Lateral q → seen ≡ q
      → listed ≡ lateral_columns outer so_far
      → IsTree (tables seen) (block_of seen) listed start tree w
      → IsSourceTree s outer so_far n start tree w
  lateral_seen {s} {q} {seen} {listed} {tree} {w} e f g is =
      of_source e refl refl
      (λ p m. lateral_arm q outer so_far start p w tree
      (subst (λ z. IsTree (tables z) (block_of z) (lateral_columns outer so_far) start tree w) f
      (subst (λ z. IsTree (tables seen) (block_of seen) z start tree w) g is)))

  -- ---- joins

  pub cross_seen : {s x y read_x read_y : BoundSource} {left right tree : DepTree} {side : Side}
      {a b m : ℕ} → s ≡ source.Cross x y → read_x ≡ x
      → IsSourceTree read_x outer so_far n start left a → read_y ≡ y
      → IsRightSource read_y outer so_far n start a right side b
      → (tree ≡ t.Join left right side (All [])) × (m ≡ a + b)
      → IsSourceTree s outer so_far n start tree m
  cross_seen {s} {x} {y} {read_x} {read_y} {left} {right} {tree} {side} {a} {b} {m} e f l g r is =
      let left_is : IsSourceTree x outer so_far n start left a =
      subst (λ z. IsSourceTree z outer so_far n start left a) f l in
      let right_is : IsRightSource y outer so_far n start a right side b =
      subst (λ z. IsRightSource z outer so_far n start a right side b) g r in
      of_source e is.0 refl
      (λ p k. cross_arm (FromDomains outer so_far start p) x y p left right side a b m
      (left_is p k) (right_is p k) is.1)

  pub inner_seen : (on : BoundExpr) {s x y read_x read_y : BoundSource}
      {left right joined new : DepTree} {side : Side} {a b m w : ℕ} → s ≡ source.Inner x y on
      → read_x ≡ x → IsSourceTree read_x outer so_far n start left a → read_y ≡ y
      → IsRightSource read_y outer so_far n start a right side b
      → (joined ≡ t.Join left right side (All [])) × (m ≡ a + b)
      → IsKept on outer so_far start joined m new → w ≡ m
      → IsSourceTree s outer so_far n start new w
  inner_seen on {s} {x} {y} {read_x} {read_y} {left} {right} {joined} {new} {side} {a} {b} {m} {w} e
      f l g r is keeps same =
      let left_is : IsSourceTree x outer so_far n start left a =
      subst (λ z. IsSourceTree z outer so_far n start left a) f l in
      let right_is : IsRightSource y outer so_far n start a right side b =
      subst (λ z. IsRightSource z outer so_far n start a right side b) g r in
      of_source e refl same
      (λ p k. inner_arm (FromDomains outer so_far start p) x y on p left right side a b m new
      (left_is p k) (right_is p k) is.1
      (λ occurs K tree_is. keeps p occurs K
      (subst (λ z. IsTreeIn (FromDomains outer so_far start p) occurs K z m) (sym is.0) tree_is)))

  -- the rows that ON keeps
  pub kept_seen : (on : BoundExpr) (c : Expr) {tree begun grown selected new : DepTree}
      {w begin last after : ℕ} → (begun ≡ tree) × (begin ≡ start + w)
      → Attaches outer start w (tables_of_expr on) (ExprAt on c) begun begin grown last
      → (selected ≡ t.Select grown c) × (after ≡ last)
      → IsTrimmed selected start w after new → IsKept on outer so_far start tree w new
  kept_seen on c {tree} {begun} {grown} {selected} {new} {w} {begin} {last} {after} g at sel trim =
      kept_arm on outer so_far start w tree begin grown last c new g.1 (attached_to g.0 refl at)
      (subst (λ z. IsTrimmed z start w last new) sel.0
      (subst (λ k. IsTrimmed selected start w k new) sel.1 trim))

  -- ---- left outer joins

  pub plain_outer_seen : (x y : BoundSource) (on : BoundExpr) (c : Expr) {s : BoundSource}
      {left right tree : DepTree} {side : Side} {a b w nulls : ℕ} → s ≡ source.Outer x y nulls on
      → IsSourceTree x outer so_far n start left a
      → IsRightSource y outer so_far n start a right side b → b ≡ nulls
      → IsPlain outer start (a + nulls) on (Some c)
      → (tree ≡ t.Outer left right side c) × (w ≡ a + nulls)
      → IsSourceTree s outer so_far n start tree w
  plain_outer_seen x y on c {s} {left} {right} {tree} {side} {a} {b} {w} {nulls} e l r same p is =
      of_source (e ∙ ap (λ k. source.Outer x y k on) (sym same)) is.0 is.1
      (λ q k. plain_outer_arm outer so_far start q x y on a b (a + nulls)
      (ap (λ z. a + z) (sym same)) left right side c (l q k) (r q k) p.0 p.1)

  pub kept_outer_seen : (x y : BoundSource) (on : BoundExpr) {s : BoundSource}
      {left right tree : DepTree} {c : Expr} {side : Side} {a w nulls : ℕ}
      → s ≡ source.Outer x y nulls on → IsSourceTree x outer so_far n start left a
      → IsKeptRight y on outer so_far n start a right side nulls → c ≡ All []
      → (tree ≡ t.Outer left right side c) × (w ≡ a + nulls)
      → IsSourceTree s outer so_far n start tree w
  kept_outer_seen x y on {s} {left} {right} {tree} {c} {side} {a} {w} {nulls} e l r always is =
      of_source e (is.0 ∙ ap (λ z. t.Outer left right side z) always) is.1
      (λ q k. kept_outer_arm outer so_far start q x y on a nulls (a + nulls) refl left right side
      (l q k) (r q k))

  -- ---- right sides

  pub dependent_seen : (s : BoundSource) (places : List ℕ) {a w v m : ℕ} {tree : DepTree}
      {wanted listed : List OuterColumn} {others nearest : List ℕ} → v ≡ n + a
      → IsSourceTree s listed nearest v m tree w → m ≡ length places
      → AreRightPlaces outer so_far n start wanted others places → listed ≡ wanted
      → nearest ≡ others → IsRightSource s outer so_far n start a tree (Dependent places) w
  dependent_seen s places {a} {w} {v} {m} {tree} {wanted} {listed} {others} {nearest} e is size at f
      g =
      right_dependent s outer so_far n start a w tree wanted others places m
      (subst (λ z. IsSourceTree s wanted others z m tree w) e
      (subst (λ z. IsSourceTree s wanted z v m tree w) g
      (subst (λ z. IsSourceTree s z nearest v m tree w) f is))) size at

-- a left outer join of the sides that were read
pub outer_read : {s x y read_x read_y : BoundSource} (nulls : ℕ) (on : BoundExpr)
    → s ≡ source.Outer x y nulls on → read_x ≡ x → read_y ≡ y
    → s ≡ source.Outer read_x read_y nulls on
outer_read {s} {x} {y} {read_x} {read_y} nulls on e f g =
    e ∙ ap (λ z. source.Outer z y nulls on) (sym f)
    ∙ ap (λ z. source.Outer read_x z nulls on) (sym g)

-- the tree of an item of FROM by other names
pub source_as : {x y : BoundSource} {outer listed : List OuterColumn} {so_far places : List ℕ}
    {n m start begin w v : ℕ} (tree : DepTree) → x ≡ y → listed ≡ outer → places ≡ so_far → m ≡ n
    → begin ≡ start → v ≡ w → IsSourceTree x listed places m begin tree v
    → IsSourceTree y outer so_far n start tree w
source_as {x} {y} {outer} {listed} {so_far} {places} {n} {m} {start} {begin} {w} {v} tree a b c d e
    f is =
    subst (λ z. IsSourceTree z outer so_far n start tree w) a
    (subst (λ z. IsSourceTree x z so_far n start tree w) b
    (subst (λ z. IsSourceTree x listed z n start tree w) c
    (subst (λ z. IsSourceTree x listed places z start tree w) d
    (subst (λ z. IsSourceTree x listed places m z tree w) e
    (subst (λ z. IsSourceTree x listed places m begin tree z) f is)))))

-- the domain of a right side and of ON
pub domain_is : (s : BoundSource) (on : BoundExpr) (outer : List OuterColumn) (so_far : List ℕ)
    (n start a : ℕ) (wanted listed : List OuterColumn) (others nearest first places : List ℕ)
    (before begin end : ℕ) → listed ≡ wanted → nearest ≡ others
    → ((level place : ℕ) → has wanted level place
    ≡ (seeks_of_source s level place || seeks_of_expr on (suc level) place))
    → ((place : ℕ) → has_place others place ≡ seeks_so_far s place)
    → (((level place : ℕ) → has listed level place ≡ true → has outer level place ≡ true)
    → ((place : ℕ) → has_place nearest place ≡ true → place < n
    → has_place so_far place ≡ true)
    → AreRightPlaces outer so_far n start listed nearest first)
    → places ≡ first ++ columns_from start a → begin ≡ length first → end ≡ begin + a
    → before ≡ n + a
    → IsKeptDomain s on outer so_far n start a wanted others places before begin end
domain_is s on outer so_far n start a wanted listed others nearest first places before begin end e f
    reads near at all begins sum behind = record {
      reads = reads;
      near = near;
      first = first;
      at = λ there stands.
          subst (λ z. AreRightPlaces outer so_far n start z others first) e
          (subst (λ z. AreRightPlaces outer so_far n start listed z first) f
          (at (λ level place h. there level place (ap (λ z. has z level place) (sym e) ∙ h))
          (λ place h below. stands place (ap (λ z. has_place z place) (sym f) ∙ h) below)));
      all = all;
      begins = begins;
      sum = sum;
      behind = behind;
    }

-- its rows, by ON
pub keeps_right_seen : (on : BoundExpr) (c : Expr) (wanted listed : List OuterColumn)
    (others places : List ℕ) (begin end a : ℕ) {w from last after nulls joined : ℕ}
    {tree begun grown selected new : DepTree} → listed ≡ wanted → w ≡ nulls → joined ≡ a + nulls
    → (begun ≡ tree) × (from ≡ end + w)
    → Attaches listed begin joined (tables_of_expr on) (ExprAt on c) begun from grown last
    → (selected ≡ t.Select grown c) × (after ≡ last)
    → IsTrimmed selected end nulls after new
    → KeepsRight on wanted others places begin end a tree nulls new (Dependent places)
keeps_right_seen on c wanted listed others places begin end a {w} {from} {last} {after} {nulls}
    {joined} {tree} {begun} {grown} {selected} {new} e same wide i to sel trim s outer so_far n start
    first at size sum all is =
    kept_right_arm s on outer so_far n start a nulls wanted others first places begin end from last
    tree grown c new at size sum all (i.1 ∙ ap (λ k. end + k) same) is
    (subst (λ z. Attaches z begin (a + nulls) (tables_of_expr on) (ExprAt on c) tree from grown
    last) e
    (subst (λ k. Attaches listed begin k (tables_of_expr on) (ExprAt on c) tree from grown last)
    wide (attached_to i.0 refl to)))
    (subst (λ z. IsTrimmed z end nulls last new) sel.0
    (subst (λ k. IsTrimmed selected end nulls k new) sel.1 trim))
