-- The trees of FROM's items.
use Rattle.std.proofs.Common.{◌≡◌, ℕ, suc, ◌+◌, List, [], ◌∷◌, ◌++◌}
use Rattle.std.proofs.Common.{refl, sym, ap, ◌∙◌, subst, arith, length, replicate, inl, inr, false}
use Rattle.std.specs.Prelude.{Option, Some, None, slice_index_or}
use Rattle.std.specs.List.{All}
use Rattle.std.proofs.lemmas.List.{append-nil, length-append, length-map, length-replicate}
use Rattle.base_row_laws.specs.Bags.{Each}
use Rattle.base_row_laws.specs.JoinGroups.{Width}
use Rattle.base_row_laws.specs.Operators.{select, join_loop}
use Rattle.base_row_laws.specs.Ranked.{Ranked, ranked, true_rank}
use Rattle.base_row_laws.specs.Rows.{columns, scanned}
use Rattle.base_row_laws.specs.StandingLaws.{Stands}
use Rattle.base_row_laws.proofs.Lists.{Each-map, Each-all, Each-weaker}
use Rattle.base_value.specs.declared.value.Value.{Value}
use Rattle.base_value.specs.declared.value.Value.TheVariants.{Null}
use Rattle.expr_scalar.specs.declared.expr.Expr.TheVariants.{All as all_of}
use Rattle.expr_conditions.specs.Ranks.{says}
use Rattle.expr_conditions.proofs.Ranks.{rank_All}
use Rattle.base_schema.specs.declared.table.TableName.{TableName}
use Rattle.base_schema.specs.Kinds.{RowIsOf}
use Rattle.base_schema.proofs.Columns.{row_long}
use Rattle.base_schema.specs.State.{State, table_rows}
use Rattle.base_schema.specs.Tables.{kinds_of}
use Rattle.sql_bound_query.specs.declared.query.BoundBlock.{BoundBlock}
use Rattle.sql_bound_query.specs.declared.query.BoundExpr.{BoundExpr}
use Rattle.sql_bound_query.specs.declared.query.BoundSource.{BoundSource}
use Rattle.sql_bound_query.specs.declared.query.BoundSource.TheVariants as source
use Rattle.sql_bound_query.specs.Meaning.{Env, FromMeaning, holds_for, cross_loop, expr_meaning}
use Rattle.sql_bound_query.specs.Meaning.{block_meaning, source_meaning, rows}
use Rattle.plan_kept_queries.specs.Scans.{Tables, derived_tables, row_count, tables, tables_of_source}
use Rattle.plan_kept_queries.specs.Scans.{tables_of_expr}
use Rattle.sql_bound_query.specs.Typing.{StateIsOf}
use Rattle.sql_bound_query.proofs.KeptRows as kept
use Rattle.sql_bound_query.proofs.Opened.{source_Table_at, source_Derived_at, source_Lateral_at}
use Rattle.sql_bound_query.proofs.Opened.{source_Cross_at, source_Inner_at}
use Rattle.sql_bound_query.proofs.StandingQueries.{cross_stands, source_stands}
use Rattle.plan_kept_queries.proofs.ScansOpened.{of_Table, of_Derived, of_Lateral, of_Cross}
use Rattle.plan_kept_queries.proofs.ScansOpened.{of_Inner}
use Rattle.plan_algebra.specs.declared.kept_plan.KeptPlan.{KeptPlan}
use Rattle.plan_algebra.specs.declared.tree.DepTree.{DepTree}
use Rattle.plan_algebra.specs.declared.tree.DepTree.TheVariants as t
use Rattle.plan_algebra.specs.declared.tree.Side.{Side}
use Rattle.plan_algebra.specs.declared.tree.Side.TheVariants.{Closed, Shared, Dependent}
use Rattle.plan_algebra.specs.Trees.{Occurrence, tree_rows, scans_of, width_of, right_row}
use Rattle.plan_algebra.proofs.KeptPlans.{query_stands}
use Rattle.plan_algebra.proofs.Opened.{rows_Scan, rows_Kept, rows_Join}
use Rattle.plan_algebra.proofs.Opened.{scans_Scan, scans_Kept, scans_Join}
use Rattle.plan_algebra.proofs.Opened.{width_Scan, width_Kept, width_Join}
use Rattle.plan_algebra.proofs.Widths.{query_wide}
use Rattle.plan_dependent_nodes.specs.declared.sight.OuterColumn.{OuterColumn}
use Rattle.plan_dependent_nodes.specs.Dependence.{domain_row}
use Rattle.plan_dependent_nodes.specs.FromGrowth.{FromDomains, AreRightPlaces, IsSourceTree}
use Rattle.plan_dependent_nodes.specs.FromGrowth.{IsRightSource, lateral_columns}
use Rattle.plan_dependent_nodes.specs.Growth.{IsDomain, DomainRows, RowsOf, IsTree, IsTreeIn}
use Rattle.plan_dependent_nodes.specs.Growth.{IsRightIn}
use Rattle.plan_dependent_nodes.specs.declared.parts.Rows.{Rows}
use Rattle.plan_dependent_nodes.specs.Growth.{IsKeptTree, IsLeaf, IsSubquery, AreAt, from_of}
use Rattle.plan_dependent_nodes.specs.Growth.{block_of}
use Rattle.plan_dependent_nodes.specs.Growth.{closed_of}
use Rattle.std.proofs.Math.Path.{fun_ext}
use Rattle.plan_kept_queries.specs.Forms.{IsKeptPlan, is_kept_block}
use Rattle.plan_kept_queries.proofs.ScansOpened.{derived_plain, derived_view}
use Rattle.plan_dependent_nodes.proofs.FromPlaces.{from_begins, from_shared, from_closed}
use Rattle.plan_dependent_nodes.proofs.FromPlaces.{from_wanted}
use Rattle.plan_dependent_nodes.proofs.FromPlaces.{lateral_sees, dependent_row}
use Rattle.plan_dependent_nodes.proofs.Places.{domain_none}
use Rattle.plan_dependent_nodes.proofs.Places.{domain_whole}
use Rattle.plan_dependent_nodes.proofs.Widenings.{join_is_select, join_crosses}

-- ---- the same rows by another name

pub tree_as : (D : DomainRows) (scans others : List Occurrence) (K L : RowsOf) (tree : DepTree)
    (w : ℕ) → IsTreeIn D scans K tree w → scans ≡ others
    → ((state : State) (env : Env) → K state env ≡ L state env) → IsTreeIn D others L tree w
tree_as D scans others K L tree w is e h = record {
  are_rows = record {
    stand = λ state env. subst (Each Stands) (h state env) (is.are_rows.stand state env);
    wide = λ state ok env. subst (Width w) (h state env) (is.are_rows.wide state ok env);
  };
  scans = is.scans ∙ e;
  width = is.width;
  rows = λ state ok env d i. is.rows state ok env d i ∙ h state env;
}

-- ---- tables and derived tables

each_of : {X : Type 0} (P : X → Type 0) (xs : List X) → All P xs → Each P xs
each_of P [] h = tt
each_of P (x ∷ xs) h = (h 0 x (omega arith), each_of P xs (λ k d below. h (suc k) d (omega arith)))

table_wide : (state : State) → StateIsOf state → (table : TableName)
    → Width (length (kinds_of table)) (scanned (table_rows state table))
table_wide state ok table =
    kept.scanned_each (λ r. length r ≡ length (kinds_of table)) (table_rows state table)
    (Each-weaker (RowIsOf table) (λ r. length r ≡ length (kinds_of table)) (table_rows state table)
    (λ r h. row_long table r h)
    (each_of (RowIsOf table) (table_rows state table) (ok.tables table)))

table_stands : (rs : List (List Value)) → Each Stands (scanned rs)
table_stands rs =
    Each-map Stands (λ r. ranked r true_rank) rs
    (Each-all (λ r. Stands (ranked r true_rank)) rs
    (λ r. record { not_dropped = omega arith; within = omega arith }))

pub table_arm : (D : DomainRows) (table : TableName) (p : List Value) (w : ℕ)
    → w ≡ length (kinds_of table)
    → IsTreeIn D (tables_of_source (source.Table table))
    (λ state. source_meaning state (source.Table table) p) (t.Scan table) w
table_arm D table p w e =
    tree_as D (inl table ∷ []) (tables_of_source (source.Table table))
    (λ state env. scanned (table_rows state table))
    (λ state. source_meaning state (source.Table table) p) (t.Scan table) w
    (record {
      are_rows = record {
        stand = λ state env. table_stands (table_rows state table);
        wide = λ state ok env. subst (λ n. Width n (scanned (table_rows state table))) (sym e)
            (table_wide state ok table);
      };
      scans = scans_Scan table;
      width = width_Scan table ∙ sym e;
      rows = λ state ok env d i. rows_Scan table (table_rows state) d;
    })
    (sym (of_Table table)) (λ state env. sym (source_Table_at state table p env))

-- a query that sees no row around it
closed_tree : (q : BoundBlock) (start w : ℕ) (tree : DepTree)
    → IsTree (tables q) (block_of q) [] start tree w
    → IsTree (tables q) (closed_of q) [] start tree w
closed_tree q start w tree is = record {
  are_rows = record {
    stand = λ state env. is.are_rows.stand state [];
    wide = λ state ok env. is.are_rows.wide state ok [];
  };
  scans = is.scans;
  width = is.width;
  rows = λ state ok env d i. is.rows state ok [] d (domain_none start [] d i.size);
}

-- the leaf of a kept view
leaf_tree : (number : ℕ) (q : BoundBlock) (plan : KeptPlan) (start w : ℕ) → IsKeptPlan q plan
    → w ≡ length plan.list
    → IsTree (inr (row_count q) ∷ []) (closed_of q) [] start (t.Kept number plan) w
unfolding rows
leaf_tree number q plan start w k e = record {
  are_rows = record {
    stand = λ state env. subst (λ xs. Each Stands xs) (k.rows state)
        (query_stands plan (table_rows state plan.table));
    wide = λ state ok env. subst (λ n. Width n (block_meaning state q [])) (sym e)
        (subst (λ xs. Width (length plan.list) xs) (k.rows state)
        (query_wide plan (table_rows state plan.table)));
  };
  scans = scans_Kept number plan
      ∙ ap (λ (count : State → ℕ). inr count ∷ []) (fun_ext (λ state. ap length (k.rows state)));
  width = width_Kept number plan ∙ sym e;
  rows = λ state ok env d i. rows_Kept number plan (table_rows state) d ∙ k.rows state;
}

as_derived : (q : BoundBlock) (start w : ℕ) (tree : DepTree) (own others : Tables) → own ≡ others
    → IsTree own (closed_of q) [] start tree w → IsTree others (closed_of q) [] start tree w
as_derived q start w tree own others e is =
    subst (λ z. IsTree z (closed_of q) [] start tree w) e is

-- a derived table that is no kept view, and one that is
module _ {kept : Option ℕ} (q : BoundBlock) {start w : ℕ} {tree : DepTree} where
  pub derived_alone : kept ≡ None → IsTree (tables q) (block_of q) [] start tree w
      → IsTree (derived_tables kept q (tables q)) (closed_of q) [] start tree w
  derived_alone e is =
      as_derived q start w tree (tables q) (derived_tables kept q (tables q))
      (ap (λ z. derived_tables z q (tables q)) (sym e)) (closed_tree q start w tree is)

  pub derived_unkept : {number : ℕ} → kept ≡ Some number → is_kept_block q ≡ false
      → IsTree (tables q) (block_of q) [] start tree w
      → IsTree (derived_tables kept q (tables q)) (closed_of q) [] start tree w
  derived_unkept {number} e none is =
      as_derived q start w tree (tables q) (derived_tables kept q (tables q))
      (sym (ap (λ z. derived_tables z q (tables q)) e ∙ derived_plain number q (tables q) none))
      (closed_tree q start w tree is)

  pub derived_kept : {number : ℕ} → kept ≡ Some number → IsLeaf number q tree w
      → IsTree (derived_tables kept q (tables q)) (closed_of q) [] start tree w
  derived_kept {number} e is =
      as_derived q start w tree (inr (row_count q) ∷ []) (derived_tables kept q (tables q))
      (sym (ap (λ z. derived_tables z q (tables q)) e ∙ derived_view number q (tables q) is.is_kept))
      (subst (λ z. IsTree (inr (row_count q) ∷ []) (closed_of q) [] start z w) (sym is.tree_is)
      (leaf_tree number q is.plan start w is.is_plan is.width_is))

-- what was found for the kept view of a number
pub leaf_found : {number : ℕ} {q : BoundBlock} {found : Option Rows} {made : Rows}
    → found ≡ Some made → IsKeptTree number q found → IsLeaf number q made.tree made.width
leaf_found {number} {q} is kept = subst (IsKeptTree number q) is kept

pub leaf_missed : (number : ℕ) (q : BoundBlock) {found : Option Rows} → found ≡ None
    → IsKeptTree number q found → is_kept_block q ≡ false
leaf_missed number q is kept = subst (IsKeptTree number q) is kept

pub derived_arm : (kept : Option ℕ) (q : BoundBlock) (outer : List OuterColumn) (so_far : List ℕ)
    (start : ℕ) (p : List Value) (w : ℕ) (tree : DepTree)
    → IsTree (derived_tables kept q (tables q)) (closed_of q) [] start tree w
    → IsTreeIn (FromDomains outer so_far start p) (tables_of_source (source.Derived kept q))
    (λ state. source_meaning state (source.Derived kept q) p) tree w
derived_arm kept q outer so_far start p w tree is =
    tree_as (FromDomains outer so_far start p) (derived_tables kept q (tables q))
    (tables_of_source (source.Derived kept q)) (closed_of q)
    (λ state. source_meaning state (source.Derived kept q) p) tree w
    (record {
      are_rows = is.are_rows;
      scans = is.scans;
      width = is.width;
      rows = λ state ok env d i. is.rows state ok env d (domain_none start env d i.size);
    })
    (sym (of_Derived kept q)) (λ state env. sym (source_Derived_at state kept q p env))

-- its query sees the row so far before the rows around
pub lateral_arm : (q : BoundBlock) (outer : List OuterColumn) (so_far : List ℕ) (start : ℕ)
    (p : List Value) (w : ℕ) (tree : DepTree)
    → IsTree (tables q) (block_of q) (lateral_columns outer so_far) start tree w
    → IsTreeIn (FromDomains outer so_far start p) (tables_of_source (source.Lateral q))
    (λ state. source_meaning state (source.Lateral q) p) tree w
lateral_arm q outer so_far start p w tree is =
    tree_as (FromDomains outer so_far start p) (tables q) (tables_of_source (source.Lateral q))
    (λ state env. block_meaning state q (p ∷ env))
    (λ state. source_meaning state (source.Lateral q) p) tree w
    (record {
      are_rows = record {
        stand = λ state env. is.are_rows.stand state (p ∷ env);
        wide = λ state ok env. is.are_rows.wide state ok (p ∷ env);
      };
      scans = is.scans;
      width = is.width;
      rows = λ state ok env d i.
          is.rows state ok (p ∷ env) d (lateral_sees outer so_far start p env d i);
    })
    (sym (of_Lateral q)) (λ state env. sym (source_Lateral_at state q p env))

-- FROM is a source under a row so far of no columns
pub from_arm : (s : BoundSource) (outer : List OuterColumn) (start w : ℕ) (tree : DepTree)
    → IsSourceTree s outer [] 0 start tree w
    → IsTree (tables_of_source s) (from_of s) outer start tree w
from_arm s outer start w tree is =
    let own : IsTreeIn (FromDomains outer [] start []) (tables_of_source s) (from_of s) tree w =
    is [] refl in
    record {
      are_rows = own.are_rows;
      scans = own.scans;
      width = own.width;
      rows = λ state ok env d i. own.rows state ok env d (from_begins outer start env d i);
    }

-- ---- right sides

-- a row of two parts
pub both_long : (p l : List Value) (n a : ℕ) → length p ≡ n → length l ≡ a → length (p ++ l) ≡ n + a
both_long p l n a e f =
    length-append p l ∙ ap (λ k. k + length l) e ∙ ap (λ k. n + k) f

module _ (s : BoundSource) (outer : List OuterColumn) (so_far : List ℕ) (n start a w : ℕ)
    (tree : DepTree) where
  pub right_shared : IsSourceTree s outer [] (n + a) start tree w
      → IsRightSource s outer so_far n start a tree Shared w
  unfolding right_row
  right_shared is p e =
      let some : List Value = replicate a Null in
      let one : IsTreeIn (FromDomains outer [] start (p ++ some)) (tables_of_source s)
      (λ state. source_meaning state s (p ++ some)) tree w =
      is (p ++ some) (both_long p some n a e (length-replicate a Null)) in
      record {
        stand = λ state l env. source_stands state s (p ++ l) env;
        wide = λ state ok l f env. (is (p ++ l) (both_long p l n a e f)).are_rows.wide state ok env;
        scans = one.scans;
        width = one.width;
        rows = λ state ok env d i l f.
            (is (p ++ l) (both_long p l n a e f)).rows state ok env d
            (from_shared outer so_far start p (p ++ l) env d i);
      }

  pub right_closed : IsSourceTree s [] [] (n + a) 0 tree w
      → IsRightSource s outer so_far n start a tree Closed w
  unfolding right_row
  right_closed is p e =
      let some : List Value = replicate a Null in
      let one : IsTreeIn (FromDomains [] [] 0 (p ++ some)) (tables_of_source s)
      (λ state. source_meaning state s (p ++ some)) tree w =
      is (p ++ some) (both_long p some n a e (length-replicate a Null)) in
      record {
        stand = λ state l env. source_stands state s (p ++ l) env;
        wide = λ state ok l f env. (is (p ++ l) (both_long p l n a e f)).are_rows.wide state ok env;
        scans = one.scans;
        width = one.width;
        rows = λ state ok env d i l f.
            (is (p ++ l) (both_long p l n a e f)).rows state ok env [] (from_closed (p ++ l) env);
      }

  pub right_dependent : (wanted : List OuterColumn) (others places : List ℕ) (m : ℕ)
      → IsSourceTree s wanted others (n + a) m tree w → m ≡ length places
      → AreRightPlaces outer so_far n start wanted others places
      → IsRightSource s outer so_far n start a tree (Dependent places) w
  right_dependent wanted others places m is size at p e =
      let some : List Value = replicate a Null in
      let one : IsTreeIn (FromDomains wanted others m (p ++ some)) (tables_of_source s)
      (λ state. source_meaning state s (p ++ some)) tree w =
      is (p ++ some) (both_long p some n a e (length-replicate a Null)) in
      record {
        stand = λ state l env. source_stands state s (p ++ l) env;
        wide = λ state ok l f env. (is (p ++ l) (both_long p l n a e f)).are_rows.wide state ok env;
        scans = one.scans;
        width = one.width;
        rows = λ state ok env d i l f.
            let row : List Value = columns Null places (d ++ l) in
            ap (tree_rows tree (table_rows state)) (dependent_row places d l)
            ∙ (is (p ++ l) (both_long p l n a e f)).rows state ok env row
            (from_wanted wanted others m (p ++ l) env row []
            (at.reads env p d l e i
            ∙ sym (append-nil (domain_row wanted env ++ columns Null others (p ++ l))))
            (length-map places (λ c. slice_index_or (d ++ l) c Null) ∙ sym size));
      }

-- the tree of a subquery, over the domain of these columns
pub subquery_dependent : (q : BoundBlock) (outer wanted : List OuterColumn) (start w n v : ℕ)
    (tree : DepTree) (places : List ℕ) → IsTree (tables q) (block_of q) wanted n tree v
    → n ≡ length wanted → AreAt outer start w wanted places
    → IsSubquery q outer start w tree (Dependent places)
unfolding right_row
subquery_dependent q outer wanted start w n v tree [] is e at = record {
  scans = is.scans;
  rows = λ state ok env d u r s.
      let none : [] ≡ domain_row wanted (r ∷ env) = at.reads env r (d ++ u) s in
      ap (tree_rows tree (table_rows state)) none
      ∙ is.rows state ok (r ∷ env) (domain_row wanted (r ∷ env))
      (subst (λ k. IsDomain wanted k (r ∷ env) (domain_row wanted (r ∷ env))) (sym e)
      (domain_whole wanted (r ∷ env)));
}
subquery_dependent q outer wanted start w n v tree (p ∷ places) is e at = record {
  scans = is.scans;
  rows = λ state ok env d u r s.
      ap (tree_rows tree (table_rows state)) (at.reads env r (d ++ u) s)
      ∙ is.rows state ok (r ∷ env) (domain_row wanted (r ∷ env))
      (subst (λ k. IsDomain wanted k (r ∷ env) (domain_row wanted (r ∷ env))) (sym e)
      (domain_whole wanted (r ∷ env)));
}

pub subquery_closed : (q : BoundBlock) (outer : List OuterColumn) (start w : ℕ) (tree : DepTree)
    → IsSubquery q outer start w tree (Dependent []) → IsSubquery q outer start w tree Closed
unfolding right_row
subquery_closed q outer start w tree s = record { scans = s.scans; rows = s.rows }

-- ---- joins

pub always_holds : (d r : List Value) → says (all_of []) d r ≡ true_rank
unfolding says
always_holds d r = rank_All [] (d ++ r)

module _ (D : DomainRows) where
  pub cross_tree : (as' bs : List Occurrence) (A : RowsOf) (B : State → FromMeaning)
      (left right : DepTree) (side : Side) (a b n : ℕ) → IsTreeIn D as' A left a
      → IsRightIn D bs B a right side b → n ≡ a + b
      → IsTreeIn D (as' ++ bs) (λ state env. cross_loop (A state env) (λ l. B state l env))
      (t.Join left right side (all_of [])) n
  cross_tree as' bs A B left right side a b n l r e = record {
    are_rows = record {
      stand = λ state env. cross_stands (A state env) (λ x. B state x env)
          (l.are_rows.stand state env) (λ x. r.stand state x env);
      wide = λ state ok env.
          kept.cross_each (λ x. length x ≡ a) (λ x. length x ≡ b) (λ x. length x ≡ n) (A state env)
          (λ x. B state x env)
          (λ x y p q. length-append x y ∙ ap (λ k. k + length y) p ∙ ap (λ k. a + k) q ∙ sym e)
          (l.are_rows.wide state ok env) (λ x p. r.wide state ok x p env);
    };
    scans = scans_Join left right side (all_of []) ∙ ap (λ k. k ++ scans_of right) l.scans
        ∙ ap (λ k. as' ++ k) r.scans;
    width = width_Join left right side (all_of []) ∙ ap (λ k. k + width_of right) l.width
        ∙ ap (λ k. a + k) r.width ∙ sym e;
    rows = λ state ok env d i.
        let R : List Value → List (Ranked Value) =
        λ x. tree_rows right (table_rows state) (right_row side d x) in
        rows_Join left right side (all_of []) (table_rows state) d
        ∙ ap (λ xs. join_loop (says (all_of []) d) xs R) (l.rows state ok env d i)
        ∙ join_crosses (λ (x : Ranked Value). length x.values ≡ a) (says (all_of []) d)
        (A state env) R (λ x. B state x env) (always_holds d)
        (λ x p. r.rows state ok env d i x.values p) (l.are_rows.wide state ok env)
        (l.are_rows.stand state env) (λ x. r.stand state x env);
  }

  pub cross_arm : (x y : BoundSource) (p : List Value) (left right : DepTree) (side : Side)
      (a b n : ℕ)
      → IsTreeIn D (tables_of_source x) (λ state. source_meaning state x p) left a
      → IsRightIn D (tables_of_source y) (λ state l. source_meaning state y (p ++ l)) a right side b
      → n ≡ a + b
      → IsTreeIn D (tables_of_source (source.Cross x y))
      (λ state. source_meaning state (source.Cross x y) p) (t.Join left right side (all_of [])) n
  cross_arm x y p left right side a b n l r e =
      tree_as D (tables_of_source x ++ tables_of_source y) (tables_of_source (source.Cross x y))
      (λ state env. cross_loop (source_meaning state x p env)
      (λ l. source_meaning state y (p ++ l) env))
      (λ state. source_meaning state (source.Cross x y) p) (t.Join left right side (all_of [])) n
      (cross_tree (tables_of_source x) (tables_of_source y) (λ state. source_meaning state x p)
      (λ state l. source_meaning state y (p ++ l)) left right side a b n l r e)
      (sym (of_Cross x y)) (λ state env. sym (source_Cross_at state x y p env))

  -- a join has the combinations that ON keeps
  pub inner_arm : (x y : BoundSource) (on : BoundExpr) (p : List Value) (left right : DepTree)
      (side : Side) (a b n : ℕ) (new : DepTree)
      → IsTreeIn D (tables_of_source x) (λ state. source_meaning state x p) left a
      → IsRightIn D (tables_of_source y) (λ state l. source_meaning state y (p ++ l)) a right side b
      → n ≡ a + b
      → ((occurs : List Occurrence) (K : RowsOf)
      → IsTreeIn D occurs K (t.Join left right side (all_of [])) n
      → IsTreeIn D (occurs ++ tables_of_expr on)
      (λ state env. select (holds_for (expr_meaning state on) env) (K state env)) new n)
      → IsTreeIn D (tables_of_source (source.Inner x y on))
      (λ state. source_meaning state (source.Inner x y on) p) new n
  inner_arm x y on p left right side a b n new l r e keeps =
      let As : List Occurrence = tables_of_source x in
      let Bs : List Occurrence = tables_of_source y in
      let K : RowsOf = λ state env. cross_loop (source_meaning state x p env)
      (λ l. source_meaning state y (p ++ l) env) in
      tree_as D ((As ++ Bs) ++ tables_of_expr on) (tables_of_source (source.Inner x y on))
      (λ state env. select (holds_for (expr_meaning state on) env) (K state env))
      (λ state. source_meaning state (source.Inner x y on) p) new n
      (keeps (As ++ Bs) K
      (cross_tree As Bs (λ state. source_meaning state x p)
      (λ state l. source_meaning state y (p ++ l)) left right side a b n l r e))
      (sym (of_Inner x y on))
      (λ state env. join_is_select (holds_for (expr_meaning state on) env)
      (source_meaning state x p env) (λ l. source_meaning state y (p ++ l) env)
      ∙ sym (source_Inner_at state x y on p env))
