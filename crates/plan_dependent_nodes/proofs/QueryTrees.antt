-- The trees of queries, from FROM up: a tree whose rows are the query's rows so far, with columns
-- after them.
use Rattle.std.proofs.Common.{◌≡◌, ℕ, ◌+◌, List, [], ◌∷◌, ◌++◌, map, refl, sym, ap, ◌∙◌, subst}
use Rattle.std.proofs.Common.{arith, length}
use Rattle.std.specs.Prelude.{slice_index_or}
use Rattle.std.proofs.lemmas.List.{append-nil, append_assoc, length-append, length-map}
use Rattle.base_row_laws.specs.Aggregates.{aggregated}
use Rattle.base_row_laws.specs.Bags.{Each}
use Rattle.base_row_laws.specs.JoinGroups.{Width}
use Rattle.base_row_laws.specs.Operators.{select, project, distinct}
use Rattle.base_row_laws.specs.Ranked.{Ranked}
use Rattle.base_row_laws.specs.Rows.{after, columns}
use Rattle.base_row_laws.specs.StandingLaws.{Stands}
use Rattle.base_row_laws.proofs.Lists.{map-map, Each-weaker, Each-all}
use Rattle.base_row_laws.proofs.Standings as stands
use Rattle.base_value.specs.declared.value.Value.{Value}
use Rattle.base_value.specs.declared.value.Value.TheVariants.{Null}
use Rattle.base_value.specs.Truth.{truth_rank}
use Rattle.base_value.specs.Value.{same_value}
use Rattle.base_value.proofs.Identity.{value_identity}
use Rattle.expr_scalar.specs.declared.expr.Expr.{Expr}
use Rattle.expr_scalar.specs.Meaning.{values}
use Rattle.expr_conditions.specs.Ranks.{rank_of, says}
use Rattle.plan_algebra.specs.Trees.{Occurrence}
use Rattle.base_schema.specs.State.{State, table_rows}
use Rattle.sql_bound_query.specs.declared.query.BoundAggregate.{BoundAggregate}
use Rattle.sql_bound_query.specs.declared.query.BoundExpr.{BoundExpr}
use Rattle.sql_bound_query.specs.Meaning.{Env, ExprMeaning, AggregateMeaning, holds_for, groups}
use Rattle.sql_bound_query.specs.Meaning.{expr_meaning, aggregate_meaning}
use Rattle.sql_bound_query.specs.Meaning as query
use Rattle.sql_bound_query.specs.Typing.{StateIsOf}
use Rattle.sql_bound_query.proofs.KeptRows as kept
use Rattle.plan_algebra.specs.declared.aggregate.Aggregate.{Aggregate}
use Rattle.plan_algebra.specs.declared.tree.DepTree.{DepTree}
use Rattle.plan_algebra.specs.declared.tree.DepTree.TheVariants as t
use Rattle.plan_algebra.specs.Aggregates.{argument_and_function, aggregates_of}
use Rattle.plan_algebra.specs.Trees.{tree_rows, scans_of, width_of, listed, keys_under}
use Rattle.plan_algebra.specs.Trees.{aggregates_under}
use Rattle.plan_algebra.specs.Trees.{groups_under}
use Rattle.plan_algebra.proofs.Opened.{rows_Select, rows_Project, rows_Group, rows_Distinct}
use Rattle.plan_algebra.proofs.Opened.{scans_Select, scans_Project, scans_Group, scans_Distinct}
use Rattle.plan_algebra.proofs.Opened.{width_Select, width_Project, width_Group, width_Distinct}
use Rattle.plan_dependent_nodes.specs.declared.sight.OuterColumn.{OuterColumn}
use Rattle.plan_dependent_nodes.specs.Growth.{IsDomain, Sees, Attaches, Reading, RowsOf, AreRows}
use Rattle.plan_dependent_nodes.specs.Growth.{DomainRows, IsTreeIn}
use Rattle.plan_dependent_nodes.specs.Growth.{AreKeys, ExprAt, ListAt, AggregatesAt, SameFunctions}
use Rattle.plan_dependent_nodes.specs.Growth.{IsTrimmed, widened}
use Rattle.plan_dependent_nodes.proofs.Places.{sees_grown}
use Rattle.plan_dependent_nodes.proofs.Widenings.{Summing, select_widened, widened_twice}
use Rattle.plan_dependent_nodes.proofs.Widenings.{widened_none}
use Rattle.plan_dependent_nodes.proofs.Widenings.{project_widened, total_widened, group_widened}
use Rattle.plan_dependent_nodes.proofs.Widenings.{aggregates_alike}

-- the rows K, which an expression sees, with columns after them, of which P is so
pub record Stage (D : DomainRows) (occurs : List Occurrence) (K : RowsOf) (start w : ℕ)
    (P : Reading) (tree : DepTree) (end : ℕ) : Type 0 where
  pub are_rows : AreRows K w
  pub scans : scans_of tree ≡ occurs
  pub width : width_of tree + start ≡ end
  pub adds : State → List Value → List Value → List Value
  pub count : (state : State) (d r : List Value) → (start + w) + length (adds state d r) ≡ end
  pub rows : (state : State) → StateIsOf state → (env : Env) (d : List Value) → D env d
      → tree_rows tree (table_rows state) d ≡ map (widened (adds state d)) (K state env)
  pub reads : (state : State) → StateIsOf state → (env : Env) (d : List Value)
      → D env d → (r : List Value) → length r ≡ w
      → P state env r (d ++ (r ++ adds state d r))

abbrev pub Anything : Reading
Anything state env r flat = Unit {0}

module _ (D : DomainRows) (outer : List OuterColumn) (start : ℕ)
    (begins : (env : Env) (d : List Value) → D env d → IsDomain outer start env d)
    (scans : List Occurrence) (K : RowsOf) (w : ℕ) where
  -- the rows as they are
  pub stage_begin : (tree : DepTree) (end : ℕ) → IsTreeIn D scans K tree w → end ≡ start + w
      → Stage D scans K start w Anything tree end
  stage_begin tree end is e = record {
    are_rows = is.are_rows;
    scans = is.scans;
    width = let n : width_of tree ≡ w = is.width in omega (arith, e, n);
    adds = λ state d r. [];
    count = λ state d r. omega (arith, e);
    rows = λ state ok env d i.
        is.rows state ok env d i
        ∙ sym (widened_none (λ r. []) (K state env)
        (Each-all (λ (x : Ranked Value). [] ≡ []) (K state env) (λ x. refl)));
    reads = λ state ok env d i r n. tt;
  }

  -- more columns after them
  pub stage_more : (more : List Occurrence) (P Q : Reading) (tree : DepTree) (end : ℕ)
      (new : DepTree) (last : ℕ) → Stage D scans K start w P tree end
      → Attaches outer start w more Q tree end new last
      → Stage D (scans ++ more) K start w Q new last
  stage_more more P Q tree end new last s a =
      let f : State → List Value → List Value → List Value = s.adds in
      let g : State → List Value → List Value → List Value =
      λ state d r. a.adds state d (r ++ s.adds state d r) in
      record {
        are_rows = s.are_rows;
        scans = a.scans ∙ ap (λ l. l ++ more) s.scans;
        width = a.width start s.width;
        adds = λ state d r. f state d r ++ g state d r;
        count = λ state d r.
            let n = length-append (f state d r) (g state d r) in
            let p : (start + w) + length (f state d r) ≡ end = s.count state d r in
            let q : end + length (g state d r) ≡ last = a.count state d (r ++ f state d r) in
            omega (arith, n, p, q);
        rows = λ state ok env d i.
            a.rows state d ∙ ap (map (widened (a.adds state d))) (s.rows state ok env d i)
            ∙ widened_twice (s.adds state d) (a.adds state d) (K state env);
        reads = λ state ok env d i r n.
            let u : List Value = f state d r in
            let v : List Value = g state d r in
            let c : (start + w) + length u ≡ end = s.count state d r in
            let k : length d ≡ start = (begins env d i).size in
            let m : length (d ++ (r ++ u)) ≡ end =
            length-append d (r ++ u) ∙ ap (λ z. length d + z) (length-append r u)
            ∙ omega (arith, c, k, n) in
            subst (Q state env r) (append-nil (d ++ ((r ++ u) ++ v))
            ∙ ap (λ z. d ++ z) (append_assoc r u v))
            (a.reads state ok env d (r ++ u) r (sees_grown outer start w env d r u (begins env d i) n) m []);
      }

  -- ---- WHERE and HAVING

  says_so : (e : BoundExpr) (x : Expr) (state : State) (env : Env) (d r f : List Value)
      → ExprAt e x state env r (d ++ (r ++ f))
      → says x d (r ++ f) ≡ holds_for (expr_meaning state e) env r
  unfolding ExprAt says rank_of
  says_so e x state env d r f p = ap truth_rank p.1

  pub stage_select : (e : BoundExpr) (x : Expr) (tree : DepTree) (end : ℕ)
      → Stage D scans K start w (ExprAt e x) tree end
      → Stage D scans (λ state env. select (holds_for (expr_meaning state e) env) (K state env)) start
      w Anything (t.Select tree x) end
  stage_select e x tree end s = record {
    are_rows = record {
      stand = λ state env. stands.select_stands (holds_for (expr_meaning state e) env) (K state env)
          (s.are_rows.stand state env);
      wide = λ state ok env. kept.select_each (λ r. length r ≡ w)
          (holds_for (expr_meaning state e) env) (K state env) (s.are_rows.wide state ok env);
    };
    scans = scans_Select tree x ∙ s.scans;
    width = ap (λ n. n + start) (width_Select tree x) ∙ s.width;
    adds = s.adds;
    count = s.count;
    rows = λ state ok env d i.
        rows_Select tree x (table_rows state) d ∙ ap (select (says x d)) (s.rows state ok env d i)
        ∙ select_widened (s.adds state d) (says x d) (holds_for (expr_meaning state e) env)
        (K state env)
        (Each-weaker (λ (y : Ranked Value). length y.values ≡ w)
        (λ (y : Ranked Value). says x d (y.values ++ s.adds state d y.values)
        ≡ holds_for (expr_meaning state e) env y.values) (K state env)
        (λ y n. says_so e x state env d y.values (s.adds state d y.values)
        (s.reads state ok env d i y.values n)) (s.are_rows.wide state ok env));
    reads = λ state ok env d i r n. tt;
  }

  -- ---- the select list

  lists_so : (es : List BoundExpr) (xs : List Expr) (state : State) (env : Env) (d r f : List Value)
      → ListAt es xs state env r (d ++ (r ++ f))
      → listed xs d (r ++ f) ≡ query.listed (map (expr_meaning state) es) env r
  unfolding ListAt listed values
  lists_so es xs state env d r f p = p
      ∙ sym (map-map (λ (e : ExprMeaning). e.value (r ∷ env)) (expr_meaning state) es)

  list_width : (es : List BoundExpr) (state : State) (env : Env) (r : List Value)
      → length (query.listed (map (expr_meaning state) es) env r) ≡ length es
  list_width es state env r =
      length-map (map (expr_meaning state) es) (λ (e : ExprMeaning). e.value (r ∷ env))
      ∙ length-map es (expr_meaning state)

  pub stage_project : (es : List BoundExpr) (xs : List Expr) (tree : DepTree) (end n : ℕ)
      → Stage D scans K start w (ListAt es xs) tree end → n ≡ length xs → length xs ≡ length es
      → IsTreeIn D scans (λ state env.
      project (query.listed (map (expr_meaning state) es) env) (K state env)) (t.Project tree xs) n
  stage_project es xs tree end n s is same = record {
    are_rows = record {
      stand = λ state env. stands.project_stands (query.listed (map (expr_meaning state) es) env)
          (K state env) (s.are_rows.stand state env);
      wide = λ state ok env. kept.project_each (λ r. length r ≡ w) (λ r. length r ≡ n)
          (query.listed (map (expr_meaning state) es) env) (K state env)
          (λ r m. list_width es state env r ∙ sym (is ∙ same)) (s.are_rows.wide state ok env);
    };
    scans = scans_Project tree xs ∙ s.scans;
    width = width_Project tree xs ∙ sym is;
    rows = λ state ok env d i.
        rows_Project tree xs (table_rows state) d
        ∙ ap (project (listed xs d)) (s.rows state ok env d i)
        ∙ project_widened (s.adds state d) (listed xs d)
        (query.listed (map (expr_meaning state) es) env) (K state env)
        (Each-weaker (λ (y : Ranked Value). length y.values ≡ w)
        (λ (y : Ranked Value). listed xs d (y.values ++ s.adds state d y.values)
        ≡ query.listed (map (expr_meaning state) es) env y.values) (K state env)
        (λ y m. lists_so es xs state env d y.values (s.adds state d y.values)
        (s.reads state ok env d i y.values m)) (s.are_rows.wide state ok env));
  }

  -- ---- GROUP BY

  -- the aggregates of a query's rows
  abbrev sums : List BoundAggregate → State → Env → List (Ranked Value) → List Value
  sums as' state env ys = aggregated
      (map (λ (a : AggregateMeaning). a env) (map (aggregate_meaning state) as')) ys

  sums_width : (as' : List BoundAggregate) (state : State) (env : Env) (ys : List (Ranked Value))
      → length (sums as' state env ys) ≡ length as'
  sums_width as' state env ys =
      let ms : List AggregateMeaning = map (aggregate_meaning state) as' in
      length-map (map (λ (a : AggregateMeaning). a env) ms)
      (λ (a : Summing). a.1 (map (λ (y : Ranked Value). a.0 y.values) ys))
      ∙ length-map ms (λ (a : AggregateMeaning). a env) ∙ length-map as' (aggregate_meaning state)

  sums_so : (as' : List BoundAggregate) (xs : List Aggregate) (state : State) (env : Env)
      (d : List Value) (f : List Value → List Value) (ys : List (Ranked Value))
      → SameFunctions as' xs → Each
      (λ (y : Ranked Value). AggregatesAt as' xs state env y.values (d ++ (y.values ++ f y.values)))
      ys
      → aggregates_under xs d (map (widened f) ys) ≡ sums as' state env ys
  unfolding AggregatesAt SameFunctions aggregates_under aggregates_of
  sums_so as' xs state env d f ys same all =
      let us : List Summing = map argument_and_function xs in
      let vs : List Summing = map (λ (a : AggregateMeaning). a env)
      (map (aggregate_meaning state) as') in
      let flat : Ranked Value → Ranked Value = λ y. after d (widened f y) in
      let P : Ranked Value → Type 0 =
      λ y. AggregatesAt as' xs state env y.values (d ++ (y.values ++ f y.values)) in
      let vs' : vs ≡ map (λ a. aggregate_meaning state a env) as' =
      map-map (λ (a : AggregateMeaning). a env) (aggregate_meaning state) as' in
      ap (aggregated us) (map-map (after d) (widened f) ys)
      ∙ aggregates_alike flat us vs ys
      (map-map (λ (u : Summing). u.1) argument_and_function xs ∙ same state env
      ∙ sym (map-map (λ (u : Summing). u.1) (λ a. aggregate_meaning state a env) as')
      ∙ ap (map (λ (u : Summing). u.1)) (sym vs'))
      (Each-weaker P (λ (y : Ranked Value). map (λ (u : Summing). u.0 (flat y).values) us
      ≡ map (λ (v : Summing). v.0 y.values) vs) ys
      (λ y p. map-map (λ (u : Summing). u.0 (flat y).values) argument_and_function xs ∙ p
      ∙ sym (map-map (λ (v : Summing). v.0 y.values) (λ a. aggregate_meaning state a env) as')
      ∙ ap (map (λ (v : Summing). v.0 y.values)) (sym vs'))
      all)

  keys_so : (keys places : List ℕ) (env : Env) (d r f : List Value)
      → AreKeys outer start w keys places → Sees outer start w env r (d ++ (r ++ f))
      → keys_under places d (r ++ f) ≡ columns Null keys r
  unfolding keys_under
  keys_so keys places env d r f k s = k.reads env r (d ++ (r ++ f)) s

  groups_so : (keys places : List ℕ) (as' : List BoundAggregate) (xs : List Aggregate)
      (state : State) (env : Env) (d : List Value) (f : List Value → List Value)
      (ys : List (Ranked Value)) → length places ≡ length keys → SameFunctions as' xs
      → Each (λ (y : Ranked Value).
      AggregatesAt as' xs state env y.values (d ++ (y.values ++ f y.values))) ys
      → Each (λ (y : Ranked Value). keys_under places d (y.values ++ f y.values)
      ≡ columns Null keys y.values) ys
      → groups_under places xs d (map (widened f) ys) ≡ groups keys (sums as' state env) ys
  groups_so [] [] as' xs state env d f ys n same all each =
      total_widened f (aggregates_under xs d) (sums as' state env) ys
      (sums_so as' xs state env d f ys same all)
  groups_so [] (p ∷ places) as' xs state env d f ys n same all each = cc
  groups_so (k ∷ keys) [] as' xs state env d f ys n same all each = cc
  groups_so (k ∷ keys) (p ∷ places) as' xs state env d f ys n same all each =
      let Q : Ranked Value → Type 0 =
      λ y. AggregatesAt as' xs state env y.values (d ++ (y.values ++ f y.values)) in
      group_widened same_value f Q (keys_under (p ∷ places) d) (columns Null (k ∷ keys))
      (aggregates_under xs d) (sums as' state env) ys each all
      (λ us h. sums_so as' xs state env d f us same h)

  groups_stand : (keys : List ℕ) (many : List (Ranked Value) → List Value)
      (xs : List (Ranked Value)) → Each Stands xs → Each Stands (groups keys many xs)
  groups_stand [] many xs all = stands.total_stands many xs all
  groups_stand (k ∷ ks) many xs all =
      stands.group_stands same_value (columns Null (k ∷ ks)) many xs all

  groups_wide : (keys : List ℕ) (many : List (Ranked Value) → List Value) (m n : ℕ)
      (xs : List (Ranked Value)) → ((ys : List (Ranked Value)) → length (many ys) ≡ m)
      → n ≡ length keys + m → Width w xs → Width n (groups keys many xs)
  groups_wide [] many m n xs h e all = (h xs ∙ omega (arith, e), tt)
  groups_wide (k ∷ ks) many m n xs h e all =
      kept.group_each (λ r. length r ≡ w) (λ r. length r ≡ length (k ∷ ks)) (λ r. length r ≡ n)
      same_value (columns Null (k ∷ ks)) many xs
      (λ r p. length-map (k ∷ ks) (λ c. slice_index_or r c Null))
      (λ r ys p q. length-append r (many ys) ∙ ap (λ z. length r + z) (h ys) ∙ ap (λ z. z + m) p
      ∙ sym e) all

  pub stage_group : (keys places : List ℕ) (as' : List BoundAggregate) (xs : List Aggregate)
      (tree : DepTree) (end n : ℕ)
      → Stage D scans K start w (AggregatesAt as' xs) tree end
      → AreKeys outer start w keys places → SameFunctions as' xs → n ≡ length places + length xs
      → length xs ≡ length as'
      → IsTreeIn D scans (λ state env. groups keys (sums as' state env) (K state env))
      (t.Group tree places xs) n
  stage_group keys places as' xs tree end n s k same is count = record {
    are_rows = record {
      stand = λ state env. groups_stand keys (sums as' state env) (K state env)
          (s.are_rows.stand state env);
      wide = λ state ok env. groups_wide keys (sums as' state env) (length as') n (K state env)
          (sums_width as' state env)
          (let a = k.count in omega (arith, is, count, a)) (s.are_rows.wide state ok env);
    };
    scans = scans_Group tree places xs ∙ s.scans;
    width = width_Group tree places xs ∙ sym is;
    rows = λ state ok env d i.
        let f : List Value → List Value = s.adds state d in
        rows_Group tree places xs (table_rows state) d
        ∙ ap (groups_under places xs d) (s.rows state ok env d i)
        ∙ groups_so keys places as' xs state env d f (K state env) k.count same
        (Each-weaker (λ (y : Ranked Value). length y.values ≡ w)
        (λ (y : Ranked Value). AggregatesAt as' xs state env y.values
        (d ++ (y.values ++ f y.values))) (K state env)
        (λ y m. s.reads state ok env d i y.values m) (s.are_rows.wide state ok env))
        (Each-weaker (λ (y : Ranked Value). length y.values ≡ w)
        (λ (y : Ranked Value). keys_under places d (y.values ++ f y.values)
        ≡ columns Null keys y.values) (K state env)
        (λ y m. keys_so keys places env d y.values (f y.values) k
        (sees_grown outer start w env d y.values (f y.values) (begins env d i) m)) (s.are_rows.wide state ok env));
  }

  -- ---- DISTINCT

  pub distinct_tree : (tree : DepTree) → IsTreeIn D scans K tree w
      → IsTreeIn D scans (λ state env. distinct same_value (K state env)) (t.Distinct tree) w
  distinct_tree tree is = record {
    are_rows = record {
      stand = λ state env. stands.distinct_stands same_value value_identity (K state env)
          (is.are_rows.stand state env);
      wide = λ state ok env. kept.distinct_each (λ r. length r ≡ w) same_value (K state env)
          (is.are_rows.wide state ok env);
    };
    scans = scans_Distinct tree ∙ is.scans;
    width = width_Distinct tree ∙ is.width;
    rows = λ state ok env d i. rows_Distinct tree (table_rows state) d
        ∙ ap (distinct same_value) (is.rows state ok env d i);
  }

  -- ---- without what stands after the rows

  pub stage_trimmed : (P : Reading) (tree : DepTree) (end : ℕ) (new : DepTree)
      → Stage D scans K start w P tree end → IsTrimmed tree start w end new
      → IsTreeIn D scans K new w
  stage_trimmed P tree end new s trim = record {
    are_rows = s.are_rows;
    scans = trim.scans ∙ s.scans;
    width = trim.width s.width;
    rows = λ state ok env d i.
        trim.rows state d (s.adds state d) (K state env) (begins env d i).size
        (s.are_rows.wide state ok env) (s.count state d) (s.rows state ok env d i);
  }
