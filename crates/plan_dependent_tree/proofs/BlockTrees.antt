-- The trees of whole queries.
use Rattle.std.proofs.Common.{◌≡◌, ℕ, ◌+◌, List, ◌++◌}
use Rattle.std.proofs.Common.{map, sym, subst, length}
use Rattle.base_row_laws.specs.Aggregates.{aggregated}
use Rattle.base_row_laws.specs.Operators.{select, project, distinct}
use Rattle.base_value.specs.declared.value.Value.{Value}
use Rattle.base_value.specs.Value.{same_value}
use Rattle.expr_scalar.specs.declared.expr.Expr.{Expr}
use Rattle.plan_algebra.specs.Trees.{Occurrence}
use Rattle.sql_bound_query.specs.declared.query.BoundAggregate.{BoundAggregate}
use Rattle.sql_bound_query.specs.declared.query.BoundBlock.{BoundBlock}
use Rattle.sql_bound_query.specs.declared.query.BoundBlock.TheVariants as block
use Rattle.sql_bound_query.specs.declared.query.BoundExpr.{BoundExpr}
use Rattle.sql_bound_query.specs.declared.query.BoundSource.{BoundSource}
use Rattle.sql_bound_query.specs.Meaning.{Env, AggregateMeaning, holds_for, groups}
use Rattle.sql_bound_query.specs.Meaning.{expr_meaning, aggregate_meaning, block_meaning}
use Rattle.sql_bound_query.specs.Meaning as query
use Rattle.plan_kept_queries.specs.Scans.{tables, tables_of_source, tables_of_expr}
use Rattle.plan_kept_queries.specs.Scans.{tables_of_aggregate}
use Rattle.plan_kept_queries.specs.Scans.{joined_tables}
use Rattle.sql_bound_query.proofs.Opened.{block_Plain_at}
use Rattle.sql_bound_query.proofs.Opened.{block_Grouped_at, block_Distinct_at}
use Rattle.plan_kept_queries.proofs.ScansOpened.{of_Plain, of_Grouped, of_Distinct}
use Rattle.plan_algebra.specs.declared.aggregate.Aggregate.{Aggregate}
use Rattle.plan_algebra.specs.declared.tree.DepTree.{DepTree}
use Rattle.plan_algebra.specs.declared.tree.DepTree.TheVariants as t
use Rattle.plan_dependent_nodes.specs.declared.sight.OuterColumn.{OuterColumn}
use Rattle.plan_dependent_nodes.specs.Dependence.{domain_row, IsTreeOf}
use Rattle.plan_dependent_nodes.specs.Growth.{IsDomain, DomainRows, Attaches, RowsOf, IsTree}
use Rattle.plan_dependent_nodes.specs.Growth.{AreKeys, ExprAt, ListAt}
use Rattle.plan_dependent_nodes.specs.Growth.{AggregatesAt, SameFunctions, from_of, block_of}
use Rattle.plan_dependent_nodes.proofs.Places.{domain_whole}
use Rattle.plan_dependent_nodes.proofs.QueryTrees.{Anything, stage_begin, stage_more, stage_select}
use Rattle.plan_dependent_nodes.proofs.QueryTrees.{stage_project, stage_group, distinct_tree}
use Rattle.plan_dependent_tree.proofs.FromTrees.{tree_as}

pub plain_arm : (outer : List OuterColumn) (start : ℕ) (from : BoundSource) (condition : BoundExpr)
    (list : List BoundExpr) (w n : ℕ) (source : DepTree) (end : ℕ) (kept' : DepTree) (between : ℕ)
    (c : Expr) (grown : DepTree) (last : ℕ) (xs : List Expr)
    → IsTree (tables_of_source from) (from_of from) outer start source w → end ≡ start + w
    → Attaches outer start w (tables_of_expr condition) (ExprAt condition c) source end kept'
    between
    → Attaches outer start w (joined_tables (map tables_of_expr list)) (ListAt list xs)
    (t.Select kept' c) between grown last
    → n ≡ length xs → length xs ≡ length list
    → IsTree (tables (block.Plain from condition list)) (block_of (block.Plain from condition list))
    outer start (t.Project grown xs) n
plain_arm outer start from condition list w n source end kept' between c grown last xs is e a b m
    same =
    let D : DomainRows = λ env d. IsDomain outer start env d in
    let begins : (env : Env) (d : List Value) → D env d → IsDomain outer start env d = λ env d i. i
    in
    let S : List Occurrence = tables_of_source from in
    let C : List Occurrence = tables_of_expr condition in
    let Ls : List Occurrence = joined_tables (map tables_of_expr list) in
    let K : RowsOf = from_of from in
    let L : RowsOf = λ state env.
    select (holds_for (expr_meaning state condition) env) (K state env) in
    tree_as D ((S ++ C) ++ Ls) (tables (block.Plain from condition list))
    (λ state env. project (query.listed (map (expr_meaning state) list) env) (L state env))
    (block_of (block.Plain from condition list)) (t.Project grown xs) n
    (stage_project D outer start begins ((S ++ C) ++ Ls) L w list xs grown last n
    (stage_more D outer start begins (S ++ C) L w Ls Anything (ListAt list xs) (t.Select kept' c) between
    grown last
    (stage_select D outer start begins (S ++ C) K w condition c kept' between
    (stage_more D outer start begins S K w C Anything (ExprAt condition c) source end kept' between
    (stage_begin D outer start begins S K w source end is e) a)) b)
    m same)
    (sym (of_Plain from condition list))
    (λ state env. sym (block_Plain_at state from condition list env))

pub grouped_arm : (outer : List OuterColumn) (start : ℕ) (from : BoundSource)
    (condition : BoundExpr) (keys : List ℕ) (as' : List BoundAggregate) (having : BoundExpr)
    (list : List BoundExpr)
    (w v n : ℕ) (source : DepTree) (end : ℕ) (kept' : DepTree) (between : ℕ) (c : Expr)
    (places : List ℕ) (counted : DepTree) (next : ℕ) (gs : List Aggregate)
    (begin : ℕ) (had : DepTree) (later : ℕ) (h : Expr) (grown : DepTree) (last : ℕ) (xs : List Expr)
    → IsTree (tables_of_source from) (from_of from) outer start source w → end ≡ start + w
    → Attaches outer start w (tables_of_expr condition) (ExprAt condition c) source end kept'
    between
    → AreKeys outer start w keys places
    → Attaches outer start w (joined_tables (map tables_of_aggregate as')) (AggregatesAt as' gs)
    (t.Select kept' c) between counted next
    → SameFunctions as' gs → length gs ≡ length as' → v ≡ length places + length gs
    → begin ≡ start + v
    → Attaches outer start v (tables_of_expr having) (ExprAt having h) (t.Group counted places gs)
    begin had later
    → Attaches outer start v (joined_tables (map tables_of_expr list)) (ListAt list xs)
    (t.Select had h) later grown last
    → n ≡ length xs → length xs ≡ length list
    → IsTree (tables (block.Grouped from condition keys as' having list))
    (block_of (block.Grouped from condition keys as' having list)) outer start (t.Project grown xs)
    n
grouped_arm outer start from condition keys as' having list w v n source end kept' between c places
    counted next gs begin had later h grown last xs is e a k b same many u g p q m count =
    let D : DomainRows = λ env d. IsDomain outer start env d in
    let begins : (env : Env) (d : List Value) → D env d → IsDomain outer start env d = λ env d i. i
    in
    let S : List Occurrence = tables_of_source from in
    let C : List Occurrence = tables_of_expr condition in
    let As : List Occurrence = joined_tables (map tables_of_aggregate as') in
    let H : List Occurrence = tables_of_expr having in
    let Ls : List Occurrence = joined_tables (map tables_of_expr list) in
    let K : RowsOf = from_of from in
    let L : RowsOf = λ state env.
    select (holds_for (expr_meaning state condition) env) (K state env) in
    let G : RowsOf = λ state env.
    groups keys (aggregated (map (λ (x : AggregateMeaning). x env)
    (map (aggregate_meaning state) as'))) (L state env) in
    let M : RowsOf = λ state env.
    select (holds_for (expr_meaning state having) env) (G state env) in
    let grouped : IsTree ((S ++ C) ++ As) G outer start (t.Group counted places gs) v =
    stage_group D outer start begins ((S ++ C) ++ As) L w keys places as' gs counted next v
    (stage_more D outer start begins (S ++ C) L w As Anything (AggregatesAt as' gs) (t.Select kept' c)
    between counted next
    (stage_select D outer start begins (S ++ C) K w condition c kept' between
    (stage_more D outer start begins S K w C Anything (ExprAt condition c) source end kept' between
    (stage_begin D outer start begins S K w source end is e) a)) b)
    k same u many in
    let all : List Occurrence = (((S ++ C) ++ As) ++ H) ++ Ls in
    tree_as D all (tables (block.Grouped from condition keys as' having list))
    (λ state env. project (query.listed (map (expr_meaning state) list) env) (M state env))
    (block_of (block.Grouped from condition keys as' having list)) (t.Project grown xs) n
    (stage_project D outer start begins all M v list xs grown last n
    (stage_more D outer start begins (((S ++ C) ++ As) ++ H) M v Ls Anything (ListAt list xs)
    (t.Select had h) later grown last
    (stage_select D outer start begins (((S ++ C) ++ As) ++ H) G v having h had later
    (stage_more D outer start begins ((S ++ C) ++ As) G v H Anything (ExprAt having h)
    (t.Group counted places gs) begin had later
    (stage_begin D outer start begins ((S ++ C) ++ As) G v (t.Group counted places gs) begin grouped g) p))
    q)
    m count)
    (sym (of_Grouped from condition keys as' having list))
    (λ state env. sym (block_Grouped_at state from condition keys as' having list env))

pub distinct_arm : (outer : List OuterColumn) (start : ℕ) (q : BoundBlock) (w : ℕ) (tree : DepTree)
    → IsTree (tables q) (block_of q) outer start tree w
    → IsTree (tables (block.Distinct q)) (block_of (block.Distinct q)) outer start (t.Distinct tree)
    w
distinct_arm outer start q w tree is =
    tree_as (λ env d. IsDomain outer start env d) (tables q) (tables (block.Distinct q))
    (λ state env. distinct same_value (block_meaning state q env)) (block_of (block.Distinct q))
    (t.Distinct tree) w
    (distinct_tree (λ env d. IsDomain outer start env d) outer start (λ env d i. i) (tables q)
    (block_of q) w tree is)
    (sym (of_Distinct q)) (λ state env. sym (block_Distinct_at state q env))

pub whole : (q : BoundBlock) (outer : List OuterColumn) (start w : ℕ) (tree : DepTree)
    → IsTree (tables q) (block_of q) outer start tree w → start ≡ length outer
    → IsTreeOf q outer tree
unfolding query.rows
whole q outer start w tree is e = record {
  rows = λ state ok env. is.rows state ok env (domain_row outer env)
      (subst (λ k. IsDomain outer k env (domain_row outer env)) (sym e) (domain_whole outer env));
  scans = is.scans;
}
