-- The trees of the rows that an ON condition keeps, without what stands after them.
use Rattle.std.proofs.Common.{◌≡◌, ℕ, zero, suc, ◌+◌, List, [], ◌∷◌, ◌++◌, map, refl, ap, ◌∙◌}
use Rattle.std.proofs.Common.{arith, length}
use Rattle.std.specs.Prelude.{slice_index_or}
use Rattle.std.proofs.lemmas.List.{length-map}
use Rattle.base_row_laws.specs.Operators.{select, project}
use Rattle.base_row_laws.specs.Ranked.{Ranked}
use Rattle.base_row_laws.proofs.Lists.{Each-all, Each-weaker}
use Rattle.base_value.specs.declared.value.Value.{Value}
use Rattle.base_value.specs.declared.value.Value.TheVariants.{Null}
use Rattle.expr_scalar.specs.declared.expr.Expr.{Expr}
use Rattle.expr_scalar.specs.declared.expr.Expr.TheVariants.{Column}
use Rattle.expr_scalar.specs.Meaning.{values, value}
use Rattle.expr_scalar.specs.Rename.{gathered}
use Rattle.expr_scalar.proofs.Opened.{value_Column}
use Rattle.expr_conditions.specs.Ranks.{columns_from}
use Rattle.expr_conditions.proofs.Gather.{gather_at}
use Rattle.plan_algebra.specs.Trees.{Occurrence}
use Rattle.base_schema.specs.State.{table_rows}
use Rattle.sql_bound_query.specs.declared.query.BoundExpr.{BoundExpr}
use Rattle.sql_bound_query.specs.Meaning.{Env, holds_for, expr_meaning}
use Rattle.plan_kept_queries.specs.Scans.{tables_of_expr}
use Rattle.plan_algebra.specs.declared.tree.DepTree.{DepTree}
use Rattle.plan_algebra.specs.declared.tree.DepTree.TheVariants as t
use Rattle.plan_algebra.specs.Trees.{listed}
use Rattle.plan_algebra.proofs.Opened.{rows_Project, scans_Project, width_Project}
use Rattle.plan_dependent_nodes.specs.declared.sight.OuterColumn.{OuterColumn}
use Rattle.plan_dependent_nodes.specs.FromGrowth.{FromDomains, IsKept}
use Rattle.plan_dependent_nodes.specs.Growth.{IsDomain, DomainRows, Attaches, RowsOf, ExprAt}
use Rattle.plan_dependent_nodes.specs.Growth.{IsTrimmed}
use Rattle.plan_dependent_nodes.proofs.FromPlaces.{from_sees}
use Rattle.plan_dependent_nodes.proofs.Widenings.{widened_none, project_widened}
use Rattle.plan_dependent_nodes.proofs.QueryTrees.{Anything, stage_begin, stage_more, stage_select}
use Rattle.plan_dependent_nodes.proofs.QueryTrees.{stage_trimmed}

-- ---- the first columns of a row

column_values : (places : List ℕ) (row : List Value)
    → values (map Column places) row ≡ gathered places row
unfolding values gathered
column_values [] row = refl
column_values (i ∷ places) row =
    ap (λ v. v ∷ map (λ e. value e row) (map Column places)) (value_Column i row)
    ∙ ap (λ vs. slice_index_or row i Null ∷ vs) (column_values places row)

first_columns : (d r f : List Value) (start w : ℕ) → length d ≡ start → length r ≡ w
    → listed (map Column (columns_from start w)) d (r ++ f) ≡ r
unfolding listed
first_columns d r f start w n m =
    column_values (columns_from start w) (d ++ (r ++ f))
    ∙ gather_at start w (d ++ (r ++ f)) d r f refl n m

length-columns_from : (k n : ℕ) → length (columns_from k n) ≡ n
length-columns_from k zero = refl
length-columns_from k (suc n) = ap suc (length-columns_from (suc k) n)

pub nothing : (xs : List Value) → length xs ≡ 0 → xs ≡ []
nothing [] e = refl
nothing (x ∷ xs) e = cc

-- nothing stands after the rows
pub trim_same : (tree : DepTree) (start w end : ℕ) → end ≡ start + w
    → IsTrimmed tree start w end tree
trim_same tree start w end e = record {
  scans = refl;
  width = λ n. omega (arith, e, n);
  rows = λ state d f xs n wide count is.
      is ∙ widened_none f xs (Each-all (λ (x : Ranked Value). f x.values ≡ []) xs
      (λ x. nothing (f x.values)
      (let c : (start + w) + length (f x.values) ≡ end = count x.values in omega (arith, c, e))));
}

projected_same : (xs : List (Ranked Value)) → project (λ r. r) xs ≡ xs
projected_same [] = refl
projected_same (x ∷ xs) = ap (λ ys. x ∷ ys) (projected_same xs)

-- the select list of the first columns
pub trim_project : (tree : DepTree) (start w end : ℕ) (es : List Expr)
    → es ≡ map Column (columns_from start w) → IsTrimmed tree start w end (t.Project tree es)
trim_project tree start w end es is = record {
  scans = scans_Project tree es;
  width = λ n. width_Project tree es ∙ ap length is ∙ length-map (columns_from start w) Column
      ∙ length-columns_from start w;
  rows = λ state d f xs n wide count e.
      rows_Project tree es (table_rows state) d ∙ ap (project (listed es d)) e
      ∙ project_widened f (listed es d) (λ r. r) xs
      (Each-weaker (λ (x : Ranked Value). length x.values ≡ w)
      (λ (x : Ranked Value). listed es d (x.values ++ f x.values) ≡ x.values) xs
      (λ x m. ap (λ l. listed l d (x.values ++ f x.values)) is
      ∙ first_columns d x.values (f x.values) start w n m) wide)
      ∙ projected_same xs;
}

-- ---- the rows that ON keeps

pub kept_arm : (on : BoundExpr) (outer : List OuterColumn) (so_far : List ℕ) (start w : ℕ)
    (tree : DepTree) (begin : ℕ) (grown : DepTree) (last : ℕ) (c : Expr) (new : DepTree)
    → begin ≡ start + w
    → Attaches outer start w (tables_of_expr on) (ExprAt on c) tree begin grown last
    → IsTrimmed (t.Select grown c) start w last new → IsKept on outer so_far start tree w new
kept_arm on outer so_far start w tree begin grown last c new g at trim p occurs K is =
    let D : DomainRows = FromDomains outer so_far start p in
    let begins : (env : Env) (d : List Value) → D env d → IsDomain outer start env d =
    λ env d i. from_sees outer so_far start p env d i in
    let all : List Occurrence = occurs ++ tables_of_expr on in
    let L : RowsOf = λ state env. select (holds_for (expr_meaning state on) env) (K state env) in
    stage_trimmed D outer start begins all L w Anything (t.Select grown c) last new
    (stage_select D outer start begins all K w on c grown last
    (stage_more D outer start begins occurs K w (tables_of_expr on) Anything (ExprAt on c) tree
    begin grown last (stage_begin D outer start begins occurs K w tree begin is g) at))
    trim
