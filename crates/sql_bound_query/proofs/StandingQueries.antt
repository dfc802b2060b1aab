-- The rows of every query stand at True or at a fault.
use Rattle.std.proofs.Common.{ℕ, List, [], ◌∷◌, ◌++◌, map, min, replicate, sym, subst, arith}
use Rattle.base_row_laws.specs.Bags.{Each}
use Rattle.base_row_laws.specs.Ranked.{Ranked, ranked, true_rank}
use Rattle.base_row_laws.specs.Rows.{columns, scanned}
use Rattle.base_row_laws.specs.Operators.{select}
use Rattle.base_row_laws.specs.StandingLaws.{Stands}
use Rattle.base_row_laws.specs.Aggregates.{aggregated}
use Rattle.base_row_laws.proofs.Lists.{Each-map, Each-all, Each-flat_map, Each-weaker}
use Rattle.base_row_laws.proofs.Standings as stands
use Rattle.base_value.specs.declared.value.Value.{Value}
use Rattle.base_value.specs.declared.value.Value.TheVariants.{Null}
use Rattle.base_value.specs.Value.{same_value}
use Rattle.base_value.proofs.Identity.{value_identity}
use Rattle.base_schema.specs.State.{State, table_rows}
use Rattle.sql_bound_query.specs.declared.query.BoundAggregate.{BoundAggregate}
use Rattle.sql_bound_query.specs.declared.query.BoundBlock.{BoundBlock}
use Rattle.sql_bound_query.specs.declared.query.BoundExpr.{BoundExpr}
use Rattle.sql_bound_query.specs.declared.query.BoundSource.{BoundSource}
use Rattle.sql_bound_query.specs.declared.query.Input.{Input}
use Rattle.sql_bound_query.specs.Meaning.{Env, AggregateMeaning, RowsMeaning, FromMeaning, holds_for}
use Rattle.sql_bound_query.specs.Meaning.{listed, groups, cross_loop, aggregate_meaning}
use Rattle.sql_bound_query.specs.Meaning.{left_columns, right_columns}
use Rattle.base_set_rows.proofs.Operations.{set_rows_stand}
use Rattle.base_row_laws.specs.Operators.{project}
use Rattle.sql_bound_query.specs.Meaning.{block_meaning, source_meaning}
use Rattle.sql_bound_query.specs.Meaning.{expr_meaning}
use Rattle.sql_bound_query.proofs.Opened.{source_Table, source_Derived, source_Lateral, source_Cross}
use Rattle.sql_bound_query.proofs.Opened.{source_Inner, source_Outer, block_Plain, block_Grouped}
use Rattle.sql_bound_query.proofs.Opened.{block_Distinct, block_Set}
use Rattle.sql_bound_query.proofs.Induction.{Steps, parts, induction, source_induction}

-- combinations, each at the lesser standing
pub cross_stands : (xs : List (Ranked Value)) (R : List Value → List (Ranked Value))
    → Each Stands xs → ((l : List Value) → Each Stands (R l)) → Each Stands (cross_loop xs R)
cross_stands xs R left right =
    Each-flat_map Stands Stands
    (λ x. map (λ y. ranked (x.values ++ y.values) (min x.standing y.standing)) (R x.values)) xs left
    (λ x p. Each-map Stands (λ y. ranked (x.values ++ y.values) (min x.standing y.standing))
    (R x.values)
    (Each-weaker Stands (λ y. Stands (ranked (x.values ++ y.values) (min x.standing y.standing)))
    (R x.values)
    (λ y q. let a = p.not_dropped in let b = p.within in let c = q.not_dropped in
    record { not_dropped = omega arith; within = omega arith }) (right x.values)))

module _ (state : State) where
  abbrev A : BoundAggregate → Type 0
  A a = Unit {0}

  abbrev B : BoundBlock → Type 0
  B q = (env : Env) → Each Stands (block_meaning state q env)

  abbrev S : BoundSource → Type 0
  S s = (p : List Value) (env : Env) → Each Stands (source_meaning state s p env)

  abbrev I : Input → Type 0
  I i = Unit {0}

  abbrev E : BoundExpr → Type 0
  E e = Unit {0}

  scanned_stand : (rs : List (List Value)) → Each Stands (scanned rs)
  scanned_stand rs =
      Each-map Stands (λ r. ranked r true_rank) rs
      (Each-all (λ r. Stands (ranked r true_rank)) rs
      (λ r. record { not_dropped = omega arith; within = omega arith }))

  groups_stand : (keys : List ℕ) (aggregates : List (Ranked Value) → List Value)
      (xs : List (Ranked Value)) → Each Stands xs → Each Stands (groups keys aggregates xs)
  groups_stand [] aggregates xs all = stands.total_stands aggregates xs all
  groups_stand (k ∷ ks) aggregates xs all =
      stands.group_stands same_value (columns Null (k ∷ ks)) aggregates xs all

  steps : Steps A B S I E
  steps = record {
    count_rows = tt;
    of = λ function scale a u. tt;
    plain = λ from sf condition ec list env.
        subst (λ (m : RowsMeaning). Each Stands (m env))
        (sym (block_Plain state from condition (parts {P = E} list)))
        (stands.project_stands (listed (map (expr_meaning state) (parts {P = E} list)) env)
        (select (holds_for (expr_meaning state condition) env) (source_meaning state from [] env))
        (stands.select_stands (holds_for (expr_meaning state condition) env)
        (source_meaning state from [] env) (sf [] env)));
    grouped = λ from sf condition ec keys aggregates having eh list env.
        let there : List (Ranked Value) =
        select (holds_for (expr_meaning state condition) env) (source_meaning state from [] env) in
        let f : List (Ranked Value) → List Value =
        aggregated (map (λ (a : AggregateMeaning). a env)
        (map (aggregate_meaning state) (parts {P = A} aggregates))) in
        subst (λ (m : RowsMeaning). Each Stands (m env))
        (sym (block_Grouped state from condition keys (parts {P = A} aggregates) having
        (parts {P = E} list)))
        (stands.project_stands (listed (map (expr_meaning state) (parts {P = E} list)) env)
        (select (holds_for (expr_meaning state having) env) (groups keys f there))
        (stands.select_stands (holds_for (expr_meaning state having) env) (groups keys f there)
        (groups_stand keys f there
        (stands.select_stands (holds_for (expr_meaning state condition) env)
        (source_meaning state from [] env) (sf [] env)))));
    distinct = λ q b env. subst (λ (m : RowsMeaning). Each Stands (m env))
        (sym (block_Distinct state q))
        (stands.distinct_stands same_value value_identity (block_meaning state q env) (b env));
    set = λ a sa b sb columns operation env.
        let ls : List (Ranked Value) = block_meaning state a env in
        let rs : List (Ranked Value) = block_meaning state b env in
        subst (λ (m : RowsMeaning). Each Stands (m env)) (sym (block_Set state a b columns operation))
        (set_rows_stand same_value value_identity operation (project (left_columns columns) ls)
        (project (right_columns columns) rs) (stands.project_stands (left_columns columns) ls (sa env))
        (stands.project_stands (right_columns columns) rs (sb env)));
    table = λ t p env. subst (λ (m : FromMeaning). Each Stands (m p env))
        (sym (source_Table state t)) (scanned_stand (table_rows state t));
    derived = λ kept q b p env. subst (λ (m : FromMeaning). Each Stands (m p env))
        (sym (source_Derived state kept q)) (b []);
    lateral = λ q b p env. subst (λ (m : FromMeaning). Each Stands (m p env))
        (sym (source_Lateral state q)) (b (p ∷ env));
    cross = λ a sa b sb p env.
        subst (λ (m : FromMeaning). Each Stands (m p env)) (sym (source_Cross state a b))
        (cross_stands (source_meaning state a p env) (λ l. source_meaning state b (p ++ l) env)
        (sa p env) (λ l. sb (p ++ l) env));
    inner = λ a sa b sb on eo p env.
        subst (λ (m : FromMeaning). Each Stands (m p env)) (sym (source_Inner state a b on))
        (stands.join_stands (holds_for (expr_meaning state on) env) (source_meaning state a p env)
        (λ l. source_meaning state b (p ++ l) env) (sa p env));
    outer = λ a sa b sb width on eo p env.
        subst (λ (m : FromMeaning). Each Stands (m p env)) (sym (source_Outer state a b width on))
        (stands.outer_stands (replicate width Null) (holds_for (expr_meaning state on) env)
        (source_meaning state a p env) (λ l. source_meaning state b (p ++ l) env) (sa p env));
    column = λ level place. tt;
    exists = λ q b. tt;
    any = λ c e u q b. tt;
    scalar = λ q b. tt;
    expr = λ is x. tt;
  }

  pub query_stands : (q : BoundBlock) → B q
  query_stands = induction A B S I E steps

  -- the rows of every source too
  pub source_stands : (s : BoundSource) → S s
  source_stands = source_induction A B S I E steps
