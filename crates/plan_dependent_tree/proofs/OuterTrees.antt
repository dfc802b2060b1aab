-- The trees of left outer joins.
use Rattle.std.proofs.Common.{◌≡◌, ℕ, ◌+◌, List, [], ◌++◌}
use Rattle.std.proofs.Common.{map, refl, sym, ap, ◌∙◌, subst, arith, length, replicate}
use Rattle.std.specs.Prelude.{slice_index_or}
use Rattle.std.proofs.lemmas.List.{append-nil, append_assoc, length-append, length-map, map-append}
use Rattle.std.proofs.lemmas.List.{length-replicate}
use Rattle.base_row_laws.specs.JoinGroups.{Width}
use Rattle.base_row_laws.specs.Operators.{select, outer_loop}
use Rattle.base_row_laws.specs.Ranked.{Ranked, true_rank}
use Rattle.base_row_laws.specs.Rows.{columns}
use Rattle.base_row_laws.proofs.Lists.{Each-weaker}
use Rattle.base_row_laws.proofs.Standings as stands
use Rattle.base_value.specs.declared.value.Value.{Value}
use Rattle.base_value.specs.declared.value.Value.TheVariants.{Null}
use Rattle.base_value.specs.Truth.{truth_rank}
use Rattle.expr_scalar.specs.declared.expr.Expr.{Expr}
use Rattle.expr_scalar.specs.declared.expr.Expr.TheVariants.{All as all_of}
use Rattle.expr_scalar.specs.Rename.{gathered}
use Rattle.expr_conditions.specs.Ranks.{rank_of, says, columns_from}
use Rattle.expr_conditions.proofs.Gather.{gather_at}
use Rattle.plan_algebra.specs.Trees.{Occurrence}
use Rattle.base_schema.specs.State.{State, table_rows}
use Rattle.sql_bound_query.specs.declared.query.BoundExpr.{BoundExpr}
use Rattle.sql_bound_query.specs.declared.query.BoundSource.{BoundSource}
use Rattle.sql_bound_query.specs.declared.query.BoundSource.TheVariants as source
use Rattle.sql_bound_query.specs.Meaning.{Env, FromMeaning, column, holds_for, expr_meaning}
use Rattle.sql_bound_query.specs.Meaning.{source_meaning}
use Rattle.plan_kept_queries.specs.Scans.{tables_of_source, tables_of_expr}
use Rattle.sql_bound_query.proofs.KeptRows as kept
use Rattle.sql_bound_query.proofs.Opened.{source_Outer_at}
use Rattle.sql_bound_query.proofs.StandingQueries.{source_stands}
use Rattle.plan_kept_queries.proofs.ScansOpened.{of_Outer}
use Rattle.plan_algebra.specs.declared.tree.DepTree.{DepTree}
use Rattle.plan_algebra.specs.declared.tree.DepTree.TheVariants as t
use Rattle.plan_algebra.specs.declared.tree.Side.{Side}
use Rattle.plan_algebra.specs.declared.tree.Side.TheVariants.{Dependent}
use Rattle.plan_algebra.specs.Trees.{tree_rows, scans_of, width_of, right_row}
use Rattle.plan_algebra.proofs.Opened.{rows_Outer, rows_Select}
use Rattle.plan_algebra.proofs.Opened.{scans_Outer, scans_Select}
use Rattle.plan_algebra.proofs.Opened.{width_Outer, width_Select}
use Rattle.plan_dependent_nodes.specs.declared.sight.OuterColumn.{OuterColumn}
use Rattle.plan_dependent_nodes.specs.Dependence.{domain_row}
use Rattle.plan_dependent_nodes.specs.FromGrowth.{FromDomains, AreRightPlaces, IsSourceTree}
use Rattle.plan_dependent_nodes.specs.FromGrowth.{IsKeptRight}
use Rattle.plan_dependent_nodes.specs.Growth.{Sees, DomainRows, Attaches, RowsOf}
use Rattle.plan_dependent_nodes.specs.Growth.{IsTreeIn, IsRightIn, ExprAt, IsTrimmed, widened}
use Rattle.plan_dependent_nodes.proofs.FromPlaces.{from_sees, from_wanted, dependent_row}
use Rattle.plan_dependent_nodes.proofs.Places.{sees_row}
use Rattle.plan_dependent_nodes.proofs.Widenings.{select_widened, outer_agrees, outer_lowered}
use Rattle.plan_dependent_tree.proofs.FromTrees.{tree_as, always_holds, both_long}

says_on : (on : BoundExpr) (c : Expr) (state : State) (env : Env) (d v : List Value)
    → ExprAt on c state env v (d ++ v) → says c d v ≡ holds_for (expr_meaning state on) env v
unfolding ExprAt says rank_of
says_on on c state env d v p = ap truth_rank p.1

both_wide : (a b n : ℕ) → n ≡ a + b → (u v : List Value) → length u ≡ a → length v ≡ b
    → length (u ++ v) ≡ n
both_wide a b n e u v p q =
    length-append u v ∙ ap (λ k. k + length v) p ∙ ap (λ k. a + k) q ∙ sym e

-- of a row so far p
module _ (outer : List OuterColumn) (so_far : List ℕ) (start : ℕ) (p : List Value)
    (x y : BoundSource) (on : BoundExpr) (a b n : ℕ) (e : n ≡ a + b) where
  -- the rows on both sides, and those of the join
  abbrev D : DomainRows
  D = FromDomains outer so_far start p

  abbrev A : RowsOf
  A state env = source_meaning state x p env

  abbrev B : State → FromMeaning
  B state l env = source_meaning state y (p ++ l) env

  abbrev K : RowsOf
  K state env = outer_loop (replicate b Null) (holds_for (expr_meaning state on) env) (A state env)
      (λ l. B state l env)

  -- the join by another name
  outer_named : (bs : List Occurrence) (tree : DepTree)
      → IsTreeIn D (tables_of_source x ++ bs) K tree n → bs ≡ tables_of_source y ++ tables_of_expr on
      → IsTreeIn D (tables_of_source (source.Outer x y b on))
      (λ state. source_meaning state (source.Outer x y b on) p) tree n
  outer_named bs tree is same =
      tree_as D (tables_of_source x ++ bs) (tables_of_source (source.Outer x y b on)) K
      (λ state. source_meaning state (source.Outer x y b on) p) tree n is
      (ap (λ k. tables_of_source x ++ k) same
      ∙ sym (append_assoc (tables_of_source x) (tables_of_source y) (tables_of_expr on))
      ∙ sym (of_Outer x y b on))
      (λ state env. sym (source_Outer_at state x y b on p env))

  -- under a condition that reads columns only
  pub plain_outer_arm : (left right : DepTree) (side : Side) (c : Expr)
      → IsTreeIn D (tables_of_source x) A left a
      → IsRightIn D (tables_of_source y) B a right side b → tables_of_expr on ≡ []
      → ((state : State) (env : Env) (r flat : List Value) → Sees outer start n env r flat
      → ExprAt on c state env r flat)
      → IsTreeIn D (tables_of_source (source.Outer x y b on))
      (λ state. source_meaning state (source.Outer x y b on) p) (t.Outer left right side c) n
  plain_outer_arm left right side c l r none at =
      outer_named (tables_of_source y) (t.Outer left right side c)
      (record {
        are_rows = record {
          stand = λ state env.
              stands.outer_stands (replicate b Null) (holds_for (expr_meaning state on) env)
              (A state env) (λ u. B state u env) (l.are_rows.stand state env);
          wide = λ state ok env.
              kept.outer_each (λ v. length v ≡ a) (λ v. length v ≡ b) (λ v. length v ≡ n)
              (replicate b Null) (holds_for (expr_meaning state on) env) (A state env)
              (λ u. B state u env) (both_wide a b n e) (length-replicate b Null)
              (l.are_rows.wide state ok env) (λ u q. r.wide state ok u q env);
        };
        scans = scans_Outer left right side c ∙ ap (λ k. k ++ scans_of right) l.scans
            ∙ ap (λ k. tables_of_source x ++ k) r.scans;
        width = width_Outer left right side c ∙ ap (λ k. k + width_of right) l.width
            ∙ ap (λ k. a + k) r.width ∙ sym e;
        rows = λ state ok env d i.
            let R : List Value → List (Ranked Value) =
            λ u. tree_rows right (table_rows state) (right_row side d u) in
            rows_Outer left right side c (table_rows state) d
            ∙ ap (λ xs. outer_loop (replicate (width_of right) Null) (says c d) xs R)
            (l.rows state ok env d i)
            ∙ ap (λ k. outer_loop (replicate k Null) (says c d) (A state env) R) r.width
            ∙ outer_agrees (λ (u : Ranked Value). length u.values ≡ a)
            (λ (v : Ranked Value). length v.values ≡ b) (replicate b Null) (says c d)
            (holds_for (expr_meaning state on) env) (A state env) R (λ u. B state u env)
            (λ u v q s. says_on on c state env d (u.values ++ v.values)
            (at state env (u.values ++ v.values) (d ++ (u.values ++ v.values))
            (sees_row outer start n env d (u.values ++ v.values)
            (from_sees outer so_far start p env d i)
            (both_wide a b n e u.values v.values q s))))
            (λ u q. r.rows state ok env d i u.values q) (l.are_rows.wide state ok env)
            (λ u q. r.wide state ok u.values q env);
      })
      (sym (append-nil (tables_of_source y)) ∙ ap (λ k. tables_of_source y ++ k) (sym none))

  -- with a right side that keeps its rows by ON
  pub kept_outer_arm : (left right : DepTree) (side : Side)
      → IsTreeIn D (tables_of_source x) A left a
      → IsRightIn D (tables_of_source y ++ tables_of_expr on)
      (λ state l env. select (λ r. holds_for (expr_meaning state on) env (l ++ r)) (B state l env))
      a right side b
      → IsTreeIn D (tables_of_source (source.Outer x y b on))
      (λ state. source_meaning state (source.Outer x y b on) p)
      (t.Outer left right side (all_of [])) n
  kept_outer_arm left right side l r =
      let bs : List Occurrence = tables_of_source y ++ tables_of_expr on in
      let P : Ranked Value → Type 0 = λ u. length u.values ≡ a in
      outer_named bs (t.Outer left right side (all_of []))
      (record {
        are_rows = record {
          stand = λ state env.
              stands.outer_stands (replicate b Null) (holds_for (expr_meaning state on) env)
              (A state env) (λ u. B state u env) (l.are_rows.stand state env);
          wide = λ state ok env.
              let holds : List Value → ℕ = holds_for (expr_meaning state on) env in
              let R : List Value → List (Ranked Value) =
              λ u. select (λ v. holds (u ++ v)) (B state u env) in
              subst (Width n)
              (outer_lowered P (replicate b Null) (λ v. true_rank) holds (A state env) R
              (λ u. B state u env) (λ v. refl) (λ u q. refl) (l.are_rows.wide state ok env)
              (l.are_rows.stand state env))
              (kept.outer_each (λ v. length v ≡ a) (λ v. length v ≡ b) (λ v. length v ≡ n)
              (replicate b Null) (λ v. true_rank) (A state env) R (both_wide a b n e)
              (length-replicate b Null) (l.are_rows.wide state ok env)
              (λ u q. r.wide state ok u q env));
        };
        scans = scans_Outer left right side (all_of []) ∙ ap (λ k. k ++ scans_of right) l.scans
            ∙ ap (λ k. tables_of_source x ++ k) r.scans;
        width = width_Outer left right side (all_of []) ∙ ap (λ k. k + width_of right) l.width
            ∙ ap (λ k. a + k) r.width ∙ sym e;
        rows = λ state ok env d i.
            let R : List Value → List (Ranked Value) =
            λ u. tree_rows right (table_rows state) (right_row side d u) in
            rows_Outer left right side (all_of []) (table_rows state) d
            ∙ ap (λ xs. outer_loop (replicate (width_of right) Null) (says (all_of []) d) xs R)
            (l.rows state ok env d i)
            ∙ ap (λ k. outer_loop (replicate k Null) (says (all_of []) d) (A state env) R) r.width
            ∙ outer_lowered P (replicate b Null) (says (all_of []) d)
            (holds_for (expr_meaning state on) env) (A state env) R (λ u. B state u env)
            (always_holds d) (λ u q. r.rows state ok env d i u.values q)
            (l.are_rows.wide state ok env) (l.are_rows.stand state env);
      })
      refl

-- ---- right sides that keep their rows by ON

-- the left row after the domain row
left_columns : (d l : List Value) (start a : ℕ) → length d ≡ start → length l ≡ a
    → columns Null (columns_from start a) (d ++ l) ≡ l
unfolding gathered
left_columns d l start a n m =
    gather_at start a (d ++ l) d l [] (ap (λ v. d ++ v) (sym (append-nil l))) n m

on_said : (on : BoundExpr) (c : Expr) (state : State) (env : Env) (d v f r : List Value)
    → ExprAt on c state env r (d ++ (v ++ f))
    → says c d (v ++ f) ≡ holds_for (expr_meaning state on) env r
unfolding ExprAt says rank_of
on_said on c state env d v f r p = ap truth_rank p.1

-- ON sees the columns that are wanted, and its own row, of which the first part stands in the domain
-- row
sees_kept : (wanted : List OuterColumn) (begin a b : ℕ) (env : Env) (C u v : List Value)
    → length (domain_row wanted env ++ C) ≡ begin → length u ≡ a → length v ≡ b
    → Sees wanted begin (a + b) env (u ++ v) (((domain_row wanted env ++ C) ++ u) ++ v)
sees_kept wanted begin a b env C u v n p q =
    let W : List Value = domain_row wanted env in
    record {
      gap = C;
      tail = [];
      is = append_assoc (W ++ C) u v ∙ append_assoc W C (u ++ v)
          ∙ ap (λ z. W ++ (C ++ z)) (sym (append-nil (u ++ v)));
      begin =
          let k : length W ≡ length wanted =
          length-map wanted (λ (c : OuterColumn). column env c.level c.place) in
          let m : length (W ++ C) ≡ length W + length C = length-append W C in
          omega (arith, k, m, n);
      size = length-append u v ∙ ap (λ z. z + length v) p ∙ ap (λ z. a + z) q;
    }

module _ (s : BoundSource) (on : BoundExpr) (outer : List OuterColumn) (so_far : List ℕ)
    (n start a b : ℕ) (wanted : List OuterColumn) (others first places : List ℕ)
    (begin m from last : ℕ) (inner grown : DepTree) (c : Expr) (new : DepTree)
    (at : AreRightPlaces outer so_far n start wanted others first) (size : begin ≡ length first)
    (sum : m ≡ begin + a) (all : places ≡ first ++ columns_from start a) (g : from ≡ m + b) where
  -- its domain row
  kept_row : (env : Env) (p d u : List Value) → length p ≡ n
      → FromDomains outer so_far start p env d → length u ≡ a
      → right_row (Dependent places) d u
      ≡ (domain_row wanted env ++ columns Null others (p ++ u)) ++ u
  kept_row env p d u e i f =
      let look : ℕ → Value = λ k. slice_index_or (d ++ u) k Null in
      dependent_row places d u ∙ ap (map look) all ∙ map-append look first (columns_from start a)
      ∙ ap (λ z. z ++ map look (columns_from start a)) (at.reads env p d u e i)
      ∙ ap (λ z. (domain_row wanted env ++ columns Null others (p ++ u)) ++ z)
      (left_columns d u start a i.size f)

  kept_begin : (env : Env) (p d u : List Value) → length p ≡ n
      → FromDomains outer so_far start p env d
      → length (domain_row wanted env ++ columns Null others (p ++ u)) ≡ begin
  kept_begin env p d u e i =
      ap length (sym (at.reads env p d u e i))
      ∙ length-map first (λ k. slice_index_or (d ++ u) k Null) ∙ sym size

  pub kept_right_arm : IsSourceTree s wanted others (n + a) m inner b
      → Attaches wanted begin (a + b) (tables_of_expr on) (ExprAt on c) inner from grown last
      → IsTrimmed (t.Select grown c) m b last new
      → IsKeptRight s on outer so_far n start a new (Dependent places) b
  kept_right_arm is to trim p e =
      let some : List Value = replicate a Null in
      let one : IsTreeIn (FromDomains wanted others m (p ++ some)) (tables_of_source s)
      (λ state. source_meaning state s (p ++ some)) inner b =
      is (p ++ some) (both_long p some n a e (length-replicate a Null)) in
      record {
        stand = λ state l env.
            stands.select_stands (λ r. holds_for (expr_meaning state on) env (l ++ r))
            (source_meaning state s (p ++ l) env) (source_stands state s (p ++ l) env);
        wide = λ state ok l f env.
            kept.select_each (λ v. length v ≡ b)
            (λ r. holds_for (expr_meaning state on) env (l ++ r))
            (source_meaning state s (p ++ l) env)
            ((is (p ++ l) (both_long p l n a e f)).are_rows.wide state ok env);
        scans = trim.scans ∙ scans_Select grown c ∙ to.scans
            ∙ ap (λ k. k ++ tables_of_expr on) one.scans;
        width = trim.width (ap (λ k. k + m) (width_Select grown c)
            ∙ to.width m (let k : width_of inner ≡ b = one.width in omega (arith, k, g)));
        rows = λ state ok env d i u f.
            let holds : List Value → ℕ = λ v. holds_for (expr_meaning state on) env (u ++ v) in
            let B : List (Ranked Value) = source_meaning state s (p ++ u) env in
            let own : IsTreeIn (FromDomains wanted others m (p ++ u)) (tables_of_source s)
            (λ state. source_meaning state s (p ++ u)) inner b =
            is (p ++ u) (both_long p u n a e f) in
            let C : List Value = columns Null others (p ++ u) in
            let row : List Value = (domain_row wanted env ++ C) ++ u in
            let begins : length (domain_row wanted env ++ C) ≡ begin = kept_begin env p d u e i in
            let long : length row ≡ m =
            length-append (domain_row wanted env ++ C) u ∙ ap (λ z. z + length u) begins
            ∙ ap (λ z. begin + z) f ∙ sym sum in
            let more : List Value → List Value = to.adds state row in
            let wide : Width b B = own.are_rows.wide state ok env in
            ap (tree_rows new (table_rows state)) (kept_row env p d u e i f)
            ∙ trim.rows state row more (select holds B) long
            (kept.select_each (λ v. length v ≡ b) holds B wide)
            (λ v. ap (λ k. k + length (more v)) (sym g) ∙ to.count state row v)
            (rows_Select grown c (table_rows state) row
            ∙ ap (select (says c row))
            (to.rows state row
            ∙ ap (map (widened more))
            (own.rows state ok env row
            (from_wanted wanted others m (p ++ u) env row u refl long)))
            ∙ select_widened more (says c row) holds B
            (Each-weaker (λ (v : Ranked Value). length v.values ≡ b)
            (λ (v : Ranked Value). says c row (v.values ++ more v.values) ≡ holds v.values) B
            (λ v k. on_said on c state env row v.values (more v.values) (u ++ v.values)
            (subst (ExprAt on c state env (u ++ v.values))
            (append-nil (row ++ (v.values ++ more v.values)))
            (to.reads state ok env row v.values (u ++ v.values)
            (sees_kept wanted begin a b env C u v.values begins f k)
            (length-append row v.values ∙ ap (λ z. z + length v.values) long
            ∙ ap (λ z. m + z) k ∙ sym g)
            []))) wide));
      }
