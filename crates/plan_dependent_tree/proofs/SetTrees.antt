-- The trees of set operations.
use Rattle.std.proofs.Common.{◌≡◌, ℕ, ◌+◌, List, [], ◌∷◌, ◌++◌, map, refl, sym, ap, ◌∙◌, subst}
use Rattle.std.proofs.Common.{length, take, get_or}
use Rattle.std.proofs.Common.{◌<◌}
use Rattle.std.proofs.lemmas.List.{append-nil, length-map}
use Rattle.base_row_laws.specs.Bags.{Each}
use Rattle.base_row_laws.specs.Operators.{project}
use Rattle.base_row_laws.specs.Ranked.{Ranked, ranked}
use Rattle.base_row_laws.proofs.Lists.{map-ext_each}
use Rattle.base_row_laws.proofs.Standings as stands
use Rattle.base_set_rows.specs.declared.kind.SetOperation.{SetOperation}
use Rattle.base_set_rows.specs.SetOperations.{set_rows}
use Rattle.base_set_rows.proofs.Operations.{set_rows_stand, set_rows_each}
use Rattle.base_value.specs.declared.value.Value.{Value}
use Rattle.base_value.specs.Value.{same_value}
use Rattle.base_value.proofs.Identity.{value_identity}
use Rattle.expr_scalar.specs.declared.expr.Expr.{Expr}
use Rattle.expr_scalar.specs.Meaning.{values, value}
use Rattle.expr_scalar.specs.Rename.{IsRenamed, gathered}
use Rattle.expr_conditions.specs.Ranks.{columns_from}
use Rattle.expr_conditions.proofs.Gather.{gather_at}
use Rattle.plan_algebra.specs.Trees.{Occurrence}
use Rattle.base_schema.specs.State.{table_rows}
use Rattle.sql_bound_query.specs.declared.query.BoundBlock.{BoundBlock}
use Rattle.sql_bound_query.specs.declared.query.BoundBlock.TheVariants as block
use Rattle.sql_bound_query.specs.declared.query.SetColumn.{SetColumn}
use Rattle.sql_bound_query.specs.Meaning.{Env, block_meaning, left_columns, right_columns}
use Rattle.plan_kept_queries.specs.Scans.{tables}
use Rattle.sql_bound_query.proofs.KeptRows as kept
use Rattle.sql_bound_query.proofs.Opened.{block_Set_at}
use Rattle.plan_kept_queries.proofs.ScansOpened.{of_Set}
use Rattle.plan_algebra.specs.declared.tree.DepTree.{DepTree}
use Rattle.plan_algebra.specs.declared.tree.DepTree.TheVariants as t
use Rattle.plan_algebra.specs.Trees.{tree_rows, scans_of, width_of, listed}
use Rattle.plan_algebra.proofs.Opened.{rows_Project, scans_Project, width_Project, rows_Set}
use Rattle.plan_algebra.proofs.Opened.{scans_Set, width_Set}
use Rattle.plan_dependent_nodes.specs.declared.sight.OuterColumn.{OuterColumn}
use Rattle.plan_dependent_nodes.specs.Growth.{IsDomain, DomainRows, RowsOf, IsTreeIn, IsTree}
use Rattle.plan_dependent_nodes.specs.Growth.{block_of}
use Rattle.plan_dependent_tree.specs.SetGrowth.{ReadsOf, IsSetTree}
use Rattle.plan_dependent_tree.proofs.FromTrees.{tree_as}
use Rattle.plan_dependent_nodes.proofs.InputTrees.{both_more}

-- ---- select lists, one expression more

pub reads_none : (places : List ℕ) (side : SetColumn → Expr)
    → ReadsOf places (λ r. map (λ (c : SetColumn). value (side c) r) []) []
unfolding values
reads_none places side = record { reads = λ row. refl }

pub reads_more : (places : List ℕ) (side : SetColumn → Expr) (columns : List SetColumn) (i : ℕ)
    (c : SetColumn) (exprs now : List Expr) (x : Expr) → i < length columns
    → c ≡ get_or columns i c
    → ReadsOf places (λ r. map (λ (c : SetColumn). value (side c) r) (take i columns)) exprs
    → IsRenamed places (side c) x → now ≡ exprs ++ x ∷ []
    → ReadsOf places (λ r. map (λ (c : SetColumn). value (side c) r) (take (i + 1) columns)) now
unfolding values
reads_more places side columns i c exprs now x h is before new e = record {
  reads = λ row.
      both_more (λ (x : Expr). value x row)
      (λ (c : SetColumn). value (side c) (gathered places row)) exprs now x columns i c h is e
      (before.reads row) (new.value row);
}

-- ---- one side

projected_as : (h k : List Value → List Value) (P : Ranked Value → Type 0)
    (xs : List (Ranked Value)) → Each P xs
    → ((x : Ranked Value) → P x → h x.values ≡ k x.values) → project h xs ≡ project k xs
projected_as h k P xs all same =
    map-ext_each P (λ (x : Ranked Value). ranked (h x.values) x.standing)
    (λ (x : Ranked Value). ranked (k x.values) x.standing) xs all
    (λ x p. ap (λ v. ranked v x.standing) (same x p))

-- a select list over a flat row whose own columns are r
reads_own : (start w : ℕ) (h : List Value → List Value) (exprs : List Expr) (d r : List Value)
    → ReadsOf (columns_from start w) h exprs → length d ≡ start → length r ≡ w
    → listed exprs d r ≡ h r
unfolding listed
reads_own start w h exprs d r is n m =
    is.reads (d ++ r)
    ∙ ap h (gather_at start w (d ++ r) d r [] (ap (λ z. d ++ z) (sym (append-nil r))) n m)

count_of : (places : List ℕ) (side : SetColumn → Expr) (columns : List SetColumn)
    (exprs : List Expr)
    → ReadsOf places (λ r. map (λ (c : SetColumn). value (side c) r) columns) exprs
    → length exprs ≡ length columns
unfolding values
count_of places side columns exprs is =
    sym (length-map exprs (λ (x : Expr). value x [])) ∙ ap length (is.reads [])
    ∙ length-map columns (λ (c : SetColumn). value (side c) (gathered places []))

module _ (D : DomainRows) (start : ℕ)
    (size : (env : Env) (d : List Value) → D env d → length d ≡ start) where
  pub side_tree : (side : SetColumn → Expr) (columns : List SetColumn) (occurs : List Occurrence)
      (K : RowsOf) (w : ℕ) (tree : DepTree) (exprs : List Expr) → IsTreeIn D occurs K tree w
      → ReadsOf (columns_from start w) (λ r. map (λ (c : SetColumn). value (side c) r) columns)
      exprs
      → IsTreeIn D occurs
      (λ state env.
      project (λ r. map (λ (c : SetColumn). value (side c) r) columns) (K state env))
      (t.Project tree exprs) (length columns)
  side_tree side columns occurs K w tree exprs is read =
      let h : List Value → List Value = λ r. map (λ (c : SetColumn). value (side c) r) columns in
      record {
        are_rows = record {
          stand = λ state env.
              stands.project_stands h (K state env) (is.are_rows.stand state env);
          wide = λ state ok env.
              kept.project_each (λ r. length r ≡ w) (λ r. length r ≡ length columns) h
              (K state env) (λ r m. length-map columns (λ (c : SetColumn). value (side c) r))
              (is.are_rows.wide state ok env);
        };
        scans = scans_Project tree exprs ∙ is.scans;
        width = width_Project tree exprs
            ∙ count_of (columns_from start w) side columns exprs read;
        rows = λ state ok env d i.
            rows_Project tree exprs (table_rows state) d
            ∙ ap (project (listed exprs d)) (is.rows state ok env d i)
            ∙ projected_as (listed exprs d) h (λ (x : Ranked Value). length x.values ≡ w)
            (K state env) (is.are_rows.wide state ok env)
            (λ x m. reads_own start w h exprs d x.values read (size env d i) m);
      }

  pub set_tree : (l r : DepTree) (n : ℕ) (operation : SetOperation) (S R : List Occurrence)
      (K L : RowsOf) → IsTreeIn D S K l n → IsTreeIn D R L r n
      → IsTreeIn D (S ++ R)
      (λ state env. set_rows same_value operation (K state env) (L state env))
      (t.Set l r operation) n
  set_tree l r n operation S R K L a b =
      let even : width_of l ≡ width_of r = a.width ∙ sym b.width in
      record {
        are_rows = record {
          stand = λ state env.
              set_rows_stand same_value value_identity operation (K state env) (L state env)
              (a.are_rows.stand state env) (b.are_rows.stand state env);
          wide = λ state ok env.
              set_rows_each same_value value_identity (λ v. length v ≡ n) operation (K state env)
              (L state env) (a.are_rows.wide state ok env) (b.are_rows.wide state ok env);
        };
        scans = scans_Set l r operation even ∙ ap (λ z. z ++ scans_of r) a.scans
            ∙ ap (λ z. S ++ z) b.scans;
        width = width_Set l r operation ∙ a.width;
        rows = λ state ok env d i.
            rows_Set l r operation (table_rows state) d even
            ∙ ap (λ z. set_rows same_value operation z (tree_rows r (table_rows state) d))
            (a.rows state ok env d i)
            ∙ ap (λ z. set_rows same_value operation (K state env) z) (b.rows state ok env d i);
      }

pub set_arm : (outer : List OuterColumn) (start : ℕ) (a b : BoundBlock) (columns : List SetColumn)
    (operation : SetOperation) (left : DepTree) (w : ℕ) (right : DepTree) (v : ℕ)
    (tree : DepTree) (n : ℕ) → IsTree (tables a) (block_of a) outer start left w
    → IsTree (tables b) (block_of b) outer start right v
    → IsSetTree left w right v columns operation start tree n
    → IsTree (tables (block.Set a b columns operation))
    (block_of (block.Set a b columns operation)) outer start tree n
set_arm outer start a b columns operation left w right v tree n l r is =
    let D : DomainRows = λ env d. IsDomain outer start env d in
    let size : (env : Env) (d : List Value) → D env d → length d ≡ start = λ env d i. i.size in
    let q : BoundBlock = block.Set a b columns operation in
    let L : RowsOf = λ state env. project (left_columns columns) (block_meaning state a env) in
    let R : RowsOf = λ state env. project (right_columns columns) (block_meaning state b env) in
    let lefts : DepTree = t.Project left is.lefts in
    let rights : DepTree = t.Project right is.rights in
    subst (λ z. IsTree (tables q) (block_of q) outer start z n) (sym is.is)
    (subst (λ k. IsTree (tables q) (block_of q) outer start (t.Set lefts rights operation) k)
    (sym is.count)
    (tree_as D (tables a ++ tables b) (tables q)
    (λ state env. set_rows same_value operation (L state env) (R state env)) (block_of q)
    (t.Set lefts rights operation) (length columns)
    (set_tree D start size lefts rights (length columns) operation (tables a) (tables b) L R
    (side_tree D start size (λ (c : SetColumn). c.left) columns (tables a) (block_of a) w left
    is.lefts l is.left_reads)
    (side_tree D start size (λ (c : SetColumn). c.right) columns (tables b) (block_of b) v right
    is.rights r is.right_reads))
    (sym (of_Set a b columns operation))
    (λ state env. sym (block_Set_at state a b columns operation env))))
