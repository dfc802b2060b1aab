-- What a tree means at each node, and its width.
use Rattle.std.proofs.Common.{◌≡◌, ◌==◌, refl, inl, inr, eq-eqb, ℕ, ◌+◌, true, false, List, [], ◌∷◌, ◌++◌, ap, ◌∙◌, length}
use Rattle.std.specs.Prelude.{replicate}
use Rattle.std.proofs.lemmas.Bool.{cases_Bool}
use Rattle.base_row_laws.specs.Ranked.{Ranked}
use Rattle.base_row_laws.specs.Rows.{scanned}
use Rattle.base_row_laws.specs.Operators.{select, project, join_loop, outer_loop, attach_loop, distinct}
use Rattle.base_set_rows.specs.declared.kind.SetOperation.{SetOperation}
use Rattle.base_set_rows.specs.SetOperations.{set_rows}
use Rattle.base_value.specs.declared.value.Value.{Value}
use Rattle.base_value.specs.declared.value.Value.TheVariants.{Null}
use Rattle.base_value.specs.Value.{same_value}
use Rattle.expr_conditions.specs.Ranks.{says}
use Rattle.expr_scalar.specs.declared.expr.Expr.{Expr}
use Rattle.base_schema.specs.declared.table.TableName.{TableName}
use Rattle.base_schema.specs.Tables.{kinds_of}
use Rattle.plan_algebra.specs.declared.aggregate.Aggregate.{Aggregate}
use Rattle.plan_algebra.specs.declared.kept_plan.KeptPlan.{KeptPlan}
use Rattle.plan_algebra.specs.KeptPlans.{query_rows}
use Rattle.plan_algebra.specs.declared.tree.DepTree.{DepTree, DepTree-F, out-DepTree}
use Rattle.plan_algebra.specs.declared.tree.DepTree.TheVariants as t
use Rattle.plan_algebra.specs.declared.tree.DepTree.TheOpen as f
use Rattle.plan_algebra.specs.declared.tree.DepTree.TheFolds.{fold_out-DepTree, map-DepTree}
use Rattle.plan_algebra.specs.declared.tree.Side.{Side}
use Rattle.plan_algebra.specs.Trees.{Database, Occurrence, kept_count, TreeMeaning, together, combined, tree_step, tree_meaning, width_of, tree_rows, scans_of, right_row, listed, mark_under, scalar_at, groups_under}

abbrev meaning_at : DepTree-F DepTree → TreeMeaning
meaning_at x = tree_step (map-DepTree DepTree TreeMeaning tree_meaning x)

meaning_is : (a : DepTree) → tree_meaning a ≡ meaning_at (out-DepTree a)
unfolding tree_meaning
meaning_is = fold_out-DepTree TreeMeaning tree_step

pub meaning_Scan : (table : TableName) → tree_meaning (t.Scan table) ≡ tree_step (f.Scan table)
meaning_Scan table = meaning_is (t.Scan table) ∙ ap meaning_at (t.outs-Scan table)

pub meaning_Kept : (number : ℕ) (plan : KeptPlan) → tree_meaning (t.Kept number plan) ≡ tree_step (f.Kept number plan)
meaning_Kept number plan = meaning_is (t.Kept number plan) ∙ ap meaning_at (t.outs-Kept number plan)

pub meaning_Select : (a : DepTree) (c : Expr) → tree_meaning (t.Select a c) ≡ tree_step (f.Select (tree_meaning a) c)
meaning_Select a c = meaning_is (t.Select a c) ∙ ap meaning_at (t.outs-Select a c)

pub meaning_Project : (a : DepTree) (es : List Expr) → tree_meaning (t.Project a es) ≡ tree_step (f.Project (tree_meaning a) es)
meaning_Project a es = meaning_is (t.Project a es) ∙ ap meaning_at (t.outs-Project a es)

pub meaning_Join : (l r : DepTree) (side : Side) (c : Expr) → tree_meaning (t.Join l r side c) ≡ tree_step (f.Join (tree_meaning l) (tree_meaning r) side c)
meaning_Join l r side c = meaning_is (t.Join l r side c) ∙ ap meaning_at (t.outs-Join l r side c)

pub meaning_Outer : (l r : DepTree) (side : Side) (c : Expr) → tree_meaning (t.Outer l r side c) ≡ tree_step (f.Outer (tree_meaning l) (tree_meaning r) side c)
meaning_Outer l r side c = meaning_is (t.Outer l r side c) ∙ ap meaning_at (t.outs-Outer l r side c)

pub meaning_Mark : (l r : DepTree) (side : Side) (c : Expr) → tree_meaning (t.Mark l r side c) ≡ tree_step (f.Mark (tree_meaning l) (tree_meaning r) side c)
meaning_Mark l r side c = meaning_is (t.Mark l r side c) ∙ ap meaning_at (t.outs-Mark l r side c)

pub meaning_Single : (l r : DepTree) (side : Side) (i : ℕ) → tree_meaning (t.Single l r side i) ≡ tree_step (f.Single (tree_meaning l) (tree_meaning r) side i)
meaning_Single l r side i = meaning_is (t.Single l r side i) ∙ ap meaning_at (t.outs-Single l r side i)

pub meaning_Group : (a : DepTree) (by : List ℕ) (aggregates : List Aggregate) → tree_meaning (t.Group a by aggregates) ≡ tree_step (f.Group (tree_meaning a) by aggregates)
meaning_Group a by aggregates = meaning_is (t.Group a by aggregates) ∙ ap meaning_at (t.outs-Group a by aggregates)

pub meaning_Distinct : (a : DepTree) → tree_meaning (t.Distinct a) ≡ tree_step (f.Distinct (tree_meaning a))
meaning_Distinct a = meaning_is (t.Distinct a) ∙ ap meaning_at (t.outs-Distinct a)

pub meaning_Set : (l r : DepTree) (operation : SetOperation) → tree_meaning (t.Set l r operation) ≡ tree_step (f.Set (tree_meaning l) (tree_meaning r) operation)
meaning_Set l r operation = meaning_is (t.Set l r operation) ∙ ap meaning_at (t.outs-Set l r operation)

abbrev wide : TreeMeaning → ℕ
wide m = m.width

pub width_Scan : (table : TableName) → width_of (t.Scan table) ≡ length (kinds_of table)
unfolding width_of
width_Scan table = ap wide (meaning_Scan table)

pub width_Kept : (number : ℕ) (plan : KeptPlan) → width_of (t.Kept number plan) ≡ length plan.list
unfolding width_of
width_Kept number plan = ap wide (meaning_Kept number plan)

pub width_Select : (a : DepTree) (c : Expr) → width_of (t.Select a c) ≡ width_of a
unfolding width_of
width_Select a c = ap wide (meaning_Select a c)

pub width_Project : (a : DepTree) (es : List Expr) → width_of (t.Project a es) ≡ length es
unfolding width_of
width_Project a es = ap wide (meaning_Project a es)

pub width_Join : (l r : DepTree) (side : Side) (c : Expr) → width_of (t.Join l r side c) ≡ width_of l + width_of r
unfolding width_of
width_Join l r side c = ap wide (meaning_Join l r side c)

pub width_Outer : (l r : DepTree) (side : Side) (c : Expr) → width_of (t.Outer l r side c) ≡ width_of l + width_of r
unfolding width_of
width_Outer l r side c = ap wide (meaning_Outer l r side c)

pub width_Mark : (l r : DepTree) (side : Side) (c : Expr) → width_of (t.Mark l r side c) ≡ width_of l + 1
unfolding width_of
width_Mark l r side c = ap wide (meaning_Mark l r side c)

pub width_Single : (l r : DepTree) (side : Side) (i : ℕ) → width_of (t.Single l r side i) ≡ width_of l + 1
unfolding width_of
width_Single l r side i = ap wide (meaning_Single l r side i)

pub width_Group : (a : DepTree) (by : List ℕ) (aggregates : List Aggregate) → width_of (t.Group a by aggregates) ≡ length by + length aggregates
unfolding width_of
width_Group a by aggregates = ap wide (meaning_Group a by aggregates)

pub width_Distinct : (a : DepTree) → width_of (t.Distinct a) ≡ width_of a
unfolding width_of
width_Distinct a = ap wide (meaning_Distinct a)

left_width : (operation : SetOperation) (l r : TreeMeaning) → (combined operation l r).width ≡ l.width
left_width operation l r = elim (cases_Bool (l.width == r.width)) [ inl t ↦ rw t refl | inr f ↦ rw f refl ]

pub width_Set : (l r : DepTree) (operation : SetOperation) → width_of (t.Set l r operation) ≡ width_of l
unfolding width_of
width_Set l r operation = ap wide (meaning_Set l r operation) ∙ left_width operation (tree_meaning l) (tree_meaning r)

abbrev rows_in : Database → List Value → TreeMeaning → List (Ranked Value)
rows_in db d m = m.rows db d

abbrev tables_in : TreeMeaning → List Occurrence
tables_in m = m.scans

pub rows_Scan : (table : TableName) (db : Database) (d : List Value) → tree_rows (t.Scan table) db d ≡ scanned (db table)
unfolding tree_rows width_of
rows_Scan table db d = ap (rows_in db d) (meaning_Scan table)

pub scans_Scan : (table : TableName) → scans_of (t.Scan table) ≡ inl table ∷ []
unfolding scans_of
scans_Scan table = ap tables_in (meaning_Scan table)

pub rows_Kept : (number : ℕ) (plan : KeptPlan) (db : Database) (d : List Value) → tree_rows (t.Kept number plan) db d ≡ query_rows plan (db plan.table)
unfolding tree_rows width_of
rows_Kept number plan db d = ap (rows_in db d) (meaning_Kept number plan)

pub scans_Kept : (number : ℕ) (plan : KeptPlan) → scans_of (t.Kept number plan) ≡ inr (kept_count plan) ∷ []
unfolding scans_of
scans_Kept number plan = ap tables_in (meaning_Kept number plan)

pub rows_Select : (a : DepTree) (c : Expr) (db : Database) (d : List Value) → tree_rows (t.Select a c) db d ≡ select (says c d) (tree_rows a db d)
unfolding tree_rows width_of
rows_Select a c db d = ap (rows_in db d) (meaning_Select a c)

pub scans_Select : (a : DepTree) (c : Expr) → scans_of (t.Select a c) ≡ scans_of a
unfolding scans_of
scans_Select a c = ap tables_in (meaning_Select a c)

pub rows_Project : (a : DepTree) (es : List Expr) (db : Database) (d : List Value) → tree_rows (t.Project a es) db d ≡ project (listed es d) (tree_rows a db d)
unfolding tree_rows width_of
rows_Project a es db d = ap (rows_in db d) (meaning_Project a es)

pub scans_Project : (a : DepTree) (es : List Expr) → scans_of (t.Project a es) ≡ scans_of a
unfolding scans_of
scans_Project a es = ap tables_in (meaning_Project a es)

pub rows_Join : (l r : DepTree) (side : Side) (c : Expr) (db : Database) (d : List Value) → tree_rows (t.Join l r side c) db d ≡ join_loop (says c d) (tree_rows l db d) (λ x. tree_rows r db (right_row side d x))
unfolding tree_rows width_of
rows_Join l r side c db d = ap (rows_in db d) (meaning_Join l r side c)

pub scans_Join : (l r : DepTree) (side : Side) (c : Expr) → scans_of (t.Join l r side c) ≡ scans_of l ++ scans_of r
unfolding scans_of
scans_Join l r side c = ap tables_in (meaning_Join l r side c)

pub rows_Outer : (l r : DepTree) (side : Side) (c : Expr) (db : Database) (d : List Value) → tree_rows (t.Outer l r side c) db d ≡ outer_loop (replicate (width_of r) Null) (says c d) (tree_rows l db d) (λ x. tree_rows r db (right_row side d x))
unfolding tree_rows width_of
rows_Outer l r side c db d = ap (rows_in db d) (meaning_Outer l r side c)

pub scans_Outer : (l r : DepTree) (side : Side) (c : Expr) → scans_of (t.Outer l r side c) ≡ scans_of l ++ scans_of r
unfolding scans_of
scans_Outer l r side c = ap tables_in (meaning_Outer l r side c)

pub rows_Mark : (l r : DepTree) (side : Side) (c : Expr) (db : Database) (d : List Value) → tree_rows (t.Mark l r side c) db d ≡ attach_loop (mark_under c d) (tree_rows l db d) (λ x. tree_rows r db (right_row side d x))
unfolding tree_rows width_of
rows_Mark l r side c db d = ap (rows_in db d) (meaning_Mark l r side c)

pub scans_Mark : (l r : DepTree) (side : Side) (c : Expr) → scans_of (t.Mark l r side c) ≡ scans_of l ++ scans_of r
unfolding scans_of
scans_Mark l r side c = ap tables_in (meaning_Mark l r side c)

pub rows_Single : (l r : DepTree) (side : Side) (i : ℕ) (db : Database) (d : List Value) → tree_rows (t.Single l r side i) db d ≡ attach_loop (scalar_at i) (tree_rows l db d) (λ x. tree_rows r db (right_row side d x))
unfolding tree_rows width_of
rows_Single l r side i db d = ap (rows_in db d) (meaning_Single l r side i)

pub scans_Single : (l r : DepTree) (side : Side) (i : ℕ) → scans_of (t.Single l r side i) ≡ scans_of l ++ scans_of r
unfolding scans_of
scans_Single l r side i = ap tables_in (meaning_Single l r side i)

pub rows_Group : (a : DepTree) (by : List ℕ) (aggregates : List Aggregate) (db : Database) (d : List Value) → tree_rows (t.Group a by aggregates) db d ≡ groups_under by aggregates d (tree_rows a db d)
unfolding tree_rows width_of
rows_Group a by aggregates db d = ap (rows_in db d) (meaning_Group a by aggregates)

pub scans_Group : (a : DepTree) (by : List ℕ) (aggregates : List Aggregate) → scans_of (t.Group a by aggregates) ≡ scans_of a
unfolding scans_of
scans_Group a by aggregates = ap tables_in (meaning_Group a by aggregates)

pub rows_Distinct : (a : DepTree) (db : Database) (d : List Value) → tree_rows (t.Distinct a) db d ≡ distinct same_value (tree_rows a db d)
unfolding tree_rows width_of
rows_Distinct a db d = ap (rows_in db d) (meaning_Distinct a)

pub scans_Distinct : (a : DepTree) → scans_of (t.Distinct a) ≡ scans_of a
unfolding scans_of
scans_Distinct a = ap tables_in (meaning_Distinct a)

-- a set operation of sides of one width
pub together_is : (operation : SetOperation) (l r : TreeMeaning) → l.width ≡ r.width → combined operation l r ≡ together operation l r
together_is operation l r e = let same : (l.width == r.width) ≡ true = eq-eqb l.width r.width e in rw same refl

pub even_Set : (l r : DepTree) (operation : SetOperation) → width_of l ≡ width_of r → tree_meaning (t.Set l r operation) ≡ together operation (tree_meaning l) (tree_meaning r)
unfolding width_of
even_Set l r operation e = meaning_Set l r operation ∙ together_is operation (tree_meaning l) (tree_meaning r) e

pub rows_Set : (l r : DepTree) (operation : SetOperation) (db : Database) (d : List Value) → width_of l ≡ width_of r
    → tree_rows (t.Set l r operation) db d ≡ set_rows same_value operation (tree_rows l db d) (tree_rows r db d)
unfolding tree_rows
rows_Set l r operation db d e = ap (rows_in db d) (even_Set l r operation e)

pub scans_Set : (l r : DepTree) (operation : SetOperation) → width_of l ≡ width_of r → scans_of (t.Set l r operation) ≡ scans_of l ++ scans_of r
unfolding scans_of
scans_Set l r operation e = ap tables_in (even_Set l r operation e)

-- one of sides of different widths is the left one
pub left_is : (operation : SetOperation) (l r : TreeMeaning) → (l.width == r.width) ≡ false → combined operation l r ≡ l
left_is operation l r e = rw e refl

pub uneven_Set : (l r : DepTree) (operation : SetOperation) → (width_of l == width_of r) ≡ false → tree_meaning (t.Set l r operation) ≡ tree_meaning l
unfolding width_of
uneven_Set l r operation e = meaning_Set l r operation ∙ left_is operation (tree_meaning l) (tree_meaning r) e

pub rows_uneven : (l r : DepTree) (operation : SetOperation) (db : Database) (d : List Value) → (width_of l == width_of r) ≡ false → tree_rows (t.Set l r operation) db d ≡ tree_rows l db d
unfolding tree_rows
rows_uneven l r operation db d e = ap (rows_in db d) (uneven_Set l r operation e)

pub scans_uneven : (l r : DepTree) (operation : SetOperation) → (width_of l == width_of r) ≡ false → scans_of (t.Set l r operation) ≡ scans_of l
unfolding scans_of
scans_uneven l r operation e = ap tables_in (uneven_Set l r operation e)

pub ruleset rows_opened = (rows_Scan, rows_Kept, rows_Select, rows_Project, rows_Join, rows_Outer, rows_Mark, rows_Single, rows_Group, rows_Distinct)

pub ruleset scans_opened = (scans_Scan, scans_Kept, scans_Select, scans_Project, scans_Join, scans_Outer, scans_Mark, scans_Single, scans_Group, scans_Distinct)

-- for the function that goes over the nodes
pub ruleset widths_opened = (width_Scan, width_Kept, width_Select, width_Project, width_Join, width_Outer, width_Mark, width_Single, width_Group, width_Distinct, width_Set)
