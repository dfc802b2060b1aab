-- The rows of a tree have its width, and stand at True or at a fault.
use Rattle.std.proofs.Common.{◌≡◌, ℕ, ◌+◌, Bool, List, [], ◌∷◌, ◌++◌, map, refl, sym, ◌∙◌, ap}
use Rattle.std.proofs.Common.{subst, arith, zero, suc, length, ◌==◌, inl, inr}
use Rattle.std.specs.Prelude.{replicate, min}
use Rattle.std.specs.List.{flat_map, filter}
use Rattle.std.proofs.lemmas.Bool.{cases_Bool, eqb-true}
use Rattle.std.proofs.lemmas.List.{length-append, length-map, length-replicate}
use Rattle.base_row_laws.specs.Ranked.{Ranked, ranked}
use Rattle.base_row_laws.specs.Bags.{Each, each_once}
use Rattle.base_row_laws.specs.Rows.{scanned, keep, same_row}
use Rattle.base_row_laws.specs.Operators.{select, project, pair, or_else, join_loop, outer_loop}
use Rattle.base_row_laws.specs.Operators.{attach_loop, group_by, distinct, least, greatest}
use Rattle.base_row_laws.specs.JoinGroups.{Width}
use Rattle.base_row_laws.specs.StandingLaws.{Stands}
use Rattle.base_row_laws.proofs.Lists.{Each-flat_map, Each-map, Each-each_once, Each-all}
use Rattle.base_row_laws.proofs.Rows.{Each-keep}
use Rattle.base_row_laws.proofs.Nodes.{Each-or_else}
use Rattle.base_row_laws.proofs.Standings.{select_stands, project_stands, join_stands, outer_stands}
use Rattle.base_row_laws.proofs.Standings.{attach_stands, group_stands, total_stands, distinct_stands}
use Rattle.base_value.specs.declared.value.Value.{Value}
use Rattle.base_value.specs.declared.value.Value.TheVariants.{Null}
use Rattle.base_value.specs.Value.{same_value}
use Rattle.base_value.proofs.Identity.{value_identity}
use Rattle.base_schema.specs.declared.table.TableName.{TableName}
use Rattle.base_schema.specs.Kinds.{RowsAreOf}
use Rattle.base_schema.proofs.Columns.{row_long}
use Rattle.base_schema.specs.Tables.{kinds_of}
use Rattle.expr_scalar.specs.declared.expr.Expr.{Expr}
use Rattle.expr_scalar.specs.Meaning.{values}
use Rattle.expr_conditions.specs.Ranks.{columns_from, says}
use Rattle.plan_algebra.specs.declared.aggregate.Aggregate.{Aggregate}
use Rattle.plan_algebra.specs.declared.tree.DepTree.{DepTree, DepTree-F, roll-DepTree}
use Rattle.plan_algebra.specs.declared.tree.DepTree.TheVariants as t
use Rattle.plan_algebra.specs.declared.tree.DepTree.TheOpen as f
use Rattle.plan_algebra.specs.declared.tree.DepTree.TheFolds.{ind-DepTree, map-DepTree}
use Rattle.plan_algebra.specs.Trees.{Database, HasKinds, width_of, tree_rows, listed, right_row}
use Rattle.plan_algebra.specs.Trees.{mark_under, scalar_at, keys_under, aggregates_under, groups_under}
use Rattle.plan_algebra.proofs.NoRows.{length-aggregates_of}
use Rattle.plan_algebra.proofs.Opened.{width_Scan, width_Kept, width_Select, width_Project, width_Join, width_Outer}
use Rattle.plan_algebra.proofs.Opened.{width_Mark, width_Single, width_Group, width_Distinct, rows_Scan}
use Rattle.plan_algebra.proofs.Opened.{rows_Kept}
use Rattle.plan_algebra.proofs.KeptPlans.{query_stands}
use Rattle.plan_algebra.proofs.Widths.{query_wide}
use Rattle.plan_algebra.specs.KeptPlans.{query_rows}
use Rattle.plan_algebra.proofs.Opened.{rows_Select, rows_Project, rows_Join, rows_Outer, rows_Mark}
use Rattle.plan_algebra.proofs.Opened.{rows_Single, rows_Group, rows_Distinct, width_Set, rows_Set}
use Rattle.plan_algebra.proofs.Opened.{rows_uneven}
use Rattle.base_set_rows.specs.SetOperations.{set_rows}
use Rattle.base_set_rows.proofs.Operations.{set_rows_each, set_rows_stand}

pub length-columns_from : (k n : ℕ) → length (columns_from k n) ≡ n
length-columns_from k zero = refl
length-columns_from k (suc n) = ap suc (length-columns_from (suc k) n)

module _ {V : Type 0} where
  pub width-select : (n : ℕ) (c : List V → ℕ) (xs : List (Ranked V)) → Width n xs
      → Width n (select c xs)
  width-select n c xs w =
      Each-flat_map (λ x. length x.values ≡ n) (λ x. length x.values ≡ n)
      (λ x. keep x.values (min x.standing (c x.values))) xs w
      (λ x e. Each-keep (λ x. length x.values ≡ n) x.values (min x.standing (c x.values)) e)

  width-pairs : (n m : ℕ) (c : List V → ℕ) (x : Ranked V) (ys : List (Ranked V))
      → length x.values ≡ n → Width m ys
      → Width (n + m) (flat_map (λ y. pair c (λ a b. a ++ b) x y) ys)
  width-pairs n m c x ys e w =
      Each-flat_map (λ y. length y.values ≡ m) (λ z. length z.values ≡ n + m)
      (λ y. pair c (λ a b. a ++ b) x y) ys w
      (λ y v. Each-keep (λ z. length z.values ≡ n + m) (x.values ++ y.values)
      (min (min x.standing y.standing) (c (x.values ++ y.values)))
      (length-append x.values y.values ∙ omega (arith, e, v)))

  width-join : (n m : ℕ) (c : List V → ℕ) (xs : List (Ranked V)) (R : List V → List (Ranked V))
      → Width n xs → ((l : List V) → Width m (R l)) → Width (n + m) (join_loop c xs R)
  width-join n m c xs R w v =
      Each-flat_map (λ x. length x.values ≡ n) (λ z. length z.values ≡ n + m)
      (λ x. flat_map (λ y. pair c (λ a b. a ++ b) x y) (R x.values)) xs w
      (λ x e. width-pairs n m c x (R x.values) e (v x.values))

  width-outer : (n m : ℕ) (nulls : List V) (c : List V → ℕ) (xs : List (Ranked V))
      (R : List V → List (Ranked V)) → length nulls ≡ m → Width n xs
      → ((l : List V) → Width m (R l))
      → Width (n + m) (outer_loop nulls c xs R)
  width-outer n m nulls c xs R k w v =
      Each-flat_map (λ x. length x.values ≡ n) (λ z. length z.values ≡ n + m)
      (λ x. or_else (flat_map (λ y. pair c (λ a b. a ++ b) x y) (R x.values))
      (ranked (x.values ++ nulls) x.standing)) xs w
      (λ x e. Each-or_else (λ z. length z.values ≡ n + m)
      (flat_map (λ y. pair c (λ a b. a ++ b) x y) (R x.values))
      (ranked (x.values ++ nulls) x.standing)
      (width-pairs n m c x (R x.values) e (v x.values))
      (length-append x.values nulls ∙ omega (arith, e, k)))

  width-attach : (n : ℕ) (value : List V → List (Ranked V) → V) (xs : List (Ranked V))
      (R : List V → List (Ranked V)) → Width n xs → Width (n + 1) (attach_loop value xs R)
  width-attach n value xs R w =
      Each-flat_map (λ x. length x.values ≡ n) (λ z. length z.values ≡ n + 1)
      (λ x. ranked (x.values ++ value x.values (R x.values) ∷ []) x.standing ∷ []) xs w
      (λ x e. (length-append x.values (value x.values (R x.values) ∷ []) ∙ omega (arith, e), tt))

  width-project : (n : ℕ) (g : List V → List V) (xs : List (Ranked V))
      → ((x : List V) → length (g x) ≡ n) → Width n (project g xs)
  width-project n g xs h =
      Each-map (λ z. length z.values ≡ n) (λ x. ranked (g x.values) x.standing) xs
      (Each-all (λ x. length (g x.values) ≡ n) xs (λ x. h x.values))

  width-group : (same : V → V → Bool) (n m : ℕ) (key : List V → List V)
      (aggregates : List (Ranked V) → List V) (xs : List (Ranked V))
      → ((x : List V) → length (key x) ≡ n) → ((ys : List (Ranked V)) → length (aggregates ys) ≡ m)
      → Width (n + m) (group_by same key aggregates xs)
  width-group same n m key aggregates xs h k =
      let part : List V → List (Ranked V) = λ q. filter (λ x. same_row same (key x.values) q) xs in
      let made : List V → Ranked V = λ q. ranked (q ++ aggregates (part q)) (least (part q)) in
      let ks = each_once (same_row same) (map (λ x. key x.values) xs) in
      Each-map (λ z. length z.values ≡ n + m) made ks
      (each_made made part ks
      (Each-each_once (λ q. length q ≡ n) (same_row same) (map (λ x. key x.values) xs)
      (Each-map (λ q. length q ≡ n) (λ (x : Ranked V). key x.values) xs
      (Each-all (λ x. length (key x.values) ≡ n) xs (λ x. h x.values)))))
    where
      each_made : (made : List V → Ranked V) (part : List V → List (Ranked V)) (ks : List (List V))
          → Each (λ q. length q ≡ n) ks → Each (λ q. length (q ++ aggregates (part q)) ≡ n + m) ks
      each_made made part [] all = tt
      each_made made part (q ∷ ks) all = (
        length-append q (aggregates (part q)) ∙ both all.0 (k (part q)),
        each_made made part ks all.1,
      )
        where
          both : {a b c d : ℕ} → a ≡ b → c ≡ d → a + c ≡ b + d
          both i j = omega (arith, i, j)

  width-distinct : (same : V → V → Bool) (n : ℕ) (xs : List (Ranked V)) → Width n xs
      → Width n (distinct same xs)
  width-distinct same n xs w =
      let made : List V → Ranked V =
      λ q. ranked q (greatest (filter (λ x. same_row same x.values q) xs)) in
      let ks = each_once (same_row same) (map (λ (x : Ranked V). x.values) xs) in
      Each-map (λ z. length z.values ≡ n) made ks
      (Each-each_once (λ q. length q ≡ n) (same_row same) (map (λ (x : Ranked V). x.values) xs)
      (Each-map (λ q. length q ≡ n) (λ (x : Ranked V). x.values) xs w))

pub record Good (a : DepTree) (db : Database) (d : List Value) : Type 0 where
  pub wide : Width (width_of a) (tree_rows a db d)
  pub stands : Each Stands (tree_rows a db d)

-- from the equations of a node
good : (a : DepTree) (db : Database) (d : List Value) (n : ℕ) (rows : List (Ranked Value))
    → width_of a ≡ n → tree_rows a db d ≡ rows → Width n rows → Each Stands rows → Good a db d
good a db d n rows w r wide stands = record {
  wide = subst (λ k. Width k (tree_rows a db d)) (sym w) (subst (λ l. Width n l) (sym r) wide);
  stands = subst (λ l. Each Stands l) (sym r) stands;
}

abbrev Goods : DepTree → Type 0
Goods a = (db : Database) (d : List Value) → HasKinds db → Good a db d

scanned_stands : (rs : List (List Value)) → Each Stands (scanned rs)
scanned_stands [] = tt
scanned_stands (r ∷ rs) =
    (record { not_dropped = omega arith; within = omega arith }, scanned_stands rs)

scanned_wide : (table : TableName) (rs : List (List Value)) → RowsAreOf table rs
    → Width (length (kinds_of table)) (scanned rs)
scanned_wide table [] h = tt
scanned_wide table (r ∷ rs) h = (
  row_long table r (h 0 r (omega arith)),
  scanned_wide table rs (λ k d below. h (suc k) d (omega arith)),
)

listed_length : (es : List Expr) (d r : List Value) → length (listed es d r) ≡ length es
unfolding listed values
listed_length es d r = length-map es _

keys_length : (by : List ℕ) (d r : List Value) → length (keys_under by d r) ≡ length by
unfolding keys_under
keys_length by d r = length-map by _

aggregates_length : (aggregates : List Aggregate) (d : List Value) (ys : List (Ranked Value))
    → length (aggregates_under aggregates d ys) ≡ length aggregates
unfolding aggregates_under
aggregates_length aggregates d ys = length-aggregates_of aggregates _

groups_wide : (by : List ℕ) (aggregates : List Aggregate) (d : List Value)
    (xs : List (Ranked Value))
    → Width (length by + length aggregates) (groups_under by aggregates d xs)
groups_wide [] aggregates d xs = (aggregates_length aggregates d xs ∙ none (length aggregates), tt)
  where
    none : (n : ℕ) → n ≡ 0 + n
    none n = omega arith
groups_wide (c ∷ cs) aggregates d xs =
    width-group same_value (length (c ∷ cs)) (length aggregates) (keys_under (c ∷ cs) d)
    (aggregates_under aggregates d) xs (λ x. keys_length (c ∷ cs) d x)
    (λ ys. aggregates_length aggregates d ys)

groups_stand : (by : List ℕ) (aggregates : List Aggregate) (d : List Value)
    (xs : List (Ranked Value)) → Each Stands xs → Each Stands (groups_under by aggregates d xs)
groups_stand [] aggregates d xs s = total_stands (aggregates_under aggregates d) xs s
groups_stand (c ∷ cs) aggregates d xs s =
    group_stands same_value (keys_under (c ∷ cs) d) (aggregates_under aggregates d) xs s

node : (y : f.DepTree-F ((x : DepTree) × Goods x))
    → Goods (roll-DepTree (map-DepTree ((x : DepTree) × Goods x) DepTree (λ x. x.0) y))
node (f.Scan table) = subst Goods (sym (t.rolls-Scan table)) (λ db d k.
    good (t.Scan table) db d (length (kinds_of table)) (scanned (db table)) (width_Scan table)
    (rows_Scan table db d) (scanned_wide table (db table) (k table)) (scanned_stands (db table)))
node (f.Kept number plan) = subst Goods (sym (t.rolls-Kept number plan)) (λ db d k.
    good (t.Kept number plan) db d (length plan.list) (query_rows plan (db plan.table))
    (width_Kept number plan) (rows_Kept number plan db d) (query_wide plan (db plan.table))
    (query_stands plan (db plan.table)))
node (f.Select a c) = subst Goods (sym (t.rolls-Select a.0 c)) (λ db d k.
    let g = a.1 db d k in
    good (t.Select a.0 c) db d (width_of a.0) (select (says c d) (tree_rows a.0 db d))
    (width_Select a.0 c) (rows_Select a.0 c db d)
    (width-select (width_of a.0) (says c d) (tree_rows a.0 db d) g.wide)
    (select_stands (says c d) (tree_rows a.0 db d) g.stands))
node (f.Project a es) = subst Goods (sym (t.rolls-Project a.0 es)) (λ db d k.
    let g = a.1 db d k in
    good (t.Project a.0 es) db d (length es) (project (listed es d) (tree_rows a.0 db d))
    (width_Project a.0 es) (rows_Project a.0 es db d)
    (width-project (length es) (listed es d) (tree_rows a.0 db d) (λ x. listed_length es d x))
    (project_stands (listed es d) (tree_rows a.0 db d) g.stands))
node (f.Join l r side c) = subst Goods (sym (t.rolls-Join l.0 r.0 side c)) (λ db d k.
    let g = l.1 db d k in
    let R : List Value → List (Ranked Value) = λ x. tree_rows r.0 db (right_row side d x) in
    good (t.Join l.0 r.0 side c) db d (width_of l.0 + width_of r.0)
    (join_loop (says c d) (tree_rows l.0 db d) R) (width_Join l.0 r.0 side c)
    (rows_Join l.0 r.0 side c db d)
    (width-join (width_of l.0) (width_of r.0) (says c d) (tree_rows l.0 db d) R g.wide
    (λ x. let h = r.1 db (right_row side d x) k in h.wide))
    (join_stands (says c d) (tree_rows l.0 db d) R g.stands))
node (f.Outer l r side c) = subst Goods (sym (t.rolls-Outer l.0 r.0 side c)) (λ db d k.
    let g = l.1 db d k in
    let R : List Value → List (Ranked Value) = λ x. tree_rows r.0 db (right_row side d x) in
    let nulls = replicate (width_of r.0) Null in
    good (t.Outer l.0 r.0 side c) db d (width_of l.0 + width_of r.0)
    (outer_loop nulls (says c d) (tree_rows l.0 db d) R) (width_Outer l.0 r.0 side c)
    (rows_Outer l.0 r.0 side c db d)
    (width-outer (width_of l.0) (width_of r.0) nulls (says c d) (tree_rows l.0 db d) R
    (length-replicate (width_of r.0) Null) g.wide
    (λ x. let h = r.1 db (right_row side d x) k in h.wide))
    (outer_stands nulls (says c d) (tree_rows l.0 db d) R g.stands))
node (f.Mark l r side c) = subst Goods (sym (t.rolls-Mark l.0 r.0 side c)) (λ db d k.
    let g = l.1 db d k in
    let R : List Value → List (Ranked Value) = λ x. tree_rows r.0 db (right_row side d x) in
    good (t.Mark l.0 r.0 side c) db d (width_of l.0 + 1)
    (attach_loop (mark_under c d) (tree_rows l.0 db d) R) (width_Mark l.0 r.0 side c)
    (rows_Mark l.0 r.0 side c db d)
    (width-attach (width_of l.0) (mark_under c d) (tree_rows l.0 db d) R g.wide)
    (attach_stands (mark_under c d) (tree_rows l.0 db d) R g.stands))
node (f.Single l r side i) = subst Goods (sym (t.rolls-Single l.0 r.0 side i)) (λ db d k.
    let g = l.1 db d k in
    let R : List Value → List (Ranked Value) = λ x. tree_rows r.0 db (right_row side d x) in
    good (t.Single l.0 r.0 side i) db d (width_of l.0 + 1)
    (attach_loop (scalar_at i) (tree_rows l.0 db d) R) (width_Single l.0 r.0 side i)
    (rows_Single l.0 r.0 side i db d)
    (width-attach (width_of l.0) (scalar_at i) (tree_rows l.0 db d) R g.wide)
    (attach_stands (scalar_at i) (tree_rows l.0 db d) R g.stands))
node (f.Group a by aggregates) = subst Goods (sym (t.rolls-Group a.0 by aggregates)) (λ db d k.
    let g = a.1 db d k in
    good (t.Group a.0 by aggregates) db d (length by + length aggregates)
    (groups_under by aggregates d (tree_rows a.0 db d)) (width_Group a.0 by aggregates)
    (rows_Group a.0 by aggregates db d)
    (groups_wide by aggregates d (tree_rows a.0 db d))
    (groups_stand by aggregates d (tree_rows a.0 db d) g.stands))
node (f.Distinct a) = subst Goods (sym (t.rolls-Distinct a.0)) (λ db d k.
    let g = a.1 db d k in
    good (t.Distinct a.0) db d (width_of a.0) (distinct same_value (tree_rows a.0 db d))
    (width_Distinct a.0) (rows_Distinct a.0 db d)
    (width-distinct same_value (width_of a.0) (tree_rows a.0 db d) g.wide)
    (distinct_stands same_value value_identity (tree_rows a.0 db d) g.stands))
node (f.Set l r operation) = subst Goods (sym (t.rolls-Set l.0 r.0 operation)) (λ db d k.
    let g = l.1 db d k in
    let h = r.1 db d k in
    let w = width_of l.0 in
    elim (cases_Bool (width_of l.0 == width_of r.0)) [
      | inl even ↦
          let e : width_of l.0 ≡ width_of r.0 = eqb-true (width_of l.0) (width_of r.0) even in
          good (t.Set l.0 r.0 operation) db d w
          (set_rows same_value operation (tree_rows l.0 db d) (tree_rows r.0 db d))
          (width_Set l.0 r.0 operation) (rows_Set l.0 r.0 operation db d e)
          (set_rows_each same_value value_identity (λ v. length v ≡ w) operation
          (tree_rows l.0 db d) (tree_rows r.0 db d) g.wide
          (subst (λ m. Width m (tree_rows r.0 db d)) (sym e) h.wide))
          (set_rows_stand same_value value_identity operation (tree_rows l.0 db d)
          (tree_rows r.0 db d) g.stands h.stands)
      | inr uneven ↦ good (t.Set l.0 r.0 operation) db d w (tree_rows l.0 db d)
          (width_Set l.0 r.0 operation) (rows_uneven l.0 r.0 operation db d uneven) g.wide g.stands
    ])

pub tree_is_good : (a : DepTree) (db : Database) (d : List Value) → HasKinds db → Good a db d
tree_is_good = ind-DepTree Goods (λ x y is. subst (λ z. Goods (roll-DepTree z)) is (node y))
