-- The same node over inputs of the same rows.
use Rattle.std.proofs.Common.{◌≡◌, ℕ, ◌+◌, List, [], ◌∷◌, ◌++◌, refl, sym, ◌∙◌, ap, subst, length}
use Rattle.std.proofs.Common.{◌==◌, false, inl, inr}
use Rattle.std.specs.Prelude.{replicate}
use Rattle.std.proofs.lemmas.Bool.{cases_Bool, eqb-true}
use Rattle.std.proofs.lemmas.List.{length-map}
use Rattle.base_row_laws.specs.Ranked.{Ranked}
use Rattle.base_row_laws.specs.Bags.{SameBag, Each, OfBag}
use Rattle.base_row_laws.specs.Rows.{after}
use Rattle.base_row_laws.specs.Operators.{outer_loop, attach_loop}
use Rattle.base_row_laws.specs.Trees.{side_row, side_width, Side as SideKind}
use Rattle.base_row_laws.specs.Trees.Side.{Closed as ClosedKind, Shared as SharedKind}
use Rattle.base_row_laws.specs.Trees.Side.{Dependent as DependentKind}
use Rattle.base_row_laws.proofs.Bags.{SameBag-refl, SameBag-append}
use Rattle.base_row_laws.proofs.Lists.{Each-all}
use Rattle.base_row_laws.proofs.OfBags.{OfBag-map}
use Rattle.base_row_laws.proofs.Values.{mark_bag, scalar_bag}
use Rattle.base_row_laws.proofs.Alike.{select_alike, project_alike, join_loop_alike, outer_loop_alike}
use Rattle.base_row_laws.proofs.Alike.{attach_loop_alike, group_alike, total_alike, distinct_alike}
use Rattle.base_value.specs.declared.value.Value.{Value}
use Rattle.base_value.specs.declared.value.Value.TheVariants.{Null}
use Rattle.base_value.specs.Value.{same_value}
use Rattle.base_value.proofs.Identity.{value_identity}
use Rattle.expr_aggregates.specs.Values.{written, value_rank}
use Rattle.expr_scalar.specs.declared.expr.Expr.{Expr}
use Rattle.expr_conditions.specs.Ranks.{rank_of, says}
use Rattle.plan_algebra.specs.declared.aggregate.Aggregate.{Aggregate}
use Rattle.plan_algebra.specs.declared.tree.DepTree.{DepTree}
use Rattle.plan_algebra.specs.declared.tree.DepTree.TheVariants as t
use Rattle.plan_algebra.specs.declared.tree.Side.{Side}
use Rattle.plan_algebra.specs.Aggregates.{aggregates_of}
use Rattle.plan_algebra.specs.Trees.{Database, HasKinds, width_of, tree_rows, listed, scans_of}
use Rattle.plan_algebra.specs.Trees.{right_row, side_of, mark_under, scalar_at, keys_under}
use Rattle.plan_algebra.specs.Trees.{aggregates_under, groups_under}
use Rattle.plan_algebra.proofs.NoRows.{aggregates_bag}
use Rattle.plan_algebra.proofs.Opened.{width_Select, width_Project, width_Join, width_Outer, width_Mark}
use Rattle.plan_algebra.proofs.Opened.{width_Single, width_Group, width_Distinct, rows_Select}
use Rattle.plan_algebra.proofs.Opened.{rows_Project, rows_Join, rows_Outer, rows_Mark, rows_Single}
use Rattle.plan_algebra.proofs.Opened.{rows_Group, rows_Distinct, scans_Select, scans_Project}
use Rattle.plan_algebra.proofs.Opened.{scans_Join, scans_Outer, scans_Mark, scans_Single, scans_Group}
use Rattle.plan_algebra.proofs.Opened.{scans_Distinct, width_Set, rows_Set, scans_Set, rows_uneven}
use Rattle.plan_algebra.proofs.Opened.{scans_uneven}
use Rattle.base_set_rows.specs.declared.kind.SetOperation.{SetOperation}
use Rattle.base_set_rows.proofs.Operations.{set_rows_alike}
use Rattle.plan_predicate_sinking.specs.Arranged.{SameRows}
use Rattle.plan_predicate_sinking.proofs.Scans.{as_bags, same_list}

pub SameRows-refl : (n : ℕ) (a b : DepTree) → a ≡ b → SameRows n a b
SameRows-refl n a b is =
    record {
      scans = same_list (ap scans_of is);
      width = ap width_of is;
      rows = λ db d k ld. subst (λ y. SameBag (tree_rows a db d) (tree_rows y db d)) is
          (SameBag-refl (tree_rows a db d));
    }

-- from the equations of two nodes
pub alike : {p q r s : List (Ranked Value)} → p ≡ q → s ≡ r → SameBag q r → SameBag p s
alike {p} {q} {r} {s} i j b = subst (λ l. SameBag l s) (sym i) (subst (λ l. SameBag q l) (sym j) b)

-- a right side's domain row has its domain's width
pub side_length : (s : Side) (n : ℕ) (d l : List Value) → length d ≡ n
    → length (right_row s d l) ≡ side_width (side_of s) n
unfolding right_row
side_length s n d l ld = go (side_of s)
  where
    go : (k : SideKind) → length (side_row Null k d l) ≡ side_width k n
    go ClosedKind = refl
    go SharedKind = ld
    go (DependentKind cs) = length-map cs _

pub same_select : (n : ℕ) (a b : DepTree) (c : Expr) → SameRows n a b
    → SameRows n (t.Select a c) (t.Select b c)
same_select n a b c s = record {
  scans = as_bags (scans_Select a c) (scans_Select b c) s.scans;
  width = width_Select a c ∙ s.width ∙ sym (width_Select b c);
  rows = λ db d k ld. alike (rows_Select a c db d) (rows_Select b c db d)
      (select_alike (says c d) (tree_rows a db d) (tree_rows b db d) (s.rows db d k ld));
}

pub same_project : (n : ℕ) (a b : DepTree) (es : List Expr) → SameRows n a b
    → SameRows n (t.Project a es) (t.Project b es)
same_project n a b es s = record {
  scans = as_bags (scans_Project a es) (scans_Project b es) s.scans;
  width = width_Project a es ∙ sym (width_Project b es);
  rows = λ db d k ld. alike (rows_Project a es db d) (rows_Project b es db d)
      (project_alike (listed es d) (tree_rows a db d) (tree_rows b db d) (s.rows db d k ld));
}

pub same_distinct : (n : ℕ) (a b : DepTree) → SameRows n a b
    → SameRows n (t.Distinct a) (t.Distinct b)
same_distinct n a b s = record {
  scans = as_bags (scans_Distinct a) (scans_Distinct b) s.scans;
  width = width_Distinct a ∙ s.width ∙ sym (width_Distinct b);
  rows = λ db d k ld. alike (rows_Distinct a db d) (rows_Distinct b db d)
      (distinct_alike same_value value_identity (tree_rows a db d) (tree_rows b db d)
      (s.rows db d k ld));
}

pub same_set : (n : ℕ) (l m r s : DepTree) (operation : SetOperation) → SameRows n l m
    → SameRows n r s → SameRows n (t.Set l r operation) (t.Set m s operation)
same_set n l m r s operation a b =
    let wide = width_Set l r operation ∙ a.width ∙ sym (width_Set m s operation) in
    elim (cases_Bool (width_of l == width_of r)) [
      | inl even ↦
          let e : width_of l ≡ width_of r = eqb-true (width_of l) (width_of r) even in
          let f : width_of m ≡ width_of s = sym a.width ∙ e ∙ b.width in
          record {
            scans = as_bags (scans_Set l r operation e) (scans_Set m s operation f)
                (SameBag-append a.scans b.scans);
            width = wide;
            rows = λ db d k ld. alike (rows_Set l r operation db d e) (rows_Set m s operation db d f)
                (set_rows_alike same_value value_identity operation (tree_rows l db d)
                (tree_rows m db d) (tree_rows r db d) (tree_rows s db d) (a.rows db d k ld)
                (b.rows db d k ld));
          }
      | inr uneven ↦
          let f : (width_of m == width_of s) ≡ false =
          ap (λ w. w == width_of s) (sym a.width) ∙ ap (λ w. width_of l == w) (sym b.width)
          ∙ uneven in
          record {
            scans = as_bags (scans_uneven l r operation uneven) (scans_uneven m s operation f)
                a.scans;
            width = wide;
            rows = λ db d k ld. alike (rows_uneven l r operation db d uneven)
                (rows_uneven m s operation db d f) (a.rows db d k ld);
          }
    ]

pub set_made : (n : ℕ) (tree a child b other new : DepTree) (operation : SetOperation)
    → tree ≡ t.Set a b operation → SameRows n a child → SameRows n b other
    → new ≡ t.Set child other operation → SameRows n tree new
set_made n tree a child b other new operation is s u made =
    subst (λ y. SameRows n y new) (sym is)
    (subst (λ y. SameRows n (t.Set a b operation) y) (sym made)
    (same_set n a child b other operation s u))

pub under_bag : (aggregates : List Aggregate) (d : List Value)
    → OfBag (aggregates_under aggregates d)
unfolding aggregates_under
under_bag aggregates d = OfBag-map (after d) (aggregates_of aggregates) (aggregates_bag aggregates)

groups_alike : (by : List ℕ) (aggregates : List Aggregate) (d : List Value)
    (xs ys : List (Ranked Value)) → SameBag xs ys
    → SameBag (groups_under by aggregates d xs) (groups_under by aggregates d ys)
groups_alike [] aggregates d xs ys s =
    total_alike (aggregates_under aggregates d) xs ys (under_bag aggregates d) s
groups_alike (c ∷ cs) aggregates d xs ys s =
    group_alike same_value value_identity (keys_under (c ∷ cs) d) (aggregates_under aggregates d) xs
    ys (under_bag aggregates d) s

pub same_group : (n : ℕ) (a b : DepTree) (by : List ℕ) (aggregates : List Aggregate)
    → SameRows n a b → SameRows n (t.Group a by aggregates) (t.Group b by aggregates)
same_group n a b by aggregates s = record {
  scans = as_bags (scans_Group a by aggregates) (scans_Group b by aggregates) s.scans;
  width = width_Group a by aggregates ∙ sym (width_Group b by aggregates);
  rows = λ db d k ld. alike (rows_Group a by aggregates db d) (rows_Group b by aggregates db d)
      (groups_alike by aggregates d (tree_rows a db d) (tree_rows b db d) (s.rows db d k ld));
}

pub mark_is_bag : (c : Expr) (d x : List Value) → OfBag (mark_under c d x)
unfolding mark_under
mark_is_bag c d x = mark_bag written (rank_of c) (d ++ x)

pub scalar_is_bag : (i : ℕ) (x : List Value) → OfBag (scalar_at i x)
unfolding scalar_at
scalar_is_bag i x = scalar_bag same_value value_identity written value_rank i

module _ (n m : ℕ) (l r left right : DepTree) (s : Side) where
  abbrev R : Database → List Value → List Value → List (Ranked Value)
  R db d x = tree_rows r db (right_row s d x)

  abbrev S : Database → List Value → List Value → List (Ranked Value)
  S db d x = tree_rows right db (right_row s d x)

  -- the right side's rows under each left row
  under_each : (db : Database) (d : List Value) → m ≡ side_width (side_of s) n → SameRows m r right
      → HasKinds db → length d ≡ n → (xs : List (Ranked Value))
      → Each (λ x. SameBag (R db d x.values) (S db d x.values)) xs
  under_each db d is sr k ld xs =
      Each-all (λ x. SameBag (R db d x.values) (S db d x.values)) xs
      (λ x. sr.rows db (right_row s d x.values) k (side_length s n d x.values ld ∙ sym is))

  pub same_join : (c : Expr) → m ≡ side_width (side_of s) n → SameRows n l left → SameRows m r right
      → SameRows n (t.Join l r s c) (t.Join left right s c)
  same_join c is sl sr = record {
    scans = as_bags (scans_Join l r s c) (scans_Join left right s c)
        (SameBag-append sl.scans sr.scans);
    width = width_Join l r s c ∙ ap (λ w. w + width_of r) sl.width
        ∙ ap (λ w. width_of left + w) sr.width ∙ sym (width_Join left right s c);
    rows = λ db d k ld. alike (rows_Join l r s c db d) (rows_Join left right s c db d)
        (join_loop_alike (says c d) (tree_rows l db d) (tree_rows left db d) (R db d) (S db d)
        (sl.rows db d k ld) (under_each db d is sr k ld (tree_rows l db d)));
  }

  pub same_outer : (c : Expr) → m ≡ side_width (side_of s) n → SameRows n l left
      → SameRows m r right → SameRows n (t.Outer l r s c) (t.Outer left right s c)
  same_outer c is sl sr = record {
    scans = as_bags (scans_Outer l r s c) (scans_Outer left right s c)
        (SameBag-append sl.scans sr.scans);
    width = width_Outer l r s c ∙ ap (λ w. w + width_of r) sl.width
        ∙ ap (λ w. width_of left + w) sr.width ∙ sym (width_Outer left right s c);
    rows = λ db d k ld. alike
        (rows_Outer l r s c db d
        ∙ ap (λ w. outer_loop (replicate w Null) (says c d) (tree_rows l db d) (R db d)) sr.width)
        (rows_Outer left right s c db d)
        (outer_loop_alike (replicate (width_of right) Null) (says c d) (tree_rows l db d)
        (tree_rows left db d) (R db d) (S db d) (sl.rows db d k ld)
        (under_each db d is sr k ld (tree_rows l db d)));
  }

  attached_alike : (value : List Value → List (Ranked Value) → Value) (db : Database)
      (d : List Value) → ((x : List Value) → OfBag (value x)) → m ≡ side_width (side_of s) n
      → SameRows n l left → SameRows m r right → HasKinds db → length d ≡ n
      → SameBag (attach_loop value (tree_rows l db d) (R db d))
      (attach_loop value (tree_rows left db d) (S db d))
  attached_alike value db d bag is sl sr k ld =
      attach_loop_alike value (tree_rows l db d) (tree_rows left db d) (R db d) (S db d) bag
      (sl.rows db d k ld) (under_each db d is sr k ld (tree_rows l db d))

  pub same_mark : (c : Expr) → m ≡ side_width (side_of s) n → SameRows n l left → SameRows m r right
      → SameRows n (t.Mark l r s c) (t.Mark left right s c)
  same_mark c is sl sr = record {
    scans = as_bags (scans_Mark l r s c) (scans_Mark left right s c)
        (SameBag-append sl.scans sr.scans);
    width = width_Mark l r s c ∙ ap (λ w. w + 1) sl.width ∙ sym (width_Mark left right s c);
    rows = λ db d k ld. alike (rows_Mark l r s c db d) (rows_Mark left right s c db d)
        (attached_alike (mark_under c d) db d (mark_is_bag c d) is sl sr k ld);
  }

  pub same_single : (i : ℕ) → m ≡ side_width (side_of s) n → SameRows n l left → SameRows m r right
      → SameRows n (t.Single l r s i) (t.Single left right s i)
  same_single i is sl sr = record {
    scans = as_bags (scans_Single l r s i) (scans_Single left right s i)
        (SameBag-append sl.scans sr.scans);
    width = width_Single l r s i ∙ ap (λ w. w + 1) sl.width ∙ sym (width_Single left right s i);
    rows = λ db d k ld. alike (rows_Single l r s i db d) (rows_Single left right s i db d)
        (attached_alike (scalar_at i) db d (scalar_is_bag i) is sl sr k ld);
  }

-- the nodes as the code makes them
pub select_made : (n : ℕ) (tree a child new : DepTree) (c c1 : Expr) → tree ≡ t.Select a c
    → SameRows n a child → c1 ≡ c → new ≡ t.Select child c1 → SameRows n tree new
select_made n tree a child new c c1 is s ic made =
    subst (λ y. SameRows n y new) (sym is)
    (subst (λ y. SameRows n (t.Select a c) y) (sym (made ∙ ap (λ (y : Expr). t.Select child y) ic))
    (same_select n a child c s))

pub project_made : (n : ℕ) (tree a child new : DepTree) (es seen : List Expr)
    → tree ≡ t.Project a es → SameRows n a child → seen ≡ es → new ≡ t.Project child seen
    → SameRows n tree new
project_made n tree a child new es seen is s ie made =
    subst (λ y. SameRows n y new) (sym is)
    (subst (λ y. SameRows n (t.Project a es) y)
    (sym (made ∙ ap (λ (l : List Expr). t.Project child l) ie)) (same_project n a child es s))

pub distinct_made : (n : ℕ) (tree a child new : DepTree) → tree ≡ t.Distinct a → SameRows n a child
    → new ≡ t.Distinct child → SameRows n tree new
distinct_made n tree a child new is s made =
    subst (λ y. SameRows n y new) (sym is)
    (subst (λ y. SameRows n (t.Distinct a) y) (sym made) (same_distinct n a child s))

pub group_made : (n : ℕ) (tree a child new : DepTree) (by seen : List ℕ) (xs ys : List Aggregate)
    → tree ≡ t.Group a by xs → SameRows n a child → seen ≡ by → ys ≡ xs
    → new ≡ t.Group child seen ys → SameRows n tree new
group_made n tree a child new by seen xs ys is s ib ix made =
    subst (λ y. SameRows n y new) (sym is)
    (subst (λ y. SameRows n (t.Group a by xs) y)
    (sym (made ∙ ap (λ (l : List ℕ). t.Group child l ys) ib
    ∙ ap (λ (l : List Aggregate). t.Group child by l) ix)) (same_group n a child by xs s))

pub list_made : (n : ℕ) (tree a new : DepTree) (es seen : List Expr) → tree ≡ t.Project a es
    → seen ≡ es → SameRows n (t.Project a seen) new → SameRows n tree new
list_made n tree a new es seen is i s =
    subst (λ y. SameRows n y new) (ap (λ (l : List Expr). t.Project a l) i ∙ sym is) s

pub groups_made : (n : ℕ) (tree a new : DepTree) (by seen : List ℕ) (xs ys : List Aggregate)
    → tree ≡ t.Group a by xs → seen ≡ by → ys ≡ xs → SameRows n (t.Group a seen ys) new
    → SameRows n tree new
groups_made n tree a new by seen xs ys is ib ix s =
    subst (λ y. SameRows n y new)
    (ap (λ (l : List ℕ). t.Group a l ys) ib ∙ ap (λ (l : List Aggregate). t.Group a by l) ix
    ∙ sym is) s

module _ (n m : ℕ) (tree l r left right new : DepTree) (s : Side) where
  pub join_made : (c c1 : Expr) → tree ≡ t.Join l r s c → SameRows n l left
      → m ≡ side_width (side_of s) n → SameRows m r right → c1 ≡ c → new ≡ t.Join left right s c1
      → SameRows n tree new
  join_made c c1 is sl im sr ic made =
      subst (λ y. SameRows n y new) (sym is)
      (subst (λ y. SameRows n (t.Join l r s c) y)
      (sym (made ∙ ap (λ (y : Expr). t.Join left right s y) ic))
      (same_join n m l r left right s c im sl sr))

  pub outer_made : (c c1 : Expr) → tree ≡ t.Outer l r s c → SameRows n l left
      → m ≡ side_width (side_of s) n → SameRows m r right → c1 ≡ c → new ≡ t.Outer left right s c1
      → SameRows n tree new
  outer_made c c1 is sl im sr ic made =
      subst (λ y. SameRows n y new) (sym is)
      (subst (λ y. SameRows n (t.Outer l r s c) y)
      (sym (made ∙ ap (λ (y : Expr). t.Outer left right s y) ic))
      (same_outer n m l r left right s c im sl sr))

  pub mark_made : (c c1 : Expr) → tree ≡ t.Mark l r s c → SameRows n l left
      → m ≡ side_width (side_of s) n → SameRows m r right → c1 ≡ c → new ≡ t.Mark left right s c1
      → SameRows n tree new
  mark_made c c1 is sl im sr ic made =
      subst (λ y. SameRows n y new) (sym is)
      (subst (λ y. SameRows n (t.Mark l r s c) y)
      (sym (made ∙ ap (λ (y : Expr). t.Mark left right s y) ic))
      (same_mark n m l r left right s c im sl sr))

  pub single_made : (i : ℕ) → tree ≡ t.Single l r s i → SameRows n l left
      → m ≡ side_width (side_of s) n → SameRows m r right → new ≡ t.Single left right s i
      → SameRows n tree new
  single_made i is sl im sr made =
      subst (λ y. SameRows n y new) (sym is)
      (subst (λ y. SameRows n (t.Single l r s i) y) (sym made)
      (same_single n m l r left right s i im sl sr))
