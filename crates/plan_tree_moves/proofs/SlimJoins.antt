-- A join without some columns of its left side.
use Rattle.std.proofs.Common.{◌≡◌, ℕ, zero, suc, ◌+◌, ◌<◌, ◌≤◌, List, [], ◌++◌, refl, sym, ◌∙◌}
use Rattle.std.proofs.Common.{ap, subst, arith, length}
use Rattle.std.specs.List.{All}
use Rattle.std.proofs.lemmas.List.{append_assoc, append-nil, length-append}
use Rattle.std.proofs.lemmas.List.Elements.{All-append, All-nil, All-cons}
use Rattle.base_row_laws.specs.Ranked.{Ranked}
use Rattle.base_row_laws.specs.Bags.{SameBag, Each}
use Rattle.base_row_laws.specs.Operators.{project, join_loop}
use Rattle.base_row_laws.specs.JoinGroups.{Width}
use Rattle.base_row_laws.specs.Trees.{side_width}
use Rattle.base_row_laws.proofs.Bags.{SameBag-refl, SameBag-append}
use Rattle.base_row_laws.proofs.Lists.{Each-all, Each-weaker}
use Rattle.base_row_laws.proofs.Alike.{join_loop_alike}
use Rattle.base_row_laws.proofs.AtHand.{join_at_hand}
use Rattle.base_row_laws.proofs.Attached.{project_out_of_join}
use Rattle.base_value.specs.declared.value.Value.{Value}
use Rattle.expr_scalar.specs.declared.expr.Expr.{Expr}
use Rattle.expr_scalar.specs.Rename.{gathered}
use Rattle.expr_conditions.specs.Ranks.{columns_from, rank_of, says}
use Rattle.expr_conditions.proofs.Gather.{gather_append, gather_at}
use Rattle.plan_algebra.specs.declared.tree.DepTree.{DepTree}
use Rattle.plan_algebra.specs.declared.tree.DepTree.TheVariants as t
use Rattle.plan_algebra.specs.declared.tree.Side.{Side}
use Rattle.plan_algebra.specs.Trees.{Database, HasKinds, scans_of, width_of, tree_rows, right_row}
use Rattle.plan_algebra.specs.Trees.{side_of}
use Rattle.plan_algebra.proofs.Opened.{width_Join, rows_Join, scans_Join}
use Rattle.plan_predicate_sinking.specs.Arranged.{SameRows}
use Rattle.plan_tree_moves.specs.Prune.{Keeps, SideMoves, ConditionMoves}
use Rattle.plan_predicate_sinking.proofs.Good.{tree_is_good, length-columns_from}
use Rattle.plan_predicate_sinking.proofs.Narrowing.{before}
use Rattle.plan_tree_moves.proofs.Pruning.{keeps_over}
use Rattle.plan_predicate_sinking.proofs.SameNodes.{SameRows-refl, alike, same_join}
use Rattle.plan_predicate_sinking.proofs.Scans.{as_bags}

-- the columns that are left of a left row, and a right row
run_more : (kept : List ℕ) (w k : ℕ) (x y : List Value) → length x ≡ w → length y ≡ k
    → All (λ c. c < w) kept → gathered (kept ++ columns_from w k) (x ++ y) ≡ gathered kept x ++ y
run_more kept w k x y lx ly below =
    let run = columns_from w k in
    gather_append kept run (x ++ y)
    ∙ ap (λ l. l ++ gathered run (x ++ y)) (before kept x y w lx below)
    ∙ ap (λ l. gathered kept x ++ l)
    (gather_at w k (x ++ y) x y [] (ap (λ l. x ++ l) (sym (append-nil y))) lx ly)

run_below : (m w k : ℕ) → w + k ≤ m → All (λ c. c < m) (columns_from w k)
run_below m w zero h = All-nil (λ c. c < m)
run_below m w (suc k) h =
    All-cons (λ c. c < m) w (columns_from (suc w) k) (omega (arith, h))
    (run_below m (suc w) k (omega (arith, h)))

below_run : (m : ℕ) (kept : List ℕ) (w k : ℕ) → m ≡ w + k → All (λ c. c < w) kept
    → All (λ c. c < m) (kept ++ columns_from w k)
below_run m kept w k is all =
    All-append (λ c. c < m) kept (columns_from w k)
    (λ j q there. let h = all j q there in omega (arith, h, is))
    (run_below m w k (omega (arith, is)))

module _ (n : ℕ) (a new right : DepTree) (kept : List ℕ) (w : ℕ) (side moved : Side)
    (wide : w ≡ width_of a) (k1 : Keeps n a kept new) where
  abbrev G : List Value → List Value
  G x = gathered kept x

  left_below : All (λ c. c < w) kept
  left_below = subst (λ m. All (λ c. c < m) kept) (sym wide) k1.below

  module _ (k : ℕ) (c c2 : Expr) (right_wide : k ≡ width_of right) (sides : SideMoves n kept side moved)
      (moves : ConditionMoves n kept w k c c2) (db : Database) (d : List Value)
      (kinds : HasKinds db) (ld : length d ≡ n) where
    abbrev H : List Value → List Value
    H z = gathered (kept ++ columns_from w k) z

    abbrev A : List (Ranked Value)
    A = tree_rows a db d

    abbrev R : List Value → List (Ranked Value)
    R x = tree_rows right db (right_row side d x)

    abbrev S : List Value → List (Ranked Value)
    S x = tree_rows right db (right_row moved d x)

    left_wide : Each (λ x. length x.values ≡ w) A
    left_wide = subst (λ m. Width m A) (sym wide) (tree_is_good a db d kinds).wide

    under_wide : (row : List Value) → Each (λ y. length y.values ≡ k) (tree_rows right db row)
    under_wide row = subst (λ m. Width m (tree_rows right db row)) (sym right_wide)
        (tree_is_good right db row kinds).wide

    said : (x y : List Value) → length x ≡ w → length y ≡ k
        → says c2 d (H (x ++ y)) ≡ says c d (x ++ y)
    unfolding says
    said x y lx ly =
        ap (λ l. rank_of c2 (d ++ l)) (run_more kept w k x y lx ly left_below)
        ∙ ap (rank_of c2) (sym (append_assoc d (G x) y))
        ∙ moves.says left_below d x y ld lx ly ∙ ap (rank_of c) (append_assoc d x y)

    loops : join_loop (says c2 d) (project (gathered kept) A) S
        ≡ project (gathered (kept ++ columns_from w k)) (join_loop (says c d) A R)
    loops =
        project_out_of_join (gathered kept) (gathered (kept ++ columns_from w k)) (says c2 d) A S
        (Each-weaker (λ x. length x.values ≡ w)
        (λ x. Each (λ y. H (x.values ++ y.values) ≡ G x.values ++ y.values) (S (G x.values))) A
        (λ x lx. Each-weaker (λ y. length y.values ≡ k)
        (λ y. H (x.values ++ y.values) ≡ G x.values ++ y.values) (S (G x.values))
        (λ y ly. run_more kept w k x.values y.values lx ly left_below)
        (under_wide (right_row moved d (G x.values)))) left_wide)
        ∙ ap (project (gathered (kept ++ columns_from w k)))
        ((λ i. join_loop (λ r. says c2 d (H r)) A (λ x. tree_rows right db (sides.reads d x ld i)))
        ∙ join_at_hand (λ r. says c2 d (H r)) (says c d) A R
        (Each-weaker (λ x. length x.values ≡ w)
        (λ x. Each (λ y. says c2 d (H (x.values ++ y.values)) ≡ says c d (x.values ++ y.values))
        (R x.values)) A
        (λ x lx. Each-weaker (λ y. length y.values ≡ k)
        (λ y. says c2 d (H (x.values ++ y.values)) ≡ says c d (x.values ++ y.values)) (R x.values)
        (λ y ly. said x.values y.values lx ly) (under_wide (right_row side d x.values)))
        left_wide))

  pub keeps_join : (k : ℕ) (c c2 : Expr) (made : DepTree) (now : List ℕ) → k ≡ width_of right
      → SideMoves n kept side moved → ConditionMoves n kept w k c c2
      → made ≡ t.Join new right moved c2 → now ≡ kept ++ columns_from w k
      → Keeps n (t.Join a right side c) now made
  keeps_join k c c2 made now right_wide sides moves made_is now_is =
      let run = kept ++ columns_from w k in
      subst (λ l. Keeps n (t.Join a right side c) l made) (sym now_is)
      (subst (λ y. Keeps n (t.Join a right side c) run y) (sym made_is) (record {
        scans = as_bags (scans_Join a right side c) (scans_Join new right moved c2)
            (SameBag-append k1.scans (SameBag-refl (scans_of right)));
        width =
            let one = width_Join new right moved c2 in
            let two = length-append kept (columns_from w k) in
            let three = length-columns_from w k in
            let four = k1.width in
            omega (arith, one, two, three, four, right_wide);
        below =
            let one = width_Join a right side c in
            below_run (width_of (t.Join a right side c)) kept w k (omega (arith, one, wide, right_wide))
            left_below;
        rows = λ db d kinds ld.
            let under : List Value → List (Ranked Value) =
            λ x. tree_rows right db (right_row moved d x) in
            alike (rows_Join new right moved c2 db d)
            (ap (project (gathered run)) (rows_Join a right side c db d))
            (subst (λ l. SameBag (join_loop (says c2 d) (tree_rows new db d) under) l)
            (loops k c c2 right_wide sides moves db d kinds ld)
            (join_loop_alike (says c2 d) (tree_rows new db d)
            (project (gathered kept) (tree_rows a db d)) under under (k1.rows db d kinds ld)
            (Each-all (λ x. SameBag (under x.values) (under x.values)) (tree_rows new db d)
            (λ x. SameBag-refl (under x.values)))));
      }))

-- the arm
pub join_slimmed : (n m : ℕ) (tree l l1 l2 r new right made : DepTree) (kept now : List ℕ) (w : ℕ)
    (side : Side) → l1 ≡ l → l2 ≡ l → w ≡ width_of l1 → Keeps n l2 kept new
    → m ≡ side_width (side_of side) n → SameRows m r right → (c c1 : Expr)
    → tree ≡ t.Join l r side c → c1 ≡ c
    → ((x : DepTree) → w ≡ width_of x → Keeps n x kept new
    → Keeps n (t.Join x right side c1) now made) → Keeps n tree now made
join_slimmed n m tree l l1 l2 r new right made kept now w side is_wide is_left wide k1 m_is same c c1 is ic makes =
    subst (λ y. Keeps n y now made) (sym is)
    (keeps_over n (t.Join l r side c) (t.Join l right side c) made now
    (same_join n m l r l right side c m_is (SameRows-refl n l l refl) same)
    (subst (λ y. Keeps n (t.Join l right side y) now made) ic
    (makes l (wide ∙ ap width_of is_wide) (subst (λ y. Keeps n y kept new) is_left k1))))
