-- Left outer joins without the columns that nobody reads.
use Rattle.std.proofs.Common.{◌≡◌, ℕ, zero, suc, ◌+◌, ◌<◌, List, [], ◌∷◌, ◌++◌, map, refl, sym, ◌∙◌}
use Rattle.std.proofs.Common.{ap, subst, arith, length, true, false, cond, slice_index_or}
use Rattle.std.proofs.Math.Dec.{ltb}
use Rattle.std.specs.Prelude.{min, replicate}
use Rattle.std.specs.List.{All, flat_map}
use Rattle.std.proofs.lemmas.List.{append_assoc, length-append, length-map, map-append}
use Rattle.std.proofs.lemmas.List.Elements.{All-append, All-nil, All-cons, All-head, All-tail}
use Rattle.base_row_laws.specs.Ranked.{Ranked, ranked}
use Rattle.base_row_laws.specs.Bags.{SameBag, Each}
use Rattle.base_row_laws.specs.Rows.{keep}
use Rattle.base_row_laws.specs.Operators.{project, pair, or_else, outer_loop}
use Rattle.base_row_laws.specs.JoinGroups.{Width}
use Rattle.base_row_laws.specs.Trees.{side_width}
use Rattle.base_row_laws.proofs.Bags.{SameBag-refl, SameBag-append}
use Rattle.base_row_laws.proofs.Lists.{Each-all, Each-weaker}
use Rattle.base_row_laws.proofs.Nodes.{map-or_else}
use Rattle.base_row_laws.proofs.Alike.{outer_loop_alike}
use Rattle.base_value.specs.declared.value.Value.{Value}
use Rattle.base_value.specs.declared.value.Value.TheVariants.{Null}
use Rattle.expr_scalar.specs.declared.expr.Expr.{Expr}
use Rattle.expr_scalar.specs.Rename.{gathered, IsRenamed}
use Rattle.expr_conditions.specs.Ranks.{rank_of, says}
use Rattle.expr_conditions.proofs.Ranks.{rank_renamed}
use Rattle.expr_conditions.proofs.Gather.{gather_append}
use Rattle.plan_algebra.specs.declared.tree.DepTree.{DepTree}
use Rattle.plan_algebra.specs.declared.tree.DepTree.TheVariants as t
use Rattle.plan_algebra.specs.declared.tree.Side.{Side}
use Rattle.plan_algebra.specs.Trees.{Database, HasKinds, width_of, tree_rows, right_row}
use Rattle.plan_algebra.specs.Trees.{side_of}
use Rattle.plan_algebra.proofs.Opened.{width_Outer, rows_Outer, scans_Outer}
use Rattle.plan_predicate_sinking.specs.Arranged.{SameRows}
use Rattle.plan_predicate_sinking.specs.Narrow.{IsNarrowed, IsFound, whole_columns}
use Rattle.plan_tree_moves.specs.Prune.{Keeps, SideMoves, BothMove}
use Rattle.plan_predicate_sinking.proofs.Good.{tree_is_good}
use Rattle.plan_predicate_sinking.proofs.Narrowing.{before, shifted, kept_row, found_rank}
use Rattle.plan_tree_moves.proofs.Pruning.{keeps_over}
use Rattle.plan_predicate_sinking.proofs.SameNodes.{SameRows-refl, alike, same_outer, side_length}
use Rattle.plan_predicate_sinking.proofs.Scans.{as_bags, same_list}

-- a condition over the columns that are left of both sides
pub both_move : (n : ℕ) (kept whole both places : List ℕ) (w from : ℕ) (own : List ℕ)
    (c c2 new : Expr) → whole ≡ whole_columns n kept → from ≡ n + w
    → both ≡ whole ++ map (λ c. from + c) own → IsFound places both c → IsRenamed places c c2
    → new ≡ c2 → BothMove n kept w own c new
both_move n kept whole both places w from own c c2 new is from_is both_is f ren made =
    subst (λ y. BothMove n kept w own c y) (sym made) (record {
      says = λ below d x y ld lx.
          let z = (d ++ x) ++ y in
          let run = map (λ c. from + c) own in
          let e1 : gathered whole z ≡ d ++ gathered kept x =
          ap (gathered whole) (append_assoc d x y) ∙ ap (λ l. gathered l (d ++ (x ++ y))) is
          ∙ kept_row n kept d (x ++ y) ld ∙ ap (λ l. d ++ l) (before kept x y w lx below) in
          let lz : length (d ++ x) ≡ from =
          length-append d x ∙ ap (λ m. m + length x) ld ∙ ap (λ m. n + m) lx ∙ sym from_is in
          let both_row : (d ++ gathered kept x) ++ gathered own y ≡ gathered both z =
          sym (ap (λ l. gathered l z) both_is ∙ gather_append whole run z
          ∙ ap (λ l. l ++ gathered run z) e1
          ∙ ap (λ l. (d ++ gathered kept x) ++ l) (shifted own (d ++ x) y from lz)) in
          ap (rank_of c2) both_row ∙ rank_renamed places c c2 (gathered both z) ren
          ∙ found_rank places both z c f;
    })

-- Outer loops over some columns of both sides.
module _ (f h g : List Value → List Value) (c e : List Value → ℕ) where
  keep_projected : (r : List Value) (s : ℕ) → keep (g r) s ≡ project g (keep r s)
  keep_projected r s =
      elim (ltb 1 s) as (λ b. cond b (ranked (g r) s ∷ []) [] ≡ project g (cond b (ranked r s ∷ []) []))
      [ true ↦ refl | false ↦ refl ]

  project-append : (xs ys : List (Ranked Value)) → project g (xs ++ ys) ≡ project g xs ++ project g ys
  project-append xs ys = map-append (λ x. ranked (g x.values) x.standing) xs ys

  abbrev now : Ranked Value → List (Ranked Value) → List (Ranked Value)
  now l us = flat_map (λ r. pair e (λ a b. a ++ b) (ranked (f l.values) l.standing) r) us

  abbrev was : Ranked Value → List (Ranked Value) → List (Ranked Value)
  was l us = flat_map (λ r. pair c (λ a b. a ++ b) l r) us

  combinations : (l : Ranked Value) (us : List (Ranked Value))
      → Each (λ r. (g (l.values ++ r.values) ≡ f l.values ++ h r.values)
      × (e (f l.values ++ h r.values) ≡ c (l.values ++ r.values))) us
      → now l (project h us) ≡ project g (was l us)
  combinations l [] all = refl
  combinations l (u ∷ us) all =
      let z = l.values ++ u.values in
      let s = min l.standing u.standing in
      ap (λ m. keep (f l.values ++ h u.values) (min s m) ++ now l (project h us)) all.0.1
      ∙ ap (λ v. keep v (min s (c z)) ++ now l (project h us)) (sym all.0.0)
      ∙ ap (λ k. k ++ now l (project h us)) (keep_projected z (min s (c z)))
      ∙ ap (λ k. project g (keep z (min s (c z))) ++ k) (combinations l us all.1)
      ∙ sym (project-append (keep z (min s (c z))) (was l us))

  pub outer_projected : (nulls fewer : List Value) (ls : List (Ranked Value))
      (R S : List Value → List (Ranked Value))
      → Each (λ l. Each (λ r. (g (l.values ++ r.values) ≡ f l.values ++ h r.values)
      × (e (f l.values ++ h r.values) ≡ c (l.values ++ r.values))) (R l.values)) ls
      → Each (λ l. g (l.values ++ nulls) ≡ f l.values ++ fewer) ls
      → Each (λ l. S (f l.values) ≡ project h (R l.values)) ls
      → outer_loop fewer e (project f ls) S ≡ project g (outer_loop nulls c ls R)
  outer_projected nulls fewer [] R S all filled rights = refl
  outer_projected nulls fewer (l ∷ ls) R S all filled rights =
      let M = was l (R l.values) in
      let z = ranked (l.values ++ nulls) l.standing in
      let rest = outer_loop nulls c ls R in
      let more = outer_loop fewer e (project f ls) S in
      let y = ranked (f l.values ++ fewer) l.standing in
      ap (λ us. or_else (now l us) y ++ more) rights.0
      ∙ ap (λ k. or_else k y ++ more) (combinations l (R l.values) all.0)
      ∙ ap (λ v. or_else (project g M) (ranked v l.standing) ++ more) (sym filled.0)
      ∙ ap (λ k. k ++ more) (map-or_else (λ x. ranked (g x.values) x.standing) M z)
      ∙ ap (λ k. project g (or_else M z) ++ k)
      (outer_projected nulls fewer ls R S all.1 filled.1 rights.1)
      ∙ sym (project-append (or_else M z) rest)

null_at : (k p : ℕ) → slice_index_or (replicate k Null) p Null ≡ Null
null_at zero p = refl
null_at (suc k) zero = refl
null_at (suc k) (suc p) = null_at k p

nulls_gathered : (own : List ℕ) (k : ℕ)
    → gathered own (replicate k Null) ≡ replicate (length own) Null
unfolding gathered
nulls_gathered [] k = refl
nulls_gathered (p ∷ ps) k =
    ap (λ v. v ∷ gathered ps (replicate k Null)) (null_at k p)
    ∙ ap (λ l. Null ∷ l) (nulls_gathered ps k)

-- the columns that are left of a left row, and those of a right row
both_rows : (kept own : List ℕ) (w : ℕ) (x y : List Value) → length x ≡ w → All (λ c. c < w) kept
    → gathered (kept ++ map (λ c. w + c) own) (x ++ y) ≡ gathered kept x ++ gathered own y
both_rows kept own w x y lx below =
    let run = map (λ c. w + c) own in
    gather_append kept run (x ++ y)
    ∙ ap (λ l. l ++ gathered run (x ++ y)) (before kept x y w lx below)
    ∙ ap (λ l. gathered kept x ++ l) (shifted own x y w lx)

moved_below : (m w k : ℕ) (own : List ℕ) → m ≡ w + k → All (λ c. c < k) own
    → All (λ c. c < m) (map (λ c. w + c) own)
moved_below m w k [] is all = All-nil (λ c. c < m)
moved_below m w k (p ∷ ps) is all =
    let h : p < k = All-head (λ c. c < k) p ps all in
    All-cons (λ c. c < m) (w + p) (map (λ c. w + c) ps) (omega (arith, h, is))
    (moved_below m w k ps is (All-tail (λ c. c < k) p ps all))

both_below : (m : ℕ) (kept own : List ℕ) (w k : ℕ) → m ≡ w + k → All (λ c. c < w) kept
    → All (λ c. c < k) own → All (λ c. c < m) (kept ++ map (λ c. w + c) own)
both_below m kept own w k is all under =
    All-append (λ c. c < m) kept (map (λ c. w + c) own)
    (λ j q there. let h = all j q there in omega (arith, h, is))
    (moved_below m w k own is under)

module _ (n m : ℕ) (a new right fewer : DepTree) (kept own : List ℕ) (w : ℕ) (side moved : Side)
    (wide : w ≡ width_of a) (k1 : Keeps n a kept new) (m_is : m ≡ side_width (side_of side) n)
    (nar : IsNarrowed m right own fewer) (own_below : All (λ c. c < width_of right) own) where
  abbrev G : List Value → List Value
  G x = gathered kept x

  left_below : All (λ c. c < w) kept
  left_below = subst (λ v. All (λ c. c < v) kept) (sym wide) k1.below

  abbrev both : List ℕ
  both = kept ++ map (λ c. w + c) own

  module _ (c c2 : Expr) (sides : SideMoves n kept side moved) (moves : BothMove n kept w own c c2)
      (db : Database) (d : List Value) (kinds : HasKinds db) (ld : length d ≡ n) where
    abbrev A : List (Ranked Value)
    A = tree_rows a db d

    abbrev R : List Value → List (Ranked Value)
    R x = tree_rows right db (right_row side d x)

    abbrev S : List Value → List (Ranked Value)
    S x = tree_rows fewer db (right_row moved d x)

    left_wide : Each (λ x. length x.values ≡ w) A
    left_wide = subst (λ v. Width v A) (sym wide) (tree_is_good a db d kinds).wide

    said : (x y : List Value) → length x ≡ w
        → says c2 d (G x ++ gathered own y) ≡ says c d (x ++ y)
    unfolding says
    said x y lx =
        ap (rank_of c2) (sym (append_assoc d (G x) (gathered own y)))
        ∙ moves.says left_below d x y ld lx ∙ ap (rank_of c) (append_assoc d x y)

    rights : (x : List Value) → S (G x) ≡ project (gathered own) (R x)
    rights x = ap (tree_rows fewer db) (sides.reads d x ld)
        ∙ nar.rows db (right_row side d x) kinds (side_length side n d x ld ∙ sym m_is)

    loops : outer_loop (replicate (width_of fewer) Null) (says c2 d) (project (gathered kept) A) S
        ≡ project (gathered both) (outer_loop (replicate (width_of right) Null) (says c d) A R)
    loops =
        outer_projected (gathered kept) (gathered own) (gathered both) (says c d) (says c2 d)
        (replicate (width_of right) Null) (replicate (width_of fewer) Null) A R S
        (Each-weaker (λ x. length x.values ≡ w) _ A
        (λ x lx. Each-all _ (R x.values)
        (λ y. (
          both_rows kept own w x.values y.values lx left_below,
          said x.values y.values lx,
        ))) left_wide)
        (Each-weaker (λ x. length x.values ≡ w) _ A
        (λ x lx. both_rows kept own w x.values (replicate (width_of right) Null) lx left_below
        ∙ ap (λ l. G x.values ++ l)
        (nulls_gathered own (width_of right) ∙ ap (λ k. replicate k Null) (sym nar.width)))
        left_wide)
        (Each-all _ A (λ x. rights x.values))

  pub keeps_outer : (c c2 : Expr) (made : DepTree) (now : List ℕ)
      → SideMoves n kept side moved → BothMove n kept w own c c2
      → made ≡ t.Outer new fewer moved c2 → now ≡ both
      → Keeps n (t.Outer a right side c) now made
  keeps_outer c c2 made now sides moves made_is now_is =
      subst (λ l. Keeps n (t.Outer a right side c) l made) (sym now_is)
      (subst (λ y. Keeps n (t.Outer a right side c) both y) (sym made_is) (record {
        scans = as_bags (scans_Outer a right side c) (scans_Outer new fewer moved c2)
            (SameBag-append k1.scans (same_list nar.scans));
        width =
            let one = width_Outer new fewer moved c2 in
            let two = length-append kept (map (λ c. w + c) own) in
            let three = length-map own (λ c. w + c) in
            let four = k1.width in
            let five = nar.width in
            omega (arith, one, two, three, four, five);
        below =
            let one = width_Outer a right side c in
            both_below (width_of (t.Outer a right side c)) kept own w (width_of right)
            (omega (arith, one, wide)) left_below own_below;
        rows = λ db d kinds ld.
            let under : List Value → List (Ranked Value) =
            λ x. tree_rows fewer db (right_row moved d x) in
            let nulls = replicate (width_of fewer) Null in
            alike (rows_Outer new fewer moved c2 db d)
            (ap (project (gathered both)) (rows_Outer a right side c db d))
            (subst (λ l. SameBag (outer_loop nulls (says c2 d) (tree_rows new db d) under) l)
            (loops c c2 sides moves db d kinds ld)
            (outer_loop_alike nulls (says c2 d) (tree_rows new db d)
            (project (gathered kept) (tree_rows a db d)) under under (k1.rows db d kinds ld)
            (Each-all (λ x. SameBag (under x.values) (under x.values)) (tree_rows new db d)
            (λ x. SameBag-refl (under x.values)))));
      }))

-- the arm
pub outer_slimmed : (n m : ℕ) (tree l l1 l2 r new right made : DepTree) (kept now : List ℕ) (w : ℕ)
    (side : Side) → l1 ≡ l → l2 ≡ l → w ≡ width_of l1 → Keeps n l2 kept new
    → m ≡ side_width (side_of side) n → SameRows m r right → (c c1 : Expr)
    → tree ≡ t.Outer l r side c → c1 ≡ c
    → ((x : DepTree) → w ≡ width_of x → Keeps n x kept new
    → Keeps n (t.Outer x right side c1) now made) → Keeps n tree now made
outer_slimmed n m tree l l1 l2 r new right made kept now w side is_wide is_left wide k1 m_is same c c1 is ic makes =
    subst (λ y. Keeps n y now made) (sym is)
    (keeps_over n (t.Outer l r side c) (t.Outer l right side c) made now
    (same_outer n m l r l right side c m_is (SameRows-refl n l l refl) same)
    (subst (λ y. Keeps n (t.Outer l right side y) now made) ic
    (makes l (wide ∙ ap width_of is_wide) (subst (λ y. Keeps n y kept new) is_left k1))))
