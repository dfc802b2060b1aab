-- Trees without columns that nobody reads have the rows that are asked for.
use Rattle.std.proofs.Common.{◌≡◌, ℕ, ◌+◌, ◌<◌, List, [], ◌∷◌, ◌++◌, map, refl, sym, ◌∙◌, ap, subst}
use Rattle.std.proofs.Common.{arith, suc, length, slice_index_or}
use Rattle.std.specs.Prelude.{min, max}
use Rattle.std.specs.List.{All}
use Rattle.std.proofs.lemmas.List.{append_assoc, append-nil, length-append, length-map}
use Rattle.std.proofs.lemmas.List.{get_or-append-add}
use Rattle.std.proofs.lemmas.List.Elements.{All-append, All-nil, All-cons}
use Rattle.base_row_laws.specs.Ranked.{Ranked, ranked}
use Rattle.base_row_laws.specs.Bags.{SameBag, Each, top}
use Rattle.base_row_laws.specs.Rows.{columns}
use Rattle.base_row_laws.specs.Operators.{select, project, attach_loop}
use Rattle.base_row_laws.specs.JoinGroups.{Width}
use Rattle.base_row_laws.specs.Trees.{side_width}
use Rattle.base_row_laws.proofs.Bags.{SameBag-refl, SameBag-sym, SameBag-trans, SameBag-append}
use Rattle.base_row_laws.proofs.Lists.{Each-all, Each-weaker}
use Rattle.base_row_laws.proofs.Alike.{select_alike, project_alike, attach_loop_alike}
use Rattle.base_row_laws.proofs.AtHand.{select_at_hand, project_at_hand}
use Rattle.base_row_laws.proofs.Moves.{select_through_project}
use Rattle.base_row_laws.proofs.Projections.{project_twice}
use Rattle.base_value.specs.declared.value.Value.{Value}
use Rattle.base_value.specs.declared.value.Value.TheVariants.{Null}
use Rattle.expr_aggregates.specs.Values.{written}
use Rattle.expr_scalar.specs.declared.expr.Expr.{Expr}
use Rattle.expr_scalar.specs.declared.expr.Expr.TheVariants as e
use Rattle.expr_scalar.specs.Meaning.{values}
use Rattle.expr_scalar.specs.Rename.{gathered, IsRenamed}
use Rattle.expr_conditions.specs.Ranks.{columns_from, rank_of, says, AreRenamed}
use Rattle.expr_conditions.proofs.Ranks.{rank_renamed}
use Rattle.expr_conditions.proofs.Gather.{gather_append, gather_at}
use Rattle.plan_algebra.specs.declared.aggregate.Aggregate.{Aggregate}
use Rattle.plan_algebra.specs.declared.tree.DepTree.{DepTree}
use Rattle.plan_algebra.specs.declared.tree.DepTree.TheVariants as t
use Rattle.plan_algebra.specs.declared.tree.Side.{Side}
use Rattle.plan_algebra.specs.declared.tree.Side.TheVariants.{Closed, Shared, Dependent}
use Rattle.plan_algebra.specs.Trees.{Database, HasKinds, scans_of, width_of, tree_rows, right_row}
use Rattle.plan_algebra.specs.Trees.{side_of, listed, mark_under, scalar_at}
use Rattle.plan_algebra.proofs.Opened.{width_Select, width_Project, width_Mark, width_Single}
use Rattle.plan_algebra.proofs.Opened.{rows_Select, rows_Project, rows_Mark, rows_Single, scans_Select}
use Rattle.plan_algebra.proofs.Opened.{scans_Project, scans_Mark, scans_Single}
use Rattle.plan_predicate_sinking.specs.Arranged.{SameRows}
use Rattle.plan_predicate_sinking.specs.Narrow.{IsNarrowed, IsFound, whole_columns}
use Rattle.plan_tree_moves.specs.Prune.{Keeps, SideMoves, ConditionMoves}
use Rattle.plan_tree_moves.specs.Regroup.{KeysMove, AggregatesMove}
use Rattle.plan_predicate_sinking.proofs.Conditions.{renamed_length}
use Rattle.plan_predicate_sinking.proofs.Good.{tree_is_good}
use Rattle.plan_predicate_sinking.proofs.Narrowing.{before, kept_row, found_rank, found_values, listed_after}
use Rattle.plan_tree_moves.proofs.Regrouping.{regrouped}
use Rattle.plan_predicate_sinking.proofs.SameNodes.{SameRows-refl, alike, same_group, same_mark, same_single}
use Rattle.plan_predicate_sinking.proofs.SameNodes.{mark_is_bag, scalar_is_bag}
use Rattle.plan_predicate_sinking.proofs.Scans.{as_bags, same_list}
use Rattle.plan_predicate_sinking.proofs.Sinking.{trans}

pub keeps_of : (n : ℕ) (a b new : DepTree) (own : List ℕ) → IsNarrowed n b own new
    → All (λ c. c < width_of b) own → SameRows n a b → Keeps n a own new
keeps_of n a b new own nar below s = record {
  scans = SameBag-trans s.scans (same_list nar.scans);
  width = nar.width;
  below = subst (λ m. All (λ c. c < m) own) (sym s.width) below;
  rows = λ db d k ld.
      let A = tree_rows a db d in
      subst (λ l. SameBag l (project (gathered own) A)) (sym (nar.rows db d k ld))
      (project_alike (gathered own) (tree_rows b db d) A (SameBag-sym (s.rows db d k ld)));
}

pub keeps_over : (n : ℕ) (a b new : DepTree) (own : List ℕ) → SameRows n a b → Keeps n b own new
    → Keeps n a own new
keeps_over n a b new own s k1 = record {
  scans = SameBag-trans s.scans k1.scans;
  width = k1.width;
  below = subst (λ m. All (λ c. c < m) own) (sym s.width) k1.below;
  rows = λ db d k ld. SameBag-trans (k1.rows db d k ld)
      (project_alike (gathered own) (tree_rows b db d) (tree_rows a db d)
      (SameBag-sym (s.rows db d k ld)));
}

-- The rows of the columns that are left, after a domain row.
module _ (n : ℕ) (kept whole places : List ℕ) (is : whole ≡ whole_columns n kept) (d : List Value)
    (ld : length d ≡ n) where
  row : (x : List Value) → d ++ gathered kept x ≡ gathered whole (d ++ x)
  row x = sym (ap (λ l. gathered l (d ++ x)) is ∙ kept_row n kept d x ld)

  condition : (c c2 : Expr) → IsFound places whole c → IsRenamed places c c2 → (x : List Value)
      → says c2 d (gathered kept x) ≡ says c d x
  unfolding says
  condition c c2 f ren x = ap (rank_of c2) (row x)
      ∙ rank_renamed places c c2 (gathered whole (d ++ x)) ren
      ∙ found_rank places whole (d ++ x) c f

  list_row : (es list : List Expr) → All (IsFound places whole) es → AreRenamed places es list
      → (x : List Value) → listed list d (gathered kept x) ≡ listed es d x
  unfolding listed
  list_row es list f ren x = ap (values list) (row x) ∙ ren.values (gathered whole (d ++ x))
      ∙ found_values places whole (d ++ x) es f

pub keeps_select : (n : ℕ) (a new made : DepTree) (kept whole places : List ℕ) (c c2 : Expr)
    → whole ≡ whole_columns n kept → IsFound places whole c → IsRenamed places c c2
    → made ≡ t.Select new c2
    → Keeps n a kept new → Keeps n (t.Select a c) kept made
keeps_select n a new made kept whole places c c2 is f ren made_is k1 =
    subst (λ y. Keeps n (t.Select a c) kept y) (sym made_is) (record {
      scans = as_bags (scans_Select a c) (scans_Select new c2) k1.scans;
      width = width_Select new c2 ∙ k1.width;
      below = subst (λ m. All (λ c. c < m) kept) (sym (width_Select a c)) k1.below;
      rows = λ db d k ld.
          let A = tree_rows a db d in
          let G = gathered kept in
          let P = says c d in
          let Q = says c2 d in
          let one : select (λ r. Q (G r)) A ≡ select P A =
          select_at_hand (λ r. Q (G r)) P A
          (Each-all (λ x. Q (G x.values) ≡ P x.values) A
          (λ x. condition n kept whole places is d ld c c2 f ren x.values)) in
          alike (rows_Select new c2 db d) (ap (project G) (rows_Select a c db d))
          (SameBag-trans (select_alike Q (tree_rows new db d) (project G A) (k1.rows db d k ld))
          (subst (λ l. SameBag (select Q (project G A)) (project G l)) one
          (select_through_project Q G A)));
    })

-- What is attached to rows of some columns is attached to the rows.
attached_projected : (F H : List Value → List (Ranked Value) → Value)
    (R S : List Value → List (Ranked Value)) (g h : List Value → List Value)
    (xs : List (Ranked Value))
    → Each (λ (x : Ranked Value). (H (g x.values) (S (g x.values)) ≡ F x.values (R x.values))
    × (h (x.values ++ F x.values (R x.values) ∷ []) ≡ g x.values ++ F x.values (R x.values) ∷ []))
    xs
    → attach_loop H (project g xs) S ≡ project h (attach_loop F xs R)
attached_projected F H R S g h [] all = refl
attached_projected F H R S g h (x ∷ xs) all =
    ap (λ v. ranked (g x.values ++ v ∷ []) x.standing ∷ attach_loop H (project g xs) S) all.0.0
    ∙ ap (λ v. ranked v x.standing ∷ attach_loop H (project g xs) S) (sym all.0.1)
    ∙ ap (λ l. ranked (h (x.values ++ F x.values (R x.values) ∷ [])) x.standing ∷ l)
    (attached_projected F H R S g h xs all.1)

top_each : (f g : Ranked Value → ℕ) (us : List (Ranked Value)) → Each (λ u. f u ≡ g u) us
    → top f us ≡ top g us
top_each f g [] all = refl
top_each f g (u ∷ us) all = ap (λ m. max m (top f us)) all.0
    ∙ ap (λ m. max (g u) m) (top_each f g us all.1)

-- the columns that are left of a left row, and one more
one_more : (kept : List ℕ) (w : ℕ) (x : List Value) (v : Value) → length x ≡ w
    → All (λ c. c < w) kept → gathered (kept ++ w ∷ []) (x ++ v ∷ []) ≡ gathered kept x ++ v ∷ []
unfolding gathered
one_more kept w x v lx below =
    gather_append kept (w ∷ []) (x ++ v ∷ [])
    ∙ ap (λ l. l ++ slice_index_or (x ++ v ∷ []) w Null ∷ []) (before kept x (v ∷ []) w lx below)
    ∙ ap (λ y. gathered kept x ++ y ∷ [])
    (ap (λ m. slice_index_or (x ++ v ∷ []) m Null) (sym lx ∙ plus_none (length x))
    ∙ get_or-append-add x (v ∷ []) 0 Null)
  where
    plus_none : (m : ℕ) → m ≡ m + 0
    plus_none m = omega arith

below_more : (kept : List ℕ) (w : ℕ) → All (λ c. c < w) kept → All (λ c. c < w + 1) (kept ++ w ∷ [])
below_more kept w all =
    All-append (λ c. c < w + 1) kept (w ∷ [])
    (λ j q there. let h = all j q there in omega (arith, h))
    (All-cons (λ c. c < w + 1) w [] (omega arith) (All-nil (λ c. c < w + 1)))

scalar_reads : (i : ℕ) (x y : List Value) (us : List (Ranked Value))
    → scalar_at i x us ≡ scalar_at i y us
unfolding scalar_at
scalar_reads i x y us = refl

-- a condition over a left row and a right row
pub condition_moves : (n : ℕ) (kept whole both places : List ℕ) (w k : ℕ) (c c2 new : Expr)
    → whole ≡ whole_columns n kept → both ≡ whole ++ columns_from (n + w) k → IsFound places both c
    → IsRenamed places c c2 → new ≡ c2
    → ConditionMoves n kept w k c new
condition_moves n kept whole both places w k c c2 new is both_is f ren made =
    subst (λ y. ConditionMoves n kept w k c y) (sym made) (record {
      says = λ below d x y ld lx ly.
          let z = (d ++ x) ++ y in
          let run = columns_from (n + w) k in
          let e1 : gathered whole z ≡ d ++ gathered kept x =
          ap (gathered whole) (append_assoc d x y) ∙ ap (λ l. gathered l (d ++ (x ++ y))) is
          ∙ kept_row n kept d (x ++ y) ld ∙ ap (λ l. d ++ l) (before kept x y w lx below) in
          let lz : length (d ++ x) ≡ n + w =
          length-append d x ∙ ap (λ m. m + length x) ld ∙ ap (λ m. n + m) lx in
          let e2 : gathered run z ≡ y =
          gather_at (n + w) k z (d ++ x) y [] (ap (λ l. (d ++ x) ++ l) (sym (append-nil y))) lz
          ly in
          let both_row : (d ++ gathered kept x) ++ y ≡ gathered both z =
          sym (ap (λ l. gathered l z) both_is ∙ gather_append whole run z
          ∙ ap (λ l. l ++ gathered run z) e1 ∙ ap (λ l. (d ++ gathered kept x) ++ l) e2) in
          ap (rank_of c2) both_row ∙ rank_renamed places c c2 (gathered both z) ren
          ∙ found_rank places both z c f;
    })

-- a mark, and a scalar value, of a left side without some columns
module _ (n : ℕ) (a new right : DepTree) (kept : List ℕ) (w : ℕ) (side moved : Side)
    (wide : w ≡ width_of a) (k1 : Keeps n a kept new) where
  abbrev G : List Value → List Value
  G x = gathered kept x

  -- where the values of each left row are the same
  attached_rows : (F H : List Value → List (Ranked Value) → Value) (db : Database) (d : List Value)
      → HasKinds db → length d ≡ n
      → ((x : List Value) → right_row moved d (G x) ≡ right_row side d x)
      → ((x : List Value) → length x ≡ w
      → H (G x) (tree_rows right db (right_row side d x))
      ≡ F x (tree_rows right db (right_row side d x)))
      → attach_loop H (project (gathered kept) (tree_rows a db d))
      (λ x. tree_rows right db (right_row moved d x))
      ≡ project (gathered (kept ++ w ∷ []))
      (attach_loop F (tree_rows a db d) (λ x. tree_rows right db (right_row side d x)))
  attached_rows F H db d k ld sides same =
      let A = tree_rows a db d in
      attached_projected F H (λ x. tree_rows right db (right_row side d x))
      (λ x. tree_rows right db (right_row moved d x)) (gathered kept) (gathered (kept ++ w ∷ [])) A
      (Each-weaker (λ x. length x.values ≡ width_of a) _ A
      (λ x v.
      let lx : length x.values ≡ w = v ∙ sym wide in (
        ap (λ r. H (G x.values) (tree_rows right db r)) (sides x.values) ∙ same x.values lx,
        one_more kept w x.values (F x.values (tree_rows right db (right_row side d x.values))) lx
            (subst (λ m. All (λ c. c < m) kept) (sym wide) k1.below),
      ))
      (tree_is_good a db d k).wide)

  more_below : (m : ℕ) → m ≡ width_of a + 1 → All (λ c. c < m) (kept ++ w ∷ [])
  more_below m is = subst (λ m. All (λ c. c < m) (kept ++ w ∷ [])) (ap (λ v. v + 1) wide ∙ sym is)
      (below_more kept w (subst (λ m. All (λ c. c < m) kept) (sym wide) k1.below))

  more_wide : (m : ℕ) → m ≡ width_of new + 1 → m ≡ length (kept ++ w ∷ [])
  more_wide m is = is ∙ ap (λ v. v + 1) k1.width ∙ sym (length-append kept (w ∷ []))

  mark_same : (k : ℕ) (c c2 : Expr) → ConditionMoves n kept w k c c2
      → (d x : List Value) (us : List (Ranked Value)) → length d ≡ n → length x ≡ w → Width k us
      → mark_under c2 d (G x) us ≡ mark_under c d x us
  unfolding mark_under
  mark_same k c c2 moves d x us ld lx v =
      ap written (top_each (λ u. min u.standing (rank_of c2 ((d ++ G x) ++ u.values)))
      (λ u. min u.standing (rank_of c ((d ++ x) ++ u.values))) us
      (Each-weaker (λ u. length u.values ≡ k) _ us
      (λ u lu. ap (λ m. min u.standing m)
      (moves.says (subst (λ m. All (λ c. c < m) kept) (sym wide) k1.below) d x u.values ld lx lu))
      v))

  pub keeps_mark : (k : ℕ) (c c2 : Expr) (made : DepTree) (now : List ℕ) → k ≡ width_of right
      → SideMoves n kept side moved → ConditionMoves n kept w k c c2
      → made ≡ t.Mark new right moved c2 → now ≡ kept ++ w ∷ []
      → Keeps n (t.Mark a right side c) now made
  keeps_mark k c c2 made now right_wide sides moves made_is now_is =
      subst (λ l. Keeps n (t.Mark a right side c) l made) (sym now_is)
      (subst (λ y. Keeps n (t.Mark a right side c) (kept ++ w ∷ []) y) (sym made_is) (record {
        scans = as_bags (scans_Mark a right side c) (scans_Mark new right moved c2)
            (SameBag-append k1.scans (SameBag-refl (scans_of right)));
        width = more_wide (width_of (t.Mark new right moved c2)) (width_Mark new right moved c2);
        below = more_below (width_of (t.Mark a right side c)) (width_Mark a right side c);
        rows = λ db d kinds ld.
            let A = tree_rows a db d in
            let S : List Value → List (Ranked Value) =
            λ x. tree_rows right db (right_row moved d x) in
            alike (rows_Mark new right moved c2 db d)
            (ap (project (gathered (kept ++ w ∷ []))) (rows_Mark a right side c db d))
            (subst (λ l. SameBag (attach_loop (mark_under c2 d) (tree_rows new db d) S) l)
            (attached_rows (mark_under c d) (mark_under c2 d) db d kinds ld
            (λ x. sides.reads d x ld)
            (λ x lx. mark_same k c c2 moves d x (tree_rows right db (right_row side d x)) ld lx
            (subst (λ m. Width m (tree_rows right db (right_row side d x))) (sym right_wide)
            (tree_is_good right db (right_row side d x) kinds).wide)))
            (attach_loop_alike (mark_under c2 d) (tree_rows new db d) (project (gathered kept) A) S
            S
            (mark_is_bag c2 d) (k1.rows db d kinds ld)
            (Each-all (λ x. SameBag (S x.values) (S x.values)) (tree_rows new db d)
            (λ x. SameBag-refl (S x.values)))));
      }))

  pub keeps_single : (i : ℕ) (made : DepTree) (now : List ℕ) → SideMoves n kept side moved
      → made ≡ t.Single new right moved i → now ≡ kept ++ w ∷ []
      → Keeps n (t.Single a right side i) now made
  keeps_single i made now sides made_is now_is =
      subst (λ l. Keeps n (t.Single a right side i) l made) (sym now_is)
      (subst (λ y. Keeps n (t.Single a right side i) (kept ++ w ∷ []) y) (sym made_is) (record {
        scans = as_bags (scans_Single a right side i) (scans_Single new right moved i)
            (SameBag-append k1.scans (SameBag-refl (scans_of right)));
        width = more_wide (width_of (t.Single new right moved i)) (width_Single new right moved i);
        below = more_below (width_of (t.Single a right side i)) (width_Single a right side i);
        rows = λ db d kinds ld.
            let A = tree_rows a db d in
            let S : List Value → List (Ranked Value) =
            λ x. tree_rows right db (right_row moved d x) in
            alike (rows_Single new right moved i db d)
            (ap (project (gathered (kept ++ w ∷ []))) (rows_Single a right side i db d))
            (subst (λ l. SameBag (attach_loop (scalar_at i) (tree_rows new db d) S) l)
            (attached_rows (scalar_at i) (scalar_at i) db d kinds ld (λ x. sides.reads d x ld)
            (λ x lx. scalar_reads i (G x) x (tree_rows right db (right_row side d x))))
            (attach_loop_alike (scalar_at i) (tree_rows new db d) (project (gathered kept) A) S S
            (scalar_is_bag i) (k1.rows db d kinds ld)
            (Each-all (λ x. SameBag (S x.values) (S x.values)) (tree_rows new db d)
            (λ x. SameBag-refl (S x.values)))));
      }))

-- sides
pub side_closed : (n : ℕ) (kept : List ℕ) (side new : Side) → side ≡ Closed → new ≡ Closed
    → SideMoves n kept side new
unfolding right_row
side_closed n kept side new is made =
    subst (λ s. SideMoves n kept s new) (sym is)
    (subst (λ s. SideMoves n kept Closed s) (sym made) (record { reads = λ d x ld. refl }))

pub side_shared : (n : ℕ) (kept : List ℕ) (side new : Side) → side ≡ Shared → new ≡ Shared
    → SideMoves n kept side new
unfolding right_row
side_shared n kept side new is made =
    subst (λ s. SideMoves n kept s new) (sym is)
    (subst (λ s. SideMoves n kept Shared s) (sym made) (record { reads = λ d x ld. refl }))

depends : (n : ℕ) (kept whole by keys : List ℕ) → whole ≡ whole_columns n kept
    → KeysMove whole by keys → SideMoves n kept (Dependent by) (Dependent keys)
unfolding right_row
depends n kept whole [] [] is m = record { reads = λ d x ld. refl }
depends n kept whole [] (k ∷ ks) is m = let h = m.count in absurd (some_none (length ks) h)
  where
    some_none : (a : ℕ) → suc a ≡ 0 → ⊥
    some_none a h = omega (arith, h)
depends n kept whole (b ∷ bs) [] is m = let h = m.count in absurd (none_some (length bs) h)
  where
    none_some : (a : ℕ) → 0 ≡ suc a → ⊥
    none_some a h = omega (arith, h)
depends n kept whole (b ∷ bs) (k ∷ ks) is m = record {
  reads = λ d x ld. ap (columns Null (k ∷ ks))
      (sym (ap (λ l. gathered l (d ++ x)) is ∙ kept_row n kept d x ld)) ∙ m.reads (d ++ x);
}

pub side_depends : (n : ℕ) (kept whole : List ℕ) (side new : Side) (by seen keys : List ℕ)
    → whole ≡ whole_columns n kept → side ≡ Dependent by → seen ≡ by → KeysMove whole seen keys
    → new ≡ Dependent keys → SideMoves n kept side new
side_depends n kept whole side new by seen keys w is i m made =
    subst (λ s. SideMoves n kept s new) (sym is)
    (subst (λ s. SideMoves n kept (Dependent by) s) (sym made)
    (depends n kept whole by keys w (subst (λ l. KeysMove whole l keys) i m)))

-- a select list, and groups
pub list_kept : (n : ℕ) (a new made : DepTree) (kept whole places : List ℕ) (es list : List Expr)
    → whole ≡ whole_columns n kept → All (IsFound places whole) es → AreRenamed places es list
    → made ≡ t.Project new list
    → Keeps n a kept new → SameRows n (t.Project a es) made
list_kept n a new made kept whole places es list is f ren made_is k1 =
    subst (λ y. SameRows n (t.Project a es) y) (sym made_is) (record {
      scans = as_bags (scans_Project a es) (scans_Project new list) k1.scans;
      width = width_Project a es ∙ sym (renamed_length places es list ren)
          ∙ sym (width_Project new list);
      rows = λ db d k ld.
          let A = tree_rows a db d in
          let G = gathered kept in
          let F = listed es d in
          let H = listed list d in
          let one : project (λ r. H (G r)) A ≡ project F A =
          project_at_hand (λ r. H (G r)) F A
          (Each-all (λ x. H (G x.values) ≡ F x.values) A
          (λ x. list_row n kept whole places is d ld es list f ren x.values)) in
          alike (rows_Project a es db d) (rows_Project new list db d)
          (SameBag-sym (subst (λ l. SameBag (project H (tree_rows new db d)) l)
          (project_twice G H A ∙ one)
          (project_alike H (tree_rows new db d) (project G A) (k1.rows db d k ld))));
    })

kept_list : (n : ℕ) (a new : DepTree) (kept : List ℕ) → Keeps n a kept new
    → SameRows n (t.Project a (map (λ c. e.Column (n + c)) kept)) new
kept_list n a new kept k1 =
    let list = map (λ c. e.Column (n + c)) kept in
    record {
      scans = as_bags (scans_Project a list) refl k1.scans;
      width = width_Project a list ∙ length-map kept (λ c. e.Column (n + c)) ∙ sym k1.width;
      rows = λ db d k ld.
          let A = tree_rows a db d in
          alike (rows_Project a list db d
          ∙ project_at_hand (listed list d) (gathered kept) A
          (Each-all (λ x. listed list d x.values ≡ gathered kept x.values) A
          (λ x. listed_after n kept d x.values ld))) refl
          (SameBag-sym (k1.rows db d k ld));
    }

pub groups_kept : (n : ℕ) (a new made : DepTree) (kept whole by keys : List ℕ)
    (xs ys : List Aggregate) → whole ≡ whole_columns n kept → KeysMove whole by keys
    → AggregatesMove whole xs ys → made ≡ t.Group new keys ys
    → Keeps n a kept new → SameRows n (t.Group a by xs) made
groups_kept n a new made kept whole by keys xs ys is k m made_is k1 =
    let list = map (λ c. e.Column (n + c)) kept in
    subst (λ y. SameRows n (t.Group a by xs) y) (sym made_is)
    (trans n (t.Group a by xs) (t.Group (t.Project a list) keys ys) (t.Group new keys ys)
    (regrouped n kept whole by keys xs ys list is refl k m a)
    (same_group n (t.Project a list) new keys ys (kept_list n a new kept k1)))

-- as the code reads lists
pub found_as : (p q w v : List ℕ) (c : Expr) → p ≡ q → w ≡ v → IsFound p w c → IsFound q v c
found_as p q w v c i j f = subst (λ l. IsFound l v c) i (subst (λ l. IsFound p l c) j f)

pub all_found_as : (p q w v : List ℕ) (es : List Expr) → p ≡ q → w ≡ v → All (IsFound p w) es
    → All (IsFound q v) es
all_found_as p q w v es i j f =
    subst (λ l. All (IsFound l v) es) i (subst (λ l. All (IsFound p l) es) j f)

pub renamed_as : {p q : List ℕ} {c new : Expr} → p ≡ q → IsRenamed p c new → IsRenamed q c new
renamed_as {p} {q} {c} {new} i r = subst (λ l. IsRenamed l c new) i r

pub all_renamed_as : {p q : List ℕ} {es list : List Expr} → p ≡ q → AreRenamed p es list
    → AreRenamed q es list
all_renamed_as {p} {q} {es} {list} i r = subst (λ l. AreRenamed l es list) i r

-- the arms
pub select_slimmed : (n : ℕ) (tree a seen new made : DepTree) (c c1 : Expr) (kept now : List ℕ)
    → tree ≡ t.Select a c → seen ≡ a → Keeps n seen kept new → c1 ≡ c
    → ((x : DepTree) → Keeps n x kept new → Keeps n (t.Select x c1) now made)
    → Keeps n tree now made
select_slimmed n tree a seen new made c c1 kept now is i k1 ic makes =
    subst (λ y. Keeps n y now made) (sym is)
    (subst (λ y. Keeps n (t.Select a y) now made) ic
    (makes a (subst (λ y. Keeps n y kept new) i k1)))

-- what is read of a tree in the place of another
pub read_slimmed : (n : ℕ) (tree whole seen made : DepTree) (kept : List ℕ) → seen ≡ whole
    → SameRows n tree whole → ((x : DepTree) → SameRows n x seen → Keeps n x kept made)
    → Keeps n tree kept made
read_slimmed n tree whole seen made kept i s reads =
    reads tree (subst (λ y. SameRows n tree y) (sym i) s)

module _ (n m : ℕ) (tree l l1 l2 r new right made : DepTree) (kept now : List ℕ) (w : ℕ)
    (side : Side) (is_wide : l1 ≡ l) (is_left : l2 ≡ l) (wide : w ≡ width_of l1)
    (k1 : Keeps n l2 kept new)
    (m_is : m ≡ side_width (side_of side) n) (same : SameRows m r right) where
  left_kept : Keeps n l kept new
  left_kept = subst (λ y. Keeps n y kept new) is_left k1

  left_wide : w ≡ width_of l
  left_wide = wide ∙ ap width_of is_wide

  pub mark_slimmed : (c c1 : Expr) → tree ≡ t.Mark l r side c → c1 ≡ c
      → ((x : DepTree) → w ≡ width_of x → Keeps n x kept new
      → Keeps n (t.Mark x right side c1) now made) → Keeps n tree now made
  mark_slimmed c c1 is ic makes =
      subst (λ y. Keeps n y now made) (sym is)
      (keeps_over n (t.Mark l r side c) (t.Mark l right side c) made now
      (same_mark n m l r l right side c m_is (SameRows-refl n l l refl) same)
      (subst (λ y. Keeps n (t.Mark l right side y) now made) ic (makes l left_wide left_kept)))

  pub single_slimmed : (i : ℕ) → tree ≡ t.Single l r side i
      → ((x : DepTree) → w ≡ width_of x → Keeps n x kept new
      → Keeps n (t.Single x right side i) now made) → Keeps n tree now made
  single_slimmed i is makes =
      subst (λ y. Keeps n y now made) (sym is)
      (keeps_over n (t.Single l r side i) (t.Single l right side i) made now
      (same_single n m l r l right side i m_is (SameRows-refl n l l refl) same)
      (makes l left_wide left_kept))

pub list_slimmed : (n : ℕ) (tree a seen new made : DepTree) (es es1 : List Expr) (kept : List ℕ)
    → tree ≡ t.Project a es → seen ≡ a → Keeps n seen kept new → es1 ≡ es
    → ((x : DepTree) → Keeps n x kept new → SameRows n (t.Project x es1) made)
    → SameRows n tree made
list_slimmed n tree a seen new made es es1 kept is i k1 ie makes =
    subst (λ y. SameRows n y made) (sym is)
    (subst (λ y. SameRows n (t.Project a y) made) ie
    (makes a (subst (λ y. Keeps n y kept new) i k1)))

pub groups_slimmed : (n : ℕ) (tree a seen new made : DepTree) (by by1 : List ℕ)
    (xs ys : List Aggregate) (kept : List ℕ) → tree ≡ t.Group a by xs → seen ≡ a
    → Keeps n seen kept new → by1 ≡ by → ys ≡ xs
    → ((x : DepTree) → Keeps n x kept new → SameRows n (t.Group x by1 ys) made)
    → SameRows n tree made
groups_slimmed n tree a seen new made by by1 xs ys kept is i k1 ib ix makes =
    subst (λ y. SameRows n y made) (sym is)
    (subst (λ y. SameRows n (t.Group a by y) made) ix
    (subst (λ y. SameRows n (t.Group a y ys) made) ib
    (makes a (subst (λ y. Keeps n y kept new) i k1))))

-- groups, each value where the code read it
pub groups_slim : (n : ℕ) (a new made : DepTree) (kept seen whole w1 w2 by keys : List ℕ)
    (xs ys : List Aggregate) → seen ≡ kept → whole ≡ whole_columns n seen → w1 ≡ whole
    → KeysMove w1 by keys
    → w2 ≡ whole → AggregatesMove w2 xs ys → made ≡ t.Group new keys ys → Keeps n a kept new
    → SameRows n (t.Group a by xs) made
groups_slim n a new made kept seen whole w1 w2 by keys xs ys ik is i1 k i2 m made_is k1 =
    groups_kept n a new made kept whole by keys xs ys (is ∙ ap (whole_columns n) ik)
    (subst (λ l. KeysMove l by keys) i1 k) (subst (λ l. AggregatesMove l xs ys) i2 m) made_is k1

pub same_as_seen : (n : ℕ) (seen a new : DepTree) → seen ≡ a → SameRows n seen new
    → SameRows n a new
same_as_seen n seen a new i s = subst (λ y. SameRows n y new) i s
