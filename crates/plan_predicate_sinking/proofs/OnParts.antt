-- Parts of an outer join's condition on the right side alone are a selection of it.
use Rattle.std.proofs.Common.{◌≡◌, ℕ, ◌+◌, ◌≤◌, Bool, List, [], ◌∷◌, ◌++◌, sym, ◌∙◌, ap, subst}
use Rattle.std.proofs.Common.{arith, length, drop}
use Rattle.std.specs.Prelude.{min, replicate}
use Rattle.std.proofs.lemmas.List.{length-append}
use Rattle.base_row_laws.specs.Ranked.{Ranked, true_rank}
use Rattle.base_row_laws.specs.Bags.{SameBag, Each}
use Rattle.base_row_laws.specs.Operators.{select, outer_loop}
use Rattle.base_row_laws.specs.Trees.{side_width}
use Rattle.base_row_laws.proofs.Bags.{SameBag-refl, SameBag-trans}
use Rattle.base_row_laws.proofs.Lists.{Each-all, Each-weaker}
use Rattle.base_row_laws.proofs.Rows.{drop-append}
use Rattle.base_row_laws.proofs.Alike.{outer_loop_alike}
use Rattle.base_row_laws.proofs.AtHand.{select_at_hand, outer_at_hand}
use Rattle.base_row_laws.proofs.Moves.{on_below_right}
use Rattle.base_value.specs.declared.truth.Fault.{Fault}
use Rattle.base_value.specs.declared.truth.Fault.TheVariants.{TooManyRows, DivideByZero, NumberRange}
use Rattle.base_value.specs.declared.truth.Standing.{Standing}
use Rattle.base_value.specs.declared.truth.Standing.TheVariants.{AtFault, AtTrue}
use Rattle.base_value.specs.declared.truth.Truth.{Truth}
use Rattle.base_value.specs.declared.truth.Truth.TheVariants.{False, Unknown, Stands}
use Rattle.base_value.specs.Truth.{truth_rank, standing_rank, fault_rank}
use Rattle.base_value.specs.declared.value.Value.{Value}
use Rattle.base_value.specs.declared.value.Value.TheVariants.{Null}
use Rattle.expr_scalar.specs.declared.expr.Expr.{Expr}
use Rattle.expr_scalar.specs.declared.expr.Expr.TheVariants as e
use Rattle.expr_scalar.specs.Meaning.{truth}
use Rattle.expr_scalar.specs.Rename.{gathered}
use Rattle.expr_conditions.specs.Ranks.{rank_of, says, all_rank, all_say, PutInto}
use Rattle.plan_algebra.specs.declared.tree.DepTree.{DepTree}
use Rattle.plan_algebra.specs.declared.tree.DepTree.TheVariants as t
use Rattle.plan_algebra.specs.declared.tree.Side.{Side}
use Rattle.plan_algebra.specs.Trees.{width_of, tree_rows, scans_of, right_row, side_of}
use Rattle.plan_algebra.proofs.Opened.{width_Select, width_Outer, rows_Select, rows_Outer, scans_Select}
use Rattle.plan_algebra.proofs.Opened.{scans_Outer}
use Rattle.plan_predicate_sinking.specs.Arranged.{SameRows}
use Rattle.plan_predicate_sinking.specs.Own.{own_side, IsApart}
use Rattle.plan_predicate_sinking.specs.Selected.{IsSelected, places_at}
use Rattle.plan_predicate_sinking.specs.Sink.{IsSplit, IsOnSplit, Sinks}
use Rattle.plan_predicate_sinking.proofs.Apart.{right_own}
use Rattle.plan_predicate_sinking.proofs.Conditions.{all_is}
use Rattle.plan_predicate_sinking.proofs.Good.{tree_is_good}
use Rattle.plan_predicate_sinking.proofs.SameNodes.{alike, same_select, same_outer}
use Rattle.plan_predicate_sinking.proofs.Scans.{same_list}
use Rattle.plan_predicate_sinking.proofs.Sinking.{whole_row, trans, sunk_over, outer_law}

rank-le : (x : Expr) (row : List Value) → rank_of x row ≤ true_rank
unfolding rank_of
rank-le x row = truth-le (truth x row)
  where
    fault-le : (f : Fault) → fault_rank f ≤ true_rank
    fault-le TooManyRows = omega arith
    fault-le DivideByZero = omega arith
    fault-le NumberRange = omega arith

    standing-le : (s : Standing) → standing_rank s ≤ true_rank
    standing-le (AtFault f) = fault-le f
    standing-le AtTrue = omega arith

    truth-le : (t : Truth) → truth_rank t ≤ true_rank
    truth-le False = omega arith
    truth-le Unknown = omega arith
    truth-le (Stands s) = standing-le s

pub on_parts : (closed : Bool) (n a x wide : ℕ) (c : Expr) (old es seen own both : List Expr)
    → old ≡ [] → wide ≡ a + x → PutInto (places_at n 0 wide) c old es → seen ≡ es
    → IsApart closed n a x seen own both
    → IsOnSplit n a x (own_side closed) c own both
on_parts closed n a x wide c old es seen own both none is put i apart = record {
  says = λ d u w ld lu lw.
      let row = d ++ (u ++ w) in
      let l : length (u ++ w) ≡ wide = length-append u w ∙ omega (arith, lu, lw, is) in
      ap (λ y. min (all_rank own (y ++ w)) (all_rank both row)) (right_own closed d u)
      ∙ apart.says d u w ld lu lw ∙ ap (λ k. all_rank k row) i ∙ put.says row
      ∙ ap (λ k. min (all_rank k row) (rank_of c (gathered (places_at n 0 wide) row))) none
      ∙ ap (λ y. min true_rank (rank_of c y)) (whole_row n wide d (u ++ w) ld l)
      ∙ least (rank_of c row) (rank-le c row);
  alike = λ d u v w. ap (λ y. all_rank own (y ++ w))
      (right_own closed d u ∙ sym (right_own closed d v));
}
  where
    least : (a : ℕ) → a ≤ true_rank → min true_rank a ≡ a
    least a h = omega (arith, h)

pub on_whole : (n a x : ℕ) (s : Side) (c : Expr) (own both : List Expr) → own ≡ [] → both ≡ c ∷ []
    → IsOnSplit n a x s c own both
on_whole n a x s c own both none is = record {
  says = λ d u w ld lu lw.
      let row = d ++ (u ++ w) in
      ap (λ k. min (all_rank k (right_row s d u ++ w)) (all_rank both row)) none
      ∙ ap (λ k. min true_rank (all_rank k row)) is ∙ least (rank_of c row) (rank-le c row);
  alike = λ d u v w. ap (λ k. all_rank k (right_row s d u ++ w)) none
      ∙ sym (ap (λ k. all_rank k (right_row s d v ++ w)) none);
}
  where
    least : (a : ℕ) → a ≤ true_rank → min true_rank (min a true_rank) ≡ a
    least a h = omega (arith, h)

on_law : (n : ℕ) (l r : DepTree) (s : Side) (c : Expr) (own both : List Expr)
    → IsOnSplit n (width_of l) (width_of r) s c own both
    → SameRows n (t.Outer l r s c) (t.Outer l (t.Select r (e.All own)) s (e.All both))
unfolding all_say says
on_law n l r s c own both split = record {
  scans = same_list (scans_Outer l r s c
      ∙ ap (λ k. scans_of l ++ k) (sym (scans_Select r (e.All own)))
      ∙ sym (scans_Outer l (t.Select r (e.All own)) s (e.All both)));
  width = width_Outer l r s c ∙ ap (λ k. width_of l + k) (sym (width_Select r (e.All own)))
      ∙ sym (width_Outer l (t.Select r (e.All own)) s (e.All both));
  rows = λ db d k ld.
      let a = width_of l in
      let N = replicate (width_of r) Null in
      let L = tree_rows l db d in
      let R : List Value → List (Ranked Value) = λ x. tree_rows r db (right_row s d x) in
      let T : List Value → List (Ranked Value) =
      λ x. tree_rows (t.Select r (e.All own)) db (right_row s d x) in
      let D = right_row s d [] in
      let p : List Value → ℕ = λ w. all_rank own (D ++ w) in
      let E : List Value → ℕ = λ z. all_rank own (D ++ drop a z) in
      let C = says c d in
      let B = says (e.All both) d in
      let gL = (tree_is_good l db d k).wide in
      let tail : (u w : List Value) → length u ≡ a → E (u ++ w) ≡ p w =
      λ u w lu. ap (λ m. all_rank own (D ++ drop m (u ++ w))) (sym lu)
      ∙ ap (λ y. all_rank own (D ++ y)) (drop-append u w) in
      let one : (u w : List Value) → length u ≡ a → length w ≡ width_of r
      → C (u ++ w) ≡ min (B (u ++ w)) (E (u ++ w)) =
      λ u w lu lw. sym (split.says d u w ld lu lw)
      ∙ swap (all_rank own (right_row s d u ++ w)) (all_rank both (d ++ (u ++ w)))
      ∙ ap (λ m. min m (all_rank own (right_row s d u ++ w))) (all_is both d (u ++ w))
      ∙ ap (λ m. min (B (u ++ w)) m) (split.alike d u [] w ∙ sym (tail u w lu)) in
      let parted : outer_loop N C L R ≡ outer_loop N (λ z. min (B z) (E z)) L R =
      outer_at_hand N C (λ z. min (B z) (E z)) L R
      (Each-weaker (λ y. length y.values ≡ a)
      (λ y. Each (λ z. C (y.values ++ z.values)
      ≡ min (B (y.values ++ z.values)) (E (y.values ++ z.values))) (R y.values)) L
      (λ y v. Each-weaker (λ z. length z.values ≡ width_of r)
      (λ z. C (y.values ++ z.values) ≡ min (B (y.values ++ z.values)) (E (y.values ++ z.values)))
      (R y.values)
      (λ z u. one y.values z.values v u) (tree_is_good r db (right_row s d y.values) k).wide) gL) in
      let below : SameBag (outer_loop N (λ z. min (B z) (E z)) L R)
      (outer_loop N B L (λ x. select p (R x))) =
      on_below_right B E p L R N
      (Each-weaker (λ y. length y.values ≡ a)
      (λ y. Each (λ z. E (y.values ++ z.values) ≡ p z.values) (R y.values)) L
      (λ y v. Each-all (λ z. E (y.values ++ z.values) ≡ p z.values) (R y.values)
      (λ z. tail y.values z.values v)) gL) in
      let right : (x : List Value) → select p (R x) ≡ T x =
      λ x. select_at_hand p (says (e.All own) (right_row s d x)) (R x)
      (Each-all (λ z. p z.values ≡ says (e.All own) (right_row s d x) z.values) (R x)
      (λ z. split.alike d [] x z.values ∙ all_is own (right_row s d x) z.values))
      ∙ sym (rows_Select r (e.All own) db (right_row s d x)) in
      let made : SameBag (outer_loop N B L (λ x. select p (R x))) (outer_loop N B L T) =
      outer_loop_alike N B L L (λ x. select p (R x)) T (SameBag-refl L)
      (Each-all (λ x. SameBag (select p (R x.values)) (T x.values)) L
      (λ x. subst (λ y. SameBag (select p (R x.values)) y) (right x.values)
      (SameBag-refl (select p (R x.values))))) in
      alike (rows_Outer l r s c db d ∙ parted)
      (rows_Outer l (t.Select r (e.All own)) s (e.All both) db d
      ∙ ap (λ m. outer_loop (replicate m Null) B L T) (width_Select r (e.All own)))
      (SameBag-trans below made);
}
  where
    swap : (a b : ℕ) → min a b ≡ min b a
    swap a b = omega arith

-- the arm, each value where the code read it
pub sunk_outer : (n m : ℕ) (tree l l1 l2 l3 left r r1 r2 right made new : DepTree) (s : Side)
    (c c1 : Expr) (es seen below above own both : List Expr) → tree ≡ t.Outer l r s c
    → l1 ≡ l → seen ≡ es → IsSplit (n + width_of l1) seen below above → l2 ≡ l
    → Sinks n l2 below left
    → l3 ≡ l → r1 ≡ r → c1 ≡ c → IsOnSplit n (width_of l3) (width_of r1) s c1 own both
    → m ≡ side_width (side_of s) n → r2 ≡ r → Sinks m r2 own right
    → made ≡ t.Outer left right s (e.All both) → IsSelected made above new → Sinks n tree es new
sunk_outer n m tree l l1 l2 l3 left r r1 r2 right made new s c c1 es seen below above own both is i1
    ie split i2 sl i3 j1 ic on im j2 sr im2 sel =
    let q : IsSplit (n + width_of l) es below above =
    subst (λ y. IsSplit (n + width_of y) es below above) i1
    (subst (λ k. IsSplit (n + width_of l1) k below above) ie split) in
    let o : IsOnSplit n (width_of l) (width_of r) s c own both =
    subst (λ y. IsOnSplit n (width_of y) (width_of r) s c own both) i3
    (subst (λ y. IsOnSplit n (width_of l3) (width_of y) s c own both) j1
    (subst (λ y. IsOnSplit n (width_of l3) (width_of r1) s y own both) ic on)) in
    let R = t.Select r (e.All own) in
    let C = e.All both in
    let first : SameRows n (t.Select (t.Outer l r s c) (e.All es))
    (t.Select (t.Outer l R s C) (e.All es)) =
    same_select n (t.Outer l r s c) (t.Outer l R s C) (e.All es) (on_law n l r s c own both o) in
    subst (λ y. Sinks n y es new) (sym is)
    (trans n (t.Select (t.Outer l r s c) (e.All es)) (t.Select (t.Outer l R s C) (e.All es)) new
    first
    (trans n (t.Select (t.Outer l R s C) (e.All es))
    (t.Select (t.Outer (t.Select l (e.All below)) R s C) (e.All above)) new
    (outer_law n l R s es below above q C)
    (sunk_over n (t.Outer (t.Select l (e.All below)) R s C) made new above
    (subst (λ y. SameRows n (t.Outer (t.Select l (e.All below)) R s C) y) (sym im2)
    (same_outer n m (t.Select l (e.All below)) R left right s C im
    (subst (λ y. Sinks n y below left) i2 sl) (subst (λ y. Sinks m y own right) j2 sr))) sel)))
