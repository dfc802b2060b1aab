-- A selection above an inner join is one below its left side, and one below its right side, where
-- it reads their columns only.
use Rattle.std.proofs.Common.{◌≡◌, ℕ, ◌+◌, ◌≤◌, List, [], ◌++◌, sym, ◌∙◌, ap, subst, arith, length}
use Rattle.std.proofs.Common.{take, drop}
use Rattle.std.specs.Prelude.{min}
use Rattle.std.proofs.lemmas.List.{length-take, length-drop, take-append-drop}
use Rattle.base_row_laws.specs.Ranked.{Ranked}
use Rattle.base_row_laws.specs.Bags.{SameBag}
use Rattle.base_row_laws.specs.Operators.{select, join_loop}
use Rattle.base_row_laws.specs.JoinGroups.{Width}
use Rattle.base_row_laws.specs.MoveLaws.{OfRight}
use Rattle.base_row_laws.specs.Trees.{side_width}
use Rattle.base_row_laws.proofs.Bags.{SameBag-refl, SameBag-sym, SameBag-trans}
use Rattle.base_row_laws.proofs.Lists.{Each-all, Each-weaker}
use Rattle.base_row_laws.proofs.Rows.{drop-append}
use Rattle.base_row_laws.proofs.Alike.{select_alike, join_loop_alike}
use Rattle.base_row_laws.proofs.AtHand.{select_at_hand}
use Rattle.base_row_laws.proofs.Moves.{select_twice, select_below_left, select_below_right}
use Rattle.base_value.specs.declared.value.Value.{Value}
use Rattle.expr_scalar.specs.declared.expr.Expr.{Expr}
use Rattle.expr_scalar.specs.declared.expr.Expr.TheVariants as e
use Rattle.expr_conditions.specs.Ranks.{rank_of, says, all_rank, all_say}
use Rattle.plan_algebra.specs.declared.tree.DepTree.{DepTree}
use Rattle.plan_algebra.specs.declared.tree.DepTree.TheVariants as t
use Rattle.plan_algebra.specs.declared.tree.Side.{Side}
use Rattle.plan_algebra.specs.Trees.{Database, HasKinds, width_of, tree_rows, scans_of, right_row}
use Rattle.plan_algebra.specs.Trees.{side_of}
use Rattle.plan_algebra.proofs.Opened.{width_Select, width_Join, rows_Select, rows_Join, scans_Select}
use Rattle.plan_algebra.proofs.Opened.{scans_Join}
use Rattle.plan_predicate_sinking.specs.Arranged.{SameRows}
use Rattle.plan_predicate_sinking.specs.Selected.{IsSelected}
use Rattle.plan_predicate_sinking.specs.Sink.{IsSplit, IsOnSplit, Sinks}
use Rattle.plan_predicate_sinking.proofs.Conditions.{all_is}
use Rattle.plan_predicate_sinking.proofs.Good.{tree_is_good}
use Rattle.plan_predicate_sinking.proofs.SameNodes.{alike, same_join}
use Rattle.plan_predicate_sinking.proofs.Scans.{same_list}
use Rattle.plan_predicate_sinking.proofs.Sinking.{trans, sunk_over, split_select, of_left}

module _ (n : ℕ) (l r : DepTree) (s : Side) (c : Expr) where
  -- how wide the combinations are
  join_wide : (db : Database) (d : List Value) → HasKinds db
      → Width (width_of l + width_of r)
      (join_loop (says c d) (tree_rows l db d) (λ x. tree_rows r db (right_row s d x)))
  join_wide db d k =
      subst (λ m. Width m (join_loop (says c d) (tree_rows l db d)
      (λ x. tree_rows r db (right_row s d x)))) (width_Join l r s c)
      (subst (λ y. Width (width_of (t.Join l r s c)) y) (rows_Join l r s c db d)
      (tree_is_good (t.Join l r s c) db d k).wide)

  join_left : (es below above : List Expr) → IsSplit (n + width_of l) es below above
      → SameRows n (t.Select (t.Join l r s c) (e.All es))
      (t.Select (t.Join (t.Select l (e.All below)) r s c) (e.All above))
  join_left es below above split = record {
    scans = same_list (scans_Select (t.Join l r s c) (e.All es) ∙ scans_Join l r s c
        ∙ ap (λ k. k ++ scans_of r) (sym (scans_Select l (e.All below)))
        ∙ sym (scans_Join (t.Select l (e.All below)) r s c)
        ∙ sym (scans_Select (t.Join (t.Select l (e.All below)) r s c) (e.All above)));
    width = width_Select (t.Join l r s c) (e.All es) ∙ width_Join l r s c
        ∙ ap (λ k. k + width_of r) (sym (width_Select l (e.All below)))
        ∙ sym (width_Join (t.Select l (e.All below)) r s c)
        ∙ sym (width_Select (t.Join (t.Select l (e.All below)) r s c) (e.All above));
    rows = λ db d k ld.
        let w = width_of l in
        let ls = tree_rows l db d in
        let R : List Value → List (Ranked Value) = λ x. tree_rows r db (right_row s d x) in
        let C = says c d in
        let X = join_loop C ls R in
        let p = says (e.All below) d in
        let P : List Value → ℕ = λ z. p (take w z) in
        let E = says (e.All above) d in
        let L = t.Select l (e.All below) in
        let moved : SameBag (select P X) (join_loop C (tree_rows L db d) R) =
        subst (λ y. SameBag (select P X) (join_loop C y R)) (sym (rows_Select l (e.All below) db d))
        (select_below_left C P p ls R (of_left n w d below ls (tree_is_good l db d k).wide)) in
        alike (rows_Select (t.Join l r s c) (e.All es) db d
        ∙ ap (select (says (e.All es) d)) (rows_Join l r s c db d))
        (rows_Select (t.Join L r s c) (e.All above) db d ∙ ap (select E) (rows_Join L r s c db d))
        (SameBag-trans
        (split_select n w d below es above X split ld
        (Each-weaker (λ x. length x.values ≡ w + width_of r) (λ x. w ≤ length x.values) X
        (λ x q. omega (arith, q)) (join_wide db d k)))
        (select_alike E (select P X) (join_loop C (tree_rows L db d) R) moved));
  }

  join_right : (c1 : Expr) (own both : List Expr)
      → IsOnSplit n (width_of l) (width_of r) s c1 own both
      → SameRows n (t.Select (t.Join l r s c) c1)
      (t.Select (t.Join l (t.Select r (e.All own)) s c) (e.All both))
  unfolding all_say says
  join_right c1 own both split = record {
    scans = same_list (scans_Select (t.Join l r s c) c1 ∙ scans_Join l r s c
        ∙ ap (λ k. scans_of l ++ k) (sym (scans_Select r (e.All own)))
        ∙ sym (scans_Join l (t.Select r (e.All own)) s c)
        ∙ sym (scans_Select (t.Join l (t.Select r (e.All own)) s c) (e.All both)));
    width = width_Select (t.Join l r s c) c1 ∙ width_Join l r s c
        ∙ ap (λ k. width_of l + k) (sym (width_Select r (e.All own)))
        ∙ sym (width_Join l (t.Select r (e.All own)) s c)
        ∙ sym (width_Select (t.Join l (t.Select r (e.All own)) s c) (e.All both));
    rows = λ db d k ld.
        let a = width_of l in
        let L = tree_rows l db d in
        let R : List Value → List (Ranked Value) = λ x. tree_rows r db (right_row s d x) in
        let T : List Value → List (Ranked Value) =
        λ x. tree_rows (t.Select r (e.All own)) db (right_row s d x) in
        let D = right_row s d [] in
        let C = says c d in
        let X = join_loop C L R in
        let p : List Value → ℕ = λ w. all_rank own (D ++ w) in
        let E : List Value → ℕ = λ z. all_rank own (D ++ drop a z) in
        let B = says (e.All both) d in
        let one : (z : List Value) → length z ≡ a + width_of r → says c1 d z ≡ min (E z) (B z) =
        λ z lz.
        let u = take a z in
        let w = drop a z in
        let lu : length u ≡ a = length-take a z ∙ omega (arith, lz) in
        let lw : length w ≡ width_of r = length-drop a z ∙ omega (arith, lz) in
        ap (λ y. rank_of c1 (d ++ y)) (sym (take-append-drop a z)) ∙ sym (split.says d u w ld lu lw)
        ∙ ap (λ m. min m (all_rank both (d ++ (u ++ w)))) (split.alike d u [] w)
        ∙ ap (λ y. min (E z) (all_rank both (d ++ y))) (take-append-drop a z)
        ∙ ap (λ m. min (E z) m) (all_is both d z) in
        let parted : select (says c1 d) X ≡ select (λ z. min (E z) (B z)) X =
        select_at_hand (says c1 d) (λ z. min (E z) (B z)) X
        (Each-weaker (λ x. length x.values ≡ a + width_of r)
        (λ x. says c1 d x.values ≡ min (E x.values) (B x.values)) X (λ x q. one x.values q)
        (join_wide db d k)) in
        let below : SameBag (select E X) (join_loop C L (λ x. select p (R x))) =
        select_below_right C E p L R
        (Each-weaker (λ y. length y.values ≡ a) (OfRight E p R) L
        (λ y v. Each-all (λ z. E (y.values ++ z.values) ≡ p z.values) (R y.values)
        (λ z. ap (λ m. all_rank own (D ++ drop m (y.values ++ z.values))) (sym v)
        ∙ ap (λ q. all_rank own (D ++ q)) (drop-append y.values z.values)))
        (tree_is_good l db d k).wide) in
        let right : (x : List Value) → select p (R x) ≡ T x =
        λ x. select_at_hand p (says (e.All own) (right_row s d x)) (R x)
        (Each-all (λ z. p z.values ≡ says (e.All own) (right_row s d x) z.values) (R x)
        (λ z. split.alike d [] x z.values ∙ all_is own (right_row s d x) z.values))
        ∙ sym (rows_Select r (e.All own) db (right_row s d x)) in
        let made : SameBag (join_loop C L (λ x. select p (R x))) (join_loop C L T) =
        join_loop_alike C L L (λ x. select p (R x)) T (SameBag-refl L)
        (Each-all (λ x. SameBag (select p (R x.values)) (T x.values)) L
        (λ x. subst (λ y. SameBag (select p (R x.values)) y) (right x.values)
        (SameBag-refl (select p (R x.values))))) in
        alike (rows_Select (t.Join l r s c) c1 db d
        ∙ ap (select (says c1 d)) (rows_Join l r s c db d) ∙ parted)
        (rows_Select (t.Join l (t.Select r (e.All own)) s c) (e.All both) db d
        ∙ ap (select B) (rows_Join l (t.Select r (e.All own)) s c db d))
        (SameBag-trans (SameBag-sym (select_twice E B X))
        (select_alike B (select E X) (join_loop C L T) (SameBag-trans below made)));
  }

-- the arm, each value where the code read it
pub sunk_join : (n m : ℕ) (tree l l1 l2 l3 left r r1 r2 right made new : DepTree) (s : Side)
    (c c1 : Expr) (es seen below above own both : List Expr) → tree ≡ t.Join l r s c
    → l1 ≡ l → seen ≡ es → IsSplit (n + width_of l1) seen below above → l2 ≡ l
    → Sinks n l2 below left
    → l3 ≡ l → r1 ≡ r → IsOnSplit n (width_of l3) (width_of r1) s (e.All above) own both
    → m ≡ side_width (side_of s) n → r2 ≡ r → Sinks m r2 own right
    → c1 ≡ c → made ≡ t.Join left right s c1 → IsSelected made both new → Sinks n tree es new
sunk_join n m tree l l1 l2 l3 left r r1 r2 right made new s c c1 es seen below above own both is i1
    ie split i2 sl i3 j1 on im j2 sr ic made_is sel =
    let q : IsSplit (n + width_of l) es below above =
    subst (λ y. IsSplit (n + width_of y) es below above) i1
    (subst (λ k. IsSplit (n + width_of l1) k below above) ie split) in
    let L = t.Select l (e.All below) in
    let R = t.Select r (e.All own) in
    let o : IsOnSplit n (width_of L) (width_of r) s (e.All above) own both =
    subst (λ w. IsOnSplit n w (width_of r) s (e.All above) own both)
    (sym (width_Select l (e.All below)))
    (subst (λ y. IsOnSplit n (width_of y) (width_of r) s (e.All above) own both) i3
    (subst (λ y. IsOnSplit n (width_of l3) (width_of y) s (e.All above) own both) j1 on)) in
    let same : SameRows n (t.Join L R s c) made =
    subst (λ y. SameRows n (t.Join L R s c) y)
    (sym (made_is ∙ ap (λ (y : Expr). t.Join left right s y) ic))
    (same_join n m L R left right s c im (subst (λ y. Sinks n y below left) i2 sl)
    (subst (λ y. Sinks m y own right) j2 sr)) in
    subst (λ y. Sinks n y es new) (sym is)
    (trans n (t.Select (t.Join l r s c) (e.All es)) (t.Select (t.Join L r s c) (e.All above)) new
    (join_left n l r s c es below above q)
    (trans n (t.Select (t.Join L r s c) (e.All above)) (t.Select (t.Join L R s c) (e.All both)) new
    (join_right n L r s c (e.All above) own both o)
    (sunk_over n (t.Join L R s c) made new both same sel)))
