-- Marks whose right sides have only the columns that the condition reads.
use Rattle.std.proofs.Common.{◌≡◌, ℕ, ◌+◌, List, [], ◌∷◌, ◌++◌, refl, sym, ◌∙◌, ap, subst, length}
use Rattle.std.specs.Prelude.{max, min}
use Rattle.std.proofs.lemmas.List.{length-append}
use Rattle.base_row_laws.specs.Ranked.{Ranked, ranked}
use Rattle.base_row_laws.specs.Bags.{SameBag, Each, top}
use Rattle.base_row_laws.specs.Operators.{project, attach_loop}
use Rattle.base_row_laws.specs.Trees.{side_width}
use Rattle.base_row_laws.proofs.Bags.{SameBag-refl, SameBag-sym, SameBag-trans}
use Rattle.base_row_laws.proofs.Lists.{Each-weaker}
use Rattle.base_value.specs.declared.value.Value.{Value}
use Rattle.expr_aggregates.specs.Values.{written}
use Rattle.expr_scalar.specs.declared.expr.Expr.{Expr}
use Rattle.expr_scalar.specs.Rename.{gathered, IsRenamed}
use Rattle.expr_conditions.specs.Ranks.{rank_of}
use Rattle.expr_conditions.proofs.Ranks.{rank_renamed}
use Rattle.plan_algebra.specs.declared.tree.DepTree.{DepTree}
use Rattle.plan_algebra.specs.declared.tree.DepTree.TheVariants as t
use Rattle.plan_algebra.specs.declared.tree.Side.{Side}
use Rattle.plan_algebra.specs.Trees.{scans_of, width_of, tree_rows, right_row}
use Rattle.plan_algebra.specs.Trees.{side_of, mark_under}
use Rattle.plan_algebra.proofs.Opened.{width_Mark, rows_Mark, scans_Mark}
use Rattle.plan_predicate_sinking.specs.Arranged.{SameRows}
use Rattle.plan_predicate_sinking.specs.Narrow.{IsNarrowed, IsFound, whole_columns}
use Rattle.plan_tree_moves.specs.Prune.{Keeps, RightMoves}
use Rattle.plan_predicate_sinking.proofs.Good.{tree_is_good}
use Rattle.plan_predicate_sinking.proofs.Narrowing.{kept_row, found_rank}
use Rattle.plan_predicate_sinking.proofs.SameNodes.{side_length, same_mark}
use Rattle.plan_predicate_sinking.proofs.Scans.{as_bags, same_list}
use Rattle.plan_predicate_sinking.proofs.Sinking.{trans}

pub right_moves : (before : ℕ) (own whole places : List ℕ) (c c2 new : Expr)
    → whole ≡ whole_columns before own → IsFound places whole c → IsRenamed places c c2 → new ≡ c2
    → RightMoves before own c new
right_moves before own whole places c c2 new is f ren made =
    subst (λ y. RightMoves before own c y) (sym made) (record {
      says = λ x y lx.
          let both : x ++ gathered own y ≡ gathered whole (x ++ y) =
          sym (ap (λ l. gathered l (x ++ y)) is ∙ kept_row before own x y lx) in
          ap (rank_of c2) both ∙ rank_renamed places c c2 (gathered whole (x ++ y)) ren
          ∙ found_rank places whole (x ++ y) c f;
    })

top_projected : (g : List Value → List Value) (f h : Ranked Value → ℕ) (us : List (Ranked Value))
    → ((u : Ranked Value) → f (ranked (g u.values) u.standing) ≡ h u)
    → top f (project g us) ≡ top h us
top_projected g f h [] same = refl
top_projected g f h (u ∷ us) same =
    ap (λ m. max m (top f (project g us))) (same u)
    ∙ ap (λ m. max (h u) m) (top_projected g f h us same)

attached_as : (F H : List Value → List (Ranked Value) → Value)
    (R S : List Value → List (Ranked Value)) (xs : List (Ranked Value))
    → Each (λ (x : Ranked Value). H x.values (S x.values) ≡ F x.values (R x.values)) xs
    → attach_loop H xs S ≡ attach_loop F xs R
attached_as F H R S [] all = refl
attached_as F H R S (x ∷ xs) all =
    ap (λ v. ranked (x.values ++ v ∷ []) x.standing ∷ attach_loop H xs S) all.0
    ∙ ap (λ l. ranked (x.values ++ F x.values (R x.values) ∷ []) x.standing ∷ l)
    (attached_as F H R S xs all.1)

mark_right : (before : ℕ) (own : List ℕ) (c new : Expr) → RightMoves before own c new
    → (d x : List Value) (us : List (Ranked Value)) → length (d ++ x) ≡ before
    → mark_under new d x (project (gathered own) us) ≡ mark_under c d x us
unfolding mark_under
mark_right before own c new moves d x us lx =
    ap written (top_projected (gathered own)
    (λ u. min u.standing (rank_of new ((d ++ x) ++ u.values)))
    (λ u. min u.standing (rank_of c ((d ++ x) ++ u.values))) us
    (λ u. ap (λ m. min u.standing m) (moves.says (d ++ x) u.values lx)))

pub mark_narrowed : (n m w before : ℕ) (l r new made : DepTree) (side : Side) (c on : Expr)
    (own : List ℕ) → w ≡ width_of l → before ≡ n + w → m ≡ side_width (side_of side) n
    → IsNarrowed m r own new → RightMoves before own c on → made ≡ t.Mark l new side on
    → SameRows n (t.Mark l r side c) made
mark_narrowed n m w before l r new made side c on own wide before_is m_is nar moves made_is =
    subst (λ y. SameRows n (t.Mark l r side c) y) (sym made_is) (record {
      scans = as_bags (scans_Mark l r side c) (scans_Mark l new side on)
          (same_list (ap (λ s. scans_of l ++ s) nar.scans));
      width = width_Mark l r side c ∙ sym (width_Mark l new side on);
      rows = λ db d k ld.
          let R : List Value → List (Ranked Value) = λ x. tree_rows r db (right_row side d x) in
          let S : List Value → List (Ranked Value) = λ x. tree_rows new db (right_row side d x) in
          subst (λ q. SameBag (tree_rows (t.Mark l r side c) db d) q)
          (rows_Mark l r side c db d
          ∙ sym (attached_as (mark_under c d) (mark_under on d) R S (tree_rows l db d)
          (Each-weaker (λ x. length x.values ≡ width_of l) _ (tree_rows l db d)
          (λ x lx.
          ap (mark_under on d x.values) (nar.rows db (right_row side d x.values) k
          (side_length side n d x.values ld ∙ sym m_is))
          ∙ mark_right before own c on moves d x.values (R x.values)
          (length-append d x.values ∙ ap (λ v. v + length x.values) ld
          ∙ ap (λ v. n + v) (lx ∙ sym wide) ∙ sym before_is))
          (tree_is_good l db d k).wide))
          ∙ sym (rows_Mark l new side on db d))
          (SameBag-refl (tree_rows (t.Mark l r side c) db d));
    })

-- a tree of the same rows keeps the same columns
pub keeps_then : (n : ℕ) (t a b : DepTree) (kept : List ℕ) → Keeps n t kept a → SameRows n a b
    → Keeps n t kept b
keeps_then n t a b kept k1 s = record {
  scans = SameBag-trans k1.scans s.scans;
  width = sym s.width ∙ k1.width;
  below = k1.below;
  rows = λ db d k ld. SameBag-trans (SameBag-sym (s.rows db d k ld)) (k1.rows db d k ld);
}

-- the arm
pub mark_shrunk : (n m : ℕ) (tree l r left right new : DepTree) (s : Side) (c c1 : Expr)
    → tree ≡ t.Mark l r s c → SameRows n l left → m ≡ side_width (side_of s) n → SameRows m r right
    → c1 ≡ c → SameRows n (t.Mark left right s c1) new → SameRows n tree new
mark_shrunk n m tree l r left right new s c c1 is sl m_is sr ic shrunk =
    subst (λ y. SameRows n y new) (sym is)
    (trans n (t.Mark l r s c) (t.Mark left right s c) new
    (same_mark n m l r left right s c m_is sl sr)
    (subst (λ (y : Expr). SameRows n (t.Mark left right s y) new) ic shrunk))
