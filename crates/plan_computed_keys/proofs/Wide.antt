-- Inputs with a computed column more.
use Rattle.std.proofs.Common.{◌≡◌, ℕ, ◌+◌, List, [], ◌∷◌, ◌++◌, map, refl, sym, ◌∙◌, ap, subst}
use Rattle.std.proofs.Common.{arith, length, inl, inr, ◌⊎◌}
use Rattle.std.specs.Prelude.{Option, Some, None}
use Rattle.std.proofs.lemmas.List.{append-nil, length-append, length-map, map-append}
use Rattle.base_row_laws.proofs.Lists.{Each-all, Each-weaker}
use Rattle.base_row_laws.proofs.AtHand.{project_at_hand}
use Rattle.base_value.specs.declared.value.Value.{Value}
use Rattle.expr_scalar.specs.declared.expr.Expr.{Expr}
use Rattle.expr_scalar.specs.declared.expr.Expr.TheVariants as e
use Rattle.expr_scalar.specs.Meaning.{value, values}
use Rattle.expr_conditions.specs.Ranks.{columns_from}
use Rattle.expr_conditions.proofs.Gather.{gather_at}
use Rattle.plan_algebra.specs.declared.tree.DepTree.{DepTree}
use Rattle.plan_algebra.specs.declared.tree.DepTree.TheVariants as t
use Rattle.plan_algebra.specs.declared.tree.Side.{Side}
use Rattle.plan_algebra.specs.declared.tree.Side.TheVariants.{Closed, Shared, Dependent}
use Rattle.plan_algebra.specs.Trees.{width_of, tree_rows, listed, right_row}
use Rattle.plan_algebra.proofs.Opened.{width_Project, rows_Project, scans_Project}
use Rattle.plan_predicate_sinking.proofs.Conditions.{project_id}
use Rattle.plan_predicate_sinking.proofs.Good.{tree_is_good, length-columns_from}
use Rattle.plan_predicate_sinking.proofs.Narrowing.{listed_after}
use Rattle.plan_computed_keys.specs.Keys.{with_computed, IsWider}

plus_none : (m : ℕ) → m ≡ m + 0
plus_none m = omega arith

pub wider_none : (a new : DepTree) (more : Option Expr) → more ≡ None → new ≡ a
    → IsWider a more new
wider_none a new more none is =
    subst (λ m. IsWider a m new) (sym none) (subst (λ y. IsWider a None y) (sym is) (record {
      scans = refl;
      width = plus_none (width_of a);
      rows = λ db k.
          let A = tree_rows a db [] in
          sym (project_at_hand (with_computed None) (λ r. r) A
          (Each-all (λ x. with_computed None x.values ≡ x.values) A (λ x. append-nil x.values))
          ∙ project_id A);
    }))

listed_more : (es : List Expr) (a : Expr) (x : List Value)
    → listed (es ++ a ∷ []) [] x ≡ listed es [] x ++ value a x ∷ []
unfolding listed values
listed_more es a x = map-append (λ y. value y x) es (a ∷ [])

pub wider_some : (a new : DepTree) (more : Option Expr) (w : ℕ) (computed last : Expr)
    (columns seen : List ℕ) (es all : List Expr) → w ≡ width_of a → more ≡ Some computed
    → last ≡ computed
    → columns ≡ columns_from 0 w → seen ≡ columns → es ≡ map (λ c. e.Column (0 + c)) seen
    → all ≡ es ++ last ∷ [] → new ≡ t.Project a all → IsWider a more new
wider_some a new more w computed last columns seen es all wide some same run is_seen list push is =
    let run_list : List Expr = map (λ c. e.Column (0 + c)) (columns_from 0 w) in
    let whole : all ≡ run_list ++ computed ∷ [] =
    push ∙ ap (λ l. l ++ last ∷ [])
    (list ∙ ap (λ l. map (λ c. e.Column (0 + c)) l) (is_seen ∙ run))
    ∙ ap (λ y. run_list ++ y ∷ []) same in
    subst (λ m. IsWider a m new) (sym some) (subst (λ y. IsWider a (Some computed) y)
    (sym (is ∙ ap (λ l. t.Project a l) whole)) (record {
      scans = sym (scans_Project a (run_list ++ computed ∷ []));
      width = width_Project a (run_list ++ computed ∷ [])
          ∙ length-append run_list (computed ∷ [])
          ∙ ap (λ m. m + 1) (length-map (columns_from 0 w) (λ c. e.Column (0 + c))
          ∙ length-columns_from 0 w ∙ wide);
      rows = λ db k.
          let A = tree_rows a db [] in
          rows_Project a (run_list ++ computed ∷ []) db []
          ∙ project_at_hand (listed (run_list ++ computed ∷ []) []) (with_computed (Some computed))
          A
          (Each-weaker (λ x. length x.values ≡ width_of a)
          (λ x. listed (run_list ++ computed ∷ []) [] x.values
          ≡ with_computed (Some computed) x.values) A
          (λ x v. listed_more run_list computed x.values
          ∙ ap (λ l. l ++ value computed x.values ∷ [])
          (listed_after 0 (columns_from 0 w) [] x.values refl
          ∙ gather_at 0 w x.values [] x.values [] (sym (append-nil x.values)) refl
          (v ∙ sym wide)))
          (tree_is_good a db [] k).wide);
    }))

-- sides that read nothing
pub reads_own : (side : Side) → (side ≡ Closed) ⊎ (side ≡ Shared) → (l : List Value)
    → right_row side [] l ≡ []
unfolding right_row
reads_own side (inl is) l = ap (λ s. right_row s [] l) is
reads_own side (inr is) l = ap (λ s. right_row s [] l) is

pub reads_none : (side : Side) (columns : List ℕ) → side ≡ Dependent columns → columns ≡ []
    → (l : List Value) → right_row side [] l ≡ []
unfolding right_row
reads_none side columns is none l =
    ap (λ s. right_row s [] l) (is ∙ ap (λ cs. Dependent cs) none)
