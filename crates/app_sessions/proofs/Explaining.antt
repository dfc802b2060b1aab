-- The lines of statements, statement by statement.
use Rattle.std.proofs.Common.{◌≡◌, ◌∙◌, ℕ, ◌+◌, ◌<◌, ◌≤◌, List, [], ◌∷◌, ◌++◌, Bool, true, false, ◌&&◌, not, ap, append_assoc, add-one, drop, drop-cons, length, refl, slice_index_or, subst, sym}
use Rattle.std.proofs.Math.ListN.{drop_of_length-le}
use Rattle.std.proofs.lemmas.List.{append-nil}
use Rattle.std.specs.declared.result.Result.TheVariants.{Ok}
use Rattle.plan_algebra.specs.declared.plan.FlatPlan.{FlatPlan}
use Rattle.sql_bound_query.specs.declared.query.BoundQuery.{BoundQuery}
use Rattle.plan_planner.specs.PlanText.{text_of_plan}
use Rattle.plan_planner.specs.Planned.{Plans}
use Rattle.sql_ast.specs.declared.statement.Statement.{Statement}
use Rattle.sql_binder_steps.specs.Steps.{Checked}
use Rattle.sql_binder_steps.specs.declared.view.View.{View}
use Rattle.app_sessions.specs.Explained.{AreExplained, IsExplained, IsQueryExplained, are_taken, is_refused, numbered}
use Rattle.app_sessions.specs.Views.{views_after}

-- the first statements have their lines: whatever lines those that are left have, come after these
pub record Explaining (steps : List Statement) (k : ℕ) (views : List View) (text : List ℕ) (clean : Bool) : Type 0 where
  pub lines : (rest : List ℕ) → AreExplained (k + 1) views (drop k steps) rest → AreExplained 1 [] steps (text ++ rest)
  pub taken : are_taken [] steps ≡ (clean && are_taken views (drop k steps))

pub explaining_none : (steps : List Statement) → Explaining steps 0 [] [] true
explaining_none steps = record { lines = λ rest are. are; taken = refl }

split : (steps : List Statement) (k : ℕ) (d : Statement) → k < length steps → drop k steps ≡ slice_index_or steps k d ∷ drop (k + 1) steps
split steps k d inside = rw (add-one) (drop-cons steps k d inside)

and_assoc : (a b c : Bool) → (a && (b && c)) ≡ ((a && b) && c)
and_assoc true b c = refl
and_assoc false b c = refl

pub explaining_more : (steps : List Statement) (k : ℕ) (d : Statement) (views later : List View) (text more first : List ℕ) (clean refused : Bool) → k < length steps → Explaining steps k views text clean
    → IsExplained (k + 1) views (slice_index_or steps k d) first → more ≡ text ++ first → refused ≡ is_refused views (slice_index_or steps k d) → later ≡ views_after views (slice_index_or steps k d)
    → Explaining steps (k + 1) later more (clean && not refused)
explaining_more steps k d views later text more first clean refused inside before is text_is refused_is views_are = record {
  lines = λ rest are.
      let s = slice_index_or steps k d in
      let left : AreExplained (k + 1) views (drop k steps) (first ++ rest) =
      subst (λ ss. AreExplained (k + 1) views ss (first ++ rest)) (sym (split steps k d inside))
      (first, rest, is, subst (λ vs. AreExplained (k + 1 + 1) vs (drop (k + 1) steps) rest) views_are are, refl) in
      subst (AreExplained 1 [] steps) (sym (append_assoc text first rest) ∙ ap (λ t. t ++ rest) (sym text_is)) (before.lines (first ++ rest) left);
  taken =
      before.taken ∙ ap (λ ss. clean && are_taken views ss) (split steps k d inside)
      ∙ ap (λ r. clean && (not r && are_taken (views_after views (slice_index_or steps k d)) (drop (k + 1) steps))) (sym refused_is)
      ∙ ap (λ vs. clean && (not refused && are_taken vs (drop (k + 1) steps))) (sym views_are)
      ∙ and_assoc clean (not refused) (are_taken later (drop (k + 1) steps));
}

and_true : (a : Bool) → (a && true) ≡ a
and_true true = refl
and_true false = refl

-- past the last statement none is left
pub explaining_all : (steps : List Statement) (k : ℕ) (views : List View) (text : List ℕ) (clean : Bool) → length steps ≤ k → Explaining steps k views text clean → AreExplained 1 [] steps text × (clean ≡ are_taken [] steps)
explaining_all steps k views text clean past before =
    let none = drop_of_length-le steps past in (
      subst (AreExplained 1 [] steps) (append-nil text) (before.lines [] (subst (λ ss. AreExplained (k + 1) views ss []) (sym none) refl)),
      sym (before.taken ∙ ap (λ ss. clean && are_taken views ss) none ∙ and_true clean),
    )

-- a query's lines, from its plan's
pub query_lines : (number : ℕ) (said : Checked BoundQuery) (plan : FlatPlan) (old new lines written : List ℕ) → Plans said (Ok plan) → written ≡ text_of_plan plan.nodes → lines ≡ written → new ≡ old ++ numbered number lines
    → (x : List ℕ) × IsQueryExplained number said x × (new ≡ old ++ x)
query_lines number said plan old new lines written (q, is, of) text same appended = (
  numbered number (text_of_plan plan.nodes),
  subst (λ (s : Checked BoundQuery). IsQueryExplained number s (numbered number (text_of_plan plan.nodes))) (sym is) (plan, of, refl),
  appended ∙ ap (λ l. old ++ numbered number l) (same ∙ text),
)

-- the same, of a statement that was read at its place
pub explaining_next : (steps : List Statement) (k : ℕ) (x : Statement) (views later : List View) (text more first : List ℕ) (clean refused : Bool) → k < length steps → x ≡ slice_index_or steps k x
    → Explaining steps k views text clean → IsExplained (k + 1) views x first → more ≡ text ++ first → refused ≡ is_refused views x → later ≡ views_after views x
    → Explaining steps (k + 1) later more (clean && not refused)
explaining_next steps k x views later text more first clean refused inside at before is text_is refused_is views_are =
    explaining_more steps k x views later text more first clean refused inside before
    (subst (λ s. IsExplained (k + 1) views s first) at is) text_is (refused_is ∙ ap (is_refused views) at) (views_are ∙ ap (views_after views) at)
