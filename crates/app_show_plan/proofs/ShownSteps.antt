-- What is shown of statements, one statement more.
use Rattle.std.proofs.Common.{◌≡◌, ◌∙◌, ℕ, ◌+◌, ◌<◌, ◌≤◌, List, [], ◌∷◌, ◌++◌, Bool, true, ◌&&◌, add-one, ap, append_assoc, drop, drop-cons, length, refl, slice_index_or, subst, sym}
use Rattle.std.proofs.Math.Bool.{and-true, and_assoc}
use Rattle.std.proofs.Math.ListN.{drop_of_length-le}
use Rattle.std.proofs.lemmas.List.{append-nil}
use Rattle.sql_ast.specs.declared.statement.Statement.{Statement}
use Rattle.sql_binder_steps.specs.declared.view.View.{View}
use Rattle.app_sessions.specs.Views.{views_after}
use Rattle.app_show_plan.specs.declared.script.PlanForm.{PlanForm}
use Rattle.app_show_plan.specs.Shown.{AreShown, EndsAsShown}

-- The first statements are shown: whatever is shown of those that are left comes after their text.
pub record AreShownUpTo (form : PlanForm) (steps : List Statement) (k : ℕ) (views : List View) (text : List ℕ) (clean : Bool) : Type 0 where
  pub whole : (rest : List ℕ) (there : Bool) → AreShown form views (drop k steps) rest there → AreShown form [] steps (text ++ rest) (clean && there)

-- before the first one
pub none_shown : (form : PlanForm) (steps : List Statement) (views : List View) (text : List ℕ) → views ≡ [] → text ≡ []
    → AreShownUpTo form steps 0 views text true
none_shown form steps views text none empty =
    subst (λ (t : List ℕ). AreShownUpTo form steps 0 views t true) (sym empty)
    (subst (λ (vs : List View). AreShownUpTo form steps 0 vs [] true) (sym none) (record { whole = λ rest there are. are }))

split : (steps : List Statement) (k : ℕ) (d : Statement) → k < length steps → drop k steps ≡ slice_index_or steps k d ∷ drop (k + 1) steps
split steps k d inside = rw (add-one) (drop-cons steps k d inside)

-- one more, which was read at its place
pub next_shown : (form : PlanForm) (steps : List Statement) (k : ℕ) (step : Statement) (views later : List View) (text all more : List ℕ)
    (clean here : Bool) → k < length steps → step ≡ slice_index_or steps k step → AreShownUpTo form steps k views text clean
    → EndsAsShown form step views more here → later ≡ views_after views step → all ≡ text ++ more
    → AreShownUpTo form steps (k + 1) later all (clean && here)
next_shown form steps k step views later text all more clean here inside at before one views_are text_is = record {
  whole = λ rest there are.
      let left : AreShown form views (drop k steps) (more ++ rest) (here && there) =
      subst (λ (ss : List Statement). AreShown form views ss (more ++ rest) (here && there)) (sym (split steps k step inside)) (
        more,
        rest,
        here,
        there,
        subst (λ (s : Statement). EndsAsShown form s views more here) at one,
        subst (λ (vs : List View). AreShown form vs (drop (k + 1) steps) rest there) (views_are ∙ ap (views_after views) at) are,
        refl,
        refl,
      ) in
      subst (λ (t : List ℕ). AreShown form [] steps t ((clean && here) && there))
      (sym (append_assoc text more rest) ∙ ap (λ t. t ++ rest) (sym text_is))
      (subst (λ (b : Bool). AreShown form [] steps (text ++ (more ++ rest)) b) (sym (and_assoc clean here there))
      (before.whole (more ++ rest) (here && there) left));
}

-- past the last one
pub all_shown : (form : PlanForm) (steps : List Statement) (k : ℕ) (views : List View) (text : List ℕ) (clean : Bool) → length steps ≤ k
    → AreShownUpTo form steps k views text clean → AreShown form [] steps text clean
all_shown form steps k views text clean past before =
    let none = drop_of_length-le steps past in
    subst (λ (b : Bool). AreShown form [] steps text b) (and-true clean)
    (subst (λ (t : List ℕ). AreShown form [] steps t (clean && true)) (append-nil text)
    (before.whole [] true (subst (λ (ss : List Statement). AreShown form views ss [] true) (sym none) (refl, refl))))
