use Rattle.std.proofs.Common.{◌≡◌, ◌∙◌, ◌++◌, ◌∷◌, [], ap, sym}
use Rattle.std.specs.Prelude.{Ok, Some}
use Rattle.sql_binder.specs.Binding.{bound_view}
use Rattle.sql_binder_steps.specs.Steps.{and_then}
use Rattle.sql_binder_steps.specs.declared.view.View.{View}
use Rattle.plan_planner.proofs.TypedViews.{typed_kept}
use Rattle.plan_planner.proofs.views.SessionViews.keep.Goals as goal

pub invariant_of-self-2 : goal.invariant_of-self-2
invariant_of-self-2 c =
    typed_kept c.self.inside.views.all c.push.new.self c.args.number c.args.name.now
    c.args.query.now c.in_ok-view.view c.self.invariant
    (ap (λ vs. bound_view c.args.name.now [] c.args.query.now vs) (sym c.new.ensures)
    ∙ c.in_ok-view.ensures)
    c.in_ok-push.ensures.ok

pub returns : goal.returns
returns c = (
  record c.in_ok-view.view { kept = Some c.args.number },
  ap (λ made. and_then made (λ (v : View). Ok (record v { kept = Some c.args.number })))
      (ap (λ vs. bound_view c.args.name.now [] c.args.query.now vs) (sym c.new.ensures)
      ∙ c.in_ok-view.ensures),
  c.in_ok-push.ensures.ok
      ∙ ap (λ vs. vs ++ record c.in_ok-view.view { kept = Some c.args.number } ∷ []) c.self.view_is,
)
