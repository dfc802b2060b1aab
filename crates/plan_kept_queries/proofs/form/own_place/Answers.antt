use Rattle.std.proofs.Common.{ap, ◌∙◌}
use Rattle.std.specs.Prelude.{is_some}
use Rattle.plan_kept_queries.specs.Forms.{own_place}
use Rattle.plan_kept_queries.proofs.FormsOpened.{no_input, own_far, own_here}
use Rattle.plan_kept_queries.proofs.form.own_place.Goals as goal

pub returns-in_default : goal.returns-in_default
returns-in_default c = ap (λ o. is_some o) (no_input c.args.input.now c.in_default.not-Column)

pub returns-then-level-ne0 : goal.returns-then-level-ne0
returns-then-level-ne0 c =
    ap (λ i. is_some (own_place i)) c.in-Column.is ∙ ap (λ o. is_some o) (own_far c.in-Column.level c.in-Column.place c.if-level-ne0.true)

pub returns : goal.returns
returns c = (
  ap (λ i. is_some (own_place i)) c.in-Column.is ∙ ap (λ o. is_some o) (own_here c.in-Column.level c.in-Column.place c.if-level-ne0.false),
  ap own_place c.in-Column.is ∙ own_here c.in-Column.level c.in-Column.place c.if-level-ne0.false,
)
