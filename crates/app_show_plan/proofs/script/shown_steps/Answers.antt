use Rattle.std.proofs.Common.{◌∙◌, ◌++◌, ap, arith}
use Rattle.app_show_plan.proofs.ShownSteps.{all_shown, next_shown, none_shown}
use Rattle.app_show_plan.proofs.script.shown_steps.Goals as goal

pub loop-place-init : goal.loop-place-init
loop-place-init g c = none_shown c.args.form c.args.steps.now c.new-views.result c.new-text.result.items c.new-views.ensures c.new-text.ensures.items

pub loop-place-preserved : goal.loop-place-preserved
loop-place-preserved g c =
    next_shown c.args.form c.args.steps.now c.loop-place.place c.index-steps-place.result c.loop-place.views c.shown_statement.new.views c.loop-place.text.items c.extend_from_slice.new.self.items c.in_ok-one.one.text.items c.loop-place.is_clean c.in_ok-one.one.is_clean
    c.loop-place-test.true c.index-steps-place.is c.loop-place.invariant c.in_ok-one.ensures.shown c.in_ok-one.ensures.views
    (c.in_ok-extend_from_slice.ensures.items ∙ ap (λ l. c.loop-place.text.items ++ l) c.as_slice.ensures.value)

pub returns : goal.returns
returns g c = all_shown c.args.form c.args.steps.now c.loop-place.place c.loop-place.views c.loop-place.text.items c.loop-place.is_clean (omega (arith, c.loop-place-test.false)) c.loop-place.invariant
