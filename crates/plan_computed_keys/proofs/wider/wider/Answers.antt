use Rattle.plan_computed_keys.proofs.Wide.{wider_none, wider_some}
use Rattle.std.proofs.Common.{◌∙◌, refl}
use Rattle.plan_computed_keys.proofs.wider.wider.Goals as goal

pub returns-in-None : goal.returns-in-None
returns-in-None c = wider_none c.args.input c.args.input c.args.more.now c.in-None.is refl

pub returns-in_ok-new-in-Some : goal.returns-in_ok-new-in-Some
returns-in_ok-new-in-Some c =
    wider_some c.args.input c.in_ok-new-in-Some.new c.args.more.now c.args.w c.in-Some.computed
    c.in_ok-last-in-Some.last c.in_ok-columns-in-Some.columns.items _ c.in_ok-es-in-Some.es _
    c.requires c.in-Some.is (c.in_ok-last-in-Some.ensures ∙ c.get.ensures)
    c.in_ok-columns-in-Some.ensures c.deref.ensures.value c.in_ok-es-in-Some.ensures
    c.in_ok-push-in-Some.ensures.ok c.in_ok-new-in-Some.ensures
