use Rattle.std.proofs.Common.{◌∙◌, ap, refl}
use Rattle.base_value.specs.declared.value.Value.TheVariants.{Null}
use Rattle.base_columns.specs.Shown.{shown}
use Rattle.base_columns.specs.Lists.{gathered}
use Rattle.std.proofs.Common.{◌≡◌, arith, length}
use Rattle.std.proofs.lemmas.Result.{IfOk-weaker}
use Rattle.base_columns.proofs.MarkedColumns.{taken_inside, nothing_there, long-marked}
use Rattle.base_columns.proofs.marked_form.MarkedForm.gather_or_null.Goals as goal

pub returns : goal.returns
returns c =
    taken_inside c.self.inside.marks c.in_ok-marks.marks (shown c.self.inside.form) (shown c.in_ok-form.form) c.args.places.now c.in_ok-inside.inside.items c.form_len-n.result c.form_len-n.ensures c.in_ok-marks.ensures c.in_ok-inside.ensures.value (rw c.as_slice.ensures.value at c.in_ok-form.ensures)
    ∙ ap (λ vs. gathered Null vs c.args.places.now) c.self.view_is

pub returns-then-n-eq0 : goal.returns-then-n-eq0
returns-then-n-eq0 c =
    let vs = c.args.self.now in
    let none : length vs ≡ 0 = omega (arith, c.if-n-eq0.true, c.form_len-n.ensures, long-marked c.self.inside.marks (shown c.self.inside.form), ap length c.self.view_is) in
    IfOk-weaker c.nulls_like.result _ _ (λ m o. o ∙ nothing_there vs c.args.places.now (length c.args.places.now) none refl) c.nulls_like.ensures
