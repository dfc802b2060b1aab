use Rattle.std.proofs.Common.{◌∙◌, ap}
use Rattle.base_value.specs.declared.value.Value.TheVariants.{Null}
use Rattle.base_columns.specs.Shown.{shown}
use Rattle.base_columns.specs.Lists.{gathered}
use Rattle.base_columns.proofs.MarkedColumns.{taken_at}
use Rattle.base_columns.proofs.marked_form.MarkedForm.gather.Goals as goal

pub returns : goal.returns
returns c =
    taken_at c.self.inside.marks c.in_ok-marks.marks (shown c.self.inside.form) (shown c.in_ok-form.form) c.args.places.now c.form_len-n.result c.form_len-n.ensures c.in_ok-marks.ensures c.in_ok-form.ensures
    ∙ ap (λ vs. gathered Null vs c.args.places.now) c.self.view_is
