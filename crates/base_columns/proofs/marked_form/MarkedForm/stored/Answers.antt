use Rattle.std.proofs.Common.{◌∙◌}
use Rattle.base_columns.specs.Shown.{shown}
use Rattle.base_columns.proofs.MarkedColumns.{first_marks}
use Rattle.base_columns.proofs.marked_form.MarkedForm.stored.Goals as goal

pub returns : goal.returns
returns c =
    first_marks c.self.inside.marks c.in_ok-marks.marks (shown c.self.inside.form) (shown c.in_ok-form.form) c.form_len.result c.in_ok-marks.ensures c.form_len.ensures c.in_ok-form.ensures ∙ c.self.view_is
