use Rattle.base_columns.specs.Shown.{shown}
use Rattle.base_columns.proofs.MarkedColumns.{all_null}
use Rattle.base_columns.proofs.marked_form.MarkedForm.nulls.Goals as goal

pub returns : goal.returns
returns c = all_null c.in_ok-marks.marks (shown c.args.form) c.args.n c.requires c.in_ok-marks.ensures
