use Rattle.std.proofs.Common.{◌∙◌, ap, length, take}
use Rattle.base_columns.specs.Shown.{shown}
use Rattle.std.proofs.Common.{arith}
use Rattle.base_columns.proofs.MarkedColumns.{cut_marks, long-marked}
use Rattle.base_columns.proofs.marked_form.MarkedForm.truncate.Goals as goal

pub returns : goal.returns
returns c =
    let xs = shown c.self.inside.form in
    cut_marks c.self.inside.marks c.truncate.new.self xs (shown c.truncate-2.new.form) c.args.n
    (omega (arith, c.requires, ap length c.self.view_is, long-marked c.self.inside.marks xs)) c.truncate.ensures.kept c.truncate-2.ensures
    ∙ ap (take c.args.n) c.self.view_is
