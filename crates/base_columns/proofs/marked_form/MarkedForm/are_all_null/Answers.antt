use Rattle.std.proofs.Common.{◌≡◌, ◌∙◌, sym, ap, arith, length, replicate}
use Rattle.base_value.specs.declared.value.Value.TheVariants.{Null}
use Rattle.base_columns.specs.Shown.{shown}
use Rattle.base_columns.proofs.MarkedColumns.{all_null, long-marked}
use Rattle.base_columns.proofs.marked_form.MarkedForm.are_all_null.Goals as goal

pub returns : goal.returns
returns c t =
    let ms = c.self.inside.marks in
    let xs = shown c.self.inside.form in
    let n = c.form_len.result in
    let e : n ≡ length c.args.self.now = omega (arith, c.form_len.ensures, long-marked ms xs, ap length c.self.view_is) in
    sym c.self.view_is ∙ all_null ms xs n c.form_len.ensures (c.are_all_set.ensures t) ∙ ap (λ k. replicate k Null) e
