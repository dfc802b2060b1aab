use Rattle.std.proofs.Common.{◌∙◌, ap, refl, ◌++◌}
use Rattle.std.specs.Prelude.{if◌then◌else◌}
use Rattle.std.proofs.lemmas.Result.{on_err_weaker, IfOk-weaker}
use Rattle.base_value.specs.declared.value.Value.TheVariants.{Null}
use Rattle.base_columns.specs.Shown.{shown}
use Rattle.base_null_marks.specs.Marks.{marked}
use Rattle.base_columns.proofs.MarkedColumns.{kept_front, all_put, on_err}
use Rattle.base_columns.proofs.marked_form.MarkedForm.append_alike.Goals as goal

pub returns-in_err-append-clause-err : goal.returns-in_err-append-clause-err
returns-in_err-append-clause-err c =
    on_err c.from_residual.result
    (kept_front c.self.inside.marks c.append.new.self (shown c.self.inside.form) (shown c.self.inside.form) c.form_len-n.result c.in_err-append.ensures.err c.form_len-n.ensures refl ∙ c.self.view_is)

pub returns-clause-ok : goal.returns-clause-ok
returns-clause-ok c =
    let xs = shown c.self.inside.form in
    let ys = shown c.other.inside.form in
    IfOk-weaker c.extend-2.result _ _
    (λ done o.
    all_put done c.self.inside.marks c.other.inside.marks c.append.new.self xs ys (shown c.extend-2.new.form) c.form_len-n.result c.form_len-m.result c.in_ok-append.ensures.ok c.form_len-n.ensures c.form_len-m.ensures o
    ∙ ap (λ vs. if done then vs ++ marked Null c.other.inside.marks ys else vs) c.self.view_is
    ∙ ap (λ ws. if done then c.args.self.now ++ ws else c.args.self.now) c.other.view_is)
    c.extend-2.ensures.ok

pub returns-clause-err : goal.returns-clause-err
returns-clause-err c =
    let xs = shown c.self.inside.form in
    on_err_weaker c.extend-2.result
    (λ o. kept_front c.self.inside.marks c.append.new.self xs (shown c.extend-2.new.form) c.form_len-n.result c.in_ok-append.ensures.ok.before c.form_len-n.ensures o ∙ c.self.view_is)
    c.extend-2.ensures.err
