use Rattle.std.proofs.Common.{◌∙◌, ap, refl, true, ◌++◌, ◌∷◌, []}
use Rattle.std.specs.Prelude.{if◌then◌else◌}
use Rattle.std.proofs.lemmas.Result.{on_err_weaker, IfOk-weaker}
use Rattle.base_value.specs.declared.value.Value.TheVariants.{Null}
use Rattle.base_columns.specs.Shown.{shown}
use Rattle.base_columns.proofs.MarkedColumns.{null_put, kept_past, same_kept, on_err}
use Rattle.base_columns.proofs.marked_form.MarkedForm.put_null.Goals as goal

pub returns-in_err-set-clause-err : goal.returns-in_err-set-clause-err
returns-in_err-set-clause-err c =
    on_err c.from_residual.result
    (same_kept c.self.inside.marks c.set.new.self (shown c.self.inside.form) (shown c.self.inside.form) c.in_err-set.ensures.err refl ∙ c.self.view_is)

pub returns-clause-ok : goal.returns-clause-ok
returns-clause-ok c =
    let xs = shown c.self.inside.form in
    IfOk-weaker c.put_any.result _ _
    (λ done o. null_put done c.self.inside.marks c.set.new.self xs (shown c.put_any.new.form) c.form_len-n.result c.in_ok-set.ensures.ok c.form_len-n.ensures o
    ∙ ap (λ vs. if done then vs ++ Null ∷ [] else vs) c.self.view_is)
    c.put_any.ensures.ok

pub returns-clause-err : goal.returns-clause-err
returns-clause-err c =
    let xs = shown c.self.inside.form in
    on_err_weaker c.put_any.result
    (λ o. kept_past c.self.inside.marks c.set.new.self xs (shown c.put_any.new.form) c.form_len-n.result true c.in_ok-set.ensures.ok c.form_len-n.ensures o ∙ c.self.view_is)
    c.put_any.ensures.err
