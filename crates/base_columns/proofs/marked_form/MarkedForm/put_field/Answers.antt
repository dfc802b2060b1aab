use Rattle.std.proofs.Common.{◌∙◌, ap, refl, false, ◌++◌, ◌∷◌, [], length}
use Rattle.std.specs.Prelude.{if◌then◌else◌}
use Rattle.std.proofs.lemmas.Result.{on_err_weaker, IfOk-weaker}
use Rattle.base_columns.specs.Shown.{shown}
use Rattle.base_columns.specs.Fields.{field_value}
use Rattle.base_columns.proofs.MarkedColumns.{kept_past, with_value, value_put, on_err}
use Rattle.base_columns.proofs.marked_form.MarkedForm.put_field.Goals as goal

pub returns-in_err-put-clause-err : goal.returns-in_err-put-clause-err
returns-in_err-put-clause-err c =
    let xs = shown c.self.inside.form in
    on_err c.from_residual.result
    (kept_past c.self.inside.marks c.clear_next.new.marks xs (shown c.put.new.form) (length xs) false c.clear_next.ensures refl c.in_err-put.ensures.err ∙ c.self.view_is)

pub returns-then-branch-clause-ok : goal.returns-then-branch-clause-ok
returns-then-branch-clause-ok c =
    let xs = shown c.self.inside.form in
    let e = rw c.if-branch.true at c.in_ok-put.ensures.ok in
    with_value c.self.inside.marks c.clear_next.new.marks xs (shown c.put.new.form) (length xs) (field_value c.args.field.now) c.clear_next.ensures refl e
    ∙ ap (λ vs. vs ++ field_value c.args.field.now ∷ []) c.self.view_is

pub returns-clause-ok : goal.returns-clause-ok
returns-clause-ok c =
    let xs = shown c.self.inside.form in
    let v = field_value c.args.field.now in
    let e = rw c.if-branch.false at c.in_ok-put.ensures.ok in
    IfOk-weaker c.put_spelled.result _ _
    (λ done o.
    value_put done c.self.inside.marks c.clear_next.new.marks xs (shown c.put_spelled.new.form) (length xs) v c.clear_next.ensures refl
    (o ∙ ap (λ vs. if done then vs ++ v ∷ [] else vs) e)
    ∙ ap (λ vs. if done then vs ++ v ∷ [] else vs) c.self.view_is)
    c.put_spelled.ensures.ok

pub returns-clause-err : goal.returns-clause-err
returns-clause-err c =
    let xs = shown c.self.inside.form in
    let e = rw c.if-branch.false at c.in_ok-put.ensures.ok in
    on_err_weaker c.put_spelled.result
    (λ o. kept_past c.self.inside.marks c.clear_next.new.marks xs (shown c.put_spelled.new.form) (length xs) false c.clear_next.ensures refl (o ∙ e) ∙ c.self.view_is)
    c.put_spelled.ensures.err
