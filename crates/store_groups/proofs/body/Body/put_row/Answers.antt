use Rattle.std.proofs.Common.{◌∙◌, ap, length, slice_get, sym}
use Rattle.std.specs.Arc.{arc_value}
use Rattle.store_groups.proofs.BodyLists.{long_placed, on_err, row_added, row_placed, view_same_keys}
use Rattle.base_row_laws.specs.Bags.{has}
use Rattle.base_value.specs.Truth.{standing_rank}
use Rattle.store_groups.specs.Entries.{same_key}
use Rattle.store_groups.proofs.body.Body.put_row.Goals as goal

pub put_row-requires-clause-long : goal.put_row-requires-clause-long
put_row-requires-clause-long c =
    long_placed (arc_value c.self.inside.keys).items c.self.inside.groups c.args.self.now c.args.key.now c.in-Some.i c.self.invariant c.self.view_is c.requires.distinct
    (ap (λ l. slice_get l c.in-Some.i) (sym (c.as_slice.ensures.value ∙ ap (λ v. v.items) c.deref.ensures)) ∙ c.in-Some.ensures)
    (length c.args.arguments.now) c.requires.long

pub returns-in_err-put_row-clause-err : goal.returns-in_err-put_row-clause-err
returns-in_err-put_row-clause-err c =
    on_err c.from_residual.result (view_same_keys (arc_value c.self.inside.keys).items c.self.inside.groups c.put_row.new.self c.args.self.now c.self.invariant c.self.view_is c.in_err-put_row.ensures.many)

pub returns-in-Some-clause-ok : goal.returns-in-Some-clause-ok
returns-in-Some-clause-ok c =
    row_placed (arc_value c.self.inside.keys).items c.self.inside.groups c.args.self.now c.args.key.now c.in-Some.i c.self.invariant c.self.view_is c.requires.distinct
    (ap (λ l. slice_get l c.in-Some.i) (sym (c.as_slice.ensures.value ∙ ap (λ v. v.items) c.deref.ensures)) ∙ c.in-Some.ensures)
    c.args.arguments.now (standing_rank c.args.standing) c.put_row.new.self c.in_ok-put_row.ensures.set

pub returns-clause-ok : goal.returns-clause-ok
returns-clause-ok c =
    row_added (arc_value c.self.inside.keys).items c.self.inside.groups c.args.self.now c.args.key.now c.self.view_is
    (ap (λ l. has same_key c.args.key.now l) (sym (c.as_slice.ensures.value ∙ ap (λ v. v.items) c.deref.ensures)) ∙ c.in_default.ensures)
    c.args.arguments.now (standing_rank c.args.standing) _ (c.drop.view_is ∙ c.in_ok-self-inside.ensures)
