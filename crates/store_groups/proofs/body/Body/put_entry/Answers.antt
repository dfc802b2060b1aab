use Rattle.std.proofs.Common.{◌∙◌, ap, slice_get, sym}
use Rattle.std.specs.Arc.{arc_value}
use Rattle.base_row_laws.specs.Bags.{has}
use Rattle.store_groups.specs.Entries.{same_key}
use Rattle.store_groups.proofs.BodyLists.{absent_without, entry_set, gone_placed, place_seen}
use Rattle.store_groups.proofs.body.Body.put_entry.Goals.{in-Some+in_ok-others-in-Some+in_ok-self-inside-in-Some, in-None+in_ok-self-inside-in-None}
use Rattle.store_groups.proofs.body.Body.put_entry.Goals as goal

pub without-requires : goal.without-requires
without-requires c =
    place_seen (arc_value c.self.inside.keys).items c.self.inside.groups c.args.self.now c.values.result.now c.in-Some.i c.self.invariant c.self.view_is c.requires
    (ap (λ l. slice_get l c.in-Some.i) (sym (c.as_slice.ensures.value ∙ ap (λ v. v.items) c.deref.ensures)) ∙ c.in-Some.ensures)

pub returns-clause-ok : goal.returns-clause-ok
returns-clause-ok c =
    elim c.match-place_of.branch [
      | in-Some+in_ok-others-in-Some+in_ok-self-inside-in-Some w ↦
          w.self-is ∙ w.drop-in-Some.view_is
          ∙ entry_set c.values.result.now c.args.entry.0 c.in_ok-key.key c.args.entry.1 w.group.result c.args.self.now w.in_ok-others-in-Some.others _ (c.in_ok-key.ensures ∙ c.key.ensures) w.group.ensures c.values.ensures
          (gone_placed (arc_value c.self.inside.keys).items c.self.inside.groups c.args.self.now c.values.result.now w.in-Some.i c.self.invariant c.self.view_is c.requires
          (ap (λ l. slice_get l w.in-Some.i) (sym (c.as_slice.ensures.value ∙ ap (λ v. v.items) c.deref.ensures)) ∙ w.in-Some.ensures) _ w.in_ok-others-in-Some.ensures) w.in_ok-self-inside-in-Some.ensures
      | in-None+in_ok-self-inside-in-None w ↦
          w.self-is ∙ w.drop-in-None.view_is
          ∙ entry_set c.values.result.now c.args.entry.0 c.in_ok-key.key c.args.entry.1 w.group-in-None.result c.args.self.now c.args.self.now _ (c.in_ok-key.ensures ∙ c.key.ensures) w.group-in-None.ensures c.values.ensures
          (sym (absent_without (arc_value c.self.inside.keys).items c.self.inside.groups c.args.self.now c.values.result.now c.self.view_is
          (ap (λ l. has same_key c.values.result.now l) (sym (c.as_slice.ensures.value ∙ ap (λ v. v.items) c.deref.ensures)) ∙ w.in-None.ensures))) w.in_ok-self-inside-in-None.ensures
    ]
