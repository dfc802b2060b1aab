use Rattle.std.proofs.Common.{◌∙◌, ap, slice_get, sym}
use Rattle.std.proofs.lemmas.Bool.{true≢false}
use Rattle.std.specs.Arc.{arc_value}
use Rattle.base_row_laws.specs.Bags.{has}
use Rattle.store_groups.specs.Entries.{same_key}
use Rattle.store_groups.proofs.BodyLists.{absent_set, absent_taken, can_placed, gone_set, left_even, left_set, place_seen, place_within, row_taken, taken_placed}
use Rattle.store_groups.proofs.body.Body.take_row.Goals.{in-Left, in_default-matches}
use Rattle.store_groups.proofs.body.Body.take_row.Goals as goal

pub returns-in_default-clause-taken : goal.returns-in_default-clause-taken
returns-in_default-clause-taken c =
    absent_taken (arc_value c.self.inside.keys).items c.self.inside.groups c.args.self.now c.args.key.now c.self.view_is
    (ap (λ l. has same_key c.args.key.now l) (sym (c.as_slice.ensures.value ∙ ap (λ v. v.items) c.deref.ensures)) ∙ c.in_default.ensures)
    c.args.arguments.now

pub returns-in_default-clause-ok : goal.returns-in_default-clause-ok
returns-in_default-clause-ok c =
    absent_set (arc_value c.self.inside.keys).items c.self.inside.groups c.args.self.now c.args.key.now c.self.view_is
    (ap (λ l. has same_key c.args.key.now l) (sym (c.as_slice.ensures.value ∙ ap (λ v. v.items) c.deref.ensures)) ∙ c.in_default.ensures)
    c.args.arguments.now

pub group-requires : goal.group-requires
group-requires c =
    place_within (arc_value c.self.inside.keys).items c.self.inside.groups c.args.self.now c.args.key.now c.in-Some.i c.self.invariant c.self.view_is c.requires.distinct
    (ap (λ l. slice_get l c.in-Some.i) (sym (c.as_slice.ensures.value ∙ ap (λ v. v.items) c.deref.ensures)) ∙ c.in-Some.ensures)

pub remove_row-requires-clause-within : goal.remove_row-requires-clause-within
remove_row-requires-clause-within c =
    place_within (arc_value c.self.inside.keys).items c.self.inside.groups c.args.self.now c.args.key.now c.in-Some.i c.self.invariant c.self.view_is c.requires.distinct
    (ap (λ l. slice_get l c.in-Some.i) (sym (c.as_slice.ensures.value ∙ ap (λ v. v.items) c.deref.ensures)) ∙ c.in-Some.ensures)

pub remove_row-requires-clause-long : goal.remove_row-requires-clause-long
remove_row-requires-clause-long c g at =
    (can_placed (arc_value c.self.inside.keys).items c.self.inside.groups c.args.self.now c.args.key.now c.in-Some.i c.self.invariant c.self.view_is c.requires.distinct
    (ap (λ l. slice_get l c.in-Some.i) (sym (c.as_slice.ensures.value ∙ ap (λ v. v.items) c.deref.ensures)) ∙ c.in-Some.ensures)
    c.args.arguments.now c.requires.can g at).0

pub remove_row-requires-clause-has : goal.remove_row-requires-clause-has
remove_row-requires-clause-has c =
    row_taken (arc_value c.self.inside.keys).items c.self.inside.groups c.args.self.now c.args.key.now c.in-Some.i c.self.invariant c.self.view_is c.requires.distinct
    (ap (λ l. slice_get l c.in-Some.i) (sym (c.as_slice.ensures.value ∙ ap (λ v. v.items) c.deref.ensures)) ∙ c.in-Some.ensures)
    c.args.arguments.now c.fate_of-taken.result c.group.result c.requires.can c.group.ensures (c.fate_of-taken.ensures c.args.arguments.now)
    (elim c.match-matches.branch [ in-Left w ↦ w.in-Left.is | in_default-matches w ↦ absurd (true≢false (sym c.if-matches.true ∙ w.matches-is)) ])

pub invariant_of-self : goal.invariant_of-self
invariant_of-self c =
    left_even (arc_value c.self.inside.keys).items c.self.inside.groups c.args.self.now c.args.key.now c.in-Some.i c.self.invariant c.self.view_is c.requires.distinct
    (ap (λ l. slice_get l c.in-Some.i) (sym (c.as_slice.ensures.value ∙ ap (λ v. v.items) c.deref.ensures)) ∙ c.in-Some.ensures)
    c.args.arguments.now c.remove_row.new.self c.remove_row.ensures

pub without-requires : goal.without-requires
without-requires c =
    place_seen (arc_value c.self.inside.keys).items c.self.inside.groups c.args.self.now c.args.key.now c.in-Some.i c.self.invariant c.self.view_is c.requires.distinct
    (ap (λ l. slice_get l c.in-Some.i) (sym (c.as_slice.ensures.value ∙ ap (λ v. v.items) c.deref.ensures)) ∙ c.in-Some.ensures)

pub returns-then-matches-clause-taken : goal.returns-then-matches-clause-taken
returns-then-matches-clause-taken c =
    taken_placed (arc_value c.self.inside.keys).items c.self.inside.groups c.args.self.now c.args.key.now c.in-Some.i c.self.invariant c.self.view_is c.requires.distinct
    (ap (λ l. slice_get l c.in-Some.i) (sym (c.as_slice.ensures.value ∙ ap (λ v. v.items) c.deref.ensures)) ∙ c.in-Some.ensures)
    c.args.arguments.now c.fate_of-taken.result c.group.result c.group.ensures (c.fate_of-taken.ensures c.args.arguments.now)

pub returns-then-matches-clause-ok : goal.returns-then-matches-clause-ok
returns-then-matches-clause-ok c =
    left_set (arc_value c.self.inside.keys).items c.self.inside.groups c.args.self.now c.args.key.now c.in-Some.i c.self.invariant c.self.view_is c.requires.distinct
    (ap (λ l. slice_get l c.in-Some.i) (sym (c.as_slice.ensures.value ∙ ap (λ v. v.items) c.deref.ensures)) ∙ c.in-Some.ensures)
    c.args.arguments.now c.fate_of-taken.result c.remove_row.new.self
    (elim c.match-matches.branch [ in-Left w ↦ w.in-Left.is | in_default-matches w ↦ absurd (true≢false (sym c.if-matches.true ∙ w.matches-is)) ]) c.remove_row.ensures

pub returns-in_ok-self-inside-clause-taken : goal.returns-in_ok-self-inside-clause-taken
returns-in_ok-self-inside-clause-taken c =
    taken_placed (arc_value c.self.inside.keys).items c.self.inside.groups c.args.self.now c.args.key.now c.in-Some.i c.self.invariant c.self.view_is c.requires.distinct
    (ap (λ l. slice_get l c.in-Some.i) (sym (c.as_slice.ensures.value ∙ ap (λ v. v.items) c.deref.ensures)) ∙ c.in-Some.ensures)
    c.args.arguments.now c.fate_of-taken.result c.group.result c.group.ensures (c.fate_of-taken.ensures c.args.arguments.now)

pub returns-in_ok-self-inside-clause-ok : goal.returns-in_ok-self-inside-clause-ok
returns-in_ok-self-inside-clause-ok c =
    gone_set (arc_value c.self.inside.keys).items c.self.inside.groups c.args.self.now c.args.key.now c.in-Some.i c.self.invariant c.self.view_is c.requires.distinct
    (ap (λ l. slice_get l c.in-Some.i) (sym (c.as_slice.ensures.value ∙ ap (λ v. v.items) c.deref.ensures)) ∙ c.in-Some.ensures)
    c.args.arguments.now c.fate_of-taken.result _
    (elim c.match-matches.branch [ in-Left w ↦ absurd (true≢false (sym w.matches-is ∙ c.if-matches.false)) | in_default-matches w ↦ w.in_default-matches.not-Left ]) (c.drop.view_is ∙ c.in_ok-self-inside.ensures)
