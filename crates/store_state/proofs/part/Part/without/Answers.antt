use Rattle.std.proofs.Common.{rules, ◌≡◌, ◌∙◌, List, ℕ, IfOk, length, ap, subst, sym}
use Rattle.std.specs.Arc.{arc_value}
use Rattle.std.specs.List.{filter}
use Rattle.base_value.specs.declared.value.Value.{Value}
use Rattle.store_state.specs.Parts.{AreNear, IsWithout, is_between, left_rows}
use Rattle.store_state.specs.Refresh.{without_keys}
use Rattle.store_state.proofs.KeyRanges.{are_near, none_goes}
use Rattle.store_state.proofs.LeftRows.{without_same}
use Rattle.store_state.proofs.part.Part.without.Goals as goal

pub places_without-requires-clause-near : goal.places_without-requires-clause-near
places_without-requires-clause-near c =
    let range = c.self.inside.range in
    let rows = c.self.inside.segment in
    let keys = c.args.keys.now in
    let is : c.deref-2.result.now ≡ filter (is_between range.least range.greatest) keys =
    c.deref-2.ensures.value ∙ c.in_ok-near.ensures ∙ ap (filter (is_between range.least range.greatest)) c.as_slice.ensures in
    subst (λ near. AreNear keys near rows) (sym is) (are_near keys range.least range.greatest rows c.self.invariant.between)

pub returns-then-len : goal.returns-then-len
returns-then-len c =
    let deleted = (arc_value c.self.inside.deleted).items in
    let rows = c.self.inside.segment in
    let keys = c.args.keys.now in
    let more = c.in_ok-places.places.items in
    let without : IsWithout keys deleted rows more =
    subst (λ (d : List ℕ). IsWithout keys d rows more) (c.as_slice-deleted.ensures.value ∙ ap (λ v. v.items) c.deref.ensures) c.in_ok-places.ensures in
    let same : length more ≡ length deleted = search rules in
    let e : left_rows deleted rows ≡ without_keys keys (left_rows deleted rows) = without_same keys deleted more rows c.self.invariant.are without same in
    subst (λ (all : List (List Value)). IfOk c.clone-then-len.result (λ part. part ≡ all)) (sym c.self.view_is ∙ e ∙ ap (without_keys keys) c.self.view_is) c.clone-then-len.ensures

pub returns-then-not-may_have : goal.returns-then-not-may_have
returns-then-not-may_have c =
    subst (λ (all : List (List Value)). IfOk c.clone.result (λ part. part ≡ all)) (none_goes c.args.keys.now c.args.self.now (c.may_have.ensures c.if-not-may_have.true)) c.clone.ensures
