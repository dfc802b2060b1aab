use Rattle.std.proofs.Common.{◌≡◌, ◌≤◌, ◌∙◌, [], ap, arith, length, subst}
use Rattle.std.specs.Prelude.{IfSome}
use Rattle.base_columns.specs.Lists.{AreBelow, gathered}
use Rattle.base_row_laws.specs.Operators.{select}
use Rattle.plan_algebra.specs.KeptPlans.{holds_for, selected}
use Rattle.store_kept_views.proofs.PlacedRows.{in_place}
use Rattle.store_kept_views.proofs.part_reading.read_in_place.Goals as goal

pub returns-clause-rows : goal.returns-clause-rows
unfolding selected
returns-clause-rows c =
    let left = subst (λ o. IfSome o (λ v. c.args.part.now ≡ gathered [] c.in_ok-segment.segment v.items)) c.in-Some.is c.in_ok-segment.ensures.left in
    let below = subst (λ o. IfSome o (λ v. AreBelow (length c.in_ok-segment.segment) v.items)) c.in-Some.is c.in_ok-segment.ensures.below in
    let all : length c.in_ok-segment.segment ≤ length c.in_ok-reading.reading.rows = omega (arith, c.if-len.false, c.len.ensures, c.len-2.ensures.value) in
    c.in_ok-rows.ensures.rows
    ∙ in_place (holds_for c.args.plan.now) c.in_ok-segment.segment c.args.part.now c.in-Some.places.items c.as_slice.result.now c.in_ok-reading.reading.rows
    (c.in_ok-reading.ensures.rows ∙ ap (λ b. select (holds_for c.args.plan.now) b.rows) c.in_ok-batch.ensures ∙ ap (select (holds_for c.args.plan.now)) c.batch.ensures.rows)
    all below c.as_slice.ensures.value left
