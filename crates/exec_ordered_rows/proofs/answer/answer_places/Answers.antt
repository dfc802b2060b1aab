use Rattle.std.proofs.Common.{◌≡◌, ◌∙◌, ap, subst}
use Rattle.std.specs.Prelude.{Ok}
use Rattle.base_value.specs.Truth.{standing_rank}
use Rattle.base_columns.specs.Bags.{bag_rows}
use Rattle.base_order_limit.specs.Answers.{finished}
use Rattle.exec_ordered_rows.specs.Places.{placed_rows}
use Rattle.exec_ordered_rows.proofs.Limits.{enough_is_finished}
use Rattle.exec_ordered_rows.proofs.answer.answer_places.Goals as goal

pub returns-in-AtTrue-clause-rows : goal.returns-in-AtTrue-clause-rows
returns-in-AtTrue-clause-rows c =
    let t = c.as_slice-table.result.now in
    let kept = c.in_ok-places-in-AtTrue.places.items in
    let got = c.in_ok-places-in-AtTrue-2.places.items in
    let same : t ≡ c.args.batches.now = c.as_slice-table.ensures.value ∙ c.in_ok-table.ensures in
    subst (λ bs. finished c.args.keys.now c.args.limit (bag_rows bs) ≡ Ok (placed_rows bs got)) same
    (enough_is_finished c.args.keys.now c.args.limit (bag_rows t) (placed_rows t kept)
    (placed_rows t got) (standing_rank c.least_of.result) (ap standing_rank c.in-AtTrue.is)
    c.least_of.ensures c.in_ok-places-in-AtTrue.ensures.rows
    c.in_ok-places-in-AtTrue-2.ensures.rows)
