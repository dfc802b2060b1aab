use Rattle.std.proofs.Common.{arith, FitsSigned, w32, w64, ◌∙◌}
use Rattle.std.proofs.lemmas.Result.{IfOk-weaker}
use Rattle.std.proofs.lemmas.Int.{to_z-of_z}
use Rattle.jiff.proofs.SpanFacts.{signed_arith, date_add-days, can_add-days}
use Rattle.base_date.proofs.moved.days_after.Goals as goal

pub returns-clause-value : goal.returns-clause-value
returns-clause-value c =
    let narrow : FitsSigned w32 c.args.count = c.ranges.count in
    let wide : FitsSigned w64 c.args.count = omega (arith, signed_arith) in
    let only = simp to_z-of_z at c.days.ensures in
    IfOk-weaker c.checked_add.result _ _ (λ d e. e ∙ date_add-days c.args.from c.args.count c.days.result only) c.checked_add.ensures.value

pub returns-clause-succeeds : goal.returns-clause-succeeds
returns-clause-succeeds c =
    let narrow : FitsSigned w32 c.args.count = c.ranges.count in
    let wide : FitsSigned w64 c.args.count = omega (arith, signed_arith) in
    let only = simp to_z-of_z at c.days.ensures in
    let can = can_add-days c.args.from c.args.count c.days.result only in
    let both = c.checked_add.ensures.succeeds in
    (λ ok. can.0 (both.0 ok), λ day. both.1 (can.1 day))
