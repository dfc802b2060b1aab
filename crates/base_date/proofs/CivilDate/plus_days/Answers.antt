use Rattle.std.proofs.Common.{FitsSigned, w32, ◌∙◌, pos}
use Rattle.std.proofs.lemmas.Int.{to_z-of_z, by_lt_z}
use Rattle.base_date.proofs.Library.{Starts, too_far, no_such_day, too_early, day_reached}
use Rattle.base_date.proofs.CivilDate.plus_days.Goals as goal

pub returns-then-unsigned_abs-gt-MOST_DAYS : goal.returns-then-unsigned_abs-gt-MOST_DAYS
returns-then-unsigned_abs-gt-MOST_DAYS c =
    let start : Starts c.args.self.now c.to_jiff-from.result = record { day = c.to_jiff-from.ensures.day; valid = c.to_jiff-from.ensures.valid } in
    let narrow : FitsSigned w32 c.args.count = c.ranges.count in
    let size = simp to_z-of_z at c.unsigned_abs.ensures.value in
    too_far c.args.self.now c.args.count c.to_jiff-from.result start (rw (← size) c.if-unsigned_abs-gt-MOST_DAYS.true)

pub returns-in-Err : goal.returns-in-Err
returns-in-Err c =
    let start : Starts c.args.self.now c.to_jiff-from.result = record { day = c.to_jiff-from.ensures.day; valid = c.to_jiff-from.ensures.valid } in
    let narrow : FitsSigned w32 c.args.count = c.ranges.count in
    let none = simp to_z-of_z at c.in-Err.ensures.succeeds in
    no_such_day c.args.self.now c.args.count c.to_jiff-from.result start (λ day. let impossible = none.1 day in cc)

pub returns-in-Ok : goal.returns-in-Ok
returns-in-Ok c =
    let start : Starts c.args.self.now c.to_jiff-from.result = record { day = c.to_jiff-from.ensures.day; valid = c.to_jiff-from.ensures.valid } in
    let narrow : FitsSigned w32 c.args.count = c.ranges.count in
    let value = simp to_z-of_z at c.in-Ok.ensures.value in
    by_lt_z c.in-Ok.to.year (pos 1)
    (λ lt. c.of_years.ensures.early lt ∙ too_early c.args.self.now c.args.count c.to_jiff-from.result c.in-Ok.to start value lt)
    (λ ge. c.of_years.ensures.other ge ∙ day_reached c.args.self.now c.args.count c.to_jiff-from.result c.in-Ok.to start value ge)
