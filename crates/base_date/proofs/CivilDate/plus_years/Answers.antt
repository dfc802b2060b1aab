use Rattle.std.proofs.Common.{arith, ap, ◌∙◌, ◌≡◌, ◌+ℤ◌, ◌*ℤ◌, pos, w64, to_z, of_z}
use Rattle.std.proofs.lemmas.Int.{ints}
use Rattle.base_date.specs.Move.{day_of_date, month_number, months_moved}
use Rattle.base_date.proofs.CivilDate.plus_years.Goals as goal

pub returns : goal.returns
returns c =
    let months : to_z w64 (of_z w64 (pos 12 *ℤ to_z w64 (of_z w64 c.args.count))) ≡ c.args.count *ℤ pos 12 = omega (arith, ints) in
    c.plus_months.ensures ∙ ap (λ k. months_moved (day_of_date c.args.self.now) (pos (month_number (day_of_date c.args.self.now)) +ℤ k)) months
