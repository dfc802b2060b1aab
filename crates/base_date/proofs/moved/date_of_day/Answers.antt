use Rattle.base_date.proofs.Months.{is_date_number}
use Rattle.base_date.proofs.moved.date_of_day.Goals as goal

pub invariant_of-result : goal.invariant_of-result
invariant_of-result c = is_date_number c.args.year c.args.month c.args.day c.requires
