use Rattle.std.proofs.Common.{◌≡◌, ◌∙◌, ap, pos}
use Rattle.base_date.specs.Date.{date_number}
use Rattle.base_date.specs.Move.{day_at, day_of_date, days_moved}
use Rattle.app_sample_data.proofs.CalendarDays.{kept, reached}
use Rattle.app_sample_data.proofs.dates.day_after_first.Goals as goal

pub unreachable-requires : goal.unreachable-requires
unreachable-requires c = let there = reached c.args.days c.requires in cc

pub returns : goal.returns
returns c =
    let there = reached c.args.days c.requires in
    let z = days_moved (day_at 1992 1 1) (pos c.args.days) in
    let same : c.in-Ok.day ≡ date_number z.year z.month z.day = cc in
    ap day_of_date same ∙ kept c.args.days c.requires
