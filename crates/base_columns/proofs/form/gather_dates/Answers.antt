use Rattle.std.proofs.Common.{◌∙◌, ap, map}
use Rattle.base_value.specs.declared.value.Value.TheVariants.{Null, Date}
use Rattle.base_columns.proofs.ColumnLists.{map-gathered}
use Rattle.base_columns.proofs.form.gather_dates.Goals as goal

pub returns : goal.returns
returns c =
    ap (map (Date)) (c.in_ok-dates.ensures 0) ∙ map-gathered (Date) 0 Null c.args.dates.now c.args.places.now c.requires
