use Rattle.std.proofs.Common.{◌∙◌, ap, map, []}
use Rattle.base_value.specs.declared.value.Value.TheVariants.{Null, Text}
use Rattle.base_columns.proofs.ColumnLists.{map-gathered}
use Rattle.base_columns.proofs.form.gather_codes.Goals as goal

pub returns : goal.returns
returns c =
    ap (map Text) c.in_ok-codes.ensures ∙ map-gathered Text [] Null c.args.codes.now c.args.places.now c.requires
