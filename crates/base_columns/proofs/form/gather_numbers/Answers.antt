use Rattle.std.proofs.Common.{◌∙◌, ap, map}
use Rattle.std.specs.Prelude.{pos}
use Rattle.base_value.specs.declared.value.Value.TheVariants.{Null, Number}
use Rattle.base_columns.proofs.ColumnLists.{map-gathered}
use Rattle.base_columns.proofs.form.gather_numbers.Goals as goal

pub returns : goal.returns
returns c =
    ap (map (Number c.args.scale)) (c.in_ok-numbers.ensures (pos 0)) ∙ map-gathered (Number c.args.scale) (pos 0) Null c.args.numbers.now c.args.places.now c.requires
