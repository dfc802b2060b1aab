use Rattle.std.proofs.Common.{◌∙◌, ap, map, []}
use Rattle.base_value.specs.declared.value.Value.TheVariants.{Null, Text}
use Rattle.base_columns.proofs.ColumnLists.{map-gathered}
use Rattle.base_columns.proofs.form.gather_texts.Goals as goal

pub returns-in-Some : goal.returns-in-Some
returns-in-Some c =
    let e = rw c.in-Some.is at c.in_ok-texts.ensures in
    ap (map Text) e ∙ map-gathered Text [] Null c.args.texts.now c.args.places.now c.requires
