-- A refresh as its parts.
use Rattle.std.specs.Arc.{arc_value}
use Rattle.std.specs.List.{All}
use Rattle.base_schema.specs.Kinds.{RowsAreOf}
use Rattle.base_schema.specs.declared.table.TableName.TheVariants as table
use Rattle.store_state.specs.declared.refresh.Form.{Form}
use Rattle.store_state.specs.declared.refresh.Form.TheVariants.{Insert, Delete, Malformed}
use Rattle.store_state.specs.Refresh.{Change, DeleteKeys, InsertRows, IsOrderKey, MalformedFile}

-- the change that the parts say
abbrev pub change_of : Form → Change
change_of (Insert sales) = InsertRows (arc_value sales).orders (arc_value sales).lineitems
change_of (Delete keys) = DeleteKeys (arc_value keys).items
change_of (Malformed file set refusal) = MalformedFile file set refusal

-- the rows are of their tables' kinds, and the keys are keys of orders
abbrev pub IsFormed : Form → Type 0
IsFormed (Insert sales) = RowsAreOf table.Orders (arc_value sales).orders
    × RowsAreOf table.Lineitem (arc_value sales).lineitems
IsFormed (Delete keys) = All IsOrderKey (arc_value keys).items
IsFormed (Malformed file set refusal) = Unit {0}
