-- A refresh as its readers see it.
use Rattle.store_state.specs.declared.action.Action.{Action}
use Rattle.store_state.specs.declared.action.Action.TheVariants.{Insert, Delete, Malformed}
use Rattle.store_state.specs.Refresh.{Change, DeleteKeys, InsertRows, MalformedFile}

-- the change that the action is
abbrev pub change_by : Action → Change
change_by (Insert orders lineitems) = InsertRows orders.now lineitems.now
change_by (Delete keys) = DeleteKeys keys.now
change_by (Malformed file set refusal) = MalformedFile file set refusal
