use Rattle.sql_binder_laws.proofs.KeepsProofs.{bound_keeps_kinds}
use Rattle.sql_binder_laws.proofs.TypedTrees as typed
use Rattle.sql_binder_laws.proofs.laws.bound_is_well_typed.Goals as goal

pub returns : goal.returns
returns c = record {
  table = typed.table_is_well_typed;
  view = typed.view_is_well_typed;
  query = typed.bound_is_well_typed;
  keeps = bound_keeps_kinds;
}
