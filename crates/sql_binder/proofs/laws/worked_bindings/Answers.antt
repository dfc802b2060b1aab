use Rattle.sql_binder.proofs.EdgeProofs as edge
use Rattle.sql_binder.proofs.WithProofs.{names_of_with}
use Rattle.sql_binder.proofs.LateralProofs.{bound_laterals}
use Rattle.sql_binder.proofs.SetProofs.{bound_sets}
use Rattle.sql_binder.proofs.laws.worked_bindings.Goals as goal

pub returns : goal.returns
returns c = record {
  dates = edge.moved_dates;
  view = edge.view_of_names;
  chains = edge.chains;
  conditions = edge.conditions_as_values;
  groups = edge.groups;
  sights = edge.sights_of_parts;
  order = edge.order_in_from;
  view_order = edge.order_in_views;
  with_queries = names_of_with;
  laterals = bound_laterals;
  sets = bound_sets;
}
