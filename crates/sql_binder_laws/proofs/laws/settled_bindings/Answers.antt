use Rattle.sql_binder_laws.proofs.SettledProofs as settled
use Rattle.sql_binder_laws.proofs.laws.settled_bindings.Goals as goal

pub returns : goal.returns
returns c = record {
  items = settled.items_of_from;
  conditions = settled.values_as_conditions;
  order_of_in = settled.order_of_in;
  operands = settled.operands_first;
  names = settled.names_further_out;
  names_of_on = settled.names_of_on;
  keys = settled.repeated_keys;
  outputs = settled.output_names;
  aggregates = settled.places_of_aggregates;
  turns = settled.turns_of_columns;
}
