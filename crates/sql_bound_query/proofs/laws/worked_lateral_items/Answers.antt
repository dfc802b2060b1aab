use Rattle.sql_bound_query.proofs.LateralProofs as lateral
use Rattle.sql_bound_query.proofs.laws.worked_lateral_items.Goals as goal

pub returns : goal.returns
returns c = record {
  items = lateral.lateral_items;
  kinds = lateral.lateral_kinds;
  reads = lateral.lateral_reads;
}
