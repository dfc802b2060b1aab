use Rattle.sql_bound_query.proofs.SetProofs as sets
use Rattle.sql_bound_query.proofs.laws.worked_set_operations.Goals as goal

pub returns : goal.returns
returns c = record {
  operations = sets.set_operations;
  quantified = sets.quantified;
  kinds = sets.set_kinds_are;
  reads = sets.set_reads;
}
