use Rattle.sql_bound_query.proofs.ExampleProofs as worked
use Rattle.sql_bound_query.proofs.ReadsProofs as reads
use Rattle.sql_bound_query.proofs.laws.worked_queries.Goals as goal

pub returns : goal.returns
returns c = record {
  conditions = worked.faults_of_conditions;
  sums = worked.sums_at_the_end;
  counts = worked.counts;
  not_in = worked.not_in;
  scalars = worked.scalars;
  nested = worked.nested;
  finished = worked.finished;
  reading = reads.reading;
}
