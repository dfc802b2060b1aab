use Rattle.sql_binder.proofs.ExampleProofs.{first_refusals, later_refusals}
use Rattle.sql_binder.proofs.WithProofs.{refusals_of_with}
use Rattle.sql_binder.proofs.LateralProofs.{refused_laterals}
use Rattle.sql_binder.proofs.SetProofs.{refused_sets}
use Rattle.sql_binder.proofs.laws.worked_refusals.Goals as goal

pub returns : goal.returns
returns c = record {
  first = first_refusals;
  later = later_refusals;
  with_queries = refusals_of_with;
  laterals = refused_laterals;
  sets = refused_sets;
}
