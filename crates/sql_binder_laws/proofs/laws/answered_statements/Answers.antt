use Rattle.sql_binder_laws.proofs.AnsweredProofs as answered
use Rattle.sql_binder_laws.proofs.laws.answered_statements.Goals as goal

pub returns : goal.returns
returns c = record {
  plain = answered.plain_statements;
  balances = answered.balances;
  divided = answered.divided_conditions;
  sums = answered.sums_of_largest;
  counts = answered.counts_of_orders;
  not_in = answered.regions_not_in;
  one = answered.one_order;
  nested = answered.regions_of_orders;
  joins = answered.subqueries_of_on;
  laterals = answered.answered_laterals;
  groups = answered.group_of_no_rows;
  distribution = answered.distribution_of_orders;
}
