-- The worked queries, computed.
use Rattle.base_decimal.specs.Decimal.{rescaled, sum_of, quotient_of}
use Rattle.expr_scalar.specs.Meaning.{operated, values, truths, chosen}
use Rattle.expr_scalar.proofs.Opened.{values_opened, truths_opened, operation_is, branch_is}
use Rattle.sql_bound_query.specs.Meaning.{rows}
use Rattle.sql_bound_query.specs.Answer.{answer}
use Rattle.sql_bound_query.specs.Examples.{FaultsOfConditions, SumsAtTheEnd, Counts, NotIn}
use Rattle.sql_bound_query.specs.Examples.{ScalarSubqueries, NestedExists, Finished}
use Rattle.sql_bound_query.proofs.Opened.{query_opened}

pub ruleset computed = (query_opened, values_opened, truths_opened, operation_is, branch_is)

pub faults_of_conditions : FaultsOfConditions
unfolding answer rows operated values truths chosen rescaled sum_of quotient_of
faults_of_conditions = (simp computed, simp computed, simp computed, simp computed)

pub sums_at_the_end : SumsAtTheEnd
unfolding answer rows operated values truths chosen rescaled sum_of quotient_of
sums_at_the_end = (simp computed, simp computed, simp computed)

pub counts : Counts
unfolding answer rows operated values truths chosen rescaled sum_of quotient_of
counts = (simp computed, simp computed, simp computed)

pub not_in : NotIn
unfolding answer rows operated values truths chosen rescaled sum_of quotient_of
not_in = (simp computed, simp computed, simp computed)

pub scalars : ScalarSubqueries
unfolding answer rows operated values truths chosen rescaled sum_of quotient_of
scalars = (simp computed, simp computed)

pub nested : NestedExists
unfolding answer rows operated values truths chosen rescaled sum_of quotient_of
nested = simp computed

pub finished : Finished
unfolding answer rows operated values truths chosen rescaled sum_of quotient_of
finished = (simp computed, simp computed, simp computed, simp computed)
