-- The worked set operations, and ANY and ALL, computed.
use Rattle.std.proofs.Common.{ap}
use Rattle.base_decimal.specs.Decimal.{rescaled, sum_of, quotient_of}
use Rattle.expr_scalar.specs.Meaning.{operated, values, truths, chosen}
use Rattle.sql_bound_query.specs.Meaning.{rows}
use Rattle.sql_bound_query.specs.Answer.{answer}
use Rattle.sql_bound_query.specs.SetExamples.{SetOperations, Quantified, SetKinds, SetReads}
use Rattle.sql_bound_query.specs.Reads.{reads}
use Rattle.sql_bound_query.specs.Typing.{KindsMeaning}
use Rattle.sql_bound_query.proofs.ExampleProofs.{computed}
use Rattle.sql_bound_query.proofs.TablesOpened.{tables_opened}
use Rattle.sql_bound_query.proofs.TypingOpened.{kinds_Set}

pub set_operations : SetOperations
unfolding answer rows operated values truths chosen rescaled sum_of quotient_of
set_operations = (simp computed, simp computed, simp computed, simp computed, simp computed)

pub quantified : Quantified
unfolding answer rows operated values truths chosen rescaled sum_of quotient_of
quantified = (simp computed, simp computed, simp computed, simp computed)

pub set_kinds_are : SetKinds
set_kinds_are a b columns operation ks = ap (λ (m : KindsMeaning). m ks) (kinds_Set a b columns operation)

pub set_reads : SetReads
unfolding reads
set_reads = simp tables_opened
