-- The worked queries that name a version, computed.
use Rattle.std.proofs.Common.{refl}
use Rattle.std.specs.Fmt.{digits}
use Rattle.base_decimal.specs.Decimal.{rescaled, sum_of, quotient_of}
use Rattle.expr_scalar.specs.Meaning.{operated, values, truths, chosen}
use Rattle.sql_bound_query.specs.Meaning.{rows}
use Rattle.sql_bound_query.specs.Answer.{answer}
use Rattle.sql_bound_query.proofs.ExampleProofs.{computed}
use Rattle.app_sessions.specs.VersionExamples.{VersionExamples}

pub version_examples : VersionExamples
unfolding digits answer rows operated values truths chosen rescaled sum_of quotient_of
version_examples = record {
  last = simp computed;
  first = simp computed;
  second = simp computed;
  unknown = refl;
  gone = refl;
  oldest = simp computed;
  unbound = refl;
  fault = refl;
}
