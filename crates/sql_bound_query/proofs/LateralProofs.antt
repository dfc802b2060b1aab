-- The worked queries with lateral items, computed.
use Rattle.std.proofs.Common.{ap, None}
use Rattle.base_decimal.specs.Decimal.{rescaled, sum_of, quotient_of}
use Rattle.expr_scalar.specs.Meaning.{operated, values, truths, chosen}
use Rattle.sql_bound_query.specs.Meaning.{rows}
use Rattle.sql_bound_query.specs.Answer.{answer}
use Rattle.sql_bound_query.specs.LateralExamples.{LateralItems, LateralKinds, LateralReads}
use Rattle.sql_bound_query.specs.Reads.{reads}
use Rattle.sql_bound_query.specs.Typing.{FromKinds}
use Rattle.sql_bound_query.proofs.ExampleProofs.{computed}
use Rattle.sql_bound_query.proofs.TablesOpened.{tables_opened}
use Rattle.sql_bound_query.proofs.TypingOpened.{kinds_Derived, kinds_Lateral}

pub lateral_items : LateralItems
unfolding answer rows operated values truths chosen rescaled sum_of quotient_of
lateral_items = (simp computed, simp computed, simp computed, simp computed)

pub lateral_kinds : LateralKinds
lateral_kinds q js ks = (
  ap (λ (m : FromKinds). m js ks) (kinds_Lateral q),
  ap (λ (m : FromKinds). m js ks) (kinds_Derived None q),
)

pub lateral_reads : LateralReads
unfolding reads
lateral_reads = simp tables_opened
