use Rattle.base_decimal.proofs.Signed.{signed_quotient}
use Rattle.base_decimal.proofs.Powers.{rescaled_value}
use Rattle.base_decimal.proofs.laws.arithmetic_by_value.Goals as goal

pub returns-clause-rescale : goal.returns-clause-rescale
returns-clause-rescale c = rescaled_value

pub returns-clause-quotient : goal.returns-clause-quotient
returns-clause-quotient c = signed_quotient
