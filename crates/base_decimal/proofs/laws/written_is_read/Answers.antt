use Rattle.base_decimal.proofs.RoundTrip.{reads_back}
use Rattle.base_decimal.proofs.laws.written_is_read.Goals as goal

pub returns : goal.returns
returns c = reads_back
