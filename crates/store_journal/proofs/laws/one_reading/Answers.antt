use Rattle.store_journal.proofs.Readings.{same_reading, not_bad, one_place}
use Rattle.store_journal.proofs.laws.one_reading.Goals as goal

pub returns-clause-same : goal.returns-clause-same
returns-clause-same g c = same_reading g.P.Payload.is_payload

pub returns-clause-apart : goal.returns-clause-apart
returns-clause-apart g c = not_bad g.P.Payload.is_payload

pub returns-clause-place : goal.returns-clause-place
returns-clause-place g c = one_place g.P.Payload.is_payload
