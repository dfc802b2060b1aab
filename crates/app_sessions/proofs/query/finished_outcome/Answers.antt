use Rattle.app_sessions.proofs.Printable.{finished_printable}
use Rattle.app_sessions.proofs.query.finished_outcome.Goals as goal

pub returns-in-Ok-clause-printable : goal.returns-in-Ok-clause-printable
returns-in-Ok-clause-printable c =
    let is = rw c.in-Ok.is at c.in_ok-rows.ensures in
    finished_printable _ _ _ c.in-Ok.rows is
