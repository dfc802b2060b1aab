use Rattle.app_run.proofs.Accepted.{session_law, tables_law}
use Rattle.app_run.proofs.laws.good_inputs_are_accepted.Goals as goal

pub returns-clause-tables : goal.returns-clause-tables
returns-clause-tables c = tables_law

pub returns-clause-session : goal.returns-clause-session
returns-clause-session c = session_law
