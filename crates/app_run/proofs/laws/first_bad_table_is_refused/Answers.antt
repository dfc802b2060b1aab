use Rattle.app_run.proofs.ReadingOrder.{tables_law}
use Rattle.app_run.proofs.laws.first_bad_table_is_refused.Goals as goal

pub returns : goal.returns
returns c = tables_law
