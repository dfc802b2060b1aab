use Rattle.sql_binder_laws.proofs.NamesProofs.{names_stand}
use Rattle.sql_binder_laws.proofs.laws.names_stand_for_columns.Goals as goal

pub returns : goal.returns
returns c = names_stand
