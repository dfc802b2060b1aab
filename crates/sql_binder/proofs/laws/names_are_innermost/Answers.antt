use Rattle.sql_binder.proofs.LawProofs as laws
use Rattle.sql_binder.proofs.OnlyProofs as only
use Rattle.sql_binder.proofs.laws.names_are_innermost.Goals as goal

pub returns : goal.returns
returns c = record { resolution = laws.resolution; only = only.only_column }
