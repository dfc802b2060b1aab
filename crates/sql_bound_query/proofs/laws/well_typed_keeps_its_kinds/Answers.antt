use Rattle.sql_bound_query.proofs.KeepsLaw.{keeps_kinds}
use Rattle.sql_bound_query.proofs.laws.well_typed_keeps_its_kinds.Goals as goal

pub returns : goal.returns
returns c = keeps_kinds
