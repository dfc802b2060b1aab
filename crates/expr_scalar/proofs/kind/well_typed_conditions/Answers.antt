use Rattle.expr_scalar.proofs.KnownProofs.{conditions_give_no_kind, nulls_come_from_nulls}
use Rattle.expr_scalar.proofs.kind.well_typed_conditions.Goals as goal

pub returns : goal.returns
returns c = record { apart = conditions_give_no_kind; known = nulls_come_from_nulls }
