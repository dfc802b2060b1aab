use Rattle.expr_scalar.proofs.Typed.{well_typed}
use Rattle.expr_scalar.proofs.kind.well_typed_gives_its_kind.Goals as goal

pub returns : goal.returns
returns c = well_typed
