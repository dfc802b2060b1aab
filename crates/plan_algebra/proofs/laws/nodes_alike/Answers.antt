use Rattle.plan_algebra.proofs.Alike.{nodes_alike}
use Rattle.plan_algebra.proofs.laws.nodes_alike.Goals as goal

pub returns : goal.returns
returns c = nodes_alike
