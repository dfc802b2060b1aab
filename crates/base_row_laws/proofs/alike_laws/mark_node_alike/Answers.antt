use Rattle.base_row_laws.proofs.Alike.{attach_alike}
use Rattle.base_row_laws.specs.Operators.{mark_of}
use Rattle.base_row_laws.proofs.Values.{mark_bag}
use Rattle.base_row_laws.proofs.alike_laws.mark_node_alike.Goals as goal

pub returns : goal.returns
returns g c = λ same is pick write c xs us ys vs. attach_alike same is pick (mark_of write c) xs us ys vs (mark_bag write c)
