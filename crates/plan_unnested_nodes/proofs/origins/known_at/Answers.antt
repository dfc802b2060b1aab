use Rattle.std.proofs.Common.{sym}
use Rattle.plan_unnested_nodes.proofs.Turns.{none_at}
use Rattle.plan_unnested_nodes.proofs.origins.known_at.Goals as goal

pub returns-in-None : goal.returns-in-None
returns-in-None c =
    let e = rw c.in-None.is at c.at.ensures in
    sym (none_at c.args.kinds.now c.args.column (sym e))
