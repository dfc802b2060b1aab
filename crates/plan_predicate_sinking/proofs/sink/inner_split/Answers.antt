use Rattle.plan_algebra.specs.Trees.{width_of}
use Rattle.plan_predicate_sinking.proofs.OnParts.{on_whole}
use Rattle.plan_predicate_sinking.proofs.sink.inner_split.Goals as goal

pub returns-in_ok-parts-in-Scan : goal.returns-in_ok-parts-in-Scan
returns-in_ok-parts-in-Scan c =
    on_whole c.args.n (width_of c.args.left.now) (width_of c.args.right.now) c.args.side.now
    c.args.c.now _ _ c.in_ok-parts-in-Scan.ensures.covered c.in_ok-parts-in-Scan.ensures.rest
