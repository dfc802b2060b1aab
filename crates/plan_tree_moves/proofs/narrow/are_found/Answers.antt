use Rattle.std.proofs.Common.{rules}
use Rattle.plan_predicate_sinking.specs.Narrow.{IsFound}
use Rattle.plan_predicate_sinking.proofs.Narrowing.{every_more, every_end}
use Rattle.plan_tree_moves.proofs.narrow.are_found.Goals as goal

pub loop-e-preserved : goal.loop-e-preserved
loop-e-preserved c = every_more (IsFound c.args.places.now c.args.whole.now) c.args.es.now
    c.loop-e.e-index c.e-item.result c.loop-e-test.true c.e-item.is
    (c.in_ok-found.ensures (search rules)) c.loop-e.invariant

pub returns : goal.returns
returns c = λ t. every_end (IsFound c.args.places.now c.args.whole.now) c.args.es.now
    c.loop-e.e-index c.loop-e-test.false c.loop-e.invariant
