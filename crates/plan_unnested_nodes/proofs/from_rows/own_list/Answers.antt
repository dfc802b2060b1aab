use Rattle.std.proofs.Common.{sym, subst}
use Rattle.plan_unnested_nodes.specs.FromRows.{AreOwn}
use Rattle.plan_unnested_nodes.proofs.Turns.{none_own, own_put}
use Rattle.plan_unnested_nodes.proofs.from_rows.own_list.Goals as goal

pub loop-e-init : goal.loop-e-init
loop-e-init c = subst (AreOwn c.args.n _) (sym c.new-own.ensures) (none_own c.args.n)

pub loop-e-preserved : goal.loop-e-preserved
loop-e-preserved c =
    own_put c.args.n c.args.es.now c.loop-e.e-index c.e-item.result c.in-Some.place c.loop-e.own
    c.push.new.self c.loop-e-test.true c.e-item.is c.in-Some.ensures c.loop-e.invariant
    c.in_ok-push.ensures.ok
