use Rattle.std.proofs.Common.{sym, subst, arith}
use Rattle.plan_unnested_nodes.proofs.Turns.{StandSoFar, none_stand, stand_put, all_stand}
use Rattle.plan_unnested_nodes.proofs.own_columns.own_columns.Goals as goal

pub loop-k-init : goal.loop-k-init
loop-k-init c =
    subst (StandSoFar c.args.kinds.now c.args.notes.now c.args.width c.args.condition.now 0) (sym c.new-own.ensures)
    (none_stand c.args.kinds.now c.args.notes.now c.args.width c.args.condition.now)

pub loop-k-preserved : goal.loop-k-preserved
loop-k-preserved c =
    stand_put c.args.kinds.now c.args.notes.now c.args.width c.args.condition.now c.loop-k.k c.loop-k.own c.push.new.self c.in-Some.b c.loop-k.invariant c.in-Some.ensures
    c.in_ok-push.ensures.ok

pub returns : goal.returns
returns c =
    all_stand c.args.kinds.now c.args.notes.now c.args.width c.args.condition.now c.loop-k.k c.loop-k.own (omega (arith, c.loop-k-test.false, c.loop-k.auto.k-end))
    c.loop-k.invariant
