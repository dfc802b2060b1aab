use Rattle.std.proofs.Common.{◌-◌, ◌≤ℤ◌, arith}
use Rattle.std.proofs.lemmas.Int.{ints}
use Rattle.exec_hash_group.proofs.Runs.{key, ascend_more}
use Rattle.exec_hash_group.proofs.key_runs.ascend.Goals as goal

pub loop-i-preserved : goal.loop-i-preserved
loop-i-preserved c =
    let step : key c.args.keys.now (c.loop-i.i - 1) ≤ℤ key c.args.keys.now c.loop-i.i = omega (arith, ints, c.if-keys-i.false) in
    ascend_more c.args.keys.now c.loop-i.i (omega (arith, c.loop-i.auto.i)) c.loop-i.invariant step
