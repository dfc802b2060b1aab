use Rattle.std.proofs.Common.{arith, ◌<◌, length}
use Rattle.base_value.specs.declared.truth.Truth.TheVariants.{False}
use Rattle.base_value.specs.declared.value.Value.TheVariants.{Null}
use Rattle.exec_column_operators.specs.Choices.{choice}
use Rattle.exec_column_operators.proofs.Zips.{three_push}
use Rattle.exec_column_operators.proofs.values.chosen_column.Goals as goal

pub loop-i-preserved : goal.loop-i-preserved
loop-i-preserved c =
    let h : c.loop-i.i < length c.args.truths.now = omega arith in
    let l : c.loop-i.i < length c.args.gives.now = omega arith in
    let m : c.loop-i.i < length c.args.rest.now = omega arith in
    three_push choice c.args.truths.now c.args.gives.now c.args.rest.now c.loop-i.i False Null Null c.loop-i.column c.push.new.self c.choice.result
    h l m c.loop-i.invariant (rw (← c.in_ok-given.ensures, ← c.in_ok-other.ensures) c.choice.ensures) c.in_ok-push.ensures.ok
