use Rattle.std.proofs.Common.{arith}
use Rattle.base_value.specs.declared.truth.Truth.TheVariants.{False}
use Rattle.base_value.specs.Truth.{greater}
use Rattle.exec_column_operators.proofs.Zips.{zip_push}
use Rattle.exec_column_operators.proofs.truths.either.Goals as goal

pub loop-i-preserved : goal.loop-i-preserved
loop-i-preserved c =
    zip_push greater c.args.a.now c.args.b.now c.loop-i.i False False c.loop-i.truths.items c.push.new.self.items c.or.result
    (omega arith) (omega arith) c.loop-i.invariant c.or.ensures.value c.in_ok-push.ensures.items
