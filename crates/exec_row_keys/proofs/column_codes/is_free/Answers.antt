use Rattle.std.proofs.Common.{sym, arith}
use Rattle.std.specs.Prelude.{pos}
use Rattle.exec_row_keys.proofs.NullCodes.{free_more, all_free}
use Rattle.exec_row_keys.proofs.column_codes.is_free.Goals as goal

pub loop-number-preserved : goal.loop-number-preserved
loop-number-preserved c =
    free_more c.args.numbers.now c.loop-number.number-index c.args.free.now (pos 0) (omega (arith, c.loop-number-test.true)) c.loop-number.invariant (sym c.if-is_same.ensures)

pub returns : goal.returns
returns c t = all_free c.args.numbers.now c.loop-number.number-index c.args.free.now (omega (arith, c.loop-number-test.false)) c.loop-number.invariant
