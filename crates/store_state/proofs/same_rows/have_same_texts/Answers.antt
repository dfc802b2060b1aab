use Rattle.std.proofs.Common.{arith}
use Rattle.base_value.specs.declared.value.Value.TheVariants.{Null}
use Rattle.store_state.proofs.SameRows.{same_places}
use Rattle.store_state.proofs.same_rows.have_same_texts.Goals as goal

pub returns : goal.returns
returns c _ =
    same_places Null c.args.first.now c.args.second.now
    (omega (arith, c.if-len.false, c.len.ensures, c.len-2.ensures))
    (λ j less. c.loop-i.invariant j (omega (arith, less, c.loop-i-test.false, c.len-i-end.ensures)))
