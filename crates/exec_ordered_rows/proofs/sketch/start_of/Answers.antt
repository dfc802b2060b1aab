use Rattle.std.proofs.Common.{arith, ◌∙◌}
use Rattle.exec_ordered_rows.proofs.SketchLaws.{byte_step, power_more, power_small}
use Rattle.exec_ordered_rows.proofs.sketch.start_of.Goals as goal

pub overflow_mul-number : goal.overflow_mul-number
overflow_mul-number c =
    let small = power_small c.loop-k.k c.loop-k.number (omega arith) c.loop-k.invariant.1 in
    omega (arith, small)

pub overflow_add-number : goal.overflow_add-number
overflow_add-number c =
    let small = power_small c.loop-k.k c.loop-k.number (omega arith) c.loop-k.invariant.1 in
    omega (arith, small)

pub loop-k-preserved : goal.loop-k-preserved
loop-k-preserved c = (
  byte_step c.args.text.now c.loop-k.k c.loop-k.number c.byte_at.result c.loop-k-test.true
      (omega arith) c.byte_at.ensures ∙ c.loop-k.invariant.0,
  power_more c.loop-k.k c.loop-k.number c.byte_at.result c.loop-k.invariant.1 (omega arith),
)

pub returns-clause-small : goal.returns-clause-small
returns-clause-small c = power_small c.loop-k.k c.loop-k.number (omega arith) c.loop-k.invariant.1
