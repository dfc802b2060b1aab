use Rattle.std.proofs.Common.{arith, sym, ◌∙◌}
use Rattle.app_result_text.proofs.Runs.{run_begins, run_goes_on}
use Rattle.app_result_text.proofs.escaped.push_escaped.Goals.{then-is_escaped+in_ok-extend_from_slice+in_ok-push, else-is_escaped}
use Rattle.app_result_text.proofs.escaped.push_escaped.Goals as goal

pub loop-i-preserved : goal.loop-i-preserved
loop-i-preserved c = elim c.if-is_escaped.branch [
  | then-is_escaped+in_ok-extend_from_slice+in_ok-push w ↦
      rw (w.start-is, w.text-is) (
        omega arith,
        run_begins c.args.plain.now c.loop-i.text.items w.extend_from_slice.new.self.items w.push.new.self.items _ c.loop-i.start c.loop-i.i
            (omega (arith, c.loop-i-test.true)) (sym c.is_escaped.ensures ∙ w.if-is_escaped.true) c.loop-i.invariant.1
            w.in_ok-extend_from_slice.ensures.items w.in_ok-push.ensures.items,
      )
  | else-is_escaped w ↦
      rw (w.start-is, w.text-is) (
        omega (arith, c.loop-i.invariant.0),
        run_goes_on c.args.plain.now c.loop-i.text.items _ c.loop-i.start c.loop-i.i c.loop-i.invariant.0
            (omega (arith, c.loop-i-test.true)) (sym c.is_escaped.ensures ∙ w.if-is_escaped.false) c.loop-i.invariant.1,
      )
]
