use Rattle.std.proofs.Common.{◌∙◌, sym, arith, ap}
use Rattle.exec_hash_group.proofs.MarkedSums.{left_out, taken, none_yet}
use Rattle.exec_hash_group.proofs.unmarked.unmarked.Goals.{then-not-has+in_ok-push, else-not-has}
use Rattle.exec_hash_group.proofs.unmarked.unmarked.Goals as goal

pub loop-i-init : goal.loop-i-init
loop-i-init g c = c.in_ok-out.ensures.items ∙ none_yet c.args.marks.now c.args.items.now

pub loop-i-preserved : goal.loop-i-preserved
loop-i-preserved g c = elim c.if-not-has.branch [
  | then-not-has+in_ok-push w ↦
      ap (λ v. v.items) w.out-is
      ∙ taken c.args.marks.now c.args.items.now c.loop-i.out.items w.push.new.self.items c.loop-i.i w.index-items-i.result w.index-items-i.result
      (omega (arith, c.loop-i-test.true)) (sym w.if-not-has.ensures) c.loop-i.invariant w.index-items-i.is w.in_ok-push.ensures.items
  | else-not-has w ↦
      ap (λ v. v.items) w.out-is
      ∙ left_out c.args.marks.now c.args.items.now c.loop-i.out.items c.loop-i.i (omega (arith, c.loop-i-test.true)) (sym w.if-not-has.ensures) c.loop-i.invariant
]
