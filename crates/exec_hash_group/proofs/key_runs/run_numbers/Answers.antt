use Rattle.std.proofs.Common.{◌≡◌, ◌-◌, ◌++◌, ◌∷◌, [], length, arith, ap, ◌∙◌}
use Rattle.exec_hash_group.proofs.Runs.{runs_more, runs_few}
use Rattle.exec_hash_group.proofs.key_runs.run_numbers.Goals as goal

pub overflow_cast-len : goal.overflow_cast-len
overflow_cast-len c =
    let few = runs_few c.args.keys.now c.loop-place.place (omega arith) c.requires.ascend c.begins_run.result c.loop-place.numbers.items c.loop-place.firsts.items c.note_run.new.firsts.items
    c.begins_run.ensures.first c.loop-place.invariant c.in_ok-note_run.ensures in
    omega (arith, few.1, c.len.ensures)

pub overflow_sub-len : goal.overflow_sub-len
overflow_sub-len c =
    let few = runs_few c.args.keys.now c.loop-place.place (omega arith) c.requires.ascend c.begins_run.result c.loop-place.numbers.items c.loop-place.firsts.items c.note_run.new.firsts.items
    c.begins_run.ensures.first c.loop-place.invariant c.in_ok-note_run.ensures in
    omega (arith, few.0, c.len.ensures)

pub loop-place-preserved : goal.loop-place-preserved
loop-place-preserved c =
    let n : c.len.result - 1 ≡ length c.note_run.new.firsts.items - 1 = omega (arith, c.len.ensures) in
    runs_more c.args.keys.now c.loop-place.place (omega arith) c.requires.ascend c.begins_run.result c.loop-place.numbers.items c.push.new.self.items c.loop-place.firsts.items c.note_run.new.firsts.items
    c.begins_run.ensures.first c.begins_run.ensures.later c.loop-place.invariant c.in_ok-note_run.ensures (c.in_ok-push.ensures.items ∙ ap (λ k. c.loop-place.numbers.items ++ k ∷ []) n)
