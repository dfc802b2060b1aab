use Rattle.std.proofs.Common.{◌++◌, List, ℤ, pos, subst, sym, take}
use Rattle.store_state.specs.Found.{TellsLines}
use Rattle.store_state.proofs.PartLists.{taken_more}
use Rattle.store_state.proofs.found.find_lines.Goals as goal

pub loop-line-preserved : goal.loop-line-preserved
loop-line-preserved c = λ before tells.
    let i = c.loop-line.line-index in
    subst (λ (ks : List (ℤ × ℤ)). TellsLines c.args.wanted.now ks c.find_line.new.found) (sym (taken_more before c.args.lines.now i ((pos 0, pos 0)) c.loop-line-test.true))
    (c.in_ok-find_line.ensures (before ++ take i c.args.lines.now) (c.loop-line.invariant before tells))
