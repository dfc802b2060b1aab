use Rattle.std.proofs.Common.{List, ℤ, subst, sym}
use Rattle.store_state.specs.Found.{TellsLines}
use Rattle.store_state.specs.Keys.{line_keys}
use Rattle.store_state.proofs.KeyRanges.{lines_passed}
use Rattle.store_state.proofs.Searches.{lines_passed_on}
use Rattle.store_state.proofs.found.find_part_lines.Goals as goal

pub returns-then-not-may_have : goal.returns-then-not-may_have
returns-then-not-may_have c = λ before tells.
    lines_passed c.args.wanted.now before c.args.found.now c.args.part.now (c.may_have.ensures c.if-not-may_have.true) tells

pub returns : goal.returns
returns c = λ before tells.
    let wanted = c.args.wanted.now in
    let all = line_keys c.args.part.now in
    lines_passed_on wanted all c.as_slice.result.now before c.find_lines.new.found
    (subst (λ (ks : List (ℤ × ℤ)). TellsLines wanted all ks) (sym c.as_slice.ensures.value) c.in_ok-tell_lines.ensures)
    (c.in_ok-find_lines.ensures before tells)
