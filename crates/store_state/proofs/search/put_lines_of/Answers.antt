use Rattle.std.proofs.Common.{rules, ◌≡◌, ◌≤◌, ℤ, pos, [], ◌∷◌, List, length, get_or, subst, arith, w64, to_z, of_z}
use Rattle.std.proofs.lemmas.List.{take_all}
use Rattle.store_state.specs.Found.{AddsLines}
use Rattle.store_state.specs.Keys.{line_keys}
use Rattle.store_state.specs.Parts.{left_rows}
use Rattle.store_state.proofs.Searches.{lines_more}
use Rattle.store_state.proofs.search.put_lines_of.Goals as goal

pub loop-key-preserved : goal.loop-key-preserved
loop-key-preserved c =
    let lines = line_keys (left_rows c.args.deleted.now c.args.segment.now) in
    let key = get_or c.args.wanted.now c.loop-key.key-index (pos 0) in
    let same : to_z w64 (of_z w64 key) ≡ key = search rules in
    lines_more c.args.wanted.now lines c.args.lines.now.items c.loop-key.lines.items c.put_lines_of_one.new.lines.items c.loop-key.key-index c.loop-key-test.true
    (subst (λ k. AddsLines (k ∷ []) lines c.loop-key.lines.items c.put_lines_of_one.new.lines.items) same c.in_ok-put_lines_of_one.ensures) c.loop-key.invariant

pub returns : goal.returns
returns c =
    let lines = line_keys (left_rows c.args.deleted.now c.args.segment.now) in
    let all : length c.args.wanted.now ≤ c.loop-key.key-index = omega arith in
    subst (λ (w : List ℤ). AddsLines w lines c.args.lines.now.items c.loop-key.lines.items) (take_all c.loop-key.key-index c.args.wanted.now all) c.loop-key.invariant
