use Rattle.std.proofs.Common.{◌+◌, Some, drop, sym, ap, ◌∙◌}
use Rattle.store_machine.specs.Machine.{joined, scan_from}
use Rattle.store_machine.proofs.Joins.{join_ends, join_goes}
use Rattle.store_machine.proofs.scan.joined_pieces.Goals as goal

pub returns-in-None : goal.returns-in-None
returns-in-None c =
    sym (join_ends c.args.pieces.now c.args.table c.loop-number.number c.args.lengths.now c.loop-number.all.items c.loop-number-test.true c.in-None.ensures)
    ∙ c.loop-number.invariant

pub loop-number-preserved : goal.loop-number-preserved
loop-number-preserved c =
    let rest = scan_from c.args.pieces.now c.args.table (c.loop-number.number + 1) (drop (c.loop-number.number + 1) c.args.lengths.now) in
    ap (λ rows. joined (Some rows) rest) c.in_ok-push_rows-in-Some.ensures
    ∙ sym (join_goes c.args.pieces.now c.args.table c.loop-number.number c.args.lengths.now c.loop-number.all.items c.in-Some.rows.now c.loop-number-test.true c.in-Some.ensures)
    ∙ c.loop-number.invariant
