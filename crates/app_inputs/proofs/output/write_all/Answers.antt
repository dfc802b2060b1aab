use Rattle.std.proofs.Common.{le_trans}
use Rattle.app_inputs.proofs.Pieces.{Appends-further, further}
use Rattle.app_inputs.proofs.output.write_all.Goals as goal

pub loop-at-preserved : goal.loop-at-preserved
loop-at-preserved g c =
    let t = c.in_ok-at.ensures.took in
    let i = c.loop-at.invariant in
    (further c.loop-at.at c.in_ok-at.field-0 c.args.text.now i.0 t.1, Appends-further _ _ _ c.loop-at.at c.in_ok-at.field-0 c.args.text.now i.1 t.2, le_trans i.2 c.put_some.ensures.later)
