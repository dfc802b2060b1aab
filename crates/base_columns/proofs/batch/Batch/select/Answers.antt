use Rattle.std.proofs.Common.{sym}
use Rattle.base_columns.specs.Selections.{IsKept}
use Rattle.base_columns.proofs.Kept.{long_kept, width_kept, relation-kept}
use Rattle.base_columns.proofs.batch.Batch.select.Goals as goal

pub invariant_of-result : goal.invariant_of-result
invariant_of-result c =
    let k : IsKept c.self.inside.standings c.args.truths.now c.as_slice-2.result.now c.in_ok-kept.kept.1 = rw c.as_slice-2.ensures.value c.in_ok-kept.ensures in
    long_kept c.as_slice.result.now c.in_ok-columns.columns.items c.as_slice-2.result.now c.in_ok-kept.kept.1 k.long c.in_ok-columns.ensures

pub returns-clause-width : goal.returns-clause-width
returns-clause-width c =
    width_kept c.args.self.now c.as_slice.result.now c.in_ok-columns.columns.items c.self.inside.standings c.in_ok-kept.kept.1 c.as_slice-2.result.now
    (rw c.as_slice.ensures.value (sym c.self.view_is)) c.in_ok-columns.ensures

pub returns-clause-rows : goal.returns-clause-rows
returns-clause-rows c f t =
    let k : IsKept c.self.inside.standings c.args.truths.now c.as_slice-2.result.now c.in_ok-kept.kept.1 = rw c.as_slice-2.ensures.value c.in_ok-kept.ensures in
    relation-kept c.args.self.now c.as_slice.result.now c.in_ok-columns.columns.items c.self.inside.standings c.in_ok-kept.kept.1 c.args.truths.now c.as_slice-2.result.now f
    (rw c.as_slice.ensures.value (sym c.self.view_is)) k c.in_ok-columns.ensures t
