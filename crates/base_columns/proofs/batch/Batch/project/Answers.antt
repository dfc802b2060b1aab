use Rattle.std.proofs.Common.{sym}
use Rattle.base_columns.proofs.BatchRows.{projected_made, picked_long}
use Rattle.base_columns.proofs.batch.Batch.project.Goals as goal

pub invariant_of-result : goal.invariant_of-result
invariant_of-result c =
    picked_long c.args.self.now c.as_slice.result.now c.in_ok-columns.columns.items c.self.inside.standings c.in_ok-standings.standings c.args.places.now
    (rw c.as_slice.ensures.value (sym c.self.view_is)) (rw c.as_slice.ensures.value c.self.invariant) c.requires c.in_ok-columns.ensures c.in_ok-standings.ensures

pub returns-clause-width : goal.returns-clause-width
returns-clause-width c =
    (projected_made c.args.self.now c.as_slice.result.now c.in_ok-columns.columns.items c.self.inside.standings c.in_ok-standings.standings c.args.places.now
    (rw c.as_slice.ensures.value (sym c.self.view_is)) c.requires c.in_ok-columns.ensures c.in_ok-standings.ensures).0

pub returns-clause-rows : goal.returns-clause-rows
returns-clause-rows c =
    (projected_made c.args.self.now c.as_slice.result.now c.in_ok-columns.columns.items c.self.inside.standings c.in_ok-standings.standings c.args.places.now
    (rw c.as_slice.ensures.value (sym c.self.view_is)) c.requires c.in_ok-columns.ensures c.in_ok-standings.ensures).1
