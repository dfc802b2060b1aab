use Rattle.std.proofs.Common.{sym}
use Rattle.base_columns.proofs.BatchRows.{long_made, relation_made}
use Rattle.base_columns.proofs.batch.Batch.gather.Goals as goal

pub invariant_of-result : goal.invariant_of-result
invariant_of-result c =
    long_made c.as_slice.result.now c.in_ok-columns.columns.items c.self.inside.standings c.in_ok-standings.standings c.args.places.now
    c.in_ok-columns.ensures c.in_ok-standings.ensures

pub returns-clause-width : goal.returns-clause-width
returns-clause-width c =
    (relation_made c.args.self.now c.as_slice.result.now c.in_ok-columns.columns.items c.self.inside.standings c.in_ok-standings.standings c.args.places.now
    (rw c.as_slice.ensures.value (sym c.self.view_is)) c.requires c.in_ok-columns.ensures c.in_ok-standings.ensures).0

pub returns-clause-rows : goal.returns-clause-rows
returns-clause-rows c =
    (relation_made c.args.self.now c.as_slice.result.now c.in_ok-columns.columns.items c.self.inside.standings c.in_ok-standings.standings c.args.places.now
    (rw c.as_slice.ensures.value (sym c.self.view_is)) c.requires c.in_ok-columns.ensures c.in_ok-standings.ensures).1
