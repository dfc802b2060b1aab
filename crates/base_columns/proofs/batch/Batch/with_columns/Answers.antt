use Rattle.std.proofs.Common.{sym}
use Rattle.base_columns.proofs.WiderRows.{replaced_made}
use Rattle.base_columns.proofs.batch.Batch.with_columns.Goals as goal

pub invariant_of-result : goal.invariant_of-result
invariant_of-result c =
    (replaced_made c.args.self.now c.self.inside.columns.items c.args.columns.items c.self.inside.standings c.in_ok-standings.standings (sym c.self.view_is) c.requires c.in_ok-standings.ensures).0

pub returns-clause-width : goal.returns-clause-width
returns-clause-width c =
    (replaced_made c.args.self.now c.self.inside.columns.items c.args.columns.items c.self.inside.standings c.in_ok-standings.standings (sym c.self.view_is) c.requires c.in_ok-standings.ensures).1
