use Rattle.std.proofs.Common.{sym}
use Rattle.base_columns.proofs.WiderRows.{longer_made}
use Rattle.base_columns.proofs.batch.Batch.with_column.Goals as goal

pub invariant_of-result : goal.invariant_of-result
invariant_of-result c =
    (longer_made c.args.self c.self.inside.columns.items c.push.new.self.items c.args.column c.self.inside.standings (sym c.self.view_is) c.requires c.self.invariant c.in_ok-push.ensures.items).0

pub returns-clause-width : goal.returns-clause-width
returns-clause-width c =
    (longer_made c.args.self c.self.inside.columns.items c.push.new.self.items c.args.column c.self.inside.standings (sym c.self.view_is) c.requires c.self.invariant c.in_ok-push.ensures.items).1

pub returns-clause-rows : goal.returns-clause-rows
returns-clause-rows c =
    (longer_made c.args.self c.self.inside.columns.items c.push.new.self.items c.args.column c.self.inside.standings (sym c.self.view_is) c.requires c.self.invariant c.in_ok-push.ensures.items).2
