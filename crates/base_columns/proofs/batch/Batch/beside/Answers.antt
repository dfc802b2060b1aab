use Rattle.std.proofs.Common.{sym}
use Rattle.base_columns.proofs.WiderRows.{joined_long, joined_made}
use Rattle.base_columns.proofs.batch.Batch.beside.Goals as goal

pub lesser-requires : goal.lesser-requires
lesser-requires c =
    joined_long c.args.self c.args.right c.self.inside.columns.items c.right.inside.columns.items c.self.inside.standings c.right.inside.standings (sym c.self.view_is) (sym c.right.view_is) c.requires

pub invariant_of-result : goal.invariant_of-result
invariant_of-result c =
    (joined_made c.args.self c.args.right c.self.inside.columns.items c.right.inside.columns.items c.append.new.self.items c.self.inside.standings c.right.inside.standings c.in_ok-standings.standings
    (sym c.self.view_is) (sym c.right.view_is) c.requires c.self.invariant c.right.invariant c.in_ok-append.ensures.items c.in_ok-standings.ensures).0

pub returns-clause-width : goal.returns-clause-width
returns-clause-width c =
    (joined_made c.args.self c.args.right c.self.inside.columns.items c.right.inside.columns.items c.append.new.self.items c.self.inside.standings c.right.inside.standings c.in_ok-standings.standings
    (sym c.self.view_is) (sym c.right.view_is) c.requires c.self.invariant c.right.invariant c.in_ok-append.ensures.items c.in_ok-standings.ensures).1

pub returns-clause-rows : goal.returns-clause-rows
returns-clause-rows c =
    (joined_made c.args.self c.args.right c.self.inside.columns.items c.right.inside.columns.items c.append.new.self.items c.self.inside.standings c.right.inside.standings c.in_ok-standings.standings
    (sym c.self.view_is) (sym c.right.view_is) c.requires c.self.invariant c.right.invariant c.in_ok-append.ensures.items c.in_ok-standings.ensures).2
