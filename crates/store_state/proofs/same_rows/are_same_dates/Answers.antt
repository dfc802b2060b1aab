use Rattle.std.proofs.Common.{sym, ◌∙◌}
use Rattle.std.specs.Cmp.Lexicographic.{bytes_decides}
use Rattle.store_state.proofs.same_rows.are_same_dates.Goals as goal

pub returns : goal.returns
returns c same = (bytes_decides c.args.dates.now c.args.others.now).0 (sym c.eq.ensures ∙ same)
