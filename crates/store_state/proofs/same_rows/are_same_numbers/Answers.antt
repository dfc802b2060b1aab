use Rattle.std.specs.Cmp.Rules.{signed_items}
use Rattle.store_state.proofs.same_rows.are_same_numbers.Goals as goal

pub returns : goal.returns
returns c = rw c.eq.ensures (signed_items c.args.numbers.now c.args.others.now)
