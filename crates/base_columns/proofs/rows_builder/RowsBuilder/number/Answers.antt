use Rattle.std.proofs.Common.{◌≡◌, ◌-◌, ◌*◌, ◌/◌, ◌<◌, ◌≤◌, rules, sym, length}
use Rattle.base_columns.proofs.TableLists.{number_full, number_rest}
use Rattle.base_columns.proofs.rows_builder.RowsBuilder.number.Goals as goal

pub returns-then-segment-len : goal.returns-then-segment-len
returns-then-segment-len c =
    let h : c.args.i / 4096 < length c.self.inside.full.items = search rules in
    number_full c.args.self.now c.self.inside.full.items c.self.inside.rest c.args.i c.args.j c.index.result.now c.number.result (sym c.self.view_is) c.self.invariant.0 h c.index.ensures c.number.ensures

pub returns-else-segment-len : goal.returns-else-segment-len
returns-else-segment-len c =
    let h : length c.self.inside.full.items ≤ c.args.i / 4096 = search rules in
    let l : c.args.i - c.len-else-segment-len.result * 4096 ≡ c.args.i - length c.self.inside.full.items * 4096 = search rules in
    number_rest c.args.self.now c.self.inside.full.items c.self.inside.rest c.args.i c.args.j (c.args.i - c.len-else-segment-len.result * 4096) c.number-else-segment-len.result (sym c.self.view_is) c.self.invariant.0 h c.requires.row
    l c.number-else-segment-len.ensures
