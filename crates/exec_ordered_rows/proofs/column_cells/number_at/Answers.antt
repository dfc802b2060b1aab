use Rattle.std.proofs.Common.{◌∙◌, sym, pos, rules}
use Rattle.base_value.specs.declared.value.Value.TheVariants.{Number}
use Rattle.exec_ordered_rows.proofs.CellReads.{marked_at}
use Rattle.exec_ordered_rows.proofs.column_cells.number_at.Goals as goal

pub returns : goal.returns
returns c =
    c.number_cell.ensures
    ∙ search rules
    ∙ sym (marked_at (Number c.args.scale) c.args.marks.now c.args.numbers.now c.args.i (pos 0)
    (sym c.has.ensures ∙ c.if-has.false) c.if-i-numbers.false)
