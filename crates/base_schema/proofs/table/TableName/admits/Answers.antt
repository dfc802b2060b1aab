use Rattle.std.proofs.Common.{length, sym, ap, ◌∙◌, arith}
use Rattle.base_schema.proofs.Columns.{held_more, held_fails}
use Rattle.base_schema.proofs.table.TableName.admits.Goals as goal

pub returns-then-not-admits : goal.returns-then-not-admits
returns-then-not-admits c =
    held_fails c.args.self c.args.row.now c.loop-place.place c.column.result c.index-row-place.result
    (omega (arith, ap length c.kinds-kinds.ensures)) (omega arith) c.column.ensures c.index-row-place.is
    (sym c.admits.ensures ∙ c.if-not-admits.true)

pub loop-place-preserved : goal.loop-place-preserved
loop-place-preserved c =
    held_more c.args.self c.args.row.now c.loop-place.place c.column.result c.index-row-place.result
    (omega (arith, ap length c.kinds-kinds.ensures)) (omega arith) c.column.ensures c.index-row-place.is c.loop-place.invariant
    (sym c.admits.ensures ∙ c.if-not-admits.false)
