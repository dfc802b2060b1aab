use Rattle.std.proofs.Common.{rules}
use Rattle.base_schema.proofs.Columns.{columns_more}
use Rattle.base_schema.proofs.table.TableName.columns.Goals as goal

pub loop-place-preserved : goal.loop-place-preserved
loop-place-preserved c =
    columns_more c.args.self c.loop-place.columns.items c.push.new.self.items c.loop-place.place
    c.column.result c.loop-place.invariant c.column.ensures c.in_ok-push.ensures.items
