use Rattle.std.proofs.Common.{◌++◌, ◌∙◌, ap, arith, get_or}
use Rattle.base_value.specs.declared.value.Value.TheVariants.{Null}
use Rattle.base_columns.specs.Batches.{row_at}
use Rattle.store_refresh_text.specs.Text.{field_written, fields_written}
use Rattle.store_refresh_text.proofs.Cells.{one_field}
use Rattle.store_refresh_text.proofs.text.push_fields.Goals as goal

pub loop-j-preserved : goal.loop-j-preserved
loop-j-preserved c =
    one_field c.args.batch.now.rows c.args.i c.loop-j.j c.args.batch.now.width c.loop-j.text.items c.push_field.new.text.items c.push.new.self.items
    (c.args.text.now.items ++ fields_written (row_at c.args.batch.now.rows c.args.i).values) c.requires
    (omega (arith, c.loop-j-test.true, c.width-j-end.ensures.value)) c.width-j-end.ensures.wide c.loop-j.invariant
    (c.in_ok-push_field.ensures ∙ ap (λ column. c.loop-j.text.items ++ field_written (get_or column c.args.i Null)) c.column.ensures)
    c.in_ok-push.ensures.items
