use Rattle.std.proofs.Common.{◌≡◌, ◌∙◌, sym, true, is_ok}
use Rattle.std.proofs.lemmas.List.Elements.{All-push}
use Rattle.base_columns.specs.Fields.{IsPrintableField}
use Rattle.base_schema.specs.declared.column.ColumnKind.TheVariants.{Key}
use Rattle.base_schema.specs.LineForm.{never_null}
use Rattle.store_file_reader.proofs.Cuts.{fields_more, ok_since}
use Rattle.store_file_reader.proofs.line.put_fields.Goals as goal

pub loop-column-preserved : goal.loop-column-preserved
loop-column-preserved c =
    let ok : is_ok c.push.result ≡ true = ok_since c.push.result (sym c.is_err.ensures.value ∙ c.if-is_err.false) in
    let made = rw ok at c.push.ensures.items in
    let said = rw c.cut_at_bar.ensures.field at c.in-Ok.ensures.value in (
      c.loop-column.invariant.0
          ∙ rw c.cut_at_bar.ensures.rest
          (fields_more c.args.columns.now c.loop-column.column-index (never_null Key) c.loop-column.rest.now c.loop-column.fields.items c.push.new.self.items c.in-Ok.field c.loop-column-test.true said made),
      rw made (All-push IsPrintableField c.loop-column.fields.items c.in-Ok.field c.loop-column.invariant.1 c.in-Ok.ensures.printable),
    )
