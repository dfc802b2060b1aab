use Rattle.std.proofs.Common.{[], rules}
use Rattle.base_schema.specs.LineForm.{file_form}
use Rattle.store_file_reader.specs.Key.{row_key}
use Rattle.store_file_reader.proofs.Keys.{set_more}
use Rattle.store_file_reader.proofs.key.keys_of_rows.Goals as goal

pub loop-i-preserved : goal.loop-i-preserved
loop-i-preserved c =
    set_more (row_key (file_form c.args.file)) c.args.rows.now.rows c.loop-i.i [] c.loop-i.set c.insert_key.new.keys c.at.result c.in_ok-insert_key.field-0
    (search rules)
    c.at.ensures
    c.loop-i.invariant
    c.in_ok-insert_key.ensures.added
    c.in_ok-insert_key.ensures.keys
