use Rattle.std.proofs.Common.{length, length-append, arith}
use Rattle.std.specs.Int.{w64, to_be_bytes}
use Rattle.base_refusals.specs.declared.refresh.RefreshFile.TheVariants as file
use Rattle.base_schema.specs.LineForm.{refresh_form}
use Rattle.store_file_reader.specs.File.{most_bytes}
use Rattle.store_journal.specs.Format.{framed}
use Rattle.store_refresh_text.specs.Text.{rows_text}
use Rattle.store_refresh_entries.proofs.Sizes.{keys_short_by, text_short_by}
use Rattle.store_refresh_entries.proofs.laws.refreshes_of_files_are_short.Goals as goal

pub returns-clause-inserts : goal.returns-clause-inserts
returns-clause-inserts c = λ text other orders lineitems read read_lines.
    let first = text_short_by (refresh_form file.Orders) most_bytes text orders read (omega arith) in
    let second = text_short_by (refresh_form file.Lineitem) most_bytes other lineitems read_lines (omega arith) in
    omega (
      arith,
      first,
      second,
      length-append (framed (rows_text orders)) (rows_text lineitems),
      length-append (to_be_bytes w64 (length (rows_text orders))) (rows_text orders),
    )

pub returns-clause-deletes : goal.returns-clause-deletes
returns-clause-deletes c = λ text rows read. let all = keys_short_by (refresh_form file.Delete) most_bytes text rows read in omega (arith, all)
