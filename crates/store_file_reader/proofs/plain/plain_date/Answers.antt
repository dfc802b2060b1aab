use Rattle.std.proofs.Common.{arith, rules, take}
use Rattle.base_date.specs.Date.{date_of}
use Rattle.store_file_reader.proofs.FieldEnds.{date_end, date_read}
use Rattle.store_file_reader.proofs.plain.plain_date.Goals as goal

pub returns-in-Ok-clause-end : goal.returns-in-Ok-clause-end
returns-in-Ok-clause-end c =
    date_end c.args.text.now c.in-Ok.date (omega (arith, c.if-text-lt-DATE_BYTES.false))
    (date_read (date_of (take 10 c.args.text.now)) c.in-Ok.date _ c.in-Ok.ensures)
    (search rules)
