use Rattle.std.proofs.Common.{refl}
use Rattle.store_refresh_entries.proofs.laws.refreshes_of_files_are_readable.Goals as goal

pub returns-clause-inserts : goal.returns-clause-inserts
returns-clause-inserts c = λ limit most text other orders lineitems read read_lines.
    (c.texts_are_read_back.ensures.orders limit text orders read, c.texts_are_read_back.ensures.lineitems most other lineitems read_lines)

pub returns-clause-deletes : goal.returns-clause-deletes
returns-clause-deletes c = λ limit text rows read. (rows, c.texts_are_read_back.ensures.keys limit text rows read, refl)
