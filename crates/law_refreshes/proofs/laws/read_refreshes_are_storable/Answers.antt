use Rattle.store_file_reader.specs.File.{most_bytes}
use Rattle.store_refresh_entries.specs.Change.{IsStorable}
use Rattle.law_refreshes.proofs.Reading.{changes_have}
use Rattle.law_refreshes.proofs.laws.read_refreshes_are_storable.Goals as goal

pub returns : goal.returns
returns c =
    let laws = c.refreshes_of_files_are_readable.ensures in
    changes_have IsStorable (λ file set first. tt) (λ text other orders lineitems a b. laws.inserts most_bytes most_bytes text other orders lineitems a b)
    (λ text rows a. laws.deletes most_bytes text rows a)
