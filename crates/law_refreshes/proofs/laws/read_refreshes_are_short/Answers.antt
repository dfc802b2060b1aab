use Rattle.std.proofs.Common.{arith}
use Rattle.store_refresh_entries.specs.Change.{HasFewBytes}
use Rattle.law_refreshes.proofs.Reading.{changes_have}
use Rattle.law_refreshes.proofs.laws.read_refreshes_are_short.Goals as goal

pub returns : goal.returns
returns c =
    let laws = c.refreshes_of_files_are_short.ensures in
    changes_have HasFewBytes (λ file set first. omega arith) laws.inserts laws.deletes
