use Rattle.std.proofs.Common.{refl}
use Rattle.store_file_reader.specs.File.{file_rows}
use Rattle.store_file_reader.proofs.laws.cases.Goals as goal

pub returns-clause-lines : goal.returns-clause-lines
returns-clause-lines c = (refl, refl, refl)

pub returns-clause-rows : goal.returns-clause-rows
unfolding file_rows
returns-clause-rows c = (refl, refl, refl, refl)

pub returns-clause-refusals : goal.returns-clause-refusals
unfolding file_rows
returns-clause-refusals c = (refl, refl, refl, refl, refl, refl, refl, refl, refl, refl)

pub returns-clause-limits : goal.returns-clause-limits
unfolding file_rows
returns-clause-limits c = (refl, refl, refl, refl)

pub returns-clause-deletes : goal.returns-clause-deletes
unfolding file_rows
returns-clause-deletes c = (refl, refl, refl, refl, refl)

pub returns-clause-refreshes : goal.returns-clause-refreshes
unfolding file_rows
returns-clause-refreshes c = (refl, refl, refl, refl)

pub returns-clause-nulls : goal.returns-clause-nulls
unfolding file_rows
returns-clause-nulls c = (refl, refl, refl, refl, refl, refl)
