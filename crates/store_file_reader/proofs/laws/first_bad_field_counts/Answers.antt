use Rattle.store_file_reader.proofs.FieldLaws.{bad_from, bad_to}
use Rattle.store_file_reader.proofs.laws.first_bad_field_counts.Goals as goal

pub returns : goal.returns
returns c = λ kinds line fault some. (bad_from kinds line some fault, bad_to kinds line some fault)
