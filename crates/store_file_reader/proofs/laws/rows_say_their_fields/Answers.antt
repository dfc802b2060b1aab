use Rattle.store_file_reader.proofs.FieldLaws.{values_from, values_to}
use Rattle.store_file_reader.proofs.laws.rows_say_their_fields.Goals as goal

pub returns : goal.returns
returns c = λ kinds line values some. (values_from kinds line some values, values_to kinds line some values)
