use Rattle.store_file_reader.proofs.FileLaws.{rows_are_those}
use Rattle.store_file_reader.proofs.laws.rows_are_those_of_the_lines.Goals as goal

pub returns : goal.returns
returns c = rows_are_those
