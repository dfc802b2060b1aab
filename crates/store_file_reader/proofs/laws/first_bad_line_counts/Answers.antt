use Rattle.store_file_reader.proofs.FileLaws.{first_bad_line}
use Rattle.store_file_reader.proofs.laws.first_bad_line_counts.Goals as goal

pub returns : goal.returns
returns c = first_bad_line
