use Rattle.store_file_reader.proofs.WholeLines.{concat-cut_lines, are_lines}
use Rattle.store_file_reader.proofs.laws.lines_give_text.Goals as goal

pub returns : goal.returns
returns c = λ text. (concat-cut_lines text, are_lines text)
