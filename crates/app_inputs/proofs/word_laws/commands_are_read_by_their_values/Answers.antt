use Rattle.app_inputs.proofs.WordsLaw.{values_law}
use Rattle.app_inputs.proofs.word_laws.commands_are_read_by_their_values.Goals as goal

pub returns : goal.returns
returns c = values_law
