use Rattle.app_inputs.proofs.WordsLaw.{accepted_law}
use Rattle.app_inputs.proofs.word_laws.words_without_fault_are_commands.Goals as goal

pub returns : goal.returns
returns c = accepted_law
