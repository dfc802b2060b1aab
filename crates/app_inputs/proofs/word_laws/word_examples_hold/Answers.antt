use Rattle.app_inputs.proofs.WordsExamples.{word_examples}
use Rattle.app_inputs.proofs.word_laws.word_examples_hold.Goals as goal

pub returns : goal.returns
returns c = word_examples
