use Rattle.app_run.proofs.OneText.{text_law}
use Rattle.app_run.proofs.laws.texts_are_unique.Goals as goal

pub returns : goal.returns
returns c = text_law
