use Rattle.law_trials.proofs.Trials.{trial_words_are_accepted}
use Rattle.law_trials.proofs.laws.trial_words_are_accepted.Goals as goal

pub returns : goal.returns
returns c = trial_words_are_accepted
