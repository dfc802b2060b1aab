use Rattle.app_inputs.proofs.TrialNumber.{no_number, read_number}
use Rattle.app_inputs.proofs.words.trial_number.Goals as goal

pub returns-in-Ok-clause-number : goal.returns-in-Ok-clause-number
returns-in-Ok-clause-number c = read_number c.args.text.now c.in-Ok.number c.in-Ok.ensures.value.0.0 c.in-Ok.ensures.value.0.1 c.if-number-ge1.true c.if-number-le1000.true

pub returns-in_default-3-clause-number : goal.returns-in_default-3-clause-number
returns-in_default-3-clause-number c = no_number c.args.text.now (λ is. c.in_default.ensures.value.0 (is.0, is.1))
