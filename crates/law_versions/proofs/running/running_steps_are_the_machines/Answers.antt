use Rattle.law_versions.proofs.MachineSteps.{back_law, begin_law, compact_law, give_law, learn_law, offer_law, publish_law}
use Rattle.law_versions.proofs.running.running_steps_are_the_machines.Goals as goal

pub returns-clause-begin : goal.returns-clause-begin
returns-clause-begin g c = begin_law

pub returns-clause-back : goal.returns-clause-back
returns-clause-back g c = back_law

pub returns-clause-learn : goal.returns-clause-learn
returns-clause-learn g c = learn_law

pub returns-clause-offer : goal.returns-clause-offer
returns-clause-offer g c = offer_law

pub returns-clause-publish : goal.returns-clause-publish
returns-clause-publish g c = publish_law g.A.Attachment

pub returns-clause-give : goal.returns-clause-give
returns-clause-give g c = give_law g.A.Attachment

pub returns-clause-compact : goal.returns-clause-compact
returns-clause-compact g c = compact_law
