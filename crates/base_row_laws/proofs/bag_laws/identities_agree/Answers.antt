use Rattle.base_row_laws.proofs.Classes.{tests_agree, each_once_agrees, classes_agree}
use Rattle.base_row_laws.proofs.bag_laws.identities_agree.Goals as goal

pub returns : goal.returns
returns g c = λ same alike is it.
    let agree = tests_agree same alike is it in (agree, each_once_agrees same alike agree, classes_agree same alike agree)
