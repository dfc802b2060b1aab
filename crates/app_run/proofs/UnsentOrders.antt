-- A job none of whose refreshes is sent has one order of them.
use Rattle.app_jobs.proofs.Orders.{plain_text, text_unsent}
use Rattle.app_run.specs.Laws.{UnsentLaw}

pub unsent_law : UnsentLaw
unsent_law work reads sessions job none no_journal nothing = (text_unsent work reads sessions job none nothing, plain_text work reads sessions job none no_journal nothing)
