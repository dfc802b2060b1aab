use Rattle.base_decimal.proofs.Sums.{sums_of-append, sums_of-put, remove_is, total_is}
use Rattle.base_decimal.proofs.laws.tally_of_terms.Goals as goal

pub returns-clause-put : goal.returns-clause-put
returns-clause-put c = sums_of-put

pub returns-clause-merge : goal.returns-clause-merge
returns-clause-merge c = sums_of-append

pub returns-clause-total : goal.returns-clause-total
returns-clause-total c = total_is

pub returns-clause-remove : goal.returns-clause-remove
returns-clause-remove c = remove_is
