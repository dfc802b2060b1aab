use Rattle.law_versions.proofs.AcceptedKeys.{delete_law, insert_law}
use Rattle.law_versions.proofs.laws.accepted_refreshes_are_told_by_their_keys.Goals as goal

pub returns-clause-insert : goal.returns-clause-insert
returns-clause-insert c = insert_law

pub returns-clause-delete : goal.returns-clause-delete
returns-clause-delete c = delete_law
