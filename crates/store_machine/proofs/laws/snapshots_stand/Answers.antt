use Rattle.store_machine.proofs.Runs.{again_pins_law, back_pins_law, begin_pins_law, list_law, notes_law, published_law, scan_law, seen_rises_law}
use Rattle.store_machine.proofs.laws.snapshots_stand.Goals as goal

pub returns-clause-list : goal.returns-clause-list
returns-clause-list c = list_law

pub returns-clause-scans : goal.returns-clause-scans
returns-clause-scans c = scan_law

pub returns-clause-seen : goal.returns-clause-seen
returns-clause-seen c = seen_rises_law

pub returns-clause-notes : goal.returns-clause-notes
returns-clause-notes c = notes_law

pub returns-clause-begin : goal.returns-clause-begin
returns-clause-begin c = begin_pins_law

pub returns-clause-again : goal.returns-clause-again
returns-clause-again c = again_pins_law

pub returns-clause-back : goal.returns-clause-back
returns-clause-back c = back_pins_law

pub returns-clause-published : goal.returns-clause-published
returns-clause-published c = published_law
