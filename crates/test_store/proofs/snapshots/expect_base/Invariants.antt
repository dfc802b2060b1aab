use Rattle.test_store.proofs.snapshots.expect_base.Given as goal

abbrev pub ghosts-scanned : goal.ghosts-scanned
ghosts-scanned a b = record { name = b.blank.name; parts = b.blank.parts }
