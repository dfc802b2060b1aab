use Rattle.app_sessions.proofs.query.query_outcome.Given as goal

abbrev pub ghosts-counted_outcome : goal.ghosts-counted_outcome
ghosts-counted_outcome g a = record { name = a.blank.name; parts = a.blank.parts }
