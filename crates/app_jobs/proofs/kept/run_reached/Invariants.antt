use Rattle.app_jobs.proofs.kept.run_reached.Given as goal

abbrev pub ghosts-run_grouped : goal.ghosts-run_grouped
ghosts-run_grouped g a = record { plans = a.groups.plans }
