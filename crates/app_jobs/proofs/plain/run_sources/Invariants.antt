use Rattle.app_jobs.proofs.plain.run_sources.Given as goal

abbrev pub ghosts-run_grouped : goal.ghosts-run_grouped
ghosts-run_grouped g a = record { plans = a.groups.plans }
