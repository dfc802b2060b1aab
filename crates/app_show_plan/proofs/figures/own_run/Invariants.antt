use Rattle.app_show_plan.proofs.figures.own_run.Given as goal

abbrev pub ghosts-last_run : goal.ghosts-last_run
ghosts-last_run g a = record { name = a.blank.name; parts = a.blank.parts }
