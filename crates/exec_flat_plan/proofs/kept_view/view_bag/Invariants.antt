use Rattle.exec_flat_plan.proofs.kept_view.view_bag.Given as goal

abbrev pub ghosts-computed : goal.ghosts-computed
ghosts-computed g a = record { name = a.blank.name; parts = a.blank.parts }
