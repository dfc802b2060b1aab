use Rattle.std.proofs.Common.{◌≡◌, take}
use Rattle.sql_binder_steps.proofs.view.copy_headers.Given as goal

abbrev pub invariant-loop-h : goal.invariant-loop-h
invariant-loop-h l = l.copies ≡ take l.h-index l.all
