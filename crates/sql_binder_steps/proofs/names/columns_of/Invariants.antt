use Rattle.std.proofs.Common.{◌≡◌, map, take}
use Rattle.sql_binder_steps.specs.Parts.{column_of}
use Rattle.sql_binder_steps.proofs.names.columns_of.Given as goal

abbrev pub invariant-loop-h : goal.invariant-loop-h
invariant-loop-h l = l.all ≡ map (column_of l.item) (take l.h-index l.headers)
