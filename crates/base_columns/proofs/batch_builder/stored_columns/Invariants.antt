use Rattle.std.proofs.Common.{◌≡◌, take}
use Rattle.base_columns.proofs.batch_builder.stored_columns.Given as goal

abbrev pub invariant-loop-builder : goal.invariant-loop-builder
invariant-loop-builder l = l.columns.items ≡ take l.builder-index l.builders
