use Rattle.std.proofs.Common.{◌≡◌, length, []}
use Rattle.std.specs.List.{All}
use Rattle.base_columns.proofs.batch_builder.empty_columns.Given as goal

abbrev pub invariant-loop-form : goal.invariant-loop-form
invariant-loop-form l = (length l.columns.items ≡ l.form-index) × All (λ c. c ≡ []) l.columns.items
