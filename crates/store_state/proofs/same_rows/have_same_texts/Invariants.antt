use Rattle.std.proofs.Common.{◌≡◌, ℕ, ◌<◌}
use Rattle.std.specs.Prelude.{slice_index_or}
use Rattle.base_value.specs.declared.value.Value.TheVariants.{Null}
use Rattle.store_state.proofs.same_rows.have_same_texts.Given as goal

abbrev pub invariant-loop-i : goal.invariant-loop-i
invariant-loop-i l = (j : ℕ) → j < l.i → slice_index_or l.first j Null ≡ slice_index_or l.second j Null
