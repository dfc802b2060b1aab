use Rattle.std.proofs.Common.{◌≡◌, take}
use Rattle.base_columns.specs.Lists.{one_list}
use Rattle.store_state.proofs.parts.Parts.to_rows.Given as goal

abbrev pub invariant-loop-part : goal.invariant-loop-part
invariant-loop-part l = l.rows.items ≡ one_list (take l.part-index l.parts)
