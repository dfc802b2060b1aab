use Rattle.std.proofs.Common.{◌≡◌, ◌+◌, ◌++◌, length}
use Rattle.std.specs.Prelude.{option_to_list}
use Rattle.sql_binder_steps.specs.Parts.{output_places}
use Rattle.sql_binder_steps.proofs.lists.output_place.Given as goal

abbrev pub invariant-headers : goal.invariant-headers
invariant-headers l = record {
  counted : l.at + length l.left ≡ length l.headers;
  same : output_places l.name 0 l.headers
      ≡ option_to_list l.found ++ output_places l.name l.at l.left;
}

abbrev pub decreases-headers : goal.decreases-headers
decreases-headers l = length l.left
