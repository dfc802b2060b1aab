use Rattle.std.proofs.Common.{◌≡◌, ◌++◌, take}
use Rattle.base_columns.specs.Lists.{one_list}
use Rattle.base_columns.specs.Tables.{plain_rows}
use Rattle.store_versions.specs.Joining.{IsJoining}
use Rattle.store_versions.proofs.joining.joined.Given as goal

abbrev pub invariant-loop-part : goal.invariant-loop-part
invariant-loop-part l = record {
  joining : IsJoining l.full.items l.rest;
  width : l.rest.width ≡ l.width;
  rows : one_list l.full.items ++ plain_rows l.rest.rows ≡ one_list (take l.part-index l.parts);
}
