use Rattle.std.proofs.Common.{◌≡◌, map, take}
use Rattle.std.specs.List.{All}
use Rattle.base_columns.specs.Lists.{one_list}
use Rattle.base_schema.specs.State.{table_rows}
use Rattle.store_versions.specs.Segments.{AreJoined}
use Rattle.store_versions.proofs.Neighbours.{AreOfKinds}
use Rattle.store_versions.proofs.compacted.joined_tables.Given as goal

abbrev pub invariant-loop-name : goal.invariant-loop-name
invariant-loop-name l = record {
  rows : map (λ segments. one_list segments.items) l.tables.items
      ≡ map (table_rows l.state) (take l.name-index l.names);
  joined : All (λ segments. AreJoined segments.items) l.tables.items;
  kinds : AreOfKinds l.state (take l.name-index l.names);
}
