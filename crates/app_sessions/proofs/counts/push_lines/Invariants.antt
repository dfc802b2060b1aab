use Rattle.std.proofs.Common.{◌≡◌, ◌++◌, drop}
use Rattle.std.specs.List.{flat_map}
use Rattle.store_versions.specs.Trials.{tables_of}
use Rattle.app_sessions.specs.Counts.{count_line}
use Rattle.app_sessions.proofs.counts.push_lines.Given as goal

abbrev pub invariant-loop-table : goal.invariant-loop-table
invariant-loop-table g l =
    l.text.items ++ flat_map (count_line (tables_of l.snapshot)) (drop l.table-index l.tables)
    ≡ l.fn.text.items ++ flat_map (count_line (tables_of l.snapshot)) l.tables
