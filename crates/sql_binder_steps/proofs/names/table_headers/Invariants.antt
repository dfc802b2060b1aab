use Rattle.std.proofs.Common.{◌≡◌, ◌++◌, map, length}
use Rattle.sql_binder_steps.specs.Parts.{table_headers, schema_headers}
use Rattle.sql_binder_steps.proofs.names.table_headers.Given as goal

abbrev pub invariant-columns : goal.invariant-columns
invariant-columns l = table_headers l.fn.table
    ≡ l.all ++ schema_headers (map (λ (n : _). n.now) l.names) l.kinds

abbrev pub decreases-columns : goal.decreases-columns
decreases-columns l = length l.names
