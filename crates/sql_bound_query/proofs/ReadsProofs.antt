-- The reads of the worked queries, computed.
use Rattle.sql_bound_query.specs.Reads.{reads}
use Rattle.sql_bound_query.specs.Examples.{Reading}
use Rattle.sql_bound_query.proofs.TablesOpened.{tables_opened}

pub reading : Reading
unfolding reads
reading = (simp tables_opened, simp tables_opened, simp tables_opened)
