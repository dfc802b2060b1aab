use Rattle.std.proofs.Common.{rules}
use Rattle.store_refresh_entries.proofs.Readings.{no_lineitems}
use Rattle.store_refresh_entries.proofs.reading.parsed_insert.Goals as goal

pub returns-in_default-3-clause-none : goal.returns-in_default-3-clause-none
returns-in_default-3-clause-none c = search (no_lineitems, rules)
