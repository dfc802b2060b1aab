-- A refresh whose file was malformed may come to be stored.
use Rattle.std.proofs.Common.{ℕ, arith}
use Rattle.base_refusals.specs.declared.line.LineRefusal.{LineRefusal}
use Rattle.base_refusals.specs.declared.refresh.RefreshFile.{RefreshFile}
use Rattle.store_refresh_entries.specs.Change.{MayBeStored}
use Rattle.store_state.specs.Refresh.{MalformedFile}

pub malformed_stored : (f : RefreshFile) (set : ℕ) (first : LineRefusal) → MayBeStored (MalformedFile f set first)
malformed_stored f set first = (tt, omega arith)
