-- A sender before and after it sends refreshes.
use Rattle.std.specs.Prelude.{◌≡◌, ◌≤◌, ◌+◌, List, ◌++◌, length}
use Rattle.std.specs.List.{AllByRecursion}
use Rattle.store_refresh_entries.specs.Change.{MayBeStored}
use Rattle.store_state.specs.Refresh.{Change}
use Rattle.store_gateway.specs.Queue.{pick}
use Rattle.store_gateway.specs.Roles.{Sending}

-- the quota lets a sender send these refreshes, which may come to be stored
abbrev pub Fits : Sending → List Change → Type 0
Fits s rs = (length s.sent + length rs ≤ pick s.id s.quotas) × AllByRecursion MayBeStored rs

-- a sender that has ended sent these refreshes after what it had sent before
pub record HasSent (old : Sending) (rs : List Change) (new : Sending) : Type 0 where
  pub gateway : new.gateway ≡ old.gateway
  pub id : new.id ≡ old.id
  pub sent : new.sent ≡ old.sent ++ rs
