-- A publisher's list and then what two senders send: each is stored before it is published.
use Rattle.std.specs.Prelude.{◌≡◌, ◌⊎◌, ◌<◌, ◌≤◌, ◌+◌, ◌-◌, ◌*◌, ◌^◌, ℕ, Bool, true, false, List, [], ◌∷◌}
use Rattle.std.specs.Prelude.{drop, length, Option}
use Rattle.std.specs.List.{AllByRecursion}
use Rattle.store_gateway.specs.Feeds.{gateway_name}
use Rattle.store_gateway.specs.Roles.{Taking}
use Rattle.store_journal.specs.declared.journal.Journal.{Journal}
use Rattle.store_refresh_entries.specs.Change.{MayBeStored}
use Rattle.store_snapshots.specs.Publishers.{AcceptsNext, Edition, RefusesNext}
use Rattle.store_snapshots.specs.Turns.{ListFits}
use Rattle.store_snapshots.specs.declared.feed.FeedTurn.{FeedTurn}
use Rattle.store_snapshots.specs.declared.feed.FeedTurn.TheVariants.{Published, Refused, Idle, Ended}
use Rattle.store_state.specs.Prefixes.{IsPrefix}
use Rattle.store_state.specs.Refresh.{Change}
use Rattle.store_versions.specs.Trials.{Trials}
use Rattle.store_versions.specs.declared.attachment.Attachment.{Ghosts}
use Rattle.store_durability.specs.Stored.{Holds, trials_with}

-- the list has refreshes left, of which a feed has tried so many since a version, and nothing was
-- taken; or each of the list was tried, which began with that version's
abbrev pub IsAtTurn : Trials → ℕ → Taking → Trials → Type 0
IsAtTurn start count taker version =
    (ListFits start count version × (taker.taken ≡ [])
    × AllByRecursion MayBeStored (drop version.done version.list))
    ⊎ ((version.done ≡ length version.list) × (start.done + count ≡ length start.list)
    × IsPrefix start.list version.list)

-- the journal holds just the accepted refreshes and takes more, and there is room for all that may
-- still come
pub record KeepsUp {D : Type 0} (is_reached : D → Bool) (may_leave : D → List ℕ → Type 0)
    (journal : Journal) (disk : D) (version : Trials) : Type 0 where
  pub reached : is_reached disk ≡ true
  pub working : journal.is_shut ≡ false
  pub within : version.done ≤ length version.list
  pub holds : Holds (may_leave disk) version journal
  pub room : journal.end + (version.most - version.done) * 2 ^ 44 < 2 ^ 62

-- what tells a feed from another: where its list began, how long that was, and its gateway
abbrev pub both_named : Trials → Taking → List ℕ
both_named start taker = start.done ∷ length start.list ∷ gateway_name taker.gateway

-- A publisher of the version fits the journal, its disk and the taker: the journal keeps up, and
-- the list may get longer by all that may still be taken.
pub record BothFit {D : Type 0} (is_reached : D → Bool) (may_leave : D → List ℕ → Type 0)
    (journal : Journal) (disk : D) (start : Trials) (count : ℕ) (taker : Taking)
    (version : Trials) : Type 0 where
  pub keeps : KeepsUp is_reached may_leave journal disk version
  pub turn : IsAtTurn start count taker version
  pub list_room : length version.list + (taker.quotas.0 + taker.quotas.1)
      ≤ version.most + length taker.taken

-- this refresh, which came from that sender, was tried: the list's next one, or at the list's end
abbrev pub TakesThis : {A : Type 0} {g : Ghosts A} → Option ℕ → Change → Edition → Edition
    → FeedTurn A g → Type 0
TakesThis from change old new (Published sender note) = (sender ≡ from)
    × AcceptsNext (trials_with change old.version) new note
TakesThis from change old new (Refused sender cause) = (sender ≡ from)
    × RefusesNext (trials_with change old.version) cause old.shown new
TakesThis from change old new Idle = ⊥
TakesThis from change old new Ended = ⊥
