-- What is played beside a publisher of a list, each refresh of which is stored, once all is tried.
use Rattle.std.proofs.Common.{◌≡◌, ◌∙◌, ℕ, false, List, ap, arith, length, map, subst, take}
use Rattle.std.proofs.lemmas.List.{take_all}
use Rattle.store_journal.specs.Format.{StandsFor}
use Rattle.store_journal.specs.declared.journal.Journal.{Journal}
use Rattle.store_refresh_entries.specs.Change.{IsSpelled, spelling_of}
use Rattle.store_durability.specs.Stored.{Holds, accepted_list}
use Rattle.store_snapshots.specs.Turns.{from_nobody}
use Rattle.store_state.specs.Prefixes.{IsPrefix}
use Rattle.store_state.specs.Refresh.{Change}
use Rattle.store_state.specs.Versions.{taken}
use Rattle.store_versions.specs.Trials.{Trials}
use Rattle.app_sessions.specs.Jobs.{IsOrderText, JobAnswer, JobSession}
use Rattle.app_sessions.specs.Orders.{RefreshOrder, changes_of, version_at_end, whole_order}
use Rattle.app_sessions.proofs.JobEnds.{changes-from_nobody, whole_of_list}

-- of a version at whose end all was tried, the accepted ones are those of the whole list
pub accepted_at_end : (version : Trials) (order : RefreshOrder) (list : List Change) → changes_of (whole_order version order) ≡ list
    → accepted_list (version_at_end version order) ≡ taken version.base list
accepted_at_end version order list is =
    let all = changes_of (whole_order version order) in
    ap (taken version.base) (take_all (length all) all (omega arith) ∙ is)

-- a journal that holds these
pub held_at_end : (may_leave : List ℕ → Type 0) (version : Trials) (order : RefreshOrder) (list : List Change) (journal : Journal) → changes_of (whole_order version order) ≡ list
    → journal.is_shut ≡ false → Holds may_leave (version_at_end version order) journal
    → (c : List ℕ) → may_leave c → StandsFor IsSpelled c (map spelling_of (taken version.base list))
held_at_end may_leave version order list journal is working holds c left =
    subst (λ (l : List Change). StandsFor IsSpelled c (map spelling_of l)) (accepted_at_end version order list is) ((holds working).images c left)

module _ (version : Trials) (mine : List Change) (begins : IsPrefix version.list (changes_of (whole_order version (from_nobody mine)))) (many : length (whole_order version (from_nobody mine)) ≡ length version.list)
  where
    pub fed_list : changes_of (whole_order version (from_nobody mine)) ≡ version.list
    fed_list = ap changes_of (whole_of_list version mine begins many) ∙ changes-from_nobody version.list

    pub fed_order : (before : ℕ) (sessions : List JobSession) (job : JobAnswer) → IsOrderText version.base (whole_order version (from_nobody mine)) version.done before sessions job
        → IsOrderText version.base (from_nobody version.list) version.done before sessions job
    fed_order before sessions job text =
        subst (λ (o : RefreshOrder). IsOrderText version.base o version.done before sessions job) (whole_of_list version mine begins many) text
