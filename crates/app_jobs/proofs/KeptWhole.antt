-- From a journal that is reached to the text of its job.
use Rattle.std.proofs.Common.{◌≡◌, ◌∙◌, ◌+◌, ◌-◌, ◌≤◌, ◌^◌, ℕ, Bool, true, false, List, [], ◌∷◌, ◌++◌, Option, None, Some, ap, arith, drop, length, length-append, map, refl, subst, sym, take}
use Rattle.std.specs.List.{AllByRecursion}
use Rattle.std.proofs.lemmas.List.{drop_at, map-append, take_at}
use Rattle.base_disk.specs.Disk.{Tells}
use Rattle.base_schema.specs.State.{State}
use Rattle.store_durability.specs.Feed.{StoredFits}
use Rattle.store_durability.specs.Stored.{payloads_of}
use Rattle.store_journal.specs.Format.{StandsFor}
use Rattle.store_journal.specs.Journal.{Stands}
use Rattle.store_journal.specs.declared.journal.Journal.{Journal}
use Rattle.store_refresh_entries.specs.Change.{HasFewBytes, IsSpelled, IsStorable, MayBeStored, spelling_of}
use Rattle.store_snapshots.specs.Turns.{from_nobody}
use Rattle.store_state.specs.Refresh.{Change}
use Rattle.store_state.specs.Versions.{taken}
use Rattle.store_versions.specs.Trials.{Trials, trials_at}
use Rattle.app_sessions.specs.Jobs.{IsOrderText, JobAnswer, JobSession}
use Rattle.app_sessions.specs.Orders.{RefreshOrder, changes_of}
use Rattle.app_sessions.proofs.JobEnds.{changes-from_nobody}
use Rattle.app_jobs.specs.Works.{JobWork, kept_under}
use Rattle.app_jobs.specs.JobTexts.{IsTextInOrder}
use Rattle.app_jobs.specs.Journals.{HoldsThen}
use Rattle.app_jobs.proofs.Orders.{unsent_text}

-- what holds of both holds of each
first_all : (P Q : Change → Type 0) (list : List Change) → AllByRecursion (λ c. P c × Q c) list → AllByRecursion P list × AllByRecursion Q list
first_all P Q [] all = (tt, tt)
first_all P Q (c ∷ cs) all = let rest = first_all P Q cs all.1 in ((all.0.0, rest.0), (all.0.1, rest.1))

-- what a read gives is an image
pub told_image : (reads : Option (List ℕ)) (may_leave P : List ℕ → Type 0) → ((f : List ℕ) → reads ≡ Some f → may_leave f) → ((c : List ℕ) → may_leave c → P c) → Tells reads P
told_image None may_leave P image each = tt
told_image (Some file) may_leave P image each = each file (image file refl)

-- the journal of a list whose first refreshes it keeps
module _ (base : State) (kept list : List Change) (most : ℕ) where
  abbrev pub version : Trials
  version = trials_at base (kept ++ list) (length kept) most

  pub front : take (length kept) (kept ++ list) ≡ kept
  front = take_at kept list (length kept) refl

  pub behind : drop (length kept) (kept ++ list) ≡ list
  behind = drop_at kept list (length kept) refl

  pub kept_front : taken base (take (length kept) (kept ++ list)) ≡ take (length kept) (kept ++ list) → taken base kept ≡ kept
  kept_front is = ap (taken base) (sym front) ∙ is ∙ front

  pub kept_payloads : taken base kept ≡ kept → payloads_of version ≡ map spelling_of kept
  kept_payloads accepted = ap (λ (l : List Change). map spelling_of l) (ap (taken base) front ∙ accepted)

  pub kept_fits : {D : Type 0} (is_reached : D → Bool) (may_leave : D → List ℕ → Type 0) (journal : Journal) (disk : D) → is_reached disk ≡ true → journal.is_shut ≡ false → journal.end ≤ 2 ^ 61
      → Stands IsSpelled (may_leave disk) (map spelling_of kept) journal.end → AllByRecursion MayBeStored list → length list ≤ 1024 → taken base kept ≡ kept
      → StoredFits is_reached may_leave journal disk version
  kept_fits is_reached may_leave journal disk reached working short stands storable few accepted =
      let sum = length-append kept list in
      let both = first_all IsStorable HasFewBytes list storable in
      record {
        reached = reached;
        working = working;
        within = omega (arith, sum);
        holds = λ _. subst (λ (ps : List (List ℕ)). Stands IsSpelled (may_leave disk) ps journal.end) (sym (kept_payloads accepted)) stands;
        storable = subst (λ (l : List Change). AllByRecursion IsStorable l) (sym behind) both.0;
        short = subst (λ (l : List Change). AllByRecursion HasFewBytes l) (sym behind) both.1;
        room = omega (arith, sum, few, short);
      }

-- the text of a job whose refreshes nobody sends
pub kept_text : (work : JobWork) (name : List ℕ) (kept : List Change) (reads : Option (List ℕ)) (may_leave : List ℕ → Type 0) (sessions : List JobSession) (job : JobAnswer) → work.senders ≡ []
    → ((f : List ℕ) → reads ≡ Some f → may_leave f)
    → IsOrderText work.base (from_nobody (kept ++ work.list)) (length kept) work.before sessions job
    → ((c : List ℕ) → may_leave c → StandsFor IsSpelled c (map spelling_of (taken work.base (kept ++ work.list))))
    → IsTextInOrder (kept_under work name kept) reads sessions job
kept_text work name kept reads may_leave sessions job none image text holds =
    let parts : from_nobody (kept ++ work.list) ≡ from_nobody kept ++ from_nobody work.list = map-append (λ change. (None, change)) kept work.list in
    let all : kept ++ work.list ≡ kept ++ changes_of (from_nobody work.list) = ap (λ (l : List Change). kept ++ l) (sym (changes-from_nobody work.list)) in
    let stored : HoldsThen (Some name) (taken work.base (kept ++ changes_of (from_nobody work.list))) reads =
    subst (λ (l : List Change). HoldsThen (Some name) (taken work.base l) reads) all
    (told_image reads may_leave (λ c. StandsFor IsSpelled c (map spelling_of (taken work.base (kept ++ work.list)))) image holds) in
    unsent_text (kept_under work name kept) reads sessions job none
    (subst (λ (o : RefreshOrder). IsOrderText work.base o (length kept) work.before sessions job) parts text) stored
