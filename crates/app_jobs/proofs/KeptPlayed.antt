-- What a job over its journal gives, from what its parts give.
use Rattle.std.proofs.Common.{◌≡◌, ◌∙◌, ◌+◌, ◌<◌, ◌≤◌, ◌^◌, ℕ, Bool, true, false, List, [], ◌++◌, Option, None, Some, ap, arith, length, length-append, map, refl, subst, sym, take, vec_len}
use Rattle.std.specs.List.{AllByRecursion}
use Rattle.std.specs.declared.result.Result.TheVariants.{Ok, Err}
use Rattle.base_disk.specs.Disk.{Tells, file_named}
use Rattle.base_refusals.specs.declared.refresh.Cause.{Cause}
use Rattle.base_schema.specs.State.{State}
use Rattle.store_durability.specs.Feed.{StoredFits}
use Rattle.store_journal.specs.Format.{StandsFor}
use Rattle.store_journal.specs.Journal.{Stands}
use Rattle.store_journal.specs.declared.journal.Journal.{Journal}
use Rattle.store_refresh_entries.specs.Change.{IsReadable, IsSpelled, MayBeStored, spelling_of}
use Rattle.store_snapshots.specs.declared.ruled.RuledEntry.{RuledEntry}
use Rattle.store_snapshots.specs.Turns.{from_nobody}
use Rattle.store_state.specs.Refresh.{Change}
use Rattle.store_state.specs.Versions.{taken}
use Rattle.store_versions.specs.Trials.{Trials}
use Rattle.app_inputs.specs.declared.input_error.InputFault.{InputFault}
use Rattle.app_inputs.specs.declared.input_error.InputFault.TheVariants as fault
use Rattle.app_sessions.specs.Asked.{AllUnasked, job_sessions}
use Rattle.app_sessions.specs.Jobs.{IsOrderText, JobSession}
use Rattle.app_sessions.specs.declared.session.Session.{Session}
use Rattle.app_jobs.specs.Works.{JobWork}
use Rattle.app_jobs.specs.Journals.{FileKeeps, IsFirstRefusedEntry, IsKept, MayBeJournalFault, Named}
use Rattle.app_jobs.specs.Opened.{CanPlay, OpensJob, PlaysKept, PlaysOpen}
use Rattle.app_jobs.specs.Reaching.{HasJournal, IsOfFile, IsPlayed, IsRefusedFile}
use Rattle.app_jobs.specs.declared.kept.OpenJob.{OpenJob}
use Rattle.app_jobs.specs.declared.kept.Played.{Played}
use Rattle.app_jobs.specs.declared.kept.Played.TheVariants as played
use Rattle.app_jobs.proofs.KeptWhole.{front, kept_fits, kept_front, kept_text}

-- what a journal keeps that was reached, or the first of its entries that is refused

keeps_journal : (name : List ℕ) (base : State) (named : Named) (kept : List Change) → AllByRecursion IsReadable kept → Tells (file_named named name) (λ bytes. FileKeeps bytes kept)
    → taken base kept ≡ kept → IsKept (Some name) base named (Ok kept)
keeps_journal name base None kept readable told all = (readable, all)
keeps_journal name base (Some files) kept readable told all = (told, all)

refuses_entry : (name : List ℕ) (base : State) (named : Named) (kept : List Change) (number : ℕ) (cause : Cause) → AllByRecursion IsReadable kept
    → Tells (file_named named name) (λ bytes. FileKeeps bytes kept) → IsFirstRefusedEntry base kept number cause
    → IsKept (Some name) base named (Err (record { name = name; fault = fault.RefusedEntry number cause }))
refuses_entry name base None kept number cause readable told first = (refl, (kept, readable, first))
refuses_entry name base (Some files) kept number cause readable told first = (refl, (kept, told, first))

pub played_over : {D : Type 0} (is_reached : D → Bool) (may_leave : D → List ℕ → Type 0) (name : List ℕ) (named : Named) (disk : D) (journal : Journal) (kept : List Change) (reads : Option (List ℕ))
    (work : JobWork) (sessions : List JobSession) (result : Played) → HasJournal is_reached may_leave (file_named named name) disk journal kept → PlaysKept kept reads work sessions result
    → IsPlayed name named reads work sessions result
played_over is_reached may_leave name named disk journal kept reads work sessions (played.Text job) has plays =
    (kept, keeps_journal name work.base named kept has.readable has.keeps plays.0, plays.1 name)
played_over is_reached may_leave name named disk journal kept reads work sessions (played.Refused why) has (number, cause, is, first) =
    subst (λ (w : InputFault). IsKept (Some name) work.base named (Err (record { name = name; fault = w }))) (sym is)
    (refuses_entry name work.base named kept number cause has.readable has.keeps first)
played_over is_reached may_leave name named disk journal kept reads work sessions played.DiskFault has plays = tt

-- a file that is refused, whatever the base
untold : (base : State) (why : InputFault) → IsOfFile why → MayBeJournalFault base why
untold base (fault.BadEntry place) is = tt
untold base fault.JournalTooLong is = tt
untold base (fault.RefusedEntry number cause) is = absurd is
untold base fault.Absent is = absurd is
untold base (fault.Byte r p) is = absurd is
untold base (fault.Line l) is = absurd is
untold base (fault.RefreshHere p) is = absurd is
untold base (fault.JobLine l) is = absurd is

pub refused_over : (name : List ℕ) (named : Named) (reads : Option (List ℕ)) (work : JobWork) (sessions : List JobSession) (why : InputFault) → IsRefusedFile (file_named named name) why
    → IsPlayed name named reads work sessions (played.Refused why)
refused_over name None reads work sessions why refused = (refl, untold work.base why refused.0)
refused_over name (Some files) reads work sessions why refused = (refl, refused.1 work.base)

-- an open job whose refreshes nobody sends can be played
pub can_play : {D A N B : Type 0} (is_reached : D → Bool) (may_leave : D → List ℕ → Type 0) (disk : D) (journal : Journal) (kept list : List Change) (sessions : List Session) (base : State) (before : ℕ) (job : OpenJob A (RuledEntry A) N B)
    → OpensJob (length kept) (length (kept ++ list)) journal (kept ++ list) sessions base before (Ok job) → 0 < vec_len job.sessions → vec_len job.sessions < 2 ^ 32 → AllUnasked sessions
    → before ≤ length list → is_reached disk ≡ true → journal.is_shut ≡ false → journal.end ≤ 2 ^ 61 → Stands IsSpelled (may_leave disk) (map spelling_of kept) journal.end
    → AllByRecursion MayBeStored list → length list ≤ 1024 → CanPlay is_reached may_leave job disk
can_play is_reached may_leave disk journal kept list sessions base before job opens some few unasked places reached working short stands storable room =
    let fits = kept_fits base kept list (length (kept ++ list)) is_reached may_leave journal disk reached working short stands storable room
    (kept_front base kept list (length (kept ++ list)) opens.8) in
    let most : job.publisher.version.most ≡ length (kept ++ list) = ap (λ (t : Trials). t.most) opens.4 in
    let all : length job.publisher.version.list ≡ length (kept ++ list) = ap (λ (t : Trials). length t.list) opens.4 in
    let done : job.publisher.version.done ≡ length kept = ap (λ (t : Trials). t.done) opens.4 in
    let sum = length-append kept list in
    let first = opens.2 in
    record {
      some = some;
      few = few;
      unasked = subst AllUnasked (sym opens.0) unasked;
      readers = opens.6;
      opened = opens.7;
      shown = opens.5;
      whole = most ∙ sym all;
      before = omega (arith, all, done, sum, first, places);
      start = opens.3;
      fits = subst (λ (y : Journal × Trials). StoredFits is_reached may_leave y.0 disk y.1) (λ i. (sym opens.1 i, sym opens.4 i)) fits;
    }

-- what it then gives
pub plays_kept : {D A N B : Type 0} (may_leave : D → List ℕ → Type 0) (reads : Option (List ℕ)) (disk : D) (journal : Journal) (kept : List Change) (work : JobWork) (sessions : List Session) (job : OpenJob A (RuledEntry A) N B)
    (result : Played) → work.senders ≡ [] → OpensJob (length kept) (length (kept ++ work.list)) journal (kept ++ work.list) sessions work.base work.before (Ok job)
    → ((f : List ℕ) → reads ≡ Some f → may_leave disk f) → PlaysOpen may_leave job disk result → PlaysKept kept reads work (job_sessions sessions) result
plays_kept may_leave reads disk journal kept work sessions job (played.Text answer) none opens image plays =
    let text = subst (λ (y : Trials × ℕ × List Session). IsOrderText y.0.base (from_nobody y.0.list) y.0.done y.1 (job_sessions y.2) answer) (λ i. (opens.4 i, opens.2 i, opens.0 i)) plays.0 in
    let holds = subst (λ (t : Trials). (c : List ℕ) → may_leave disk c → StandsFor IsSpelled c (map spelling_of (taken t.base t.list))) opens.4 plays.1 in (
      kept_front work.base kept work.list (length (kept ++ work.list)) opens.8,
      λ name. kept_text work name kept reads (may_leave disk) (job_sessions sessions) answer none image text holds,
    )
plays_kept may_leave reads disk journal kept work sessions job (played.Refused why) none opens image plays = absurd plays
plays_kept may_leave reads disk journal kept work sessions job played.DiskFault none opens image plays = tt

-- an entry that is refused when it is opened
pub opening_refused : (kept list : List Change) (most : ℕ) (reads : Option (List ℕ)) (work : JobWork) (others : List JobSession) (why : InputFault)
    → (number : ℕ) × (cause : Cause) × (why ≡ fault.RefusedEntry number cause) × IsFirstRefusedEntry work.base (take (length kept) (kept ++ list)) number cause → PlaysKept kept reads work others (played.Refused why)
opening_refused kept list most reads work others why (number, cause, is, first) =
    (number, cause, is, subst (λ (l : List Change). IsFirstRefusedEntry work.base l number cause) (front work.base kept list most) first)
