-- What a job over its journal gives of which two senders send refreshes, from what its parts give.
use Rattle.std.proofs.Common.{◌≡◌, ◌∙◌, ◌+◌, ◌<◌, ◌≤◌, ◌^◌, ℕ, Bool, true, false, List, [], ◌++◌, Option, None, Some, ap, arith, inl, length, length-append, map, refl, subst, sym, take, drop, vec_len}
use Rattle.std.specs.List.{AllByRecursion, zip}
use Rattle.std.specs.declared.result.Result.TheVariants.{Ok, Err}
use Rattle.base_schema.specs.State.{State}
use Rattle.store_durability.specs.Gateway.{BothFit, KeepsUp}
use Rattle.store_durability.specs.Stored.{payloads_of}
use Rattle.store_gateway.specs.Roles.{Taking, sent_by}
use Rattle.store_gateway.specs.declared.message.SenderId.{SenderId}
use Rattle.store_gateway.specs.declared.message.SenderId.TheVariants.{First, Second}
use Rattle.store_journal.specs.Journal.{Stands}
use Rattle.store_journal.specs.declared.journal.Journal.{Journal}
use Rattle.store_refresh_entries.specs.Change.{IsSpelled, MayBeStored, spelling_of}
use Rattle.store_snapshots.specs.declared.ruled.RuledEntry.{RuledEntry}
use Rattle.store_snapshots.specs.Turns.{from_nobody}
use Rattle.store_state.specs.Refresh.{Change}
use Rattle.store_state.specs.Versions.{taken}
use Rattle.store_versions.specs.Trials.{Trials, trials_at}
use Rattle.app_sessions.specs.Asked.{AllUnasked, job_sessions}
use Rattle.app_sessions.specs.Jobs.{IsOrderText, JobAnswer, JobSession}
use Rattle.app_sessions.specs.declared.session.Session.{Session}
use Rattle.app_jobs.specs.Works.{JobWork}
use Rattle.app_jobs.specs.Opened.{OpensJob, PlaysKept}
use Rattle.app_jobs.specs.OpenedSent.{CanPlaySent, CanReceiveOver, HoldsSent, IsKeptSentText, IsReceivedOver, PlaysSent, setup_of}
use Rattle.app_jobs.specs.Receivers.{MaySendBoth}
use Rattle.app_jobs.specs.Senders.{order_sent}
use Rattle.app_jobs.specs.declared.kept.Played.{Played}
use Rattle.app_jobs.specs.declared.kept.Played.TheVariants as played
use Rattle.app_jobs.specs.declared.kept_senders.SentJob.{SentJob}
use Rattle.app_jobs.proofs.KeptSent.{kept_sent_text}
use Rattle.app_jobs.proofs.KeptWhole.{behind, kept_front, kept_payloads}

-- the first refreshes of a list are kept, those behind are tried before the sessions, and the rest is sent
module _ (base : State) (kept front : List Change) (most sent : ℕ) (whole : length (kept ++ front) + sent ≡ most) where
  abbrev opened_at : Trials
  opened_at = trials_at base (kept ++ front) (length kept) most

  pub keeps_up : {D : Type 0} (is_reached : D → Bool) (may_leave : D → List ℕ → Type 0) (journal : Journal) (disk : D) → is_reached disk ≡ true → journal.is_shut ≡ false → journal.end ≤ 2 ^ 61
      → Stands IsSpelled (may_leave disk) (map spelling_of kept) journal.end → length front + sent ≤ 1024 → taken base kept ≡ kept → KeepsUp is_reached may_leave journal disk opened_at
  keeps_up is_reached may_leave journal disk reached working short stands few accepted =
      let sum = length-append kept front in
      record {
        reached = reached;
        working = working;
        within = omega (arith, sum);
        holds = λ _. subst (λ (ps : List (List ℕ)). Stands IsSpelled (may_leave disk) ps journal.end) (sym (kept_payloads base kept front most accepted)) stands;
        room = omega (arith, sum, whole, few, short);
      }

  pub both_fit : {D : Type 0} (is_reached : D → Bool) (may_leave : D → List ℕ → Type 0) (journal : Journal) (disk : D) (taker : Taking) → KeepsUp is_reached may_leave journal disk opened_at
      → taker.taken ≡ [] → taker.quotas.0 + taker.quotas.1 ≡ sent → AllByRecursion MayBeStored front → BothFit is_reached may_leave journal disk opened_at 0 taker opened_at
  both_fit is_reached may_leave journal disk taker keeps fresh quotas storable =
      let none = ap length fresh in
      record {
        keeps = keeps;
        turn = inl (record { list = refl; done = omega arith }, fresh, subst (λ (l : List Change). AllByRecursion MayBeStored l) (sym (behind base kept front most)) storable);
        list_room = omega (arith, whole, quotas, none);
      }

-- an open job can be played beside its senders
pub can_receive : {D A N B : Type 0} (is_reached : D → Bool) (may_leave : D → List ℕ → Type 0) (disk : D) (journal : Journal) (kept front : List Change) (most sent : ℕ) (sessions : List Session) (base : State)
    (before : ℕ) (job : SentJob A (RuledEntry A) N B) → OpensJob (length kept) most journal (kept ++ front) sessions base before (Ok job.opened) → 0 < vec_len job.opened.sessions → vec_len job.opened.sessions < 2 ^ 32
    → AllUnasked sessions → length front ≡ before → length (kept ++ front) + sent ≡ most → job.most ≡ most → length front + sent ≤ 1024 → is_reached disk ≡ true → journal.is_shut ≡ false
    → journal.end ≤ 2 ^ 61 → Stands IsSpelled (may_leave disk) (map spelling_of kept) journal.end → job.taker.taken ≡ [] → job.taker.quotas.0 + job.taker.quotas.1 ≡ sent
    → AllByRecursion MayBeStored front
    → CanReceiveOver is_reached may_leave job.opened.publisher.version job.opened.publisher.shown job.opened.journal disk job.opened.start 0 job.taker (setup_of job)
can_receive {D} is_reached may_leave disk journal kept front most sent sessions base before job opens some few unasked first whole same_most room reached working short stands fresh quotas storable =
    let keeps = keeps_up base kept front most sent whole is_reached may_leave journal disk reached working short stands room (kept_front base kept front most opens.8) in
    let fits = both_fit base kept front most sent whole is_reached may_leave journal disk job.taker keeps fresh quotas storable in
    let all : length job.opened.publisher.version.list ≡ length (kept ++ front) = ap (λ (t : Trials). length t.list) opens.4 in
    let done : job.opened.publisher.version.done ≡ length kept = ap (λ (t : Trials). t.done) opens.4 in
    let sum = length-append kept front in
    let places = opens.2 in
    let starts : job.opened.start ≡ trials_at base (kept ++ front) (length kept) most = opens.3 ∙ opens.4 in
    record {
      some = some;
      few = few;
      unasked = subst AllUnasked (sym opens.0) unasked;
      readers = opens.6;
      opened = opens.7;
      shown_is = opens.5;
      most = same_most ∙ sym (ap (λ (t : Trials). t.most) opens.4);
      all = omega (arith, all, done, sum, places, first);
      fits = subst (λ (y : Journal × Trials × Trials). BothFit is_reached may_leave y.0 disk y.1 0 job.taker y.2) (λ i. (sym opens.1 i, sym starts i, sym opens.4 i)) fits;
      begins = (opens.3, refl);
      fresh = fresh;
    }

-- what it then gives
pub plays_sent : {D A N B : Type 0} (may_leave : D → List ℕ → Type 0) (reads : Option (List ℕ)) (disk : D) (journal : Journal) (kept : List Change) (most : ℕ) (work : JobWork) (sessions : List Session)
    (job : SentJob A (RuledEntry A) N B) (result : Played) → work.before + length work.senders ≡ length work.list
    → OpensJob (length kept) most journal (kept ++ take work.before work.list) sessions work.base work.before (Ok job.opened)
    → job.senders.firsts.items ≡ sent_by First (zip work.senders (drop work.before work.list)) → job.senders.seconds.items ≡ sent_by Second (zip work.senders (drop work.before work.list))
    → ((f : List ℕ) → reads ≡ Some f → may_leave disk f) → PlaysSent may_leave job disk result → PlaysKept kept reads work (job_sessions sessions) result
plays_sent may_leave reads disk journal kept most work sessions job (played.Text answer) all opens first second image plays =
    let text = subst (λ (y : Trials × ℕ × List Session). IsOrderText y.0.base (order_sent y.0.list plays.sent) y.0.done y.1 (job_sessions y.2) answer) (λ i. (opens.4 i, opens.2 i, opens.0 i)) plays.text in
    let holds = subst (λ (t : Trials). HoldsSent (may_leave disk) t.base t.list plays.sent) opens.4 plays.holds in (
      kept_front work.base kept (take work.before work.list) most opens.8,
      λ name. kept_sent_text work name kept reads (may_leave disk) job.senders.firsts.items job.senders.seconds.items (job_sessions sessions) answer plays.sent all first second plays.first plays.second image text
          holds,
    )
plays_sent may_leave reads disk journal kept most work sessions job (played.Refused why) all opens first second image plays = absurd plays
plays_sent may_leave reads disk journal kept most work sessions job played.DiskFault all opens first second image plays = tt

-- what is received beside senders that sent all: a text, since it is never too little
pub received_text : (may_leave : List ℕ → Type 0) (version : Trials) (before : ℕ) (firsts seconds : List Change) (taker : Taking) (sessions : List JobSession) (job : JobAnswer)
    → sent_by First taker.taken ≡ firsts → sent_by Second taker.taken ≡ seconds → IsOrderText version.base (order_sent version.list taker.taken) version.done before sessions job
    → HoldsSent may_leave version.base version.list taker.taken → IsKeptSentText may_leave version before firsts seconds sessions job
received_text may_leave version before firsts seconds taker sessions job first second text holds =
    record { sent = taker.taken; first = first; second = second; text = text; holds = holds }
