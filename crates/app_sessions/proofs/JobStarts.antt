-- A job from its start to its end.
use Rattle.std.proofs.Common.{◌≡◌, ◌∙◌, ℕ, ◌+◌, ◌<◌, ◌≤◌, List, [], ◌++◌, length, refl, sym, ap, subst, arith, inl, inr, append-nil}
use Rattle.std.proofs.lemmas.Bool.{cases_lt}
use Rattle.std.proofs.lemmas.List.{length-map}
use Rattle.store_state.specs.Prefixes.{IsPrefix}
use Rattle.store_state.specs.Versions.{accepted}
use Rattle.store_state.proofs.Prefixes.{length-prefix, prefix-whole}
use Rattle.store_snapshots.specs.Openings.{IsOf, Opening, opening_at}
use Rattle.store_snapshots.specs.Publishers.{Edition}
use Rattle.store_snapshots.specs.Ruled.{list_fits, opening_of}
use Rattle.store_snapshots.specs.declared.ruled.RuledEntry.{RuledEntry}
use Rattle.store_versions.specs.Trials.{Trials, version_of}
use Rattle.store_state.specs.Refresh.{Change}
use Rattle.app_sessions.specs.Asked.{job_sessions}
use Rattle.app_sessions.specs.Gathered.{ArePrepared}
use Rattle.app_sessions.specs.Orders.{EndsFeed, RefreshOrder, changes_of, later_by, version_at_end, whole_order}
use Rattle.app_sessions.specs.Reports.{HasTried, IsTold}
use Rattle.app_sessions.specs.Starts.{HasStarted}
use Rattle.app_sessions.specs.Workers.{AllInformed, AreAssigned, IsNumber, IsPlaced, place_of, sessions_of}
use Rattle.app_sessions.specs.declared.forking.JobRun.{JobRun}
use Rattle.app_sessions.specs.declared.session.Session.{Session}
use Rattle.app_sessions.specs.declared.worker.Worker.{Worker}
use Rattle.app_sessions.proofs.JobEnds.{whole_list}

-- workers that were informed, once sessions are assigned to them
pub prepared : {E N A : Type 0} (opening : E → Opening) (fits : E → List Change → Type 0) (start after : Trials) (low : ℕ) (ss : List Session) (olds news : List (Worker E N A))
    → 0 < length olds → opening_at after ≡ opening_at start → AllInformed opening fits after low olds
    → AreAssigned ss olds news (length ss) → ArePrepared opening fits start low ss news
prepared {E} {N} {A} opening fits start after low ss olds news some same informed assigned = record {
  some = subst (λ n. 0 < n) (sym assigned.len) some;
  informed = λ i w less.
      let here = subst (λ n. i < n) assigned.len less in
      let h = informed i w here in
      let r = sym (assigned.reader i w here) in
      record {
        opened = ap (λ x. opening x.entry) (sym r) ∙ h.opened ∙ same;
        seen = subst (λ x. IsOf (opening x.entry) x.seen) r h.seen;
        list = subst (λ x. (l : List Change) → fits x.entry l → IsPrefix x.seen.list l) r h.list;
        least = subst (λ x. low ≤ version_of x.seen) r h.least;
        going = assigned.going i w here ∙ h.going;
      };
  unasked = λ i w less. assigned.unasked i w (subst (λ n. i < n) assigned.len less);
  placed = λ k less. subst (λ n. IsPlaced sessions_of news (place_of n k) (IsNumber (job_sessions ss) k)) (sym assigned.len) (assigned.placed k less);
}

-- what is tried at first, before a feed tried anything
abbrev pub started : {A N B : Type 0} (run : JobRun (RuledEntry A) N B) (publisher : Edition) (start : Trials) (before : ℕ) (sessions : List Session) (first tried : RefreshOrder)
    → start.done + before ≤ length start.list
    → ArePrepared opening_of list_fits start (accepted start.base start.list (start.done + before)) sessions run.workers.items
    → HasTried start publisher first → IsTold start first run.report → run.listed ≡ length start.list → run.count ≡ length sessions
    → tried ≡ [] → HasStarted run publisher tried
started run publisher start before sessions first tried places are tries told listed count none =
    record {
      start = start;
      before = before;
      sessions = sessions;
      first = first;
      places = places;
      prepared = are;
      tries = subst (HasTried start publisher) (sym (ap (λ l. first ++ l) none ∙ append-nil first)) tries;
      told = subst (λ l. IsTold start l run.report) (sym (ap (λ l. first ++ l) none ∙ append-nil first)) told;
      listed = listed;
      count = count;
    }

-- readers are shown the whole list, put there now or not
pub shown_whole : (start : Trials) (now new : Edition) (order : RefreshOrder) (listed : ℕ) → HasTried start now order → listed ≡ length start.list
    → (length now.version.list ≤ listed → new ≡ now) → (listed < length now.version.list → new.shown ≡ now.version)
    → (new.shown.list ≡ now.version.list) × IsOf (opening_at start) new.shown
shown_whole start now new order listed h is same shown = elim (cases_lt listed (length now.version.list)) [
  | inl more ↦ (
    ap (λ (t : Trials). t.list) (shown more),
    subst (IsOf (opening_at start)) (sym (shown more)) h.version,
  )
  | inr none ↦
      let kept = same none in
      let at_first = (h.shown (start.base, start.list, start.most) refl).1 in
      let least = length-prefix start.list now.shown.list at_first in
      let whole : now.version.list ≡ now.shown.list = prefix-whole now.shown.list now.version.list h.behind (omega (arith, least, none, is)) in (
        ap (λ (e : Edition). e.shown.list) kept ∙ sym whole,
        subst (λ (e : Edition). IsOf (opening_at start) e.shown) (sym kept) h.shown,
      )
]

-- the list may get no longer than at the start
pub most_is : (start : Trials) (now : Edition) (order : RefreshOrder) → HasTried start now order → now.version.most ≡ start.most
most_is start now order h = (h.version (start.base, start.list, start.most) refl).2

-- as many were tried as the list has
pub whole_size : (start : Trials) (now : Edition) (order : RefreshOrder) → HasTried start now order → now.version.done ≡ length now.version.list
    → length (whole_order start order) ≡ length now.version.list
whole_size start now order h all =
    sym (length-map (whole_order start order) (λ e. e.1)) ∙ sym (ap length (whole_list start now order h all))

-- the version at the end
pub ends_feed : (fits is_over : Trials → Type 0) (start : Trials) (now : Edition) (order : RefreshOrder) → HasTried start now order → now.version.done ≡ length now.version.list
    → fits now.version → is_over now.version → EndsFeed fits is_over start order
ends_feed fits is_over start now order h all fitting over =
    let o = h.version (start.base, start.list, start.most) refl in
    let list_is = whole_list start now order h all in
    let version_is : now.version ≡ version_at_end start order =
    λ i. record { base = o.0 i; list = list_is i; done = (all ∙ ap length list_is) i; most = o.2 i } in
    record {
      list = subst (IsPrefix start.list) list_is o.1;
      fitting = subst fits version_is fitting;
      over = subst is_over version_is over;
    }

-- the same beside another start, where all that was tried is the same
pub ends_later : (fits is_over : Trials → Type 0) (start : Trials) (before : ℕ) (first order : RefreshOrder)
    → whole_order start first ≡ whole_order (later_by before start) order → EndsFeed fits is_over start first → EndsFeed fits is_over (later_by before start) order
ends_later fits is_over start before first order same h =
    let version_is : version_at_end start first ≡ version_at_end (later_by before start) order =
    λ i. record { base = start.base; list = changes_of (same i); done = length (changes_of (same i)); most = start.most } in
    record {
      list = subst (λ w. IsPrefix start.list (changes_of w)) same h.list;
      fitting = subst fits version_is h.fitting;
      over = subst is_over version_is h.over;
    }

-- a version of which the list's feed tried so many more
pub later_is : (before : ℕ) (start : Trials) (now : Edition) (order : RefreshOrder) → HasTried start now order
    → now.version.done ≡ start.done + before → now.version.list ≡ start.list → now.version ≡ later_by before start
later_is before start now order h done list =
    let o = h.version (start.base, start.list, start.most) refl in
    λ i. record { base = o.0 i; list = list i; done = done i; most = o.2 i }
