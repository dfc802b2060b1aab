-- From the parts of a job to its sessions' text.
use Rattle.std.proofs.Common.{◌≡◌, ◌∙◌, ℕ, ◌<◌, ◌≤◌, false, List, length, slice_index_or, refl, sym, subst}
use Rattle.std.proofs.lemmas.List.{length-map}
use Rattle.store_snapshots.specs.Openings.{Opening, opening_at}
use Rattle.store_state.specs.Refresh.{Change}
use Rattle.store_state.specs.Versions.{accepted}
use Rattle.base_schema.specs.State.{State}
use Rattle.store_versions.specs.Trials.{Trials}
use Rattle.app_sessions.specs.Asked.{IsOver, IsOverOf, job_session, job_sessions}
use Rattle.app_sessions.specs.Sessions.{course_of}
use Rattle.app_sessions.specs.Gathered.{ArePrepared, Gathers, HavePlaces, IsSessionsText}
use Rattle.app_sessions.specs.Jobs.{JobAnswer, JobSession, last_version}
use Rattle.app_sessions.specs.Workers.{AllHaveMet, AllHaveRun, AllInformed, AllMayMeet, AllReady, HasRun, IsNumber, IsNumberOver, IsPlaced, NoneIsLost, place_of, sessions_of}
use Rattle.store_snapshots.specs.Openings.{IsOf}
use Rattle.app_sessions.specs.declared.session.Session.{Session}
use Rattle.app_sessions.specs.declared.worker.Worker.{Worker}
use Rattle.app_sessions.proofs.JobRuns.{over_wider}

pub all_ready : {E N A : Type 0} (opening : E → Opening) (fits : E → List Change → Type 0) (start : Trials) (low : ℕ) (ss : List Session) (ws : List (Worker E N A))
    → ArePrepared opening fits start low ss ws → AllReady opening fits ws
all_ready opening fits start low ss ws h i w less = record {
  seen = (h.informed i w less).seen;
  list = (h.informed i w less).list;
  unasked = h.unasked i w less;
  going = (h.informed i w less).going;
}

-- a session of a worker that has run and met the publisher is over, of the whole list
over_whole : {E : Type 0} (opening : E → Opening) (fits : E → List Change → Type 0) (start : Trials) (low seen : ℕ) (whole : List Change) (old new : E) (s : Session)
    → opening old ≡ opening_at start → low ≤ seen → fits new whole
    → IsOverOf (opening old) (fits new) seen s → IsOver start.base whole low (last_version start.base whole) (job_session s) (course_of s)
over_whole opening fits start low seen whole old new s opened least fit over =
    (over_wider (opening old) (opening_at start) (fits new) (fits new) seen low s over opened (λ list f. f) least).over (start.base, start.list, start.most) refl whole fit

-- a session that stood at its place is over there
pub placed_over : {E N A : Type 0} (opening : E → Opening) (fits : E → List Change → Type 0) (start : Trials) (low : ℕ) (whole : List Change) (all : List JobSession) (k : ℕ) (p : ℕ × ℕ) (olds rans news : List (Worker E N A))
    → AllInformed opening fits start low olds → AllHaveRun opening fits olds rans → AllHaveMet fits whole rans news → NoneIsLost news
    → IsPlaced sessions_of olds p (IsNumber all k) → IsPlaced sessions_of news p (IsNumberOver (start.base, whole) low (last_version start.base whole) all k)
placed_over {E} {N} {A} opening fits start low whole all k p olds rans news informed ran met fine h =
    let in_rans : p.0 < length rans = subst (λ n. p.0 < n) (sym ran.len) h.turn in
    let turn : p.0 < length news = subst (λ n. p.0 < n) (sym met.len) in_rans in
    let going : (w : Worker E N A) → (slice_index_or rans p.0 w).is_lost ≡ false = λ w. sym (met.each p.0 w in_rans).going ∙ fine p.0 w turn in
    let round : (w : Worker E N A) → p.1 < length (sessions_of (slice_index_or rans p.0 w)) = λ w. subst (λ n. p.1 < n) (sym (ran.each p.0 w h.turn).len) (h.round w) in
    record {
      turn = turn;
      round = λ w. subst (λ (l : List Session). p.1 < length l) (sym (met.each p.0 w in_rans).sessions) (round w);
      session = λ w s. subst (λ (l : List Session). IsNumberOver (start.base, whole) low (last_version start.base whole) all k (slice_index_or l p.1 s)) (sym (met.each p.0 w in_rans).sessions) (record {
        number = ((ran.each p.0 w h.turn).same (going w)).each p.1 s (h.round w) ∙ h.session w s;
        over = over_whole opening fits start low _ whole _ _ (slice_index_or (sessions_of (slice_index_or rans p.0 w)) p.1 s)
            (informed p.0 w h.turn).opened (informed p.0 w h.turn).least (met.each p.0 w in_rans).whole
            ((ran.each p.0 w h.turn).over (going w) p.1 s (round w));
      });
    }

-- the text of the sessions
pub sessions_over : {E N A : Type 0} (opening : E → Opening) (fits : E → List Change → Type 0) (start : Trials) (low count : ℕ) (whole : List Change) (ss : List Session) (olds rans news : List (Worker E N A)) (sessions : JobAnswer)
    → ArePrepared opening fits start low ss olds → AllHaveRun opening fits olds rans → AllHaveMet fits whole rans news → NoneIsLost news
    → count ≡ length ss → Gathers news count sessions
    → IsSessionsText (start.base, whole) low (last_version start.base whole) (job_sessions ss) sessions
sessions_over {E} {N} {A} opening fits start low count whole ss olds rans news sessions h ran met fine is gathers =
    let o : State × List Change = (start.base, whole) in
    let high = last_version start.base whole in
    let all : List JobSession = job_sessions ss in
    gathers o low high all (length-map ss job_session ∙ sym is) (λ k less.
    subst (λ n. IsPlaced sessions_of news (place_of n k) (IsNumberOver o low high all k)) (sym (met.len ∙ ran.len))
    (placed_over opening fits start low whole all k (place_of (length olds) k) olds rans news h.informed ran met fine
    (h.placed k (subst (λ n. k < n) is less))))

pub all_placed : {E N A : Type 0} (opening : E → Opening) (fits : E → List Change → Type 0) (start : Trials) (low count : ℕ) (whole : List Change) (ss : List Session) (olds rans news : List (Worker E N A))
    → ArePrepared opening fits start low ss olds → AllHaveRun opening fits olds rans → AllHaveMet fits whole rans news → count ≡ length ss → HavePlaces news count
all_placed opening fits start low count whole ss olds rans news h ran met is k less =
    let p = h.placed k (subst (λ n. k < n) is less) in
    let in_rans = subst (λ n. (place_of (length olds) k).0 < n) (sym ran.len) p.turn in
    subst (λ n. IsPlaced sessions_of news (place_of n k) (λ s. Unit {0})) (sym (met.len ∙ ran.len)) (record {
      turn = subst (λ n. (place_of (length olds) k).0 < n) (sym met.len) in_rans;
      round = λ w. subst (λ (l : List Session). (place_of (length olds) k).1 < length l) (sym (met.each _ w in_rans).sessions)
          (subst (λ n. (place_of (length olds) k).1 < n) (sym (ran.each _ w p.turn).len) (p.round w));
      session = λ w s. tt;
    })

-- readers of an opening may meet a publisher that shows a version of it
pub all_meet : {E N A : Type 0} (opening : E → Opening) (fits : E → List Change → Type 0) (start shown : Trials) (low : ℕ) (olds rans : List (Worker E N A))
    → AllInformed opening fits start low olds → AllHaveRun opening fits olds rans → IsOf (opening_at start) shown → AllMayMeet opening shown rans
all_meet opening fits start shown low olds rans informed ran is i w less =
    let in_olds = subst (λ n. i < n) ran.len less in
    record {
      named = (start.base, start.list, start.most);
      opened = (ran.each i w in_olds).opened ∙ (informed i w in_olds).opened;
      version = is;
    }
