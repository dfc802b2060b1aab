-- The versions and the text of a session of a job, turn by turn.
use Rattle.std.proofs.Common.{◌≡◌, ◌∙◌, ℕ, ◌+◌, ◌-◌, ◌<◌, ◌≤◌, List, [], ◌∷◌, ◌++◌, refl, sym, ap, subst, arith, inl, inr}
use Rattle.std.proofs.Common.{drop, le_refl, le_trans, length, length-append, map}
use Rattle.std.specs.Prelude.{Option, None, Some, Ok, slice_get, Bool, ◌&&◌, is_none, true, false}
use Rattle.std.proofs.lemmas.List.{map-append}
use Rattle.std.proofs.lemmas.Option.{get_or_from_slice_get, slice_get_cases, slice_get_within}
use Rattle.store_snapshots.specs.Openings.{AllBegin, Narrower, Opening, IsOf}
use Rattle.store_versions.specs.Trials.{Trials, version_of}
use Rattle.sql_ast.specs.declared.statement.RefreshKind.{RefreshKind}
use Rattle.sql_ast.specs.declared.statement.Statement.{Statement}
use Rattle.sql_ast.specs.declared.statement.Statement.TheVariants.{Refresh}
use Rattle.sql_binder_steps.specs.declared.view.View.{View}
use Rattle.store_state.specs.Prefixes.{IsPrefix}
use Rattle.store_state.specs.Refresh.{Change}
use Rattle.store_state.specs.Versions.{accepted, version_state}
use Rattle.store_state.proofs.Prefixes.{accepted-longer, state-prefix}
use Rattle.store_state.proofs.VersionSteps.{accepted-most}
use Rattle.base_schema.specs.State.{State}
use Rattle.app_sessions.specs.Asked.{HaveNoRefresh, IsAsked, IsAskedOf, IsFresh, IsOver, IsOverOf, IsUnasked, job_session}
use Rattle.app_sessions.specs.Jobs.{IsRun, JobSession, last_version, moment_at, moments_at, session_lines}
use Rattle.app_sessions.specs.Laws.{course_through, turn_or_end}
use Rattle.app_sessions.specs.Outcomes.{Moment}
use Rattle.app_sessions.specs.Sessions.{Course, Takes, are_clean, course_after, course_of, lines_of, next_of}
use Rattle.app_sessions.specs.Versions.{states_of}
use Rattle.app_sessions.specs.declared.session.Session.{Session}
use Rattle.app_sessions.specs.declared.session.Turn.TheVariants.{Answered, AskedRefresh, Ended}
use Rattle.app_sessions.proofs.Alike.{course_alike}
use Rattle.app_sessions.proofs.Texts.{sessions_text}

run_more : (low high : ℕ) (vs : List ℕ) (v : ℕ) → IsRun low high vs → high ≤ v → IsRun low v (vs ++ v ∷ [])
run_more low high [] v r up = (le_trans r up, le_refl v)
run_more low high (w ∷ vs) v r up = (r.0, run_more w high vs v r.1 up)

pub run_wider : (low high low' high' : ℕ) (vs : List ℕ)
    → IsRun low high vs → low' ≤ low → high ≤ high' → IsRun low' high' vs
run_wider low high low' high' [] r down up = le_trans down (le_trans r up)
run_wider low high low' high' (v ∷ vs) r down up = (le_trans down r.0, run_wider v high v high' vs r.1 (le_refl v) up)

-- one moment more
course_more : (start : Course) (ms : List Moment) (m : Moment)
    → course_through start (ms ++ m ∷ [])
    ≡ turn_or_end (course_through start ms) m (next_of (course_through start ms))
course_more start [] m = refl
course_more start (x ∷ ms) m = course_more (turn_or_end start x (next_of start)) ms m

-- the tables of the versions up to that of some trials, over each list that begins with theirs
tables_at : (base : State) (list : List Change) (d : Trials) → d.base ≡ base → IsPrefix d.list list
    → (k : ℕ) → k ≤ version_of d → states_of d k ≡ version_state base list k
tables_at base list d b l k up =
    let most = accepted-most d.base d.list d.done in
    let within : k ≤ accepted d.base d.list (length d.list) = omega (arith, up, most) in
    sym (state-prefix d.base d.list list k l within) ∙ ap (λ s. version_state s list k) b

-- what one more turn does
pub asked_more : (base : State) (list : List Change) (low high : ℕ) (start old new : Course) (d : Trials)
    → IsAsked base list low high start old → d.base ≡ base → IsPrefix d.list list
    → Takes old (version_of d) (states_of d) new Answered → high ≤ version_of d
    → IsAsked base list low (version_of d) start new
asked_more base list low high start old new d h b l (s, is, never, made) up =
    let v = version_of d in
    let m = moment_at base list v in
    let new_is : new ≡ course_after old m s =
    made (Ok v) ∙ course_alike old v (states_of d) (version_state base list) (Ok v) s (tables_at base list d b l) in
    let vs : new.versions ≡ old.versions ++ v ∷ [] = ap (λ (c : Course). c.versions) new_is in
    let many : new.answered ≡ old.answered + 1 = ap (λ (c : Course). c.answered) new_is in
    let within : old.answered < length old.steps = slice_get_within old.steps old.answered s is in
    let same : length old.steps ≡ length start.steps = ap length h.steps in
    record {
      made =
          new_is ∙ sym (ap (turn_or_end old m) is)
          ∙ ap (λ (c : Course). turn_or_end c m (next_of c)) h.made
          ∙ sym (course_more start (moments_at base list old.versions) m)
          ∙ ap (course_through start) (sym (map-append (moment_at base list) old.versions (v ∷ [])))
          ∙ ap (λ l. course_through start (moments_at base list l)) (sym vs);
      run = subst (IsRun low v) (sym vs) (run_more low high old.versions v h.run up);
      count = ap length vs ∙ length-append old.versions (v ∷ []) ∙ ap (λ n. n + 1) h.count ∙ sym many;
      steps = ap (λ (c : Course). c.steps) new_is ∙ h.steps;
      first_views = ap (λ (c : Course). c.first_views) new_is ∙ h.first_views;
      shows = ap (λ (c : Course). c.shows_rows) new_is ∙ h.shows;
      within = omega (arith, within, same, many);
    }

-- before its first turn
pub asked_none : (opening : Opening) (fits : List Change → Type 0) (low : ℕ) (start : Course) → IsFresh start
    → IsAskedOf opening fits low low start start
asked_none opening fits low start f o is list fit = record {
  made = ap (λ vs. course_through start (moments_at o.0 list vs)) (sym f.versions);
  run = subst (IsRun low low) (sym f.versions) (le_refl low);
  count = ap length f.versions ∙ sym f.answered;
  steps = refl;
  first_views = refl;
  shows = refl;
  within = let e = f.answered in omega (arith, e);
}

-- no version is above the last one of a list that begins with its own
pub version_most : (base : State) (list : List Change) (d : Trials) → d.base ≡ base → IsPrefix d.list list
    → version_of d ≤ last_version base list
version_most base list d b l =
    subst (λ n. version_of d ≤ last_version n list) b
    (le_trans (accepted-most d.base d.list d.done) (accepted-longer d.base d.list list l))

fresh_text : (start : Course) (ms : List Moment) → IsFresh start
    → (course_through start ms).text ≡ lines_of start.shows_rows 1 start.first_views start.steps ms
fresh_text start ms f =
    (sessions_text start ms).0
    ∙ ap (λ t. t ++ lines_of start.shows_rows (start.answered + 1) start.views (drop start.answered start.steps) ms) f.text
    ∙ ap (λ n. lines_of start.shows_rows (n + 1) start.views (drop n start.steps) ms) f.answered
    ∙ ap (λ vs. lines_of start.shows_rows 1 vs start.steps ms) f.views

fresh_clean : (start : Course) (ms : List Moment) → IsFresh start
    → (course_through start ms).is_clean ≡ are_clean start.first_views start.steps ms
fresh_clean start ms f =
    (sessions_text start ms).1
    ∙ ap (λ b. b && are_clean start.views (drop start.answered start.steps) ms) f.is_clean
    ∙ ap (λ n. are_clean start.views (drop n start.steps) ms) f.answered
    ∙ ap (λ vs. are_clean vs start.steps ms) f.views

past_end : (course : Course) → is_none (next_of course) ≡ true → length course.steps ≤ course.answered
past_end course none = elim (slice_get_cases course.steps course.answered).1 [
  | inl (x, lt, some, at) ↦ absurd (let no : is_none (next_of course) ≡ false = ap is_none some in cc)
  | inr (past, is) ↦ past
]

-- at its end
over_at : (base : State) (list : List Change) (low high : ℕ) (start course : Course) → IsFresh start → IsAsked base list low high start course
    → length course.steps ≤ course.answered → IsOver base list low high (record { steps = course.steps; first_views = course.first_views; shows_rows = course.shows_rows }) course
over_at base list low high start course f h past =
    let ms = moments_at base list course.versions in
    record {
      text = ap (λ (c : Course). c.text) h.made ∙ fresh_text start ms f
          ∙ ap (λ b. lines_of b 1 start.first_views start.steps ms) (sym h.shows)
          ∙ ap (λ s. lines_of course.shows_rows 1 start.first_views s ms) (sym h.steps)
          ∙ ap (λ vs. lines_of course.shows_rows 1 vs course.steps ms) (sym h.first_views);
      clean = ap (λ (c : Course). c.is_clean) h.made ∙ fresh_clean start ms f ∙ ap (λ s. are_clean start.first_views s ms) (sym h.steps)
          ∙ ap (λ vs. are_clean vs course.steps ms) (sym h.first_views);
      run = h.run;
      all = let n = h.count in let w = h.within in let e = ap length h.steps in let p = past in omega (arith, n, w, e, p);
    }

-- a session that was asked to its end is over, at versions up to the last one of each list that fits
pub over_all : (opening : Opening) (fits : List Change → Type 0) (low high : ℕ) (start session : Session) (d : Trials) → IsFresh (course_of start)
    → IsAskedOf opening fits low high (course_of start) (course_of session) → IsOf opening d → AllBegin fits d.list → high ≡ version_of d
    → is_none (next_of (course_of session)) ≡ true → IsOverOf opening fits low session
over_all opening fits low high start session d f h of_it begins top none = record {
  over = λ o is list fit.
      let a = h o is list fit in
      let w = of_it o is in
      let all = over_at o.0 list low high (course_of start) (course_of session) f a (past_end (course_of session) none) in
      record {
        text = all.text;
        clean = all.clean;
        run = run_wider low high low (last_version o.0 list) (course_of session).versions all.run (le_refl low)
            (subst (λ n. n ≤ last_version o.0 list) (sym top) (version_most o.0 list d w.0 (begins list fit)));
        all = all.all;
      };
}

pub over_wider : (opening opening' : Opening) (fits fits' : List Change → Type 0) (low low' : ℕ) (session : Session) → IsOverOf opening fits low session
    → opening ≡ opening' → Narrower fits fits' → low' ≤ low → IsOverOf opening' fits' low' session
over_wider opening opening' fits fits' low low' session h same fewer down = record {
  over = λ o is list fit.
      let a = h.over o (same ∙ is) list (fewer list fit) in
      record {
        text = a.text;
        clean = a.clean;
        run = run_wider low (last_version o.0 list) low' (last_version o.0 list) (course_of session).versions a.run down (le_refl (last_version o.0 list));
        all = a.all;
      };
}

-- it has the statements that it had
abbrev of_parts : List Statement → List View → Bool → JobSession
of_parts steps first shows = record { steps = steps; first_views = first; shows_rows = shows }

pub same_session : (old new : Session) → (course_of new).steps ≡ (course_of old).steps
    → (course_of new).first_views ≡ (course_of old).first_views
    → (course_of new).shows_rows ≡ (course_of old).shows_rows → job_session new ≡ job_session old
same_session old new steps first shows =
    ap (λ s. of_parts s new.first_views new.shows_rows) steps
    ∙ ap (λ vs. of_parts old.steps vs new.shows_rows) first
    ∙ ap (λ b. of_parts old.steps old.first_views b) shows

-- no refresh is asked for where none is among the statements
pub not_asked : (steps : List Statement) (old new : Course) (version : ℕ) (tables : ℕ → State) (change : RefreshKind) (set : ℕ) → HaveNoRefresh steps → old.steps ≡ steps
    → Takes old version tables new (AskedRefresh change set) → ⊥
not_asked steps old new version tables change set none same took =
    let r = Refresh change set in
    let at : slice_get steps old.answered ≡ Some r = ap (λ l. slice_get l old.answered) (sym same) ∙ took.0 in
    let within = slice_get_within steps old.answered r at in
    let is = get_or_from_slice_get steps old.answered r r at in
    none old.answered r within (change, set, ap Some is)

-- a session that has not ended does not end
pub not_ended : (old new : Course) (version : ℕ) (tables : ℕ → State) → is_none (next_of old) ≡ false → Takes old version tables new Ended → ⊥
not_ended old new version tables left took =
    let no : is_none (next_of old) ≡ true = ap is_none took.0 in cc

-- a turn keeps the statements
pub took_kept : (old new : Course) (version : ℕ) (tables : ℕ → State) → Takes old version tables new Answered → (new.steps ≡ old.steps) × (new.first_views ≡ old.first_views) × (new.shows_rows ≡ old.shows_rows)
took_kept old new version tables (s, is, never, made) =
    let new_is = made (Ok version) in
    (ap (λ (c : Course). c.steps) new_is, ap (λ (c : Course). c.first_views) new_is, ap (λ (c : Course). c.shows_rows) new_is)

-- fewer statements are left after a turn
pub took_less : (old new : Course) (version : ℕ) (tables : ℕ → State) → Takes old version tables new Answered → length new.steps - new.answered < length old.steps - old.answered
took_less old new version tables (s, is, never, made) =
    subst (λ (c : Course). length c.steps - c.answered < length old.steps - old.answered) (sym (made (Ok version)))
    (let lt = slice_get_within old.steps old.answered s is in omega (arith, lt))
