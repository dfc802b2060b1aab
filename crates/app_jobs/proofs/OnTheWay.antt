-- Sessions on their way, turn by turn.
use Rattle.std.proofs.Common.{◌≡◌, ◌∙◌, ◌⊎◌, ℕ, ◌+◌, ◌-◌, ◌<◌, ◌≤◌, List, [], ◌∷◌, ◌++◌, Bool, true, false, refl, sym, ap, subst, arith, inl, inr, drop, drop-cons, length, append_assoc, suc, add-one}
use Rattle.std.specs.Prelude.{◌&&◌, not, Option, Some, None, slice_get, Result, Ok, Err}
use Rattle.std.proofs.lemmas.List.{append-nil, drop_all}
use Rattle.std.proofs.lemmas.Option.{slice_get_cases, slice_get_within}
use Rattle.app_sessions.specs.Outcomes.{is_refusal, outcome_of, statement_text}
use Rattle.app_sessions.specs.Sessions.{Course, IsRefresh, Takes, are_clean, course_after, lines_of, next_of}
use Rattle.app_sessions.specs.Views.{views_after}
use Rattle.app_sessions.specs.declared.session.Turn.{Turn}
use Rattle.app_sessions.specs.declared.session.Turn.TheVariants as turn
use Rattle.base_refusals.specs.declared.refresh.Cause.{Cause}
use Rattle.store_state.specs.Refresh.{Change, after}
use Rattle.base_schema.specs.State.{State}
use Rattle.store_versions.specs.Trials.{Trials, one_more, tables_of, version_of}
use Rattle.app_sessions.specs.Versions.{states_of}
use Rattle.sql_ast.specs.declared.statement.RefreshKind.{RefreshKind}
use Rattle.sql_ast.specs.declared.statement.Statement.{Statement}
use Rattle.sql_ast.specs.declared.statement.Statement.TheVariants as statement
use Rattle.app_jobs.specs.Turns.{IsOnTheWay, clean_from, left_of, moment_after, moments, refresh_count, text_from, trials_after, tried_next}
use Rattle.app_sessions.specs.Reports.{version_or_cause}

-- the statements that are left begin with the next one
left_is : (course : Course) (s : Statement) → next_of course ≡ Some s → left_of course ≡ s ∷ drop (course.answered + 1) course.steps
left_is course s is = elim (slice_get_cases course.steps course.answered).1 [
  | inl (x, lt, some, at) ↦ let same : x ≡ s = cc in
      drop-cons course.steps course.answered x lt ∙ ap (λ y. y ∷ drop (suc course.answered) course.steps) (at ∙ same) ∙ ap (λ j. s ∷ drop j course.steps) (sym (add-one course.answered))
  | inr (past, none) ↦ absurd (cc)
]

none_left : (course : Course) → next_of course ≡ None → left_of course ≡ []
none_left course is = elim (slice_get_cases course.steps course.answered).1 [
  | inl (x, lt, some, at) ↦ absurd (cc)
  | inr (past, none) ↦ drop_all course.answered course.steps past
]

and_assoc : (a b c : Bool) → ((a && b) && c) ≡ (a && (b && c))
and_assoc true b c = refl
and_assoc false b c = refl

and_true : (b : Bool) → (b && true) ≡ b
and_true true = refl
and_true false = refl

-- how many refreshes are left after a turn
count_after : (trials : Trials) (s : Statement) (rest : List Statement) (n : ℕ) → trials.done + refresh_count (s ∷ rest) ≡ n → (trials_after trials s).done + refresh_count rest ≡ n
count_after trials (statement.Refresh change set) rest n e = omega (arith, e)
count_after trials (statement.Query q) rest n e = e
count_after trials (statement.CreateView name names q) rest n e = e
count_after trials (statement.DropView name) rest n e = e
count_after trials (statement.Run number values) rest n e = e

same_list : (trials : Trials) (s : Statement) → (trials_after trials s).list ≡ trials.list
same_list trials (statement.Refresh change set) = refl
same_list trials (statement.Query q) = refl
same_list trials (statement.CreateView name names q) = refl
same_list trials (statement.DropView name) = refl
same_list trials (statement.Run number values) = refl

-- a turn goes on
pub goes_on : (course : Course) (trials : Trials) (text : List ℕ) (clean : Bool) (s : Statement) → next_of course ≡ Some s → IsOnTheWay course trials text clean
    → IsOnTheWay (course_after course (moment_after trials) s) (trials_after trials s) text clean
goes_on course trials text clean s is way =
    let left = left_is course s is in
    let rest = drop (course.answered + 1) course.steps in
    let line = statement_text true (course.answered + 1) (moment_after trials) course.views s in
    let further = lines_of true (course.answered + 1 + 1) (views_after course.views s) rest (moments (trials_after trials s) rest) in
    record {
      shows = way.shows;
      text_is =
          way.text_is ∙ ap (λ l. course.text ++ lines_of true (course.answered + 1) course.views l (moments trials l)) left
          ∙ sym (append_assoc course.text line further)
          ∙ ap (λ b. (course.text ++ statement_text b (course.answered + 1) (moment_after trials) course.views s) ++ further) (sym way.shows);
      clean_is =
          way.clean_is ∙ ap (λ l. course.is_clean && are_clean course.views l (moments trials l)) left
          ∙ sym (and_assoc course.is_clean (not (is_refusal (outcome_of (moment_after trials) course.views s))) (are_clean (views_after course.views s) rest (moments (trials_after trials s) rest)));
      places = count_after trials s rest (length trials.list) (ap (λ l. trials.done + refresh_count l) (sym left) ∙ way.places) ∙ ap length (sym (same_list trials s));
    }

-- the end of the way
pub ends : (course : Course) (trials : Trials) (text : List ℕ) (clean : Bool) → next_of course ≡ None → IsOnTheWay course trials text clean → (course.text ≡ text) × (course.is_clean ≡ clean)
ends course trials text clean is way =
    let left = none_left course is in (
      sym (way.text_is ∙ ap (λ l. course.text ++ lines_of true (course.answered + 1) course.views l (moments trials l)) left ∙ append-nil course.text),
      sym (way.clean_is ∙ ap (λ l. course.is_clean && are_clean course.views l (moments trials l)) left ∙ and_true course.is_clean),
    )

less_place : (d k l : ℕ) → d + suc k ≡ l → d < l
less_place d k l e = omega (arith, e)

-- a refresh that is next has its place in the list
pub has_place : (course : Course) (trials : Trials) (text : List ℕ) (clean : Bool) → IsRefresh (next_of course) → IsOnTheWay course trials text clean → trials.done < length trials.list
has_place course trials text clean (change, set, is) way =
    let left = left_is course (statement.Refresh change set) is in
    less_place trials.done (refresh_count (drop (course.answered + 1) course.steps)) (length trials.list) (ap (λ l. trials.done + refresh_count l) (sym left) ∙ way.places)

-- fewer statements are left
pub fewer : (course : Course) (s : Statement) → next_of course ≡ Some s → length course.steps - (course.answered + 1) < length course.steps - course.answered
fewer course s is = let lt = slice_get_within course.steps course.answered s is in omega (arith, lt)

-- trials stay as they are at a statement that is no refresh
same_trials : (trials : Trials) (s : Statement) → (IsRefresh (Some s) → ⊥) → trials_after trials s ≡ trials
same_trials trials (statement.Refresh change set) never = absurd (never (change, set, refl))
same_trials trials (statement.Query q) never = refl
same_trials trials (statement.CreateView name names q) never = refl
same_trials trials (statement.DropView name) never = refl
same_trials trials (statement.Run number values) never = refl

-- a statement that is no refresh had its turn
pub answered_on : (old new : Course) (trials : Trials) (text : List ℕ) (clean : Bool) → Takes old (version_of trials) (states_of trials) new turn.Answered → IsOnTheWay old trials text clean
    → IsOnTheWay new trials text clean
answered_on old new trials text clean (s, is, never, made) way =
    let on = goes_on old trials text clean s is way in
    let same = same_trials trials s (subst (λ (o : Option Statement). IsRefresh o → ⊥) is never) in
    subst (λ (c : Course). IsOnTheWay c trials text clean) (sym (made (tried_next trials (slice_get trials.list trials.done))))
    (subst (λ (t : Trials). IsOnTheWay (course_after old (moment_after trials) s) t text clean) same on)

-- a refresh was asked for, and its result handed in
pub refreshed_on : (old mid new : Course) (trials next : Trials) (text : List ℕ) (clean : Bool) (change : RefreshKind) (set : ℕ) → Takes old (version_of trials) (states_of trials) mid (turn.AskedRefresh change set)
    → next ≡ one_more trials → ((s : Statement) → next_of mid ≡ Some s → new ≡ course_after mid (moment_after trials) s) → IsOnTheWay old trials text clean → IsOnTheWay new next text clean
refreshed_on old mid new trials next text clean change set (is, kept) further made way =
    let at : next_of mid ≡ Some (statement.Refresh change set) = ap next_of kept ∙ is in
    let way' : IsOnTheWay mid trials text clean = subst (λ (c : Course). IsOnTheWay c trials text clean) (sym kept) way in
    let on = goes_on mid trials text clean (statement.Refresh change set) at way' in
    subst (λ (c : Course). IsOnTheWay c next text clean) (sym (made (statement.Refresh change set) at))
    (subst (λ (t : Trials). IsOnTheWay (course_after mid (moment_after trials) (statement.Refresh change set)) t text clean) (sym further) on)

-- the refresh that is asked for has its place
pub asked_place : (old mid : Course) (trials : Trials) (text : List ℕ) (clean : Bool) (change : RefreshKind) (set : ℕ) → Takes old (version_of trials) (states_of trials) mid (turn.AskedRefresh change set)
    → IsOnTheWay old trials text clean → IsRefresh (next_of mid) × (trials.done < length trials.list)
asked_place old mid trials text clean change set (is, kept) way =
    ((change, set, ap next_of kept ∙ is), has_place old trials text clean (change, set, is) way)

-- fewer statements are left after a turn
pub fewer_answered : (old new : Course) (trials : Trials) → Takes old (version_of trials) (states_of trials) new turn.Answered
    → length new.steps - new.answered < length old.steps - old.answered
fewer_answered old new trials (s, is, never, made) =
    subst (λ (c : Course). length c.steps - c.answered < length old.steps - old.answered) (sym (made (tried_next trials (slice_get trials.list trials.done)))) (fewer old s is)

pub fewer_refreshed : (old mid new : Course) (trials : Trials) (change : RefreshKind) (set : ℕ) → Takes old (version_of trials) (states_of trials) mid (turn.AskedRefresh change set)
    → ((s : Statement) → next_of mid ≡ Some s → new ≡ course_after mid (moment_after trials) s) → length new.steps - new.answered < length old.steps - old.answered
fewer_refreshed old mid new trials change set (is, kept) made =
    let at : next_of mid ≡ Some (statement.Refresh change set) = ap next_of kept ∙ is in
    subst (λ (c : Course). length c.steps - c.answered < length old.steps - old.answered) (sym (made (statement.Refresh change set) at))
    (subst (λ (c : Course). length c.steps - (c.answered + 1) < length old.steps - old.answered) (sym kept) (fewer old (statement.Refresh change set) is))

-- the text and the cleanness at the end
pub ended : (old new : Course) (trials : Trials) (text : List ℕ) (clean : Bool) → Takes old (version_of trials) (states_of trials) new turn.Ended → IsOnTheWay old trials text clean
    → (new.text ≡ text) × (new.is_clean ≡ clean)
ended old new trials text clean (is, kept) way =
    let both = ends old trials text clean is way in
    (ap (λ (c : Course). c.text) kept ∙ both.0, ap (λ (c : Course). c.is_clean) kept ∙ both.1)

-- what was taken over a snapshot of a version was taken over it
pub takes_at : (old new : Course) (snapshot trials : Trials) (t u : Turn) → snapshot ≡ trials → t ≡ u → Takes old (version_of snapshot) (states_of snapshot) new t → Takes old (version_of trials) (states_of trials) new u
takes_at old new snapshot trials t u same is took =
    subst (λ (x : Turn). Takes old (version_of trials) (states_of trials) new x) is (subst (λ (x : Trials). Takes old (version_of x) (states_of x) new t) same took)

-- what comes of the next refresh, where it is accepted
tried_ok : (trials next : Trials) → trials.done < length trials.list → version_of next ≡ version_of trials + 1
    → ((change : Change) → slice_get trials.list trials.done ≡ Some change → after (tables_of trials) change ≡ Ok (tables_of next))
    → tried_next trials (slice_get trials.list trials.done) ≡ Ok (version_of next)
tried_ok trials next inside one leaves = elim (slice_get_cases trials.list trials.done).1 [
  | inl (change, lt, is, at) ↦ ap (tried_next trials) is ∙ ap (version_or_cause (version_of trials)) (leaves change is) ∙ ap Ok (sym one)
  | inr (past, none) ↦ absurd (omega (arith, inside, past))
]

-- and where it is refused
tried_err : (trials : Trials) (cause : Cause) → trials.done < length trials.list
    → ((change : Change) → slice_get trials.list trials.done ≡ Some change → after (tables_of trials) change ≡ Err cause)
    → tried_next trials (slice_get trials.list trials.done) ≡ Err cause
tried_err trials cause inside leaves = elim (slice_get_cases trials.list trials.done).1 [
  | inl (change, lt, is, at) ↦ ap (tried_next trials) is ∙ ap (version_or_cause (version_of trials)) (leaves change is)
  | inr (past, none) ↦ absurd (omega (arith, inside, past))
]

-- a result that was handed in is that of the moment
handed : (old new : Course) (trials : Trials) (before : ℕ) (tried : Result ℕ Cause) → before ≡ version_of trials → tried ≡ tried_next trials (slice_get trials.list trials.done)
    → ((s : Statement) (tables : ℕ → State) → next_of old ≡ Some s → new ≡ course_after old (record { version = before; tables = tables; tried = tried }) s)
    → (s : Statement) → next_of old ≡ Some s → new ≡ course_after old (moment_after trials) s
handed old new trials before tried is comes made s at =
    made s (states_of trials) at
    ∙ ap (λ v. course_after old (record { version = v; tables = states_of trials; tried = tried }) s) is
    ∙ ap (λ t. course_after old (record { version = version_of trials; tables = states_of trials; tried = t }) s) comes

pub handed_ok : (old new : Course) (trials next : Trials) (before later : ℕ) → before ≡ version_of trials → later ≡ version_of next → trials.done < length trials.list → version_of next ≡ version_of trials + 1
    → ((change : Change) → slice_get trials.list trials.done ≡ Some change → after (tables_of trials) change ≡ Ok (tables_of next))
    → ((s : Statement) (tables : ℕ → State) → next_of old ≡ Some s → new ≡ course_after old (record { version = before; tables = tables; tried = Ok later }) s)
    → (s : Statement) → next_of old ≡ Some s → new ≡ course_after old (moment_after trials) s
handed_ok old new trials next before later is that inside one leaves made =
    handed old new trials before (Ok later) is (ap Ok that ∙ sym (tried_ok trials next inside one leaves)) made

pub handed_err : (old new : Course) (trials : Trials) (before : ℕ) (cause : Cause) → before ≡ version_of trials → trials.done < length trials.list
    → ((change : Change) → slice_get trials.list trials.done ≡ Some change → after (tables_of trials) change ≡ Err cause)
    → ((s : Statement) (tables : ℕ → State) → next_of old ≡ Some s → new ≡ course_after old (record { version = before; tables = tables; tried = Err cause }) s)
    → (s : Statement) → next_of old ≡ Some s → new ≡ course_after old (moment_after trials) s
handed_err old new trials before cause is inside leaves made =
    handed old new trials before (Err cause) is (sym (tried_err trials cause inside leaves)) made
