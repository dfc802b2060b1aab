-- Any list of steps.
use Rattle.std.proofs.Common.{◌≡◌, ℕ, zero, suc, ◌+◌, ◌<◌, ◌≤◌, Bool, true, false, cond, List, [], ◌∷◌, ◌++◌, length, replicate, Some, refl, sym, ap, subst, ◌∙◌, ⊎_elim, append_assoc, arith, length-set}
use Rattle.std.specs.Prelude.{◌==◌, nat_le, nat_lt, slice_index_or}
use Rattle.std.specs.List.{list_all}
use Rattle.std.specs.Option.{is_some}
use Rattle.std.proofs.lemmas.Bool.Decides.{nat_tests}
use Rattle.std.proofs.lemmas.List.{append-nil, get_or-set_same, length-replicate}
use Rattle.base_schema.specs.State.{State, table_rows}
use Rattle.base_schema.specs.Tables.{all_tables}
use Rattle.store_state.specs.Prefixes.{IsPrefix}
use Rattle.store_state.specs.Refresh.{Change}
use Rattle.store_state.specs.Versions.{accepted, version_state}
use Rattle.store_state.proofs.Prefixes.{accepted-grows, prefix-append, state-prefix}
use Rattle.store_state.proofs.VersionSteps.{accepted-most, accepted-rises}
use Rattle.store_machine.specs.declared.steps.Step.{Step}
use Rattle.store_machine.specs.declared.steps.Step.TheVariants.{Begin, Again, Back, Scan, Offer, Publish, Compact, Finish, Learn}
use Rattle.store_machine.specs.Laws.{AgainPinsLaw, BackPinsLaw, BeginPinsLaw, ListLaw, NotesLaw, PublishedLaw, ScanLaw, SeenRisesLaw, seen_of}
use Rattle.store_machine.specs.Machine.{SessionState, World, begun, begun_again, changed_in, finished, gone_back, happens, learnt, lengths_of, may_go_back, new_session, offered_by, offered_in, pieces_of, published, rows_in, run, scanned_at, session_in, session_of, start, total}
use Rattle.store_machine.proofs.Pieces.{scanned_keeps, session_scan_is}
use Rattle.store_machine.proofs.Sessions.{IsSound, Keeps, again_keeps, back_keeps, begun_keeps, finished_keeps, learnt_keeps, nothing_kept, session_changed}

-- what a step does to one session
record Does (world : World) (before after : SessionState) : Type 0 where
  change : SessionState → SessionState
  keeps : Keeps world.base world.list world.done change
  is : after ≡ change before

one_changed : (world : World) (number session : ℕ) (change : SessionState → SessionState) → Keeps world.base world.list world.done change
    → Does world (session_in world.sessions session) (session_in (changed_in world.sessions number change) session)
one_changed world number session change keeps =
    ⊎_elim
    (λ same. record { change = λ c. c; keeps = nothing_kept world.base world.list world.done; is = same })
    (λ changed. record { change = change; keeps = keeps; is = changed })
    (session_changed world.sessions number session change)

does : (world : World) (step : Step) (session : ℕ) → Does world (session_of world session) (session_of (happens world step) session)
does world (Begin number cuts) session = one_changed world number session (begun world cuts) (begun_keeps world cuts)
does world (Again number cuts) session = one_changed world number session (begun_again world cuts) (again_keeps world cuts)
does world (Back number version cuts) session = one_changed world number session (gone_back world version cuts) (back_keeps world version cuts)
does world (Scan number table piece) session =
    one_changed world number session (λ s. scanned_at world s.pin table piece s) (scanned_keeps world table piece)
does world (Offer refresh) session = record { change = λ c. c; keeps = nothing_kept world.base world.list world.done; is = refl }
does world Publish session = record { change = λ c. c; keeps = nothing_kept world.base world.list world.done; is = refl }
does world Compact session = record { change = λ c. c; keeps = nothing_kept world.base world.list world.done; is = refl }
does world (Finish number) session = one_changed world number session finished (finished_keeps world.base world.list world.done)
does world (Learn number note) session = one_changed world number session (learnt world note) (learnt_keeps world note)

-- each session is sound
abbrev AllSound : World → Type 0
AllSound world = (session : ℕ) → IsSound world.base world.list world.done (session_of world session)

still_sound : (world : World) (before after : SessionState) → Does world before after → IsSound world.base world.list world.done before
    → IsSound world.base world.list world.done after
still_sound world before after d h = subst (IsSound world.base world.list world.done) (sym d.is) (d.keeps.sound before h)

later_sound : (base : State) (list : List Change) (done later : ℕ) (session : SessionState) → accepted base list done ≤ accepted base list later
    → IsSound base list done session → IsSound base list later session
later_sound base list done later session less h = record {
  seen = let a = h.seen in omega (arith, a, less);
  pin = h.pin;
  cut = h.cut;
  pieces = h.pieces;
}

-- a session stays sound where the list gets longer
longer_sound : (base : State) (short long : List Change) (done : ℕ) (session : SessionState) → IsPrefix short long
    → IsSound base short done session → IsSound base long done session
longer_sound base short long done session longer h =
    let seen = h.seen in
    let most = accepted-most base short done in
    let same : (version : ℕ) → session.pin ≡ Some version → version_state base long version ≡ version_state base short version = λ version e.
    let pin = h.pin version e in
    state-prefix base short long version longer (omega (arith, seen, most, pin)) in
    record {
      seen = let grows = accepted-grows base short long done longer in omega (arith, seen, grows);
      pin = h.pin;
      cut = λ version e. subst (λ (s : State). list_all (λ table. total (lengths_of session.cuts table) == length (table_rows s table)) all_tables ≡ true)
          (sym (same version e)) (h.cut version e);
      pieces = λ version e table number rows found.
          h.pieces version e table number rows found
          ∙ ap (λ (s : State). slice_index_or (pieces_of (lengths_of session.cuts table) (table_rows s table)) number []) (sym (same version e));
    }

published_rises : (base : State) (list : List Change) (done : ℕ) (b : Bool) → accepted base list done ≤ accepted base list (cond b (done + 1) done)
published_rises base list done true = accepted-rises base list done 1
published_rises base list done false = omega arith

sound_step : (world : World) (step : Step) → AllSound world → AllSound (happens world step)
sound_step world (Begin number cuts) h = λ s. still_sound world _ _ (does world (Begin number cuts) s) (h s)
sound_step world (Again number cuts) h = λ s. still_sound world _ _ (does world (Again number cuts) s) (h s)
sound_step world (Back number version cuts) h = λ s. still_sound world _ _ (does world (Back number version cuts) s) (h s)
sound_step world (Scan number table piece) h = λ s. still_sound world _ _ (does world (Scan number table piece) s) (h s)
sound_step world (Offer refresh) h = λ s.
    longer_sound world.base world.list (world.list ++ refresh ∷ []) world.done (session_of world s)
    (prefix-append world.list (refresh ∷ [])) (h s)
sound_step world Publish h = λ s.
    later_sound world.base world.list world.done (cond (nat_lt world.done (length world.list)) (world.done + 1) world.done) (session_of world s)
    (published_rises world.base world.list world.done (nat_lt world.done (length world.list))) (h s)
sound_step world Compact h = h
sound_step world (Finish number) h = λ s. still_sound world _ _ (does world (Finish number) s) (h s)
sound_step world (Learn number note) h = λ s. still_sound world _ _ (does world (Learn number note) s) (h s)

sound_run : (steps : List Step) (world : World) → AllSound world → AllSound (run steps world)
sound_run [] world h = h
sound_run (step ∷ steps) world h = sound_run steps (happens world step) (sound_step world step h)

seen_run : (steps : List Step) (world : World) → AllSound world → (session : ℕ) → seen_of world session ≤ seen_of (run steps world) session
seen_run [] world h session = omega arith
seen_run (step ∷ steps) world h session =
    let d = does world step session in
    let here : (session_of world session).seen ≤ (d.change (session_of world session)).seen = d.keeps.rises (session_of world session) (h session) in
    let same : (session_of (happens world step) session).seen ≡ (d.change (session_of world session)).seen = ap (λ c. c.seen) d.is in
    let rest = seen_run steps (happens world step) (sound_step world step h) session in
    omega (arith, here, same, rest)

same_base : (world : World) (step : Step) → (happens world step).base ≡ world.base
same_base world (Begin number cuts) = refl
same_base world (Again number cuts) = refl
same_base world (Back number version cuts) = refl
same_base world (Scan number table piece) = refl
same_base world (Offer refresh) = refl
same_base world Publish = refl
same_base world Compact = refl
same_base world (Finish number) = refl
same_base world (Learn number note) = refl

longer_list : (world : World) (step : Step) → (happens world step).list ≡ world.list ++ offered_in step
longer_list world (Begin number cuts) = sym (append-nil world.list)
longer_list world (Again number cuts) = sym (append-nil world.list)
longer_list world (Back number version cuts) = sym (append-nil world.list)
longer_list world (Scan number table piece) = sym (append-nil world.list)
longer_list world (Offer refresh) = refl
longer_list world Publish = sym (append-nil world.list)
longer_list world Compact = sym (append-nil world.list)
longer_list world (Finish number) = sym (append-nil world.list)
longer_list world (Learn number note) = sym (append-nil world.list)

base_run : (steps : List Step) (world : World) → (run steps world).base ≡ world.base
base_run [] world = refl
base_run (step ∷ steps) world = base_run steps (happens world step) ∙ same_base world step

list_run : (steps : List Step) (world : World) → (run steps world).list ≡ world.list ++ offered_by steps
list_run [] world = sym (append-nil world.list)
list_run (step ∷ steps) world =
    list_run steps (happens world step)
    ∙ ap (λ l. l ++ offered_by steps) (longer_list world step)
    ∙ append_assoc world.list (offered_in step) (offered_by steps)

count_changed : (sessions : List SessionState) (number : ℕ) (change : SessionState → SessionState) → length (changed_in sessions number change) ≡ length sessions
count_changed sessions zero change = refl
count_changed sessions (suc place) change = length-set sessions place (change (slice_index_or sessions place new_session))

count_step : (world : World) (step : Step) → length (happens world step).sessions ≡ length world.sessions
count_step world (Begin number cuts) = count_changed world.sessions number (begun world cuts)
count_step world (Again number cuts) = count_changed world.sessions number (begun_again world cuts)
count_step world (Back number version cuts) = count_changed world.sessions number (gone_back world version cuts)
count_step world (Scan number table piece) = count_changed world.sessions number (λ s. scanned_at world s.pin table piece s)
count_step world (Offer refresh) = refl
count_step world Publish = refl
count_step world Compact = refl
count_step world (Finish number) = count_changed world.sessions number finished
count_step world (Learn number note) = count_changed world.sessions number (learnt world note)

count_run : (steps : List Step) (world : World) → length (run steps world).sessions ≡ length world.sessions
count_run [] world = refl
count_run (step ∷ steps) world = count_run steps (happens world step) ∙ count_step world step

new_at : (n place : ℕ) → slice_index_or (replicate n new_session) place new_session ≡ new_session
new_at zero place = refl
new_at (suc n) zero = refl
new_at (suc n) (suc place) = new_at n place

new_in : (n number : ℕ) → session_in (replicate n new_session) number ≡ new_session
new_in n zero = refl
new_in n (suc place) = new_at n place

new_sound : (base : State) (list : List Change) → IsSound base list 0 new_session
new_sound base list = record {
  seen = omega arith;
  pin = λ v e. cc;
  cut = λ v e. cc;
  pieces = λ v e. cc;
}

start_sound : (base : State) (list : List Change) (sessions : ℕ) → AllSound (start base list sessions)
start_sound base list sessions = λ s. subst (IsSound base list 0) (sym (new_in sessions s)) (new_sound base list)

reached : (base : State) (list : List Change) (sessions : ℕ) (steps : List Step) → AllSound (run steps (start base list sessions))
reached base list sessions steps = sound_run steps (start base list sessions) (start_sound base list sessions)

pub list_law : ListLaw
list_law base list sessions steps = list_run steps (start base list sessions)

pub scan_law : ScanLaw
scan_law base list sessions steps session table rows scan =
    let world = run steps (start base list sessions) in
    let c = session_of world session in
    let found = session_scan_is world.base world.list world.done c table c.pin refl (reached base list sessions steps session) rows scan in (
      found.0,
      found.1.0,
      found.1.1 ∙ ap (λ b. rows_in b world.list found.0 table) (base_run steps (start base list sessions))
          ∙ ap (λ l. rows_in base l found.0 table) (list_run steps (start base list sessions)),
    )

pub seen_rises_law : SeenRisesLaw
seen_rises_law base list sessions steps more session =
    seen_run more (run steps (start base list sessions)) (reached base list sessions steps) session

pub published_law : PublishedLaw
published_law base list sessions steps session version pin =
    let h = reached base list sessions steps session in
    let a = h.pin version pin in
    let b = h.seen in
    omega (arith, a, b)

changed_here : (world : World) (number : ℕ) (change : SessionState → SessionState) → 0 < number → number ≤ length world.sessions
    → session_in (changed_in world.sessions number change) number ≡ change (session_in world.sessions number)
changed_here world zero change some within = absurd (omega (arith, some))
changed_here world (suc place) change some within =
    get_or-set_same world.sessions place (change (slice_index_or world.sessions place new_session)) new_session (omega (arith, within))

learnt_seen : (world : World) (note : ℕ) (session : SessionState) → note ≤ published world → note ≤ (learnt world note session).seen
learnt_seen world note session less =
    let yes : nat_le note (published world) ≡ true = grind (arith, nat_tests) in
    rw yes (omega arith)

pub notes_law : NotesLaw
notes_law base list sessions steps more session note some within less =
    let origin = start base list sessions in
    let first = run steps origin in
    let told = happens first (Learn session note) in
    let sound : AllSound told = sound_step first (Learn session note) (reached base list sessions steps) in
    let count : length first.sessions ≡ sessions = count_run steps origin ∙ length-replicate sessions new_session in
    let heard : seen_of told session ≡ (learnt first note (session_of first session)).seen =
    ap (λ c. c.seen) (changed_here first session (learnt first note) some (omega (arith, within, count))) in
    let knows : note ≤ seen_of told session =
    subst (λ n. note ≤ n) (sym heard) (learnt_seen first note (session_of first session) less) in
    let rest = seen_run more told sound session in
    omega (arith, knows, rest)

pub begin_pins_law : BeginPinsLaw
begin_pins_law world session cuts is cut =
    let here = changed_here world session (begun world cuts) is.0 is.1 in
    (ap (λ c. c.pin) here ∙ rw cut refl, ap (λ c. c.seen) here ∙ rw cut refl)

pub again_pins_law : AgainPinsLaw
again_pins_law world session cuts is cut =
    let here = changed_here world session (begun_again world cuts) is.0 is.1 in
    (ap (λ c. c.pin) here ∙ rw cut refl, ap (λ c. c.seen) here ∙ rw cut refl)

may_back : (session : SessionState) (pin version : ℕ) → session.pin ≡ Some pin → version ≤ session.seen
    → session.seen < version + 64 → may_go_back session version ≡ true
may_back session pin version e most recent =
    let has : is_some session.pin ≡ true = ap is_some e in
    let le : nat_le version session.seen ≡ true = grind (arith, nat_tests) in
    let lt : nat_lt session.seen (version + 64) ≡ true = grind (arith, nat_tests) in
    rw (has, le, lt) refl

pub back_pins_law : BackPinsLaw
back_pins_law world session pin version cuts is e most recent cut =
    let here = changed_here world session (gone_back world version cuts) is.0 is.1 in
    let may = may_back (session_of world session) pin version e most recent in
    (ap (λ c. c.pin) here ∙ rw (may, cut) refl, ap (λ c. c.seen) here ∙ rw (may, cut) refl)
