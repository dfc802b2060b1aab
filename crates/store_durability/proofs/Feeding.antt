-- What a feed keeps from turn to turn.
use Rattle.std.proofs.Common.{◌≡◌, inl, inr, ℕ, zero, suc, ◌+◌, ◌^◌, ◌≤◌, ◌<◌, Bool, true, false, List, [], ◌∷◌, length, drop, sym, ap, subst, ◌∙◌, arith, Some, None}
use Rattle.std.specs.Prelude.{slice_get}
use Rattle.std.specs.List.{AllByRecursion}
use Rattle.std.proofs.lemmas.Option.{slice_get_within}
use Rattle.base_disk.specs.Disk.{LeavesOnly}
use Rattle.store_journal.specs.Journal.{WithOrWithout}
use Rattle.store_journal.specs.declared.journal.Journal.{Journal}
use Rattle.store_journal.proofs.Moments.{started, weaker}
use Rattle.store_refresh_entries.specs.Change.{HasFewBytes, IsSpelled, IsStorable, spelling_of}
use Rattle.store_state.specs.Refresh.{Change}
use Rattle.store_versions.specs.Trials.{Trials, one_more}
use Rattle.store_versions.specs.declared.attachment.Attachment.{Ghosts}
use Rattle.store_durability.specs.Feed.{StoredFits, WithNextOrWithout}
use Rattle.store_snapshots.specs.Publishers.{AcceptsNext, Edition, RefusesNext}
use Rattle.store_snapshots.specs.declared.note.Note.{Note}
use Rattle.base_refusals.specs.declared.refresh.Cause.{Cause}
use Rattle.store_durability.specs.Stored.{HasRoomForOne, Holds, payloads_of, trials_with}
use Rattle.store_durability.proofs.Accepted.{listed}

-- what holds of all that is left holds of the next one, and of what is left behind it
all_next : (P : Change → Type 0) (list : List Change) (place : ℕ) (change : Change) → slice_get list place ≡ Some change → AllByRecursion P (drop place list)
    → P change × AllByRecursion P (drop (suc place) list)
all_next P [] place change at all = absurd cc
all_next P (x ∷ list) zero change at all = let is : x ≡ change = cc in (subst P is all.0, all.1)
all_next P (x ∷ list) (suc place) change at all = all_next P list place change at all

pub next_and_rest : (P : Change → Type 0) (list : List Change) (place : ℕ) (change : Change) → slice_get list place ≡ Some change → AllByRecursion P (drop place list)
    → P change × AllByRecursion P (drop (place + 1) list)
next_and_rest P list place change at all =
    let up : suc place ≡ place + 1 = omega arith in
    let both = all_next P list place change at all in
    (both.0, subst (λ (n : ℕ). AllByRecursion P (drop n list)) up both.1)

-- where the list has no refresh left, each was tried
none_past : (list : List Change) (place : ℕ) → slice_get list place ≡ None → length list ≤ place
none_past [] place none = omega arith
none_past (x ∷ list) zero none = absurd cc
none_past (x ∷ list) (suc place) none = let past = none_past list place none in omega (arith, past)

pub all_tried : (version : Trials) → version.done ≤ length version.list → slice_get version.list version.done ≡ None → version.done ≡ length version.list
all_tried version within none = let past = none_past version.list version.done none in omega (arith, within, past)

module _ (version : Trials) (change : Change) (at : slice_get version.list version.done ≡ Some change) where
  -- the list has one left
  pub one_left : version.done < length version.list
  one_left = slice_get_within version.list version.done change at

  pub next_listed : HasRoomForOne version
  next_listed done = absurd (omega (arith, done, one_left))

  -- the trial is that of the list's own next refresh
  same_trials : trials_with change version ≡ version
  same_trials = listed change version one_left

  pub turned_accepts : {A : Type 0} {g : Ghosts A} (new : Edition) (note : Note A g) → AcceptsNext (trials_with change version) new note → AcceptsNext version new note
  turned_accepts new note accepts = subst (λ (t : Trials). AcceptsNext t new note) same_trials accepts

  pub turned_refuses : (cause : Cause) (before : Trials) (new : Edition) → RefusesNext (trials_with change version) cause before new → RefusesNext version cause before new
  turned_refuses cause before new refuses = subst (λ (t : Trials). RefusesNext t cause before new) same_trials refuses

  turned : (new : Trials) → new ≡ one_more (trials_with change version) → new ≡ one_more version
  turned new is = is ∙ ap (λ (t : Trials). one_more t) same_trials

module _ {D : Type 0} (is_reached : D → Bool) (may_leave : D → List ℕ → Type 0) (journal : Journal) (disk : D) (version : Trials)
    (fits : StoredFits is_reached may_leave journal disk version) (change : Change) (at : slice_get version.list version.done ≡ Some change) where
  -- what the next refresh owes
  pub next_storable : IsStorable change
  next_storable = (next_and_rest IsStorable version.list version.done change at fits.storable).0

  pub next_room : journal.end + (9 + length (spelling_of change)) < 2 ^ 62
  next_room =
      let few = (next_and_rest HasFewBytes version.list version.done change at fits.short).0 in
      let left = slice_get_within version.list version.done change at in
      let room = fits.room in
      omega (arith, few, left, room)

  -- what is left fits
  pub rest_fits : (later : Journal) (next : D) → is_reached next ≡ true → later.is_shut ≡ false → Holds (may_leave next) (one_more version) later
      → later.end ≤ journal.end + (9 + length (spelling_of change)) → StoredFits is_reached may_leave later next (one_more version)
  rest_fits later next reached working holds grown =
      let few = next_and_rest HasFewBytes version.list version.done change at fits.short in
      let left = slice_get_within version.list version.done change at in
      let less = few.0 in
      let room = fits.room in
      record {
        reached = reached;
        working = working;
        within = omega (arith, left);
        holds = holds;
        storable = (next_and_rest IsStorable version.list version.done change at fits.storable).1;
        short = few.1;
        room = omega (arith, less, left, room, grown);
      }

  -- the same of the version that a turn leaves
  pub turned_fits : (later : Journal) (next : D) (new : Trials) → new ≡ one_more (trials_with change version) → is_reached next ≡ true → later.is_shut ≡ false
      → Holds (may_leave next) new later → later.end ≤ journal.end + (9 + length (spelling_of change)) → StoredFits is_reached may_leave later next new
  turned_fits later next new is reached working holds grown =
      let same : new ≡ one_more version = turned version change at new is in
      subst (λ (t : Trials). StoredFits is_reached may_leave later next t) (sym same)
      (rest_fits later next reached working (subst (λ (t : Trials). Holds (may_leave next) t later) same holds) grown)

module _ {D : Type 0} (moment : D → ℕ) (left_since : D → ℕ → List ℕ → Type 0) (version : Trials) where
  -- a turn that tries a refresh
  pub turn_leaves : (change : Change) → slice_get version.list version.done ≡ Some change → (old new : D)
      → LeavesOnly moment left_since old new (WithOrWithout IsSpelled (payloads_of version) (spelling_of change))
      → LeavesOnly moment left_since old new (WithNextOrWithout version)
  turn_leaves change at old new leaves =
      weaker moment left_since old new (WithOrWithout IsSpelled (payloads_of version) (spelling_of change)) (WithNextOrWithout version) leaves
      (λ c with_it. inr (change, at, with_it))

  -- one that doesn't
  pub no_turn_leaves : (is_reached : D → Bool) (may_leave : D → List ℕ → Type 0) (journal : Journal) (disk : D) → StoredFits is_reached may_leave journal disk version
      → ((c : List ℕ) → left_since disk (moment disk) c → may_leave disk c) → LeavesOnly moment left_since disk disk (WithNextOrWithout version)
  no_turn_leaves is_reached may_leave journal disk fits only =
      started moment left_since disk (WithNextOrWithout version) (λ c left. inl ((fits.holds fits.working).images c (only c left)))

pub ruleset feeding = (all_tried, no_turn_leaves)

pub ruleset trying = (one_left, next_listed, next_storable, next_room, turned_accepts, turned_refuses, turn_leaves)
