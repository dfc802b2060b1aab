-- A stored turn as one of a feed of the list and then of two senders.
use Rattle.std.proofs.Common.{◌≡◌, ◌⊎◌, ℕ, ◌+◌, ◌-◌, ◌^◌, ◌<◌, ◌≤◌, Bool, true, false, List, [], ◌∷◌, ◌++◌, None, Some, length, drop, refl, sym, ap, subst, ◌∙◌, arith, inl, inr, ⊎_elim, append_assoc, length-append}
use Rattle.std.specs.Prelude.{slice_get}
use Rattle.std.specs.List.{AllByRecursion}
use Rattle.std.proofs.lemmas.Bool.{cases_lt}
use Rattle.std.proofs.lemmas.List.{append-nil, map-append}
use Rattle.std.proofs.lemmas.Option.{slice_get_within}
use Rattle.store_gateway.specs.Feeds.{gateway_tried, numbered, sender_number}
use Rattle.store_gateway.specs.Roles.{Taking}
use Rattle.store_gateway.specs.declared.message.SenderId.{SenderId}
use Rattle.store_journal.specs.declared.journal.Journal.{Journal}
use Rattle.store_refresh_entries.specs.Change.{MayBeStored, spelling_of}
use Rattle.store_snapshots.specs.Publishers.{AcceptsNext, Edition, RefusesNext}
use Rattle.store_snapshots.specs.Turns.{ListFits, TakesTurn, list_tried}
use Rattle.store_snapshots.specs.declared.feed.FeedTurn.{FeedTurn}
use Rattle.store_snapshots.specs.declared.feed.FeedTurn.TheVariants.{Published, Refused, Idle, Ended}
use Rattle.store_snapshots.proofs.FeedLaws.{next_tried}
use Rattle.store_state.specs.Prefixes.{IsPrefix}
use Rattle.store_state.specs.Refresh.{Change}
use Rattle.store_state.proofs.Prefixes.{prefix-append, prefix-refl, prefix-trans}
use Rattle.store_versions.specs.Trials.{Trials, offered, one_more}
use Rattle.store_versions.specs.declared.attachment.Attachment.{Ghosts}
use Rattle.store_durability.specs.Gateway.{BothFit, IsAtTurn, KeepsUp, TakesThis}
use Rattle.store_durability.specs.Stored.{HasRoomForOne, Holds, IsNext, trials_with}
use Rattle.store_durability.proofs.Accepted.{given, listed}
use Rattle.store_durability.proofs.Feeding.{next_and_rest}

-- trying one refresh

module _ {D : Type 0} (is_reached : D → Bool) (may_leave : D → List ℕ → Type 0) (journal : Journal) (disk : D) (version : Trials)
    (keeps : KeepsUp is_reached may_leave journal disk version) (change : Change) (storable : MayBeStored change) (more : version.done < version.most) where
  -- there is room for it
  pub this_room : journal.end + (9 + length (spelling_of change)) < 2 ^ 62
  this_room =
      let few = storable.1 in
      let room = keeps.room in
      omega (arith, few, more, room)

  done_with : (trials_with change version).done ≡ version.done
  done_with = ⊎_elim {A = version.done < length version.list} {B = length version.list ≤ version.done}
      (λ left. ap (λ (t : Trials). t.done) (listed change version left))
      (λ none. ap (λ (t : Trials). t.done) (given change version none))
      (cases_lt version.done (length version.list))

  most_with : (trials_with change version).most ≡ version.most
  most_with = ⊎_elim {A = version.done < length version.list} {B = length version.list ≤ version.done}
      (λ left. ap (λ (t : Trials). t.most) (listed change version left))
      (λ none. ap (λ (t : Trials). t.most) (given change version none))
      (cases_lt version.done (length version.list))

  within_with : version.done + 1 ≤ length (trials_with change version).list
  within_with = ⊎_elim {A = version.done < length version.list} {B = length version.list ≤ version.done}
      (λ left. let e = ap (λ (t : Trials). length t.list) (listed change version left) in omega (arith, e, left))
      (λ none. let e = ap (λ (t : Trials). length t.list) (given change version none) in
      let le = keeps.within in omega (arith, e, none, le, length-append version.list (change ∷ [])))
      (cases_lt version.done (length version.list))

  -- and then for the rest
  pub this_keeps : (later : Journal) (next : D) (new : Trials) → new ≡ one_more (trials_with change version) → is_reached next ≡ true → later.is_shut ≡ false
      → Holds (may_leave next) new later → later.end ≤ journal.end + (9 + length (spelling_of change)) → KeepsUp is_reached may_leave later next new
  this_keeps later next new is reached working holds grown =
      let few = storable.1 in
      let room = keeps.room in
      let done : new.done ≡ version.done + 1 = ap (λ (t : Trials). t.done) is ∙ ap (λ (n : ℕ). n + 1) done_with in
      let most : new.most ≡ version.most = ap (λ (t : Trials). t.most) is ∙ most_with in
      let size : length new.list ≡ length (trials_with change version).list = ap (λ (t : Trials). length t.list) is in
      let left = within_with in
      record {
        reached = reached;
        working = working;
        within = omega (arith, done, size, left);
        holds = holds;
        room = omega (arith, few, more, room, grown, done, most);
      }

pub ruleset trying = (this_room, this_keeps)

-- the list's next refresh

change_at : (list : List Change) (place : ℕ) (change other : Change) → slice_get list place ≡ Some change → slice_get list place ≡ Some other → other ≡ change
change_at list place change other a b = cc

module _ (start : Trials) (count : ℕ) (taker : Taking) (over : Trials → Type 0) (old new : Edition) (change : Change) (fits : ListFits start count old.version) (none : taker.taken ≡ [])
    (at : slice_get old.version.list old.version.done ≡ Some change) where
  left : old.version.done < length old.version.list
  left = slice_get_within old.version.list old.version.done change at

  list_more : list_tried start (count + 1) ++ gateway_tried taker ≡ (list_tried start count ++ gateway_tried taker) ++ (None, change) ∷ []
  list_more =
      let next = next_tried start count old.version fits left in
      let same = change_at old.version.list old.version.done change next.0 at next.1 in
      let nobody : (n : ℕ) → list_tried start n ++ gateway_tried taker ≡ list_tried start n =
      λ n. ap (λ es. list_tried start n ++ numbered es) none ∙ append-nil (list_tried start n) in
      nobody (count + 1) ∙ next.2 ∙ ap (λ (c : Change). list_tried start count ++ (None, c) ∷ []) same
      ∙ ap (λ l. l ++ (None, change) ∷ []) (sym (nobody count))

  pub takes_listed : {A : Type 0} {g : Ghosts A} (turn : FeedTurn A g) → TakesThis None change old new turn
      → TakesTurn (list_tried start count ++ gateway_tried taker) (list_tried start (count + 1) ++ gateway_tried taker) over old new turn
  takes_listed (Published sender note) takes =
      let same : trials_with change old.version ≡ old.version = listed change old.version left in (
        change,
        old.version,
        list_more ∙ ap (λ s. (list_tried start count ++ gateway_tried taker) ++ (s, change) ∷ []) (sym takes.0),
        inl (refl, left, at),
        subst (λ (t : Trials). AcceptsNext t new note) same takes.1,
      )
  takes_listed (Refused sender cause) takes =
      let same : trials_with change old.version ≡ old.version = listed change old.version left in (
        change,
        old.version,
        list_more ∙ ap (λ s. (list_tried start count ++ gateway_tried taker) ++ (s, change) ∷ []) (sym takes.0),
        inl (refl, left, at),
        subst (λ (t : Trials). RefusesNext t cause old.shown new) same takes.1,
      )
  takes_listed Idle takes = absurd takes
  takes_listed Ended takes = absurd takes

-- one that was sent

numbered-more : (es : List (SenderId × Change)) (id : SenderId) (change : Change) → numbered (es ++ (id, change) ∷ []) ≡ numbered es ++ (Some (sender_number id), change) ∷ []
numbered-more es id change = map-append (λ (e : SenderId × Change). (Some (sender_number e.0), e.1)) es ((id, change) ∷ [])

module _ (start : Trials) (count : ℕ) (taker later : Taking) (over : Trials → Type 0) (old new : Edition) (id : SenderId) (change : Change) (all : old.version.done ≡ length old.version.list)
    (took : later.taken ≡ taker.taken ++ (id, change) ∷ []) where
  sent_more : list_tried start count ++ gateway_tried later ≡ (list_tried start count ++ gateway_tried taker) ++ (Some (sender_number id), change) ∷ []
  sent_more =
      ap (λ es. list_tried start count ++ numbered es) took
      ∙ ap (λ l. list_tried start count ++ l) (numbered-more taker.taken id change)
      ∙ sym (append_assoc (list_tried start count) (gateway_tried taker) ((Some (sender_number id), change) ∷ []))

  pub takes_sent : {A : Type 0} {g : Ghosts A} (turn : FeedTurn A g) → TakesThis (Some (sender_number id)) change old new turn
      → TakesTurn (list_tried start count ++ gateway_tried taker) (list_tried start count ++ gateway_tried later) over old new turn
  takes_sent (Published sender note) takes =
      let same : trials_with change old.version ≡ offered change old.version = given change old.version (omega (arith, all)) in (
        change,
        offered change old.version,
        sent_more ∙ ap (λ s. (list_tried start count ++ gateway_tried taker) ++ (s, change) ∷ []) (sym takes.0),
        inr (refl, all),
        subst (λ (t : Trials). AcceptsNext t new note) same takes.1,
      )
  takes_sent (Refused sender cause) takes =
      let same : trials_with change old.version ≡ offered change old.version = given change old.version (omega (arith, all)) in (
        change,
        offered change old.version,
        sent_more ∙ ap (λ s. (list_tried start count ++ gateway_tried taker) ++ (s, change) ∷ []) (sym takes.0),
        inr (refl, all),
        subst (λ (t : Trials). RefusesNext t cause old.shown new) same takes.1,
      )
  takes_sent Idle takes = absurd takes
  takes_sent Ended takes = absurd takes

-- what fits

not_left : (version : Trials) (change : Change) → slice_get version.list version.done ≡ Some change → version.done ≡ length version.list → ⊥
not_left version change at all = let less = slice_get_within version.list version.done change at in omega (arith, less, all)

list_left : (start : Trials) (count : ℕ) (taker : Taking) (version : Trials) (change : Change) → slice_get version.list version.done ≡ Some change → IsAtTurn start count taker version
    → ListFits start count version × (taker.taken ≡ []) × AllByRecursion MayBeStored (drop version.done version.list)
list_left start count taker version change at turn = ⊎_elim (λ here. here) (λ there. absurd (not_left version change at there.0)) turn

pub list_over : (start : Trials) (count : ℕ) (taker : Taking) (version : Trials) → version.done ≡ length version.list → IsAtTurn start count taker version
    → (start.done + count ≡ length start.list) × IsPrefix start.list version.list
list_over start count taker version all turn = ⊎_elim
    (λ here. (sym here.0.done ∙ all ∙ ap length here.0.list, subst (IsPrefix start.list) (sym here.0.list) (prefix-refl start.list)))
    (λ there. (there.1, there.2))
    turn

module _ {D : Type 0} (is_reached : D → Bool) (may_leave : D → List ℕ → Type 0) (journal : Journal) (disk : D) (start : Trials) (count : ℕ) (taker : Taking) (version : Trials)
    (fits : BothFit is_reached may_leave journal disk start count taker version) where
  module _ (change : Change) (at : slice_get version.list version.done ≡ Some change) where
    pub left_storable : MayBeStored change
    left_storable = (next_and_rest MayBeStored version.list version.done change at (list_left start count taker version change at fits.turn).2).0

    pub left_next : IsNext change version
    left_next _ = at

    pub left_listed : HasRoomForOne version
    left_listed all = absurd (not_left version change at all)

    pub left_more : length version.list ≤ version.most → version.done < version.most
    left_more le = let less = slice_get_within version.list version.done change at in omega (arith, less, le)

    pub left_counted : count + 1 ≤ length version.list
    left_counted =
        let parts = list_left start count taker version change at fits.turn in
        let less = slice_get_within version.list version.done change at in
        let done = parts.0.done in
        omega (arith, less, done)

    pub left_takes : {A : Type 0} {g : Ghosts A} (over : Trials → Type 0) (old new : Edition) → old.version ≡ version → (turn : FeedTurn A g) → TakesThis None change old new turn
        → TakesTurn (list_tried start count ++ gateway_tried taker) (list_tried start (count + 1) ++ gateway_tried taker) over old new turn
    left_takes over old new is turn takes =
        let parts = list_left start count taker version change at fits.turn in
        takes_listed start count taker over old new change (subst (λ (t : Trials). ListFits start count t) (sym is) parts.0) parts.1
        (ap (λ (t : Trials). slice_get t.list t.done) is ∙ at) turn takes

    pub left_fits : (later : Journal) (next : D) (new : Trials) → new ≡ one_more (trials_with change version) → KeepsUp is_reached may_leave later next new
        → BothFit is_reached may_leave later next start (count + 1) taker new
    left_fits later next new is keeps =
        let parts = list_left start count taker version change at fits.turn in
        let less = slice_get_within version.list version.done change at in
        let same : new ≡ one_more version = is ∙ ap (λ (t : Trials). one_more t) (listed change version less) in
        let was = parts.0.done in
        let more : ListFits start (count + 1) (one_more version) = record { list = parts.0.list; done = omega (arith, was) } in
        let rest = (next_and_rest MayBeStored version.list version.done change at parts.2).1 in
        let size : length new.list ≡ length version.list = ap (λ (t : Trials). length t.list) same in
        let most : new.most ≡ version.most = ap (λ (t : Trials). t.most) same in
        let room = fits.list_room in
        record {
          keeps = keeps;
          turn = subst (λ (t : Trials). IsAtTurn start (count + 1) taker t) (sym same) (inl (more, parts.1, rest));
          list_room = omega (arith, size, most, room);
        }

  -- a taker that took no refresh fits too
  pub same_fits : (later : Taking) → later.taken ≡ taker.taken → later.quotas ≡ taker.quotas → BothFit is_reached may_leave journal disk start count later version
  same_fits later taken quotas = record {
    keeps = fits.keeps;
    turn = subst (λ ts. (ListFits start count version × (ts ≡ []) × AllByRecursion MayBeStored (drop version.done version.list)) ⊎ ((version.done ≡ length version.list) × (start.done + count ≡ length start.list) × IsPrefix start.list version.list)) (sym taken) fits.turn;
    list_room = subst (λ (q : ℕ × ℕ). length version.list + (q.0 + q.1) ≤ version.most + length later.taken) (sym quotas)
        (subst (λ ts. length version.list + (taker.quotas.0 + taker.quotas.1) ≤ version.most + length ts) (sym taken) fits.list_room);
  }

  module _ (all : version.done ≡ length version.list) (later : Taking) (id : SenderId) (change : Change) (took : later.taken ≡ taker.taken ++ (id, change) ∷ []) (quotas : later.quotas ≡ taker.quotas) where
    one_taken : length later.taken ≡ length taker.taken + 1
    one_taken = ap length took ∙ length-append taker.taken ((id, change) ∷ [])

    pub sent_room : length later.taken ≤ later.quotas.0 + later.quotas.1 → length version.list < version.most
    sent_room few =
        let one = one_taken in
        let sum : later.quotas.0 + later.quotas.1 ≡ taker.quotas.0 + taker.quotas.1 = ap (λ (q : ℕ × ℕ). q.0 + q.1) quotas in
        let room = fits.list_room in
        omega (arith, one, sum, room, few)

    pub sent_fits : (now : Journal) (next : D) (new : Trials) → new ≡ one_more (trials_with change version) → KeepsUp is_reached may_leave now next new
        → BothFit is_reached may_leave now next start count later new
    sent_fits now next new is keeps =
        let same : new ≡ one_more (offered change version) = is ∙ ap (λ (t : Trials). one_more t) (given change version (omega (arith, all))) in
        let list : new.list ≡ version.list ++ change ∷ [] = ap (λ (t : Trials). t.list) same in
        let over = list_over start count taker version all fits.turn in
        let size : length new.list ≡ length version.list + 1 = ap length list ∙ length-append version.list (change ∷ []) in
        let done : new.done ≡ version.done + 1 = ap (λ (t : Trials). t.done) same in
        let most : new.most ≡ version.most = ap (λ (t : Trials). t.most) same in
        let one = one_taken in
        let sum : later.quotas.0 + later.quotas.1 ≡ taker.quotas.0 + taker.quotas.1 = ap (λ (q : ℕ × ℕ). q.0 + q.1) quotas in
        let room = fits.list_room in
        record {
          keeps = keeps;
          turn = inr (omega (arith, size, done, all), over.0, subst (IsPrefix start.list) (sym list) (prefix-trans start.list version.list (version.list ++ change ∷ []) over.1 (prefix-append version.list (change ∷ []))));
          list_room = omega (arith, size, most, one, sum, room);
        }

pub ruleset listing = (left_storable, left_next, left_listed, left_more)

pub ruleset sending = (same_fits)
