-- A refresh more that a job's publisher tries.
use Rattle.std.proofs.Common.{◌≡◌, ◌∙◌, ◌⊎◌, ℕ, ◌+◌, ◌<◌, ◌≤◌, Bool, true, false, List, [], ◌∷◌, ◌++◌, Option, None, Some, Ok, Err, length, map, take, refl, sym, ap, subst, inl, inr, ⊎_elim, arith, append_assoc, length-append, slice_index_or}
use Rattle.std.specs.Prelude.{◌&&◌, Result, is_none, slice_get}
use Rattle.std.proofs.lemmas.List.{length-map, length-take-le, map-append, take_more}
use Rattle.std.proofs.lemmas.Option.{get_or_from_slice_get, slice_get-get_or, slice_get_within}
use Rattle.std.proofs.Math.Seq.{get_or-append_seam}
use Rattle.base_refusals.specs.declared.refresh.Cause.{Cause}
use Rattle.base_schema.specs.State.{State}
use Rattle.store_state.specs.Prefixes.{IsPrefix}
use Rattle.store_state.specs.Refresh.{Change, cause_of, unless_cause}
use Rattle.store_state.specs.Versions.{is_accepted, taken}
use Rattle.store_state.specs.declared.applied.RefreshError.TheVariants.{Refused}
use Rattle.store_state.proofs.Prefixes.{prefix-append, prefix-refl, prefix-trans, take-prefix}
use Rattle.store_snapshots.specs.Openings.{IsOf, Opening, opening_at}
use Rattle.store_snapshots.specs.Publishers.{Edition}
use Rattle.store_snapshots.specs.Turns.{IsNextIn}
use Rattle.store_versions.specs.Trials.{IsAfter, Trials, offered, one_more, tables_of, version_of}
use Rattle.app_sessions.specs.Orders.{RefreshOrder, changes_of}
use Rattle.app_sessions.specs.Reports.{HasTried, IsTold, PublishesRefresh, refresh_line, result_on, version_or_cause}
use Rattle.app_sessions.specs.declared.report.Report.{Report}
use Rattle.app_sessions.proofs.JobReports.{ComesBy, accepted_more, report_more, tables_by, version_by}

-- the trials in which a refresh is next
pub record IsNext (change : Change) (version trials : Trials) : Type 0 where
  pub base : trials.base ≡ version.base
  pub most : trials.most ≡ version.most
  pub done : trials.done ≡ version.done
  pub list : IsPrefix version.list trials.list
  pub at : slice_get trials.list trials.done ≡ Some change

at_end : (list : List Change) (change : Change) (n : ℕ) → n ≡ length list → slice_get (list ++ change ∷ []) n ≡ Some change
at_end list change n is =
    let l = length-append list (change ∷ []) in
    let within : n < length (list ++ change ∷ []) = omega (arith, is, l) in
    slice_get-get_or (list ++ change ∷ []) n change within
    ∙ ap Some (ap (λ k. slice_index_or (list ++ change ∷ []) k change) is ∙ get_or-append_seam list change [] change)

pub next_in : (change : Change) (version trials : Trials) → IsNextIn change version trials → IsNext change version trials
next_in change version trials h = ⊎_elim
    (λ (t : (trials ≡ version) × (version.done < length version.list) × (slice_get version.list version.done ≡ Some change)).
    subst (IsNext change version) (sym t.0) (record { base = refl; most = refl; done = refl; list = prefix-refl version.list; at = t.2 }))
    (λ (t : (trials ≡ offered change version) × (version.done ≡ length version.list)).
    subst (IsNext change version) (sym t.0) (record {
      base = refl;
      most = refl;
      done = refl;
      list = prefix-append version.list (change ∷ []);
      at = at_end version.list change version.done t.1;
    }))
    h

-- they come by what was tried before
pub comes_next : (start : Trials) (old : Edition) (order : RefreshOrder) (change : Change) (trials : Trials)
    → HasTried start old order → IsNext change old.version trials → ComesBy start trials order
comes_next start old order change trials h n =
    let o = h.version (start.base, start.list, start.most) refl in
    record {
      base = n.base ∙ o.0;
      done = ap (λ k. take k trials.list) n.done ∙ take-prefix old.version.list trials.list old.version.done n.list h.within ∙ h.done;
    }

-- the opening that a value is of
abbrev named : State × List Change × ℕ → Opening → State × List Change × ℕ
named other None = other
named other (Some o) = o

pub of_opening : (start version : Trials) → version.base ≡ start.base → IsPrefix start.list version.list → version.most ≡ start.most
    → IsOf (opening_at start) version
of_opening start version base list most o is =
    let all : (start.base, start.list, start.most) ≡ o = ap (named o) is in
    subst (λ (q : State × List Change × ℕ). (version.base ≡ q.0) × IsPrefix q.1 version.list × (version.most ≡ q.2)) all (base, list, most)

-- one refresh more is done
more_done : (trials : Trials) (change : Change) → slice_get trials.list trials.done ≡ Some change
    → take (trials.done + 1) trials.list ≡ take trials.done trials.list ++ change ∷ []
more_done trials change at =
    take_more trials.list trials.done change (slice_get_within trials.list trials.done change at)
    ∙ ap (λ c. take trials.done trials.list ++ c ∷ []) (get_or_from_slice_get trials.list trials.done change change at)

pub tried_next : (start : Trials) (old new : Edition) (order : RefreshOrder) (sender : Option ℕ) (change : Change) (trials : Trials)
    → HasTried start old order → IsNextIn change old.version trials → new.version ≡ one_more trials
    → ((new.shown ≡ old.shown) ⊎ (new.shown ≡ new.version)) → HasTried start new (order ++ (sender, change) ∷ [])
tried_next start old new order sender change trials h in_trials is shown =
    let n = next_in change old.version trials in_trials in
    let o = h.version (start.base, start.list, start.most) refl in
    let came = comes_next start old order change trials h n in
    let list_is : new.version.list ≡ trials.list = ap (λ (t : Trials). t.list) is in
    let longer : IsPrefix old.version.list new.version.list = subst (IsPrefix old.version.list) (sym list_is) n.list in
    let version : IsOf (opening_at start) new.version = of_opening start new.version
    (ap (λ (t : Trials). t.base) is ∙ came.base) (prefix-trans start.list old.version.list new.version.list o.1 longer)
    (ap (λ (t : Trials). t.most) is ∙ n.most ∙ o.2) in
    record {
      version = version;
      shown = ⊎_elim
          (λ (same : new.shown ≡ old.shown). subst (IsOf (opening_at start)) (sym same) h.shown)
          (λ (now : new.shown ≡ new.version). subst (IsOf (opening_at start)) (sym now) version)
          shown;
      behind = ⊎_elim
          (λ (same : new.shown ≡ old.shown). subst (λ (t : Trials). IsPrefix t.list new.version.list) (sym same)
          (prefix-trans old.shown.list old.version.list new.version.list h.behind longer))
          (λ (now : new.shown ≡ new.version). subst (λ (t : Trials). IsPrefix t.list new.version.list) (sym now) (prefix-refl new.version.list))
          shown;
      within = subst (λ (t : Trials). t.done ≤ length t.list) (sym is)
          (let w = slice_get_within trials.list trials.done change n.at in omega (arith, w));
      done = ap (λ (t : Trials). take t.done t.list) is ∙ more_done trials change n.at
          ∙ ap (λ l. l ++ change ∷ []) came.done
          ∙ append_assoc (take start.done start.list) (changes_of order) (change ∷ [])
          ∙ ap (λ l. take start.done start.list ++ l) (sym (map-append (λ e. e.1) order ((sender, change) ∷ [])));
    }

pub tried_more : (start : Trials) (first tried more : RefreshOrder) (old new : Edition) (before after : Report)
    → HasTried start old (first ++ tried) → PublishesRefresh tried more old new before after → HasTried start new (first ++ more)
tried_more start first tried more old new before after h p =
    subst (HasTried start new) (append_assoc first tried ((p.sender, p.change) ∷ []) ∙ ap (λ l. first ++ l) (sym p.order))
    (tried_next start old new (first ++ tried) p.sender p.change p.trials h p.next p.version p.shown)

-- and it is told of
told_next : (start : Trials) (order : RefreshOrder) (sender : Option ℕ) (change : Change) (trials : Trials) (before after : Report)
    → ComesBy start trials order → IsTold start order before
    → after.count ≡ before.count + 1
    → after.text.items ≡ before.text.items ++ refresh_line (before.count + 1) sender (result_on (tables_of trials) (version_of trials) change)
    → after.accepted ≡ (before.accepted && is_accepted (tables_of trials) change)
    → IsTold start (order ++ (sender, change) ∷ []) after
told_next start order sender change trials before after came told count text accepted =
    let tables = tables_of start in
    let version = version_of start in
    let number : before.count + 1 ≡ 1 + length order = let c = told.count in omega (arith, c) in
    let l = length-append order ((sender, change) ∷ []) in
    record {
      count = let c = told.count in omega (arith, c, count, l);
      text = text
          ∙ (λ i. told.text i ++ refresh_line (number i) sender (result_on (tables_by start trials order came i) (version_by start trials order came i) change))
          ∙ sym (report_more tables version 1 order sender change);
      accepted = accepted
          ∙ (λ i. told.accepted i && is_accepted (tables_by start trials order came i) change)
          ∙ sym (accepted_more tables order sender change);
    }

pub told_more : (start : Trials) (first tried more : RefreshOrder) (old new : Edition) (before after : Report)
    → HasTried start old (first ++ tried) → PublishesRefresh tried more old new before after
    → IsTold start (first ++ tried) before → IsTold start (first ++ more) after
told_more start first tried more old new before after h p told =
    let came = comes_next start old (first ++ tried) p.change p.trials h (next_in p.change old.version p.trials p.next) in
    subst (λ o. IsTold start o after) (append_assoc first tried ((p.sender, p.change) ∷ []) ∙ ap (λ l. first ++ l) (sym p.order))
    (told_next start (first ++ tried) p.sender p.change p.trials before after came told p.count p.text p.accepted)

-- ---- what one turn of a feed does
accepted_by : (cause : Option Cause) (state next : State) → unless_cause cause state ≡ Ok next → is_none cause ≡ true
accepted_by None state next is = refl
accepted_by (Some cause) state next is = absurd cc

refused_by : (cause : Option Cause) (state : State) (why : Cause) → unless_cause cause state ≡ Err why → is_none cause ≡ false
refused_by None state why is = absurd cc
refused_by (Some cause) state why is = refl

-- what a turn leaves but for its result, the publisher in the middle being that after the turn
pub record EndsTurn (tried more : RefreshOrder) (old middle new : Edition) (before after : Report) (sender : Option ℕ) (result : Result ℕ Cause)
    : Type 0 where
  pub version : new.version ≡ middle.version
  pub shown : (new.shown ≡ middle.shown) ⊎ (new.shown ≡ middle.version)
  pub count : after.count ≡ before.count + 1
  pub text : after.text.items ≡ before.text.items ++ refresh_line (before.count + 1) sender result

pub published_one : (tried more : RefreshOrder) (old middle new : Edition) (before after : Report) (sender : Option ℕ) (change : Change) (trials : Trials) (version : ℕ)
    → EndsTurn tried more old middle new before after sender (Ok version)
    → after.accepted ≡ (before.accepted && true)
    → more ≡ tried ++ (sender, change) ∷ [] → IsNextIn change old.version trials
    → IsAfter trials trials (Ok middle.version) → middle.shown ≡ middle.version → version ≡ version_of middle.version
    → PublishesRefresh tried more old new before after
published_one tried more old middle new before after sender change trials version e accepted order next (is, number, same, leaves) shown made =
    let n = next_in change old.version trials next in
    let left = leaves change n.at in
    record {
      sender = sender;
      change = change;
      trials = trials;
      order = order;
      next = next;
      version = e.version ∙ is;
      shown = ⊎_elim
          (λ (kept : new.shown ≡ middle.shown). inr (kept ∙ shown ∙ sym e.version))
          (λ (now : new.shown ≡ middle.version). inr (now ∙ sym e.version))
          e.shown;
      count = e.count;
      text = e.text ∙ ap (λ r. before.text.items ++ refresh_line (before.count + 1) sender r)
          (ap Ok (made ∙ number) ∙ sym (ap (version_or_cause (version_of trials)) left));
      accepted = accepted ∙ ap (λ b. before.accepted && b) (sym (accepted_by (cause_of (tables_of trials) change) _ _ left));
    }

pub refused_one : (tried more : RefreshOrder) (old middle new : Edition) (before after : Report) (sender : Option ℕ) (change : Change) (trials : Trials) (cause : Cause)
    → EndsTurn tried more old middle new before after sender (Err cause)
    → after.accepted ≡ (before.accepted && false)
    → more ≡ tried ++ (sender, change) ∷ [] → IsNextIn change old.version trials
    → IsAfter trials middle.version (Err (Refused cause)) → middle.shown ≡ old.shown
    → PublishesRefresh tried more old new before after
refused_one tried more old middle new before after sender change trials cause e accepted order next (is, number, same, leaves) shown =
    let n = next_in change old.version trials next in
    let left = leaves change n.at in
    record {
      sender = sender;
      change = change;
      trials = trials;
      order = order;
      next = next;
      version = e.version ∙ is;
      shown = ⊎_elim
          (λ (kept : new.shown ≡ middle.shown). inl (kept ∙ shown))
          (λ (now : new.shown ≡ middle.version). inr (now ∙ sym e.version))
          e.shown;
      count = e.count;
      text = e.text ∙ ap (λ r. before.text.items ++ refresh_line (before.count + 1) sender r)
          (sym (ap (version_or_cause (version_of trials)) left));
      accepted = accepted ∙ ap (λ b. before.accepted && b) (sym (refused_by (cause_of (tables_of trials) change) _ _ left));
    }

-- a refused refresh leaves the version's number
pub same_number : (change : Change) (version trials : Trials) → IsNextIn change version trials → version.done ≤ length version.list
    → version_of trials ≡ version_of version
same_number change version trials next within =
    let n = next_in change version trials next in
    (λ i. length (taken (n.base i) (take (n.done i) trials.list)))
    ∙ ap (λ l. length (taken version.base l)) (take-prefix version.list trials.list version.done n.list within)

-- no more refreshes are told of than are done
pub told_few : (start : Trials) (now : Edition) (order : RefreshOrder) (report : Report)
    → HasTried start now order → IsTold start order report → report.count ≤ now.version.done
told_few start now order report h told =
    let done = ap length h.done in
    let taken_all = length-take-le now.version.done now.version.list h.within in
    let split = length-append (take start.done start.list) (changes_of order) in
    let mapped = length-map order (λ e. e.1) in
    let c = told.count in
    omega (arith, done, taken_all, split, mapped, c)

-- one more is done
pub done_more : (change : Change) (version trials next : Trials) → IsNextIn change version trials → next ≡ one_more trials → next.done ≡ version.done + 1
done_more change version trials next in_trials is =
    ap (λ (t : Trials). t.done) is ∙ ap (λ n. n + 1) (next_in change version trials in_trials).done

-- while refreshes of the list are left, none is given beside it
pub list_kept : (change : Change) (version trials next : Trials) → IsNextIn change version trials → next ≡ one_more trials → version.done < length version.list
    → next.list ≡ version.list
list_kept change version trials next h is less = ap (λ (t : Trials). t.list) is ∙ ⊎_elim
    (λ (t : (trials ≡ version) × (version.done < length version.list) × (slice_get version.list version.done ≡ Some change)). ap (λ (v : Trials). v.list) t.0)
    (λ (t : (trials ≡ offered change version) × (version.done ≡ length version.list)). absurd (let all = t.1 in omega (arith, all, less)))
    h

-- and no more than the list has
pub done_within : (change : Change) (version trials next : Trials) → IsNextIn change version trials → next ≡ one_more trials → next.done ≤ length next.list
done_within change version trials next h is =
    let w = slice_get_within trials.list trials.done change (next_in change version trials h).at in
    subst (λ (t : Trials). t.done ≤ length t.list) (sym is) (omega (arith, w))
