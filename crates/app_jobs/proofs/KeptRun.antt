-- What is published again of what a journal keeps, and what is played behind it.
use Rattle.std.proofs.Common.{◌≡◌, ◌∙◌, ◌+◌, ◌-◌, ◌<◌, ◌≤◌, ℕ, zero, suc, Bool, true, cond, List, [], ◌∷◌, ◌++◌, Some, ap, arith, drop, length, refl, subst, sym, take}
use Rattle.std.specs.Prelude.{is_ok, slice_get}
use Rattle.std.specs.declared.result.Result.TheVariants.{Ok, Err}
use Rattle.std.proofs.lemmas.Option.{slice_get_within}
use Rattle.base_refusals.specs.declared.refresh.Cause.{Cause}
use Rattle.base_schema.specs.State.{State}
use Rattle.store_durability.specs.Stored.{accepted_list}
use Rattle.store_durability.proofs.Accepted.{accepted_more, accepted_ok, listed}
use Rattle.store_state.specs.Refresh.{Change, after}
use Rattle.store_state.specs.Versions.{is_accepted, replayed, taken}
use Rattle.store_state.proofs.VersionSteps.{state-accepted}
use Rattle.store_versions.specs.Trials.{IsAfter, Trials, one_more, tables_of}
use Rattle.store_state.specs.declared.applied.RefreshError.TheVariants.{Refused as RefusedBy}
use Rattle.app_jobs.specs.Journals.{IsFirstRefusedEntry}
use Rattle.app_sessions.specs.Orders.{later_by}

-- one refresh more is accepted
pub one_accepted : (version : Trials) (change : Change) → version.done ≤ length version.list → slice_get version.list version.done ≡ Some change → is_accepted (tables_of version) change ≡ true
    → taken version.base (take (version.done + 1) version.list) ≡ taken version.base (take version.done version.list) ++ change ∷ []
one_accepted version change within at is =
    let left = slice_get_within version.list version.done change at in
    ap (λ (t : Trials). accepted_list (one_more t)) (sym (listed change version left))
    ∙ accepted_more change version within (λ _. at)
    ∙ ap (λ (b : Bool). accepted_list version ++ cond b (change ∷ []) []) is

-- the list's first ones up to the next one
next_taken : (list : List Change) (place : ℕ) (change : Change) → slice_get list place ≡ Some change → take (place + 1) list ≡ take place list ++ change ∷ []
next_taken list place change at = by_one list place ∙ up_to list place change at
  where
    by_one : (list : List Change) (place : ℕ) → take (place + 1) list ≡ take (suc place) list
    by_one list place = let up : place + 1 ≡ suc place = omega arith in ap (λ (k : ℕ). take k list) up

    up_to : (list : List Change) (place : ℕ) (change : Change) → slice_get list place ≡ Some change → take (suc place) list ≡ take place list ++ change ∷ []
    up_to [] place change at = absurd cc
    up_to (x ∷ list) zero change at = ap (λ (c : Change). c ∷ []) cc
    up_to (x ∷ list) (suc place) change at = ap (λ (l : List Change). x ∷ l) (up_to list place change at)

-- what is kept and accepted so far is accepted with the next one
pub more_accepted : (version : Trials) (change : Change) (tables : State) → version.done ≤ length version.list → slice_get version.list version.done ≡ Some change
    → after (tables_of version) change ≡ Ok tables → taken version.base (take version.done version.list) ≡ take version.done version.list
    → taken version.base (take (version.done + 1) version.list) ≡ take (version.done + 1) version.list
more_accepted version change tables within at made so_far =
    one_accepted version change within at (accepted_ok (tables_of version) change (ap is_ok made))
    ∙ ap (λ l. l ++ change ∷ []) so_far
    ∙ sym (next_taken version.list version.done change at)

-- the next one is the first that is refused
pub first_refused : (version : Trials) (change : Change) (kept : ℕ) (cause : Cause) → version.done < kept → slice_get version.list version.done ≡ Some change
    → after (tables_of version) change ≡ Err cause → taken version.base (take version.done version.list) ≡ take version.done version.list
    → IsFirstRefusedEntry version.base (take kept version.list) (version.done + 1) cause
first_refused version change kept cause less at refused so_far =
    let left = slice_get_within version.list version.done change at in
    record {
      before = take version.done version.list;
      change = change;
      behind = drop (version.done + 1) (take kept version.list);
      whole = split kept version.list version.done change less at;
      here = let size = length_take version.done version.list (omega (arith, left)) in omega (arith, size);
      accepted = so_far;
      refused =
          ap (λ (l : List Change). after (replayed version.base l) change) (sym so_far)
          ∙ ap (λ (s : State). after s change) (sym (state-accepted version.base version.list version.done))
          ∙ refused;
    }
  where
    length_take : (n : ℕ) (list : List Change) → n ≤ length list → length (take n list) ≡ n
    length_take zero list le = refl
    length_take (suc n) [] le = absurd (omega (arith, le))
    length_take (suc n) (x ∷ list) le = ap suc (length_take n list (omega (arith, le)))

    split_at : (kept : ℕ) (list : List Change) (place : ℕ) (change : Change) → place < kept → slice_get list place ≡ Some change
        → take kept list ≡ take place list ++ change ∷ drop (suc place) (take kept list)
    split_at zero list place change less at = absurd (omega (arith, less))
    split_at (suc kept) [] place change less at = absurd cc
    split_at (suc kept) (x ∷ list) zero change less at = let is : x ≡ change = cc in ap (λ (c : Change). c ∷ take kept list) is
    split_at (suc kept) (x ∷ list) (suc place) change less at = ap (λ (l : List Change). x ∷ l) (split_at kept list place change (omega (arith, less)) at)

    split : (kept : ℕ) (list : List Change) (place : ℕ) (change : Change) → place < kept → slice_get list place ≡ Some change
        → take kept list ≡ take place list ++ change ∷ drop (place + 1) (take kept list)
    split kept list place change less at =
        let up : suc place ≡ place + 1 = omega arith in
        split_at kept list place change less at ∙ ap (λ (k : ℕ). take place list ++ change ∷ drop k (take kept list)) up

-- one refresh more is published

later_more : (start : Trials) (count : ℕ) → one_more (later_by count start) ≡ later_by (count + 1) start
later_more start count = let e : start.done + count + 1 ≡ start.done + (count + 1) = omega arith in ap (λ (n : ℕ). record start { done = n }) e

next_there : (list : List Change) (place : ℕ) → place < length list → (change : Change) × (slice_get list place ≡ Some change)
next_there [] place less = absurd (omega (arith, less))
next_there (x ∷ list) zero less = (x, refl)
next_there (x ∷ list) (suc place) less = next_there list place (omega (arith, less))

module _ (start version : Trials) (count : ℕ) (is : version ≡ later_by count start) (fresh : start.done ≡ 0) where
  at_count : version.done ≡ count
  at_count = let done : version.done ≡ start.done + count = ap (λ (t : Trials). t.done) is in omega (arith, done, fresh)

  same_list : version.list ≡ start.list
  same_list = ap (λ (t : Trials). t.list) is

  same_base : version.base ≡ start.base
  same_base = ap (λ (t : Trials). t.base) is

  own_front : (P : State → List Change → Type 0) → P start.base (take count start.list) → P version.base (take version.done version.list)
  own_front P = subst (λ (y : State × List Change). P y.0 y.1) (λ i. (sym same_base i, take (sym at_count i) (sym same_list i)))

  pub one_later : (new : Trials) → new ≡ one_more version → new ≡ later_by (count + 1) start
  one_later new made = made ∙ ap (λ (t : Trials). one_more t) is ∙ later_more start count

  pub accepted_later : (new : Trials) → version.done < length version.list → IsAfter version version (Ok new) → taken start.base (take count start.list) ≡ take count start.list
      → taken start.base (take (count + 1) start.list) ≡ take (count + 1) start.list
  accepted_later new less after_it so_far =
      let next = next_there version.list version.done less in
      let mine = own_front (λ b l. taken b l ≡ l) so_far in
      let more = more_accepted version next.0 (tables_of new) (omega (arith, less)) next.1 (after_it.3 next.0 next.1) mine in
      let place : version.done + 1 ≡ count + 1 = ap (λ (n : ℕ). n + 1) at_count in
      subst (λ (y : State × List Change). taken y.0 y.1 ≡ y.1) (λ i. (same_base i, take (place i) (same_list i))) more

  pub refused_later : (new : Trials) (cause : Cause) (kept : ℕ) → count < kept → version.done < length version.list → IsAfter version new (Err (RefusedBy cause))
      → taken start.base (take count start.list) ≡ take count start.list → IsFirstRefusedEntry start.base (take kept start.list) (count + 1) cause
  refused_later new cause kept few less after_it so_far =
      let next = next_there version.list version.done less in
      let mine = own_front (λ b l. taken b l ≡ l) so_far in
      let first = first_refused version next.0 kept cause (let e = at_count in omega (arith, e, few)) next.1 (after_it.3 next.0 next.1) mine in
      let place : version.done + 1 ≡ count + 1 = ap (λ (n : ℕ). n + 1) at_count in
      subst (λ (y : State × List Change × ℕ). IsFirstRefusedEntry y.0 y.1 y.2 cause) (λ i. (same_base i, take kept (same_list i), place i)) first

pub ruleset publishing = (one_later, accepted_later, refused_later)
