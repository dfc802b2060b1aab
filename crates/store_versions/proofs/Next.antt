-- One more refresh.
use Rattle.std.proofs.Common.{◌≡◌, ℕ, zero, suc, ◌+◌, ◌<◌, true, false, cond, List, [], ◌∷◌, length, Option, Some, None, Ok, Err, get_or, refl, sym, ap, ◌∙◌, arith}
use Rattle.std.specs.Prelude.{is_none, slice_get}
use Rattle.base_refusals.specs.declared.refresh.Cause.{Cause}
use Rattle.base_schema.specs.State.{State}
use Rattle.store_state.specs.Refresh.{Change, after, cause_of, changed, unless_cause}
use Rattle.store_state.proofs.VersionSteps.{accepted-more, state-more}
use Rattle.store_versions.specs.Trials.{HasKept, Leaves, Trials, one_more, tables_of, version_of}

some_change : (list : List Change) (place : ℕ) → place < length list → (change : Change) × (slice_get list place ≡ Some change)
some_change [] place less = absurd (omega (arith, less))
some_change (x ∷ list) zero less = (x, refl)
some_change (x ∷ list) (suc place) less = some_change list place (omega (arith, less))

add_none : (n : ℕ) → n + 0 ≡ n
add_none n = omega arith

-- a refresh that leaves a state is accepted, and that state is the changed one
accepted_by : (cause : Option Cause) (made state : State) → unless_cause cause made ≡ Ok state → (is_none cause ≡ true) × (made ≡ state)
accepted_by None made state e = (refl, cc)
accepted_by (Some cause) made state e = cc

refused_by : (cause : Option Cause) (made : State) (first : Cause) → unless_cause cause made ≡ Err first → is_none cause ≡ false
refused_by None made first e = cc
refused_by (Some cause) made first e = refl

pub kept_next : (trials : Trials) (number : ℕ) (before state : State) → HasKept trials number before → trials.done < length trials.list
    → ((change : Change) → slice_get trials.list trials.done ≡ Some change → after (tables_of trials) change ≡ Ok state)
    → HasKept (one_more trials) (number + 1) state
kept_next trials number before state kept less leaves =
    let found = some_change trials.list trials.done less in
    let last = tables_of trials in
    let both = accepted_by (cause_of last found.0) (changed last found.0) state (leaves found.0 found.1) in
    let more : version_of (one_more trials) ≡ version_of trials + 1 =
    accepted-more trials.base trials.list trials.done found.0 found.1 ∙ ap (λ b. version_of trials + cond b 1 0) both.0 in
    let counted = kept.counted in
    let few = kept.few in
    record {
      within = omega (arith, less);
      short = kept.short;
      counted = omega (arith, counted, more);
      few = omega (arith, few);
      left = sym (state-more trials.base trials.list trials.done found.0 found.1 ∙ ap (λ b. cond b (changed last found.0) last) both.0 ∙ both.1);
    }

pub kept_refused : (trials : Trials) (number : ℕ) (state : State) (cause : Cause) → HasKept trials number state → trials.done < length trials.list
    → ((change : Change) → slice_get trials.list trials.done ≡ Some change → after (tables_of trials) change ≡ Err cause)
    → HasKept (one_more trials) number state
kept_refused trials number state cause kept less leaves =
    let found = some_change trials.list trials.done less in
    let last = tables_of trials in
    let no_change = refused_by (cause_of last found.0) (changed last found.0) cause (leaves found.0 found.1) in
    let same : version_of (one_more trials) ≡ version_of trials =
    accepted-more trials.base trials.list trials.done found.0 found.1 ∙ ap (λ b. version_of trials + cond b 1 0) no_change ∙ add_none (version_of trials) in
    let counted = kept.counted in
    let few = kept.few in
    record {
      within = omega (arith, less);
      short = kept.short;
      counted = omega (arith, counted, same);
      few = omega (arith, few);
      left = kept.left ∙ sym (state-more trials.base trials.list trials.done found.0 found.1 ∙ ap (λ b. cond b (changed last found.0) last) no_change);
    }

-- the element at a place
pub at_place : (list : List Change) (place : ℕ) (x : Change) → place < length list → x ≡ get_or list place x → (change : Change)
    → slice_get list place ≡ Some change → change ≡ x
at_place [] place x less is change at = absurd (omega (arith, less))
at_place (y ∷ list) zero x less is change at = let e : y ≡ change = cc in sym e ∙ sym is
at_place (y ∷ list) (suc place) x less is change at = at_place list place x (omega (arith, less)) is change at

pub next_version : (trials : Trials) (state : State) → trials.done < length trials.list → Leaves trials (Ok state)
    → version_of (one_more trials) ≡ version_of trials + 1
next_version trials state less leaves =
    let found = some_change trials.list trials.done less in
    let last = tables_of trials in
    let both = accepted_by (cause_of last found.0) (changed last found.0) state (leaves found.0 found.1) in
    accepted-more trials.base trials.list trials.done found.0 found.1 ∙ ap (λ b. version_of trials + cond b 1 0) both.0

pub next_tables : (trials : Trials) (state : State) → trials.done < length trials.list → Leaves trials (Ok state)
    → tables_of (one_more trials) ≡ state
next_tables trials state less leaves =
    let found = some_change trials.list trials.done less in
    let last = tables_of trials in
    let both = accepted_by (cause_of last found.0) (changed last found.0) state (leaves found.0 found.1) in
    state-more trials.base trials.list trials.done found.0 found.1 ∙ ap (λ b. cond b (changed last found.0) last) both.0 ∙ both.1

pub same_version : (trials : Trials) (cause : Cause) → trials.done < length trials.list
    → ((change : Change) → slice_get trials.list trials.done ≡ Some change → after (tables_of trials) change ≡ Err cause)
    → (version_of (one_more trials) ≡ version_of trials) × (tables_of (one_more trials) ≡ tables_of trials)
same_version trials cause less leaves =
    let found = some_change trials.list trials.done less in
    let last = tables_of trials in
    let no_change = refused_by (cause_of last found.0) (changed last found.0) cause (leaves found.0 found.1) in (
      accepted-more trials.base trials.list trials.done found.0 found.1 ∙ ap (λ b. version_of trials + cond b 1 0) no_change ∙ add_none (version_of trials),
      state-more trials.base trials.list trials.done found.0 found.1 ∙ ap (λ b. cond b (changed last found.0) last) no_change,
    )
