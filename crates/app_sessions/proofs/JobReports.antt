-- What is told of refreshes that are tried one after another.
use Rattle.std.proofs.Common.{◌≡◌, ◌∙◌, ℕ, ◌+◌, Bool, true, false, cond, List, [], ◌∷◌, ◌++◌, Option, None, Some, length, take, refl, sym, ap, arith, append_assoc, append-nil, length-append}
use Rattle.std.specs.Prelude.{◌&&◌, is_none}
use Rattle.base_refusals.specs.declared.refresh.Cause.{Cause}
use Rattle.base_schema.specs.State.{State}
use Rattle.store_state.specs.Refresh.{Change, changed, unless_cause}
use Rattle.store_state.specs.Versions.{is_accepted, replayed, taken, tried}
use Rattle.store_state.proofs.VersionSteps.{state-accepted, taken-append}
use Rattle.store_versions.specs.Trials.{Trials, tables_of, version_of}
use Rattle.app_sessions.specs.Orders.{RefreshOrder, changes_of}
use Rattle.app_sessions.specs.Reports.{are_accepted, refresh_line, report_text, result_on, version_after, version_or_cause}

-- trying a refresh and then replaying others is replaying what is taken of all
one_replayed : (b : Bool) (state : State) (change : Change) (rest : List Change)
    → replayed (cond b (changed state change) state) rest ≡ replayed state (cond b (change ∷ []) [] ++ rest)
one_replayed true state change rest = refl
one_replayed false state change rest = refl

one_counted : (version : ℕ) (cause : Option Cause) (state : State) (change : Change) (rest : List Change)
    → version_after version (version_or_cause version (unless_cause cause state)) + length rest
    ≡ version + length (cond (is_none cause) (change ∷ []) [] ++ rest)
one_counted version None state change rest = omega arith
one_counted version (Some cause) state change rest = refl

and_true : (b : Bool) → (b && true) ≡ (true && b)
and_true true = refl
and_true false = refl

and_assoc : (a b c : Bool) → (a && (b && c)) ≡ ((a && b) && c)
and_assoc true b c = refl
and_assoc false b c = refl

-- the tables after all of an order was tried
abbrev tables_after : State → RefreshOrder → State
tables_after tables order = replayed tables (taken tables (changes_of order))

-- and the version
abbrev version_then : State → ℕ → RefreshOrder → ℕ
version_then tables version order = version + length (taken tables (changes_of order))

-- one refresh more has one line more
pub report_more : (tables : State) (version number : ℕ) (order : RefreshOrder) (sender : Option ℕ) (change : Change)
    → report_text tables version number (order ++ (sender, change) ∷ [])
    ≡ report_text tables version number order
    ++ refresh_line (number + length order) sender (result_on (tables_after tables order) (version_then tables version order) change)
report_more tables version number [] sender change =
    let a : number ≡ number + 0 = omega arith in
    let b : version ≡ version + 0 = omega arith in
    append-nil (refresh_line number sender (result_on tables version change))
    ∙ (λ i. refresh_line (a i) sender (result_on tables (b i) change))
report_more tables version number (entry ∷ order) sender change =
    let next = tried tables entry.1 in
    let more = version_after version (result_on tables version entry.1) in
    let line = refresh_line number entry.0 (result_on tables version entry.1) in
    let rest = taken next (changes_of order) in
    let a : (number + 1) + length order ≡ number + length (entry ∷ order) = omega arith in
    let b : replayed next rest ≡ tables_after tables (entry ∷ order) = one_replayed (is_accepted tables entry.1) tables entry.1 rest in
    let c : more + length rest ≡ version_then tables version (entry ∷ order) = one_counted version _ _ entry.1 rest in
    ap (λ l. line ++ l) (report_more next more (number + 1) order sender change)
    ∙ sym (append_assoc line (report_text next more (number + 1) order) _)
    ∙ (λ i. report_text tables version number (entry ∷ order) ++ refresh_line (a i) sender (result_on (b i) (c i) change))

-- and is accepted or not
pub accepted_more : (tables : State) (order : RefreshOrder) (sender : Option ℕ) (change : Change)
    → are_accepted tables (order ++ (sender, change) ∷ [])
    ≡ (are_accepted tables order && is_accepted (tables_after tables order) change)
accepted_more tables [] sender change = and_true (is_accepted tables change)
accepted_more tables (entry ∷ order) sender change =
    let next = tried tables entry.1 in
    let one = is_accepted tables entry.1 in
    ap (λ b. one && b) (accepted_more next order sender change)
    ∙ and_assoc one (are_accepted next order) (is_accepted (tables_after next order) change)
    ∙ ap (λ s. (one && are_accepted next order) && is_accepted s change) (one_replayed one tables entry.1 (taken next (changes_of order)))

replayed-append : (base : State) (first second : List Change)
    → replayed base (first ++ second) ≡ replayed (replayed base first) second
replayed-append base [] second = refl
replayed-append base (change ∷ first) second = replayed-append (changed base change) first second

-- trials that come from others by trying an order
pub record ComesBy (start trials : Trials) (order : RefreshOrder) : Type 0 where
  pub base : trials.base ≡ start.base
  pub done : take trials.done trials.list ≡ take start.done start.list ++ changes_of order

taken_by : (start trials : Trials) (order : RefreshOrder) → ComesBy start trials order
    → taken trials.base (take trials.done trials.list)
    ≡ taken start.base (take start.done start.list) ++ taken (tables_of start) (changes_of order)
taken_by start trials order h =
    let first = taken start.base (take start.done start.list) in
    (λ i. taken (h.base i) (h.done i))
    ∙ taken-append start.base (take start.done start.list) (changes_of order)
    ∙ ap (λ s. first ++ taken s (changes_of order)) (sym (state-accepted start.base start.list start.done))

pub tables_by : (start trials : Trials) (order : RefreshOrder) → ComesBy start trials order
    → tables_of trials ≡ tables_after (tables_of start) order
tables_by start trials order h =
    let first = taken start.base (take start.done start.list) in
    let second = taken (tables_of start) (changes_of order) in
    state-accepted trials.base trials.list trials.done
    ∙ (λ i. replayed (h.base i) (taken_by start trials order h i))
    ∙ replayed-append start.base first second
    ∙ ap (λ s. replayed s second) (sym (state-accepted start.base start.list start.done))

pub version_by : (start trials : Trials) (order : RefreshOrder) → ComesBy start trials order
    → version_of trials ≡ version_then (tables_of start) (version_of start) order
version_by start trials order h =
    ap length (taken_by start trials order h)
    ∙ length-append (taken start.base (take start.done start.list)) (taken (tables_of start) (changes_of order))
