-- A file keeps one list of refreshes, or it is refused, for another fault than absence.
use Rattle.std.proofs.Common.{◌≡◌, ◌≢◌, ◌∙◌, ℕ, ◌+◌, ◌≤◌, Bool, true, false, List, [], ◌∷◌, ◌++◌, Option, None, Some, ap, arith, inl, inr, length, length-append, map, refl, subst, sym}
use Rattle.std.specs.List.{AllByRecursion}
use Rattle.std.specs.declared.result.Result.TheVariants.{Err}
use Rattle.base_refusals.specs.declared.refresh.Cause.{Cause}
use Rattle.base_schema.specs.State.{State}
use Rattle.store_journal.specs.Format.{IsEntry, StandsFor, entries}
use Rattle.store_journal.proofs.Readings.{not_bad, same_reading}
use Rattle.store_refresh_entries.specs.Change.{IsReadable, IsSpelled, spelling_of}
use Rattle.store_refresh_entries.proofs.Readings.{one_spelling}
use Rattle.std.specs.Prelude.{is_none}
use Rattle.store_state.specs.Refresh.{Change, after, cause_of, changed, unless_cause}
use Rattle.store_state.specs.Versions.{is_accepted, replayed, taken}
use Rattle.store_state.proofs.VersionSteps.{taken-append}
use Rattle.app_inputs.specs.declared.input_error.InputFault.{InputFault}
use Rattle.app_inputs.specs.declared.input_error.InputFault.TheVariants as fault
use Rattle.app_jobs.specs.Journals.{FileKeeps, IsFirstRefusedEntry, IsJournalFault, MayBeJournalFault}

-- readable refreshes with the same spellings are the same
same_changes : (xs ys : List Change) → AllByRecursion IsReadable xs → AllByRecursion IsReadable ys → AllByRecursion (IsEntry IsSpelled) (map spelling_of xs)
    → map spelling_of xs ≡ map spelling_of ys → xs ≡ ys
same_changes [] [] p q fits e = refl
same_changes [] (y ∷ ys) p q fits e = absurd (cc)
same_changes (x ∷ xs) [] p q fits e = absurd (cc)
same_changes (x ∷ xs) (y ∷ ys) p q fits e =
    let head : spelling_of x ≡ spelling_of y = cc in
    let tail : map spelling_of xs ≡ map spelling_of ys = cc in
    ap (λ c. c ∷ xs) (one_spelling x y p.0 q.0 fits.0.short head) ∙ ap (λ l. y ∷ l) (same_changes xs ys p.1 q.1 fits.1 tail)

-- no journal is empty
not_empty : (file : List ℕ) (ps : List (List ℕ)) → file ≡ [] → StandsFor IsSpelled file ps → ⊥
not_empty file ps none stands =
    let whole = sym none ∙ stands.whole in
    let long = ap length whole in
    let sum = length-append (entries ps) (stands.gate ∷ stands.rest) in
    omega (arith, long, sum)

-- a file keeps one list of refreshes
pub one_kept : (file : List ℕ) (xs ys : List Change) → FileKeeps file xs → FileKeeps file ys → xs ≡ ys
one_kept file xs ys (inl (none, e)) (inl (none', e')) = e ∙ sym e'
one_kept file xs ys (inl (none, e)) (inr (stands, readable, short)) = absurd (not_empty file (map spelling_of ys) none stands)
one_kept file xs ys (inr (stands, readable, short)) (inl (none, e)) = absurd (not_empty file (map spelling_of xs) none stands)
one_kept file xs ys (inr (stands, readable, short)) (inr (stands', readable', short')) =
    same_changes xs ys readable readable' stands.fits (same_reading IsSpelled file (map spelling_of xs) (map spelling_of ys) stands stands')

-- no more are accepted than are tried
few_taken : (base : State) (list : List Change) → length (taken base list) ≤ length list
few_taken base [] = omega arith
few_taken base (change ∷ list) = by (is_accepted base change) refl (λ state. few_taken state list)
  where
    by : (b : Bool) → is_accepted base change ≡ b → ((state : State) → length (taken state list) ≤ length list)
        → length (taken base (change ∷ list)) ≤ length (change ∷ list)
    by true e less = let rest = less (changed base change) in rw e (omega (arith, rest))
    by false e less = let rest = less base in rw e (omega (arith, rest))

-- a refresh that is refused isn't accepted
refused_err : (state : State) (change : Change) (cause : Cause) → after state change ≡ Err cause → is_accepted state change ≡ false
refused_err state change cause e = at (cause_of state change) (changed state change) cause e
  where
    at : (found : Option Cause) (made : State) (first : Cause) → unless_cause found made ≡ Err first → is_none found ≡ false
    at None made first e = cc
    at (Some cause) made first e = refl

-- a list that drops one of its refreshes isn't whole
fewer : (before : List Change) (change : Change) (behind : List Change) (base : State)
    → taken base (before ++ change ∷ behind) ≡ taken base before ++ taken (replayed base (taken base before)) (change ∷ behind)
    → taken base (before ++ change ∷ behind) ≡ before ++ change ∷ behind → taken base before ≡ before → {cause : Cause} → after (replayed base before) change ≡ Err cause → ⊥
fewer before change behind base parts all accepted {cause} refused =
    let state = replayed base (taken base before) in
    let no : is_accepted state change ≡ false = refused_err state change cause (ap (λ (l : List Change). after (replayed base l) change) accepted ∙ refused) in
    let dropped : taken state (change ∷ behind) ≡ taken state behind = rw no refl in
    let long = ap length (sym all ∙ parts) in
    let a = length-append before (change ∷ behind) in
    let b = length-append (taken base before) (taken state (change ∷ behind)) in
    let c = ap length accepted in
    let d = ap length dropped in
    let e = few_taken state behind in
    omega (arith, long, a, b, c, d, e)

-- the fault of a journal is no absence
pub of_journal : (base : State) (file : List ℕ) (why : InputFault) → IsJournalFault base file why → why ≢ fault.Absent
of_journal base file why x = λ e. subst (IsJournalFault base file) e x

pub of_untold : (base : State) (why : InputFault) → MayBeJournalFault base why → why ≢ fault.Absent
of_untold base why x = λ e. subst (MayBeJournalFault base) e x

-- refreshes that are all accepted have no first refused one
none_refused : (base : State) (changes : List Change) (number : ℕ) (cause : Cause) → taken base changes ≡ changes → IsFirstRefusedEntry base changes number cause → ⊥
none_refused base changes number cause all first =
    fewer (first.before) (first.change) (first.behind) base (taken-append base first.before (first.change ∷ first.behind)) (ap (taken base) (sym first.whole) ∙ all ∙ first.whole) first.accepted first.refused

-- a file that keeps accepted refreshes isn't refused
pub never : (base : State) (file : List ℕ) (changes : List Change) (why : InputFault) → FileKeeps file changes → taken base changes ≡ changes → IsJournalFault base file why → ⊥
never base file changes (fault.BadEntry place) (inl (none, e)) all (some, short, bad) = let long = ap length none in omega (arith, long, some)
never base file changes (fault.BadEntry place) (inr (stands, readable, few)) all (some, short, bad) = not_bad IsSpelled file (map spelling_of changes) place stands bad
never base file changes (fault.RefusedEntry number cause) keeps all (others, same, first) =
    none_refused base changes number cause all (subst (λ (l : List Change). IsFirstRefusedEntry base l number cause) (one_kept file others changes same keeps) first)
never base file changes fault.JournalTooLong (inl (none, e)) all long = let nil = ap length none in omega (arith, nil, long)
never base file changes fault.JournalTooLong (inr (stands, readable, few)) all long = omega (arith, few, long)
never base file changes fault.Absent keeps all x = x
never base file changes (fault.Byte r p) keeps all x = x
never base file changes (fault.Line l) keeps all x = x
never base file changes (fault.RefreshHere p) keeps all x = x
never base file changes (fault.JobLine l) keeps all x = x
