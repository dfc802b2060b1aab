-- A journal that is reached, from what is known of its file.
use Rattle.std.proofs.Common.{◌≡◌, ◌∙◌, ap, ◌<◌, ◌≤◌, ◌^◌, ℕ, Bool, true, false, List, [], ◌∷◌, Option, None, Some, arith, inl, inr, length, map, refl, subst, sym}
use Rattle.std.specs.List.{AllByRecursion}
use Rattle.base_disk.specs.Disk.{Measures, Tells}
use Rattle.base_disk.specs.declared.disk.Size.{Size}
use Rattle.base_disk.specs.declared.disk.Size.TheVariants as sized
use Rattle.store_journal.specs.Format.{StandsFor}
use Rattle.store_journal.specs.Journal.{Refuses, Stands}
use Rattle.store_journal.specs.declared.fault.JournalFault.{JournalFault}
use Rattle.store_journal.specs.declared.fault.JournalFault.TheVariants as journal
use Rattle.store_journal.specs.declared.journal.Journal.{Journal}
use Rattle.store_refresh_entries.specs.Change.{IsReadable, IsSpelled, spelling_of}
use Rattle.store_state.specs.Refresh.{Change}
use Rattle.app_inputs.specs.declared.input_error.InputFault.{InputFault}
use Rattle.app_inputs.specs.declared.input_error.InputFault.TheVariants as fault
use Rattle.app_jobs.specs.Journals.{FileKeeps}
use Rattle.app_jobs.specs.Reaching.{HasJournal, IsReachFault, IsReached, IsRefusedFile, MeansFault}
use Rattle.app_jobs.specs.declared.journal.Reached.{Reached}
use Rattle.app_jobs.specs.declared.journal.Reached.TheVariants as reached

-- what is told of a file, and so another fact of it
tells_to : (reads : Option (List ℕ)) (P Q : List ℕ → Type 0) → ((f : List ℕ) → P f → Q f) → Tells reads P → Tells reads Q
tells_to None P Q by told = tt
tells_to (Some file) P Q by told = by file told

tells_both : (reads : Option (List ℕ)) (P Q R : List ℕ → Type 0) → ((f : List ℕ) → P f → Q f → R f) → Tells reads P → Tells reads Q → Tells reads R
tells_both None P Q R by told too = tt
tells_both (Some file) P Q R by told too = by file told too

-- a file without bytes, of which 0 is the size
pub no_bytes : (reads : Option (List ℕ)) → Tells reads (λ file. 0 ≡ length file) → Tells reads (λ file. file ≡ [])
no_bytes reads told = tells_to reads (λ file. 0 ≡ length file) (λ file. file ≡ []) none told
  where
    none : (file : List ℕ) → 0 ≡ length file → file ≡ []
    none [] e = refl
    none (b ∷ file) e = absurd (omega (arith, e))

pub some_bytes : (reads : Option (List ℕ)) (size : ℕ) → 0 < size → Tells reads (λ file. size ≡ length file) → Tells reads (λ file. 0 < length file)
some_bytes reads size some told = tells_to reads (λ file. size ≡ length file) (λ file. 0 < length file) (λ file e. omega (arith, some, e)) told

-- so it is by its size
pub measured_none : (answer : Size) (size : ℕ) (old new : Option (List ℕ)) → answer ≡ sized.Size size → size ≡ 0 → Measures old answer → new ≡ old → Tells new (λ file. file ≡ [])
measured_none answer size old new is none measures same =
    let told : Measures old (sized.Size 0) = subst (λ (a : Size). Measures old a) (is ∙ ap sized.Size none) measures in
    subst (λ (r : Option (List ℕ)). Tells r (λ file. file ≡ [])) (sym same) (no_bytes old told)

pub measured_some : (answer : Size) (size : ℕ) (old new : Option (List ℕ)) → answer ≡ sized.Size size → 0 < size → Measures old answer → new ≡ old → Tells new (λ file. 0 < length file)
measured_some answer size old new is some measures same =
    let told : Measures old (sized.Size size) = subst (λ (a : Size). Measures old a) is measures in
    subst (λ (r : Option (List ℕ)). Tells r (λ file. 0 < length file)) (sym same) (some_bytes old size some told)

-- a journal that was made
pub made_journal : {D : Type 0} (is_reached : D → Bool) (may_leave : D → List ℕ → Type 0) (file : Option (List ℕ)) (disk : D) (journal : Journal) → is_reached disk ≡ true → journal.is_shut ≡ false
    → Stands IsSpelled (may_leave disk) [] journal.end → Tells file (λ bytes. bytes ≡ []) → HasJournal is_reached may_leave file disk journal []
made_journal is_reached may_leave file disk journal reached working stands none =
    let place : journal.end ≡ 0 = stands.place in
    record {
      reached = reached;
      working = working;
      stands = stands;
      short = omega (arith, place);
      readable = tt;
      keeps = tells_to file (λ bytes. bytes ≡ []) (λ bytes. FileKeeps bytes []) (λ bytes e. inl (e, refl)) none;
    }

-- one that was opened again
pub opened_journal : {D : Type 0} (is_reached : D → Bool) (may_leave : D → List ℕ → Type 0) (file : Option (List ℕ)) (disk : D) (journal : Journal) (kept : List Change) → is_reached disk ≡ true
    → journal.is_shut ≡ false → Stands IsSpelled (may_leave disk) (map spelling_of kept) journal.end → journal.end ≤ 2 ^ 61 → AllByRecursion IsReadable kept
    → Tells file (λ bytes. StandsFor IsSpelled bytes (map spelling_of kept) × (length bytes ≤ 2 ^ 60)) → HasJournal is_reached may_leave file disk journal kept
opened_journal is_reached may_leave file disk journal kept reached working stands short readable told =
    record {
      reached = reached;
      working = working;
      stands = stands;
      short = short;
      readable = readable;
      keeps = tells_to file (λ bytes. StandsFor IsSpelled bytes (map spelling_of kept) × (length bytes ≤ 2 ^ 60)) (λ bytes. FileKeeps bytes kept)
          (λ bytes both. inr (both.0, readable, both.1)) told;
    }

-- one that is refused
refused_file : (file : Option (List ℕ)) (why : InputFault) (answer : Reached) {D : Type 0} (is_reached : D → Bool) (may_leave : D → List ℕ → Type 0) (disk : D) → answer ≡ reached.Refused why
    → IsRefusedFile file why → IsReached is_reached may_leave file disk answer
refused_file file why answer is_reached may_leave disk is refused = subst (λ (r : Reached). IsReached is_reached may_leave file disk r) (sym is) refused

pub fault_reached : (file : Option (List ℕ)) (why : JournalFault) (answer : Reached) {D : Type 0} (is_reached : D → Bool) (may_leave : D → List ℕ → Type 0) (disk : D)
    → Refuses IsSpelled file why → Tells file (λ bytes. 0 < length bytes) → MeansFault why answer → IsReached is_reached may_leave file disk answer
fault_reached file journal.Memory answer is_reached may_leave disk refuses some means = absurd means
fault_reached file journal.Failed answer is_reached may_leave disk refuses some means = subst (λ (r : Reached). IsReached is_reached may_leave file disk r) (sym means) tt
fault_reached file (journal.BadEntry place) answer is_reached may_leave disk refuses some means =
    refused_file file (fault.BadEntry place) answer is_reached may_leave disk means
    (tt, tells_both file _ _ _ (λ bytes long bad base. (long, bad.1, bad.0)) some refuses)
fault_reached file journal.TooLong answer is_reached may_leave disk refuses some means =
    refused_file file fault.JournalTooLong answer is_reached may_leave disk means (tt, tells_to file _ _ (λ bytes long base. long) refuses)

pub failed_reached : (file : Option (List ℕ)) (why : JournalFault) (answer : Reached) {D : Type 0} (is_reached : D → Bool) (may_leave : D → List ℕ → Type 0) (disk : D)
    → why ≡ journal.Failed → MeansFault why answer → IsReached is_reached may_leave file disk answer
failed_reached file why answer is_reached may_leave disk is means =
    let said : answer ≡ reached.DiskFault = subst (λ (w : JournalFault). MeansFault w answer) is means in
    subst (λ (r : Reached). IsReached is_reached may_leave file disk r) (sym said) tt

-- only a disk that failed is told as such
pub reach_failed : (why : JournalFault) (answer : Reached) → MeansFault why answer → IsReachFault answer → why ≡ journal.Failed
reach_failed journal.Memory answer means faulty = absurd means
reach_failed journal.Failed answer means faulty = refl
reach_failed (journal.BadEntry place) answer means faulty = absurd (subst IsReachFault means faulty)
reach_failed journal.TooLong answer means faulty = absurd (subst IsReachFault means faulty)
