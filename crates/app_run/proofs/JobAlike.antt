-- The inputs of a job are one, but for which refusal of a script they name.
use Rattle.std.proofs.Common.{◌≡◌, ◌≢◌, ◌∙◌, ◌⊎◌, ◌+◌, ℕ, Bool, true, false, List, [], ◌∷◌, None, Some, ap, inl, inr, refl, subst, sym}
use Rattle.std.specs.List.{list_any}
use Rattle.std.specs.declared.result.Result.{Result}
use Rattle.std.specs.declared.result.Result.TheVariants.{Ok, Err}
use Rattle.app_job_file.specs.Files.{JobParts, KeepParts}
use Rattle.sql_ast.specs.declared.statement.Statement.{Statement}
use Rattle.sql_binder_steps.specs.declared.view.View.{View}
use Rattle.base_io.specs.Outside.{Folder, file_of}
use Rattle.app_run.specs.SessionInputs.{AreSteps}
use Rattle.app_inputs.specs.Inputs.{BadInput, and_then, file_bytes, script_limit}
use Rattle.app_run.specs.JobKeeps.{AreKeeps, Follows, IsKeep, kept_or_refused, view_of_keep}
use Rattle.app_run.specs.JobInputs.{AreFilesBehind, AreJobFiles, AreJobInputs, AreJobScripts, HasNoRefresh, IsJobScript, IsPlain, IsWorkOver, is_refresh, job_base, job_work}
use Rattle.app_jobs.specs.Works.{JobWork, with_kept}
use Rattle.app_run.specs.JobMeaning.{IsDiskTold, NamesNoJournal, NeedsNoDisk}
use Rattle.app_jobs.specs.Journals.{IsKept, IsToldFor, Named}
use Rattle.app_run.proofs.KeptAlike.{kept_alike, kept_not_absent}
use Rattle.base_schema.specs.State.{State}
use Rattle.store_state.specs.Refresh.{Change}
use Rattle.app_inputs.specs.JobFile.{job_in}
use Rattle.app_inputs.specs.declared.input_error.InputFault.TheVariants as fault
use Rattle.app_run.proofs.OneWork.{AreAlike, script_steps_alike, scripts_alike as read_alike}

not_absent : (refused : BadInput) (name : List ℕ) (place : ℕ) → refused ≡ record { name = name; fault = fault.RefreshHere place } → refused.fault ≢ fault.Absent
not_absent refused name place is = λ e. let wrong : fault.RefreshHere place ≡ fault.Absent = sym (ap (λ (b : BadInput). b.fault) is) ∙ e in cc

-- statements that no refresh is among, or the first one
plain_alike : (name bytes : List ℕ) (any : Bool) (steps : List Statement) (a b : Result (List Statement) BadInput)
    → HasNoRefresh name bytes any steps a → HasNoRefresh name bytes any steps b → AreAlike a b
plain_alike name bytes false steps a b x y = inl (x ∙ sym y)
plain_alike name bytes true steps a b (place, at, is) (place', at', is') =
    inr (
      record { name = name; fault = fault.RefreshHere place },
      record { name = name; fault = fault.RefreshHere place' },
      is,
      is',
      not_absent _ name place refl,
      not_absent _ name place' refl,
    )

-- what the bytes of scripts stand for
scripts_alike : (name : List ℕ) (bytes : Result (List ℕ) BadInput) (one other a b : Result (List Statement) BadInput) → AreAlike one other
    → IsPlain name bytes one a → IsPlain name bytes other b → AreAlike a b
scripts_alike name (Err refused) one other a b alike x y = inl (x ∙ sym y)
scripts_alike name (Ok bytes) one other a b (inl e) x y = same one a x (subst (λ o. IsPlain name (Ok bytes) o b) (sym e) y)
  where
    same : (o a : Result (List Statement) BadInput) → IsPlain name (Ok bytes) o a → IsPlain name (Ok bytes) o b → AreAlike a b
    same (Ok steps) a x y = plain_alike name bytes (list_any is_refresh steps) steps a b x y
    same (Err refused) a x y = inl (x ∙ sym y)
scripts_alike name (Ok bytes) one other a b (inr (first, second, is, is', p, q)) x y =
    inr (first, second, subst (λ o. IsPlain name (Ok bytes) o a) is x, subst (λ o. IsPlain name (Ok bytes) o b) is' y, p, q)

job_scripts_alike : (folder : Folder) (name : List ℕ) (a b : Result (List Statement) BadInput) → IsJobScript folder name a → IsJobScript folder name b → AreAlike a b
job_scripts_alike folder name a b (steps, are, plain) (steps', are', plain') =
    scripts_alike name (file_bytes script_limit folder name) steps steps' a b (script_steps_alike name folder steps steps' are are') plain plain'

-- what is read on from alike inputs
further_alike : {A B : Type 0} → (further : A → Result B BadInput) (a b : Result A BadInput) → AreAlike a b → AreAlike (and_then a further) (and_then b further)
further_alike further a b (inl e) = inl (ap (λ r. and_then r further) e)
further_alike further a b (inr (first, second, is, is', p, q)) =
    inr (first, second, ap (λ r. and_then r further) is, ap (λ r. and_then r further) is', p, q)

follows_alike : {A B : Type 0} → (Further : A → Result B BadInput → Type 0) → ((x : A) (a b : Result B BadInput) → Further x a → Further x b → AreAlike a b)
    → (one other : Result A BadInput) (a b : Result B BadInput) → AreAlike one other → Follows one Further a → Follows other Further b → AreAlike a b
follows_alike {A} {B} Further each one other a b (inl e) x y = same one x (subst (λ o. Follows o Further b) (sym e) y)
  where
    same : (o : Result A BadInput) → Follows o Further a → Follows o Further b → AreAlike a b
    same (Ok read) x y = each read a b x y
    same (Err refused) x y = inl (x ∙ sym y)
follows_alike Further each one other a b (inr (first, second, is, is', p, q)) x y =
    inr (first, second, subst (λ o. Follows o Further a) is x, subst (λ o. Follows o Further b) is' y, p, q)

all_scripts_alike : (folder : Folder) (names : List (List ℕ)) (a b : Result (List (List Statement)) BadInput) → AreJobScripts folder names a → AreJobScripts folder names b → AreAlike a b
all_scripts_alike folder [] a b x y = inl (x ∙ sym y)
all_scripts_alike folder (name ∷ names) a b (first, is, then) (first', is', then') =
    follows_alike _ (each (λ more more' are are'. all_scripts_alike folder names more more' are are')) first first' a b (job_scripts_alike folder name first first' is is') then then'
  where
    each : ((more more' : Result (List (List Statement)) BadInput) → AreJobScripts folder names more → AreJobScripts folder names more' → AreAlike more more')
        → (steps : List Statement) (a b : Result (List (List Statement)) BadInput)
        → ((more : Result (List (List Statement)) BadInput) × AreJobScripts folder names more × (a ≡ and_then more (λ others. Ok (steps ∷ others))))
        → ((more : Result (List (List Statement)) BadInput) × AreJobScripts folder names more × (b ≡ and_then more (λ others. Ok (steps ∷ others))))
        → AreAlike a b
    each rest steps a b (more, are, made) (more', are', made') =
        let alike = further_alike (λ others. Ok (steps ∷ others)) more more' (rest more more' are are') in
        subst (λ x. AreAlike x b) (sym made) (subst (λ y. AreAlike (and_then more (λ others. Ok (steps ∷ others))) y) (sym made') alike)

-- kept views, each read after those before it
keep_alike : (job : List ℕ) (folder : Folder) (number : ℕ) (keep : KeepParts) (a b : Result View BadInput) → IsKeep job folder number keep a → IsKeep job folder number keep b → AreAlike a b
keep_alike job folder number keep a b (script, is, made) (script', is', made') =
    let further = λ (statements : List Statement). kept_or_refused job keep.line (view_of_keep number keep.name statements) in
    let alike = further_alike further script script' (read_alike keep.file (file_bytes script_limit folder keep.file) script script' is is') in
    subst (λ x. AreAlike x b) (sym made) (subst (λ y. AreAlike (and_then script further) y) (sym made') alike)

all_keeps_alike : (job : List ℕ) (folder : Folder) (number : ℕ) (keeps : List KeepParts) (a b : Result (List View) BadInput) → AreKeeps job folder number keeps a → AreKeeps job folder number keeps b → AreAlike a b
all_keeps_alike job folder number [] a b x y = inl (x ∙ sym y)
all_keeps_alike job folder number (keep ∷ keeps) a b (first, is, then) (first', is', then') =
    follows_alike _ (each (λ more more' are are'. all_keeps_alike job folder (number + 1) keeps more more' are are')) first first' a b (keep_alike job folder number keep first first' is is') then then'
  where
    each : ((more more' : Result (List View) BadInput) → AreKeeps job folder (number + 1) keeps more → AreKeeps job folder (number + 1) keeps more' → AreAlike more more')
        → (v : View) (a b : Result (List View) BadInput)
        → ((more : Result (List View) BadInput) × AreKeeps job folder (number + 1) keeps more × (a ≡ and_then more (λ others. Ok (v ∷ others))))
        → ((more : Result (List View) BadInput) × AreKeeps job folder (number + 1) keeps more × (b ≡ and_then more (λ others. Ok (v ∷ others))))
        → AreAlike a b
    each rest v a b (more, are, made) (more', are', made') =
        let alike = further_alike (λ others. Ok (v ∷ others)) more more' (rest more more' are are') in
        subst (λ x. AreAlike x b) (sym made) (subst (λ y. AreAlike (and_then more (λ others. Ok (v ∷ others))) y) (sym made') alike)

-- the files behind them
behind_alike : (dir : List ℕ) (folder : Folder) (parts : JobParts) (keeps : List View) (a b : Result JobWork BadInput) → AreFilesBehind dir folder parts keeps a → AreFilesBehind dir folder parts keeps b → AreAlike a b
behind_alike dir folder parts keeps a b (scripts, are, made) (scripts', are', made') =
    let alike = further_alike (job_work dir folder parts keeps) scripts scripts' (all_scripts_alike folder parts.scripts scripts scripts' are are') in
    subst (λ x. AreAlike x b) (sym made) (subst (λ y. AreAlike (and_then scripts (job_work dir folder parts keeps)) y) (sym made') alike)

-- a job's files are alike
pub job_files_alike : (dir job : List ℕ) (folder : Folder) (a b : Result JobWork BadInput) → AreJobFiles dir job folder a → AreJobFiles dir job folder b → AreAlike a b
job_files_alike dir job folder a b x y = follows_alike _ each (job_in job (file_of folder job)) (job_in job (file_of folder job)) a b (inl refl) x y
  where
    each : (parts : JobParts) (a b : Result JobWork BadInput)
        → ((keeps : Result (List View) BadInput) × AreKeeps job folder 0 parts.keeps keeps × Follows keeps (AreFilesBehind dir folder parts) a)
        → ((keeps : Result (List View) BadInput) × AreKeeps job folder 0 parts.keeps keeps × Follows keeps (AreFilesBehind dir folder parts) b)
        → AreAlike a b
    each parts a b (keeps, are, then) (keeps', are', then') =
        follows_alike (AreFilesBehind dir folder parts) (behind_alike dir folder parts) keeps keeps' a b (all_keeps_alike job folder 0 parts.keeps keeps keeps' are are') then then'

-- the work of a job's files has the journal that the job's file names
pub names_journal : (dir job : List ℕ) (folder : Folder) (work : JobWork) → AreJobFiles dir job folder (Ok work)
    → (parts : JobParts) × (job_in job (file_of folder job) ≡ Ok parts) × (work.journal ≡ parts.journal)
names_journal dir job folder work x = at (job_in job (file_of folder job)) refl x
  where
    made : (parts : JobParts) (keeps : List View) (scripts : Result (List (List Statement)) BadInput) → Ok work ≡ and_then scripts (job_work dir folder parts keeps) → work.journal ≡ parts.journal
    made parts keeps (Err refused) is = absurd (cc)
    made parts keeps (Ok scripts) is = based (job_base dir parts.refreshes folder) is
      where
        based : (base : Result (State × List Change) BadInput)
            → Ok work ≡ and_then base (λ r. Ok (record { keeps = keeps; scripts = scripts; base = r.0; list = r.1; before = parts.before; senders = parts.senders; journal = parts.journal; kept = [] }))
            → work.journal ≡ parts.journal
        based (Err refused) e = absurd (cc)
        based (Ok r) e = let same : work ≡ record { keeps = keeps; scripts = scripts; base = r.0; list = r.1; before = parts.before; senders = parts.senders; journal = parts.journal; kept = [] } = cc in ap (λ (w : JobWork). w.journal) same

    behind : (parts : JobParts) (keeps : Result (List View) BadInput) → Follows keeps (AreFilesBehind dir folder parts) (Ok work) → work.journal ≡ parts.journal
    behind parts (Err refused) follows = absurd (cc)
    behind parts (Ok keeps) (scripts, are, e) = made parts keeps scripts e

    at : (read : Result JobParts BadInput) → job_in job (file_of folder job) ≡ read
        → Follows read (λ parts result. (keeps : Result (List View) BadInput) × AreKeeps job folder 0 parts.keeps keeps × Follows keeps (AreFilesBehind dir folder parts) result) (Ok work)
        → (parts : JobParts) × (job_in job (file_of folder job) ≡ Ok parts) × (work.journal ≡ parts.journal)
    at (Err refused) is follows = absurd (cc)
    at (Ok parts) is (keeps, are, follows) = (parts, is, behind parts keeps follows)

-- a job that names no journal needs no disk
pub needs_no_disk : (dir job : List ℕ) (folder : Folder) → NamesNoJournal job (Some folder) → NeedsNoDisk dir job (Some folder)
needs_no_disk dir job folder none work files = let names = names_journal dir job folder work files in names.2 ∙ none names.0 names.1

-- what two readings of a told journal give is alike, and so is what is worked on over it
over_alike : (named : Named) (work : JobWork) (a b : Result JobWork BadInput) → IsToldFor work.journal named → IsWorkOver named work a → IsWorkOver named work b → AreAlike a b
over_alike named work a b told (kept, is, made) (kept', is', made') =
    let alike = further_alike (λ changes. Ok (with_kept work changes)) kept kept' (kept_alike work.journal work.base named kept kept' told is is') in
    subst (λ x. AreAlike x b) (sym made) (subst (λ y. AreAlike (and_then kept (λ changes. Ok (with_kept work changes))) y) (sym made') alike)

-- a job's inputs are alike, where the disk is told if it has a journal
pub told_inputs_alike : (dir job : List ℕ) (folder : Folder) (named : Named) (a b : Result JobWork BadInput) → IsDiskTold job folder named
    → AreJobInputs dir job folder named a → AreJobInputs dir job folder named b → AreAlike a b
told_inputs_alike dir job folder named a b told (read, files, over) (read', files', over') = at read read' files over over' (job_files_alike dir job folder read read' files files')
  where
    at : (one other : Result JobWork BadInput) → AreJobFiles dir job folder one → Follows one (IsWorkOver named) a → Follows other (IsWorkOver named) b → AreAlike one other → AreAlike a b
    at one other are x y (inr (first, second, is, is', p, q)) =
        inr (first, second, subst (λ o. Follows o (IsWorkOver named) a) is x, subst (λ o. Follows o (IsWorkOver named) b) is' y, p, q)
    at (Err refused) other are x y (inl e) = inl (x ∙ sym (subst (λ o. Follows o (IsWorkOver named) b) (sym e) y))
    at (Ok work) other are x y (inl e) =
        let names = names_journal dir job folder work are in
        let is_told : IsToldFor work.journal named = subst (λ j. IsToldFor j named) (sym names.2) (told names.0 names.1) in
        over_alike named work a b is_told x (subst (λ o. Follows o (IsWorkOver named) b) (sym e) y)

-- where the job's file names no journal, the disk doesn't matter
pub trial_inputs_alike : (dir job : List ℕ) (folder : Folder) (one other : Named) (a b : Result JobWork BadInput) → NamesNoJournal job (Some folder)
    → AreJobInputs dir job folder one a → AreJobInputs dir job folder other b → AreAlike a b
trial_inputs_alike dir job folder one other a b none (read, files, over) (read', files', over') = at read read' files over over' (job_files_alike dir job folder read read' files files')
  where
    same : (work : JobWork) → work.journal ≡ None → IsWorkOver one work a → IsWorkOver other work b → AreAlike a b
    same work without (kept, is, made) (kept', is', made') =
        let nothing : kept ≡ Ok [] = subst (λ j. IsKept j work.base one kept) without is in
        let nothing' : kept' ≡ Ok [] = subst (λ j. IsKept j work.base other kept') without is' in
        inl (made ∙ ap (λ k. and_then k (λ changes. Ok (with_kept work changes))) (nothing ∙ sym nothing') ∙ sym made')

    at : (x y : Result JobWork BadInput) → AreJobFiles dir job folder x → Follows x (IsWorkOver one) a → Follows y (IsWorkOver other) b → AreAlike x y → AreAlike a b
    at x y are p q (inr (first, second, is, is', n, m)) =
        inr (first, second, subst (λ o. Follows o (IsWorkOver one) a) is p, subst (λ o. Follows o (IsWorkOver other) b) is' q, n, m)
    at (Err refused) y are p q (inl e) = inl (p ∙ sym (subst (λ o. Follows o (IsWorkOver other) b) (sym e) q))
    at (Ok work) y are p q (inl e) =
        let names = names_journal dir job folder work are in
        same work (names.2 ∙ none names.0 names.1) p (subst (λ o. Follows o (IsWorkOver other) b) (sym e) q)

-- where one reading of a job's inputs is refused for an absent file, each is
pub job_absence : (dir job : List ℕ) (folder : Folder) (named : Named) (a b : Result JobWork BadInput) (absent : BadInput) → absent.fault ≡ fault.Absent
    → AreJobInputs dir job folder named a → AreJobInputs dir job folder named b → b ≡ Err absent → a ≡ Err absent
job_absence dir job folder named a b absent gone (read, files, over) (read', files', over') is = at read read' over over' (job_files_alike dir job folder read read' files files')
  where
    of_err : (x y : BadInput) → ◌≡◌ {A = Result JobWork BadInput} (Err x) (Err y) → x ≡ y
    of_err x y e = cc

    not_of_journal : (work : JobWork) → IsWorkOver named work b → ⊥
    not_of_journal work (kept, keeps, made) = given kept keeps (sym is ∙ made)
      where
        given : (k : Result (List Change) BadInput) → IsKept work.journal work.base named k → Err absent ≡ and_then k (λ changes. Ok (with_kept work changes)) → ⊥
        given (Ok changes) x e = cc
        given (Err refused) x e = let same : absent ≡ refused = cc in kept_not_absent work.journal work.base named refused x (subst (λ (r : BadInput). r.fault ≡ fault.Absent) same gone)

    at : (one other : Result JobWork BadInput) → Follows one (IsWorkOver named) a → Follows other (IsWorkOver named) b → AreAlike one other → a ≡ Err absent
    at one (Ok work) x y alike = absurd (not_of_journal work y)
    at one (Err refused) x y (inl e) = subst (λ o. Follows o (IsWorkOver named) a) e x ∙ sym y ∙ is
    at one (Err refused) x y (inr (first, second, same, same', p, q)) =
        let other : second ≡ absent = of_err second absent (sym (subst (λ o. Follows o (IsWorkOver named) b) same' y) ∙ is) in
        absurd (q (ap (λ (r : BadInput). r.fault) other ∙ gone))
