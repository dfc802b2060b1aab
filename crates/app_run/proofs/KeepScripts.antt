-- The kept views of a job, read one after another.
use Rattle.std.proofs.Common.{◌≡◌, ◌∙◌, ℕ, ◌+◌, ◌<◌, ◌≤◌, Bool, true, false, List, [], ◌∷◌, ◌++◌, Option, None, Some, add-one, ap, append_assoc, append-nil, arith, drop, drop-cons, length, length-append, map, refl, slice_index_or, subst, suc, sym, zero}
use Rattle.std.proofs.lemmas.List.{drop_all, length-map}
use Rattle.std.specs.Prelude.{if◌then◌else◌, slice_get}
use Rattle.std.specs.declared.result.Result.{Result}
use Rattle.std.specs.declared.result.Result.TheVariants.{Ok, Err}
use Rattle.app_job_file.specs.Files.{KeepParts, keep_parts, refused_line}
use Rattle.app_job_file.specs.declared.job.Keep.{Keep}
use Rattle.app_job_file.specs.declared.refusal.JobRefusal.TheVariants.{BadKeep}
use Rattle.base_io.specs.Outside.{Folder}
use Rattle.plan_kept_queries.specs.Forms.{is_kept_block}
use Rattle.sql_ast.specs.declared.statement.Statement.{Statement}
use Rattle.sql_binder_steps.specs.Steps.{Checked}
use Rattle.sql_binder_steps.specs.declared.view.View.{View}
use Rattle.app_inputs.specs.Inputs.{BadInput, IsScriptOf, and_then, file_bytes, script_limit}
use Rattle.app_inputs.specs.Views.{Finds, IfKnown, Refuses, refused_view}
use Rattle.app_inputs.specs.declared.input_error.InputError.{InputError}
use Rattle.app_inputs.specs.declared.input_error.InputError.TheVariants as error
use Rattle.app_inputs.specs.declared.input_error.InputFault.TheVariants as fault
use Rattle.app_run.specs.JobKeeps.{AreKeeps, IsKeep, PutsKeep, kept_of, kept_or_refused, view_of_keep}
use Rattle.app_run.specs.JobViews.{AddsKeep}

-- the view that is put last
pub last_put : (old new : List View) (v : View) → new ≡ old ++ v ∷ [] → slice_get new (length old) ≡ Some v
last_put old new v is = ap (λ l. slice_get l (length old)) is ∙ at_end old
  where
    at_end : (front : List View) → slice_get (front ++ v ∷ []) (length front) ≡ Some v
    at_end [] = refl
    at_end (w ∷ front) = at_end front

-- a bound view, by whether its rows can be kept
pub puts_bound : (said : Checked View) (old new : List View) (v : View) (is_kept : Bool) → said ≡ Ok v → new ≡ old ++ v ∷ [] → is_kept ≡ is_kept_block v.block → PutsKeep old new (kept_of said) is_kept
puts_bound said old new v is_kept made put same =
    subst (λ (s : Checked View). PutsKeep old new (kept_of s) is_kept) (sym made) (by (is_kept_block v.block) same)
  where
    by : (b : Bool) → is_kept ≡ b → PutsKeep old new (if b then Some v else None) is_kept
    by true e = (e, put)
    by false e = e

-- the kept view of a line

-- a script that is refused
pub keep_unread : {A : Type 0} → (view : A → List Statement) (held : Option Folder) (job : List ℕ) (keep : KeepParts) (old new : List View) (made : InputError)
    → Finds view held (λ folder. IsScriptOf keep.file (file_bytes script_limit folder keep.file)) (Err made) → AddsKeep held job keep old new (Err made)
keep_unread view held job keep old new (error.Unread unread) found = tt
keep_unread view None job keep old new (error.Refused refusal) found = tt
keep_unread view (Some folder) job keep old new (error.Refused refusal) found = (Err (refused_view refusal), found, refl)

-- one that has no query whose rows can be kept
pub keep_refused : (held : Option Folder) (job : List ℕ) (number : ℕ) (keep : KeepParts) (old new : List View) (statements : List Statement) (made : InputError) → number ≡ length old
    → IfKnown held (λ folder. IsScriptOf keep.file (file_bytes script_limit folder keep.file) (Ok statements))
    → PutsKeep old new (view_of_keep number keep.name statements) false → Refuses job (fault.JobLine (refused_line BadKeep keep.line)) made
    → AddsKeep held job keep old new (Err made)
keep_refused held job number keep old new statements (error.Unread unread) count found puts refuses = tt
keep_refused None job number keep old new statements (error.Refused refusal) count found puts refuses = tt
keep_refused (Some folder) job number keep old new statements (error.Refused refusal) count found puts refuses =
    let none : view_of_keep (length old) keep.name statements ≡ None =
    ap (λ n. view_of_keep n keep.name statements) (sym count) ∙ nothing (view_of_keep number keep.name statements) puts in
    (Ok statements, found, ap Err refuses ∙ ap (λ o. kept_or_refused job keep.line o) (sym none))
  where
    nothing : (o : Option View) → PutsKeep old new o false → o ≡ None
    nothing (Some v) (is_put, put) = absurd (cc)
    nothing None is_put = refl

-- one that has such a query
pub keep_added : (held : Option Folder) (job : List ℕ) (number : ℕ) (keep : KeepParts) (old new : List View) (statements : List Statement) → number ≡ length old
    → IfKnown held (λ folder. IsScriptOf keep.file (file_bytes script_limit folder keep.file) (Ok statements))
    → PutsKeep old new (view_of_keep number keep.name statements) true → AddsKeep held job keep old new (Ok tt)
keep_added held job number keep old new statements count found puts = at (view_of_keep number keep.name statements) refl puts
  where
    told : (v : View) → view_of_keep number keep.name statements ≡ Some v → (h : Option Folder)
        → IfKnown h (λ folder. IsScriptOf keep.file (file_bytes script_limit folder keep.file) (Ok statements))
        → IfKnown h (λ folder. IsKeep job folder (length old) keep (Ok v))
    told v is None found = tt
    told v is (Some folder) found =
        (Ok statements, found, ap (λ o. kept_or_refused job keep.line o) (sym is) ∙ ap (λ n. kept_or_refused job keep.line (view_of_keep n keep.name statements)) count)

    at : (o : Option View) → view_of_keep number keep.name statements ≡ o → PutsKeep old new o true → AddsKeep held job keep old new (Ok tt)
    at (Some v) is (is_put, put) = (v, put, told v is held found)
    at None is is_put = absurd (cc)

-- those of all lines

-- what the lines that are left give, after those that were read, is what all of them give
abbrev pub KeepsOn : List ℕ → List KeepParts → List KeepParts → List View → Folder → Type 0
KeepsOn job keeps rest done folder = (more : Result (List View) BadInput)
    → AreKeeps job folder (length done) rest more
    → AreKeeps job folder 0 keeps (and_then more (λ others. Ok (done ++ others)))

keeps_on_first : (job : List ℕ) (keeps : List KeepParts) (folder : Folder) → KeepsOn job keeps keeps [] folder
keeps_on_first job keeps folder (Ok others) are = are
keeps_on_first job keeps folder (Err refused) are = are

one_longer : (v : View) (done : List View) (more : Result (List View) BadInput)
    → and_then (and_then more (λ others. Ok (v ∷ others))) (λ others. Ok (done ++ others))
    ≡ and_then more (λ others. Ok ((done ++ v ∷ []) ++ others))
one_longer v done (Ok others) = ap Ok (sym (append_assoc done (v ∷ []) others))
one_longer v done (Err refused) = refl

keeps_on_more : (job : List ℕ) (keeps : List KeepParts) (keep : KeepParts) (rest : List KeepParts) (done : List View) (v : View) (folder : Folder)
    → KeepsOn job keeps (keep ∷ rest) done folder → IsKeep job folder (length done) keep (Ok v) → KeepsOn job keeps rest (done ++ v ∷ []) folder
keeps_on_more job keeps keep rest done v folder all is more are =
    subst (AreKeeps job folder 0 keeps) (one_longer v done more)
    (all (and_then more (λ others. Ok (v ∷ others))) (Ok v, is, (more, subst (λ n. AreKeeps job folder n rest more) (length-append done (v ∷ [])) are, refl)))

-- the line at a place
kept_at : (keeps : List Keep) (i : ℕ) (keep : Keep) → i < length keeps → slice_index_or keeps i keep ≡ keep → slice_index_or (map keep_parts keeps) i (keep_parts keep) ≡ keep_parts keep
kept_at [] i keep less is = absurd (omega (arith, less))
kept_at (k ∷ keeps) zero keep less is = ap keep_parts is
kept_at (k ∷ keeps) (suc i) keep less is = kept_at keeps i keep (omega (arith, less)) is

next_kept : (keeps : List Keep) (i : ℕ) (keep : Keep) → i < length keeps → slice_index_or keeps i keep ≡ keep
    → drop i (map keep_parts keeps) ≡ keep_parts keep ∷ drop (i + 1) (map keep_parts keeps)
next_kept keeps i keep less is =
    let parts = map keep_parts keeps in
    let size = length-map keeps keep_parts in
    let inside : i < length parts = omega (arith, less, size) in
    drop-cons parts i (keep_parts keep) inside ∙ ap (λ b. b ∷ drop (suc i) parts) (kept_at keeps i keep less is) ∙ ap (λ j. keep_parts keep ∷ drop j parts) (sym (add-one i))

-- before the first line
pub keeps_first : (held : Option Folder) (job : List ℕ) (keeps : List KeepParts) → IfKnown held (KeepsOn job keeps keeps [])
keeps_first None job keeps = tt
keeps_first (Some folder) job keeps = keeps_on_first job keeps folder

-- one line more was read
pub keeps_more : (held later : Option Folder) (job : List ℕ) (keeps : List Keep) (i : ℕ) (keep : Keep) (before after : List View) → later ≡ held → i < length keeps → slice_index_or keeps i keep ≡ keep
    → IfKnown held (KeepsOn job (map keep_parts keeps) (drop i (map keep_parts keeps)) before) → AddsKeep later job (keep_parts keep) before after (Ok tt)
    → IfKnown held (KeepsOn job (map keep_parts keeps) (drop (i + 1) (map keep_parts keeps)) after)
keeps_more None later job keeps i keep before after same inside at so_far adds = tt
keeps_more (Some folder) None job keeps i keep before after same inside at so_far adds = absurd (cc)
keeps_more (Some folder) (Some other) job keeps i keep before after same inside at so_far (v, put, is) =
    let alike : other ≡ folder = cc in
    let parts = map keep_parts keeps in
    subst (λ (l : List View). KeepsOn job parts (drop (i + 1) parts) l folder) (sym put)
    (keeps_on_more job parts (keep_parts keep) (drop (i + 1) parts) before v folder
    (subst (λ rest. KeepsOn job parts rest before folder) (next_kept keeps i keep inside at) so_far)
    (subst (λ f. IsKeep job f (length before) (keep_parts keep) (Ok v)) alike is))

-- the first line that is refused
pub keeps_refused : {A : Type 0} → (views : A → List View) (held later : Option Folder) (job : List ℕ) (keeps : List Keep) (i : ℕ) (keep : Keep) (before after : List View) (made : InputError)
    → later ≡ held → i < length keeps → slice_index_or keeps i keep ≡ keep
    → IfKnown held (KeepsOn job (map keep_parts keeps) (drop i (map keep_parts keeps)) before) → AddsKeep later job (keep_parts keep) before after (Err made)
    → Finds views held (λ folder. AreKeeps job folder 0 (map keep_parts keeps)) (Err made)
keeps_refused views held later job keeps i keep before after (error.Unread unread) same inside at so_far why = tt
keeps_refused views None later job keeps i keep before after (error.Refused refusal) same inside at so_far why = tt
keeps_refused views (Some folder) None job keeps i keep before after (error.Refused refusal) same inside at so_far why = absurd (cc)
keeps_refused views (Some folder) (Some other) job keeps i keep before after (error.Refused refusal) same inside at so_far why =
    let alike : other ≡ folder = cc in
    let parts = map keep_parts keeps in
    subst (λ rest. KeepsOn job parts rest before folder) (next_kept keeps i keep inside at) so_far (Err (refused_view refusal))
    (Err (refused_view refusal), subst (λ f. IsKeep job f (length before) (keep_parts keep) (Err (refused_view refusal))) alike why, refl)

-- all lines were read
pub keeps_read : (held : Option Folder) (job : List ℕ) (keeps : List KeepParts) (i : ℕ) (done : List View) → length keeps ≤ i → IfKnown held (KeepsOn job keeps (drop i keeps) done)
    → IfKnown held (λ folder. AreKeeps job folder 0 keeps (Ok done))
keeps_read None job keeps i done past so_far = tt
keeps_read (Some folder) job keeps i done past so_far =
    subst (λ l. AreKeeps job folder 0 keeps (Ok l)) (append-nil done)
    (subst (λ rest. KeepsOn job keeps rest done folder) (drop_all i keeps past) so_far (Ok []) refl)

-- one view more is counted
pub counted_on : (before after : List View) (v : View) (i : ℕ) → after ≡ before ++ v ∷ [] → length before ≡ i → length after ≡ i + 1
counted_on before after v i is many = ap length is ∙ length-append before (v ∷ []) ∙ ap (λ n. n + 1) many
