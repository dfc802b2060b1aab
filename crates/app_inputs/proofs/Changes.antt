-- The refreshes that statements name, from one to the next.
use Rattle.std.proofs.Common.{◌≡◌, ◌∙◌, ℕ, ◌+◌, ◌<◌, List, [], ◌∷◌, ◌++◌, Option, None, Some, add-one, ap, append_assoc, arith, drop, drop-cons, length, refl, slice_index_or, subst, suc, sym}
use Rattle.std.specs.List.{AllByRecursion}
use Rattle.std.proofs.lemmas.List.{length-append}
use Rattle.std.specs.declared.result.Result.{Result}
use Rattle.std.specs.declared.result.Result.TheVariants.{Ok, Err}
use Rattle.store_state.specs.Refresh.{Change}
use Rattle.base_io.specs.Outside.{Folder}
use Rattle.app_inputs.specs.Inputs.{BadInput, and_then, changes_in, refresh_in}
use Rattle.app_inputs.specs.Views.{Explains, IfKnown, refused_view}
use Rattle.app_inputs.specs.declared.input_error.InputError.{InputError}
use Rattle.app_inputs.specs.declared.input_error.InputError.TheVariants as error
use Rattle.app_job_file.specs.declared.job.Mention.{Mention}

-- what further refreshes are, after those before
abbrev pub changes_behind : List Change → Result (List Change) BadInput → Result (List Change) BadInput
changes_behind before further = and_then further (λ list. Ok (before ++ list))

-- one refresh and further ones
abbrev pub change_first : Result Change BadInput → Result (List Change) BadInput → Result (List Change) BadInput
change_first first further = and_then first (λ change. and_then further (λ list. Ok (change ∷ list)))

-- what a mentioned refresh is
abbrev pub mentioned : List ℕ → Mention → Folder → Result Change BadInput
mentioned dir m folder = refresh_in dir m.change m.set folder

changes_step : (dir : List ℕ) (ms : List Mention) (i : ℕ) (d : Mention) (folder : Folder) → i < length ms → changes_in dir (drop i ms) folder ≡ change_first (mentioned dir (slice_index_or ms i d) folder) (changes_in dir (drop (i + 1) ms) folder)
changes_step dir ms i d folder inside = rw (add-one, drop-cons ms i d) refl

behind_one : (before : List Change) (change : Change) (further : Result (List Change) BadInput) → changes_behind before (change_first (Ok change) further) ≡ changes_behind (before ++ change ∷ []) further
behind_one before change (Ok list) = ap Ok (sym (append_assoc before (change ∷ []) list))
behind_one before change (Err refused) = refl

-- one refresh more was read
pub changes_more : (held later : Option Folder) (dir : List ℕ) (ms : List Mention) (i : ℕ) (d : Mention) (before : List Change) (change : Change) → later ≡ held → i < length ms
    → IfKnown held (λ folder. changes_in dir ms folder ≡ changes_behind before (changes_in dir (drop i ms) folder))
    → IfKnown later (λ folder. mentioned dir (slice_index_or ms i d) folder ≡ Ok change)
    → IfKnown held (λ folder. changes_in dir ms folder ≡ changes_behind (before ++ change ∷ []) (changes_in dir (drop (i + 1) ms) folder))
changes_more None later dir ms i d before change same inside so_far read = tt
changes_more (Some folder) None dir ms i d before change same inside so_far read = absurd (cc)
changes_more (Some folder) (Some other) dir ms i d before change same inside so_far read =
    let alike : other ≡ folder = cc in
    let one : mentioned dir (slice_index_or ms i d) folder ≡ Ok change = ap (λ f. mentioned dir (slice_index_or ms i d) f) (sym alike) ∙ read in
    so_far ∙ ap (changes_behind before) (changes_step dir ms i d folder inside ∙ ap (λ first. change_first first (changes_in dir (drop (i + 1) ms) folder)) one)
    ∙ behind_one before change (changes_in dir (drop (i + 1) ms) folder)

-- the first refresh that is refused
pub changes_refused : (held later : Option Folder) (dir : List ℕ) (ms : List Mention) (i : ℕ) (d : Mention) (before : List Change) (made : InputError) → later ≡ held → i < length ms
    → IfKnown held (λ folder. changes_in dir ms folder ≡ changes_behind before (changes_in dir (drop i ms) folder))
    → Explains later (mentioned dir (slice_index_or ms i d)) made
    → Explains held (changes_in dir ms) made
changes_refused held later dir ms i d before (error.Unread unread) same inside so_far why = tt
changes_refused None later dir ms i d before (error.Refused refusal) same inside so_far why = tt
changes_refused (Some folder) None dir ms i d before (error.Refused refusal) same inside so_far why = absurd (cc)
changes_refused (Some folder) (Some other) dir ms i d before (error.Refused refusal) same inside so_far why =
    let alike : other ≡ folder = cc in
    let one : mentioned dir (slice_index_or ms i d) folder ≡ Err (refused_view refusal) = ap (λ f. mentioned dir (slice_index_or ms i d) f) (sym alike) ∙ why in
    so_far ∙ ap (changes_behind before) (changes_step dir ms i d folder inside ∙ ap (λ first. change_first first (changes_in dir (drop (i + 1) ms) folder)) one)

-- one more is there
pub changes_counted : (before later : List Change) (change : Change) (i : ℕ) → later ≡ before ++ change ∷ [] → length before ≡ i → length later ≡ i + 1
changes_counted before later change i is many = ap length is ∙ length-append before (change ∷ []) ∙ ap (λ n. n + 1) many

-- what holds of all holds of these and one more
pub all_push : (P : Change → Type 0) (list : List Change) (change : Change) → AllByRecursion P list → P change → AllByRecursion P (list ++ change ∷ [])
all_push P [] change are is = (is, tt)
all_push P (first ∷ list) change are is = (are.0, all_push P list change are.1 is)
