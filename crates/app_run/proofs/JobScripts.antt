-- The scripts of a job, read one after another.
use Rattle.std.proofs.Common.{◌≡◌, ◌∙◌, ℕ, ◌+◌, ◌<◌, ◌≤◌, List, [], ◌∷◌, ◌++◌, Option, None, Some, add-one, ap, append_assoc, append-nil, drop, drop-cons, length, length-append, map, refl, slice_index_or, subst, suc, sym, zero, arith, Bool}
use Rattle.std.proofs.lemmas.List.{drop_all, map-append}
use Rattle.app_sessions.specs.Asked.{AllUnasked, IsUnasked}
use Rattle.app_sessions.specs.declared.session.Session.{Session}
use Rattle.app_run.specs.JobViews.{BeginWith}
use Rattle.app_jobs.specs.Sources.{steps_of}
use Rattle.std.specs.declared.result.Result.{Result}
use Rattle.std.specs.declared.result.Result.TheVariants.{Ok, Err}
use Rattle.sql_ast.specs.declared.statement.Statement.{Statement}
use Rattle.sql_binder_steps.specs.declared.view.View.{View}
use Rattle.base_io.specs.Outside.{Folder}
use Rattle.app_inputs.specs.Inputs.{BadInput, and_then}
use Rattle.app_run.specs.JobInputs.{AreJobScripts, IsJobScript}
use Rattle.app_inputs.specs.Views.{Finds, IfKnown, refused_view}
use Rattle.app_inputs.specs.declared.input_error.InputError.{InputError}
use Rattle.app_inputs.specs.declared.input_error.InputError.TheVariants as error

-- what the scripts that are left give, after those that were read, is what all of them give
abbrev pub Continues : List (List ℕ) → List (List ℕ) → List (List Statement) → Folder → Type 0
Continues names rest done folder = (more : Result (List (List Statement)) BadInput)
    → AreJobScripts folder rest more
    → AreJobScripts folder names (and_then more (λ others. Ok (done ++ others)))

pub continues_first : (names : List (List ℕ)) (folder : Folder) → Continues names names [] folder
continues_first names folder (Ok others) are = are
continues_first names folder (Err refused) are = are

one_longer : (steps : List Statement) (done : List (List Statement)) (more : Result (List (List Statement)) BadInput)
    → and_then (and_then more (λ others. Ok (steps ∷ others))) (λ others. Ok (done ++ others))
    ≡ and_then more (λ others. Ok ((done ++ steps ∷ []) ++ others))
one_longer steps done (Ok others) = ap Ok (sym (append_assoc done (steps ∷ []) others))
one_longer steps done (Err refused) = refl

-- one script was read
pub continues_more : (names : List (List ℕ)) (name : List ℕ) (rest : List (List ℕ)) (done : List (List Statement)) (steps : List Statement) (folder : Folder)
    → Continues names (name ∷ rest) done folder → IsJobScript folder name (Ok steps) → Continues names rest (done ++ steps ∷ []) folder
continues_more names name rest done steps folder all is more are =
    subst (AreJobScripts folder names) (one_longer steps done more)
    (all (and_then more (λ others. Ok (steps ∷ others))) (Ok steps, is, (more, are, refl)))

-- a script was refused
pub refused_all : (names : List (List ℕ)) (name : List ℕ) (rest : List (List ℕ)) (done : List (List Statement)) (refused : BadInput) (folder : Folder)
    → Continues names (name ∷ rest) done folder → IsJobScript folder name (Err refused) → AreJobScripts folder names (Err refused)
refused_all names name rest done refused folder all is = all (Err refused) (Err refused, is, refl)

-- all were read
pub read_all : (names : List (List ℕ)) (done : List (List Statement)) (folder : Folder) → Continues names [] done folder → AreJobScripts folder names (Ok (done ++ []))
read_all names done folder all = all (Ok []) refl

next_is : (bs : List (List ℕ)) (i : ℕ) (name : List ℕ) → i < length bs → slice_index_or bs i [] ≡ name → drop i bs ≡ name ∷ drop (i + 1) bs
next_is bs i name inside is =
    drop-cons bs i [] inside ∙ ap (λ b. b ∷ drop (suc i) bs) is ∙ ap (λ j. name ∷ drop j bs) (sym (add-one i))

-- one script more was read
pub sessions_more : (held later : Option Folder) (bs : List (List ℕ)) (i : ℕ) (name : List ℕ) (before : List (List Statement)) (steps : List Statement) → later ≡ held → i < length bs → slice_index_or bs i [] ≡ name
    → IfKnown held (Continues bs (drop i bs) before) → IfKnown later (λ folder. IsJobScript folder name (Ok steps))
    → IfKnown held (Continues bs (drop (i + 1) bs) (before ++ steps ∷ []))
sessions_more None later bs i name before steps same inside at so_far read = tt
sessions_more (Some folder) None bs i name before steps same inside at so_far read = absurd (cc)
sessions_more (Some folder) (Some other) bs i name before steps same inside at so_far read =
    let alike : other ≡ folder = cc in
    continues_more bs name (drop (i + 1) bs) before steps folder
    (subst (λ rest. Continues bs rest before folder) (next_is bs i name inside at) so_far) (subst (λ f. IsJobScript f name (Ok steps)) alike read)

-- the first script that is refused
pub sessions_refused : {A B : Type 0} → (view : A → List Statement) (views : B → List (List Statement)) (held later : Option Folder) (bs : List (List ℕ)) (i : ℕ) (name : List ℕ) (before : List (List Statement)) (made : InputError)
    → later ≡ held → i < length bs → slice_index_or bs i [] ≡ name
    → IfKnown held (Continues bs (drop i bs) before) → Finds view later (λ folder. IsJobScript folder name) (Err made)
    → Finds views held (λ folder. AreJobScripts folder bs) (Err made)
sessions_refused view views held later bs i name before (error.Unread unread) same inside at so_far why = tt
sessions_refused view views None later bs i name before (error.Refused refusal) same inside at so_far why = tt
sessions_refused view views (Some folder) None bs i name before (error.Refused refusal) same inside at so_far why = absurd (cc)
sessions_refused view views (Some folder) (Some other) bs i name before (error.Refused refusal) same inside at so_far why =
    let alike : other ≡ folder = cc in
    refused_all bs name (drop (i + 1) bs) before (refused_view refusal) folder
    (subst (λ rest. Continues bs rest before folder) (next_is bs i name inside at) so_far) (subst (λ f. IsJobScript f name (Err (refused_view refusal))) alike why)

-- all scripts were read
pub sessions_read : (held : Option Folder) (bs : List (List ℕ)) (i : ℕ) (done : List (List Statement)) → length bs ≤ i → IfKnown held (Continues bs (drop i bs) done)
    → IfKnown held (λ folder. AreJobScripts folder bs (Ok done))
sessions_read None bs i done past so_far = tt
sessions_read (Some folder) bs i done past so_far =
    subst (λ l. AreJobScripts folder bs (Ok l)) (append-nil done)
    (read_all bs done folder (subst (λ rest. Continues bs rest done folder) (drop_all i bs past) so_far))

-- before the first script
pub sessions_first : (held : Option Folder) (bs : List (List ℕ)) → IfKnown held (Continues bs bs [])
sessions_first None bs = tt
sessions_first (Some folder) bs = continues_first bs folder

-- sessions and their scripts, after one more
pub steps_more : (before after : List Session) (s : Session) → after ≡ before ++ s ∷ [] → map steps_of after ≡ map steps_of before ++ s.steps ∷ []
steps_more before after s e = ap (map steps_of) e ∙ map-append steps_of before (s ∷ [])

each_more : {X : Type 0} (P : X → Type 0) (xs : List X) (x : X) → ((i : ℕ) (d : X) → i < length xs → P (slice_index_or xs i d)) → P x → (i : ℕ) (d : X) → i < length (xs ++ x ∷ []) → P (slice_index_or (xs ++ x ∷ []) i d)
each_more P [] x all this zero d less = this
each_more P [] x all this (suc i) d less = absurd (omega arith)
each_more P (y ∷ ys) x all this zero d less = all 0 d (omega arith)
each_more P (y ∷ ys) x all this (suc i) d less = each_more P ys x (λ j e l. all (suc j) e (omega arith)) this i d (omega arith)

pub begins_more : (shows : Bool) (first : List View) (before after : List Session) (s : Session) → after ≡ before ++ s ∷ [] → BeginWith shows first before → s.shows_rows ≡ shows → s.first_views ≡ first → BeginWith shows first after
begins_more shows first before after s e all rows views =
    subst (BeginWith shows first) (sym e) (each_more (λ x. (x.shows_rows ≡ shows) × (x.first_views ≡ first)) before s all (rows, views))

pub unasked_more : (before after : List Session) (s : Session) → after ≡ before ++ s ∷ [] → AllUnasked before → IsUnasked s → AllUnasked after
unasked_more before after s e all this = subst AllUnasked (sym e) (each_more IsUnasked before s all this)

-- the name at a place, as bytes
pub named_at : {X : Type 0} (bytes : X → List ℕ) (names : List X) (i : ℕ) (name : X) → i < length names → slice_index_or names i name ≡ name → slice_index_or (map bytes names) i [] ≡ bytes name
named_at bytes [] i name less is = absurd (omega (arith, less))
named_at bytes (n ∷ names) zero name less is = ap bytes is
named_at bytes (n ∷ names) (suc i) name less is = named_at bytes names i name (omega (arith, less)) is

-- none was read yet
pub none_begun : (shows : Bool) (first : List View) → BeginWith shows first []
none_begun shows first i d less = absurd (omega (arith, less))

pub none_asked : AllUnasked []
none_asked i d less = absurd (omega (arith, less))

pub counted_more : {X : Type 0} (before after : List X) (x : X) (i : ℕ) → after ≡ before ++ x ∷ [] → length before ≡ i → length after ≡ i + 1
counted_more before after x i is many = ap length is ∙ length-append before (x ∷ []) ∙ ap (λ n. n + 1) many
