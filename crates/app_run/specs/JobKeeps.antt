-- The kept views of a job: what their files hold, and which of them is refused first.
use Rattle.std.specs.Prelude.{◌≡◌, ℕ, Bool, true, false, ◌+◌, ◌==◌, ◌&&◌, not, List, [], ◌∷◌, ◌++◌}
use Rattle.std.specs.Prelude.{Option, None, Some, if◌then◌else◌, is_some, length}
use Rattle.std.specs.Option.{option_and_then}
use Rattle.std.specs.declared.result.Result.{Result}
use Rattle.std.specs.declared.result.Result.TheVariants.{Ok, Err}
use Rattle.app_job_file.specs.Files.{KeepParts, refused_line}
use Rattle.app_job_file.specs.declared.refusal.JobRefusal.TheVariants.{BadKeep}
use Rattle.base_io.specs.Outside.{Folder}
use Rattle.plan_kept_queries.specs.Forms.{is_kept_block}
use Rattle.plan_planner.specs.Made.{kept_view}
use Rattle.sql_ast.specs.declared.statement.Query.{Query}
use Rattle.sql_ast.specs.declared.statement.Statement.{Statement}
use Rattle.sql_ast.specs.declared.statement.Statement.TheVariants as statement
use Rattle.sql_ast.specs.declared.tree.Block.{Block}
use Rattle.sql_binder_steps.specs.Steps.{Checked}
use Rattle.sql_binder_steps.specs.declared.view.View.{View}
use Rattle.app_inputs.specs.Inputs.{BadInput, IsScriptOf, and_then, file_bytes, script_limit}
use Rattle.app_inputs.specs.declared.input_error.InputFault.TheVariants as fault

-- what follows where an input is not refused
abbrev pub Follows : {A B : Type 0} → Result A BadInput → (A → Result B BadInput → Type 0)
    → Result B BadInput → Type 0
Follows (Ok read) Further result = Further read result
Follows (Err refused) Further result = result ≡ Err refused

-- a query is without WITH, ORDER BY, row limit and version
abbrev pub is_bare : Query → Bool
is_bare q =
    length q.with_queries == 0 && length q.order == 0 && not (is_some q.limit)
    && not (is_some q.version)

-- the block of a script that is one such query alone
abbrev pub kept_block : List Statement → Option Block
kept_block (statement.Query q ∷ []) = if is_bare q then Some q.block else None
kept_block other = None

-- a bound view, where its rows can be kept
abbrev pub kept_of : Checked View → Option View
kept_of (Ok v) = if is_kept_block v.block then Some v else None
kept_of (Err why) = None

-- the kept view of a script under a number, if there is one
abbrev pub view_of_keep : ℕ → List ℕ → List Statement → Option View
view_of_keep number name statements =
    option_and_then (λ q. kept_of (kept_view number name q)) (kept_block statements)

-- the same, or the refusal of the line that names it
abbrev pub kept_or_refused : List ℕ → ℕ → Option View → Result View BadInput
kept_or_refused job line (Some v) = Ok v
kept_or_refused job line None =
    Err (record { name = job; fault = fault.JobLine (refused_line BadKeep line) })

-- one view more behind others, where there is one; and whether there is
abbrev pub PutsKeep : List View → List View → Option View → Bool → Type 0
PutsKeep old new (Some v) is_kept = (is_kept ≡ true) × (new ≡ old ++ v ∷ [])
PutsKeep old new None is_kept = is_kept ≡ false

-- The kept view of a line: the refusal of its script, else that of the line, else the view.
abbrev pub IsKeep : List ℕ → Folder → ℕ → KeepParts → Result View BadInput → Type 0
IsKeep job folder number keep view = (script : Result (List Statement) BadInput)
    × IsScriptOf keep.file (file_bytes script_limit folder keep.file) script
    × (view ≡ and_then script (λ statements.
    kept_or_refused job keep.line (view_of_keep number keep.name statements)))

-- those of lines, numbered on, read one after another; the first refused one counts
abbrev pub AreKeeps : List ℕ → Folder → ℕ → List KeepParts → Result (List View) BadInput → Type 0
AreKeeps job folder number [] views = views ≡ Ok []
AreKeeps job folder number (keep ∷ keeps) views =
    (first : Result View BadInput) × IsKeep job folder number keep first
    × Follows first (λ v result. (more : Result (List View) BadInput)
    × AreKeeps job folder (number + 1) keeps more
    × (result ≡ and_then more (λ others. Ok (v ∷ others)))) views
