-- The first word names a subcommand, whose faults and rows are then the program's; any other first word is a fault.
use Rattle.std.proofs.Common.{◌≡◌, ◌∙◌, List, [], ◌∷◌, Some, is_some, true, false, ap, ap₂, codes, refl, sym}
use Rattle.std.specs.List.{fold}
use Rattle.std.specs.Prelude.{find, unwrap_or}
use Rattle.std.specs.Str.{bytes_eq}
use Rattle.clap.proofs.FaultLemmas.{stopped_fault}
use Rattle.clap.proofs.OnLiterals.{clap_on_literals}
use Rattle.clap.proofs.WalkLemmas.{walk_stopped}
use Rattle.clap.specs.Faults.{check_fault, defaults_fault, entered_fault, fault_of, level_fault, settle_fault}
use Rattle.clap.specs.Kinds.{Kinds, or_else}
use Rattle.clap.specs.Simple.{App, Shape, built, entered, names_of, rows_at, subcommand_of}
use Rattle.clap.specs.Walk.{Held, Text, Walk, finished, nothing_held, settled, walked}
use Rattle.app_inputs.proofs.WordsGiven.{between, is_placed}
use Rattle.app_inputs.specs.Subcommands.{program_app}

-- the program as clap builds it
abbrev pub whole : App
whole = built program_app

-- the subcommand of that name
abbrev pub leaf : Text → Shape
leaf name = unwrap_or (find (λ (s : Shape). bytes_eq s.name name) whole.subs) whole.top

-- before the first word
abbrev pub start : Walk
start = between nothing_held 1 false

-- the walk that stopped at a subcommand
abbrev pub stopped : Text → List Text → Walk
stopped name words = record start { stopped = Some (name, words) }

-- the faults at the end of a subcommand's words
abbrev pub end_fault : Shape → Held → Kinds
end_fault s h = or_else (settle_fault s.rules s.args_override_self h) (or_else (defaults_fault (settled s.rules h).rows s.rules) (check_fault s (finished s.rules h) false))

-- the faults of a subcommand's words
abbrev pub leaf_faults : Text → List Text → Kinds
leaf_faults name words = level_fault (leaf name) [] nothing_held words false []

-- the program's faults, by those of its walk and where that ends
abbrev pub faults_at : Kinds → Walk → Kinds
faults_at ks w =
    or_else ks (or_else (entered_fault whole w.stopped) (or_else (settle_fault whole.top.rules whole.top.args_override_self w.held)
    (or_else (defaults_fault (settled whole.top.rules w.held).rows whole.top.rules) (check_fault whole.top (finished whole.top.rules w.held) (is_some (entered whole w.stopped))))))

pub or_else-nil : (a : Kinds) → or_else a [] ≡ a
or_else-nil [] = refl
or_else-nil (k ∷ ks) = refl

-- after its name the words are the subcommand's
left : (name : Text) (words : List Text) → fold (walked whole.top.rules (names_of whole)) (stopped name []) words ≡ stopped name words
left name words = sym (walk_stopped whole.top.rules (names_of whole) start name [] words)

pub session_faults : (words : List Text) → fault_of program_app (codes "session" ∷ words) ≡ leaf_faults (codes "session") words
unfolding clap_on_literals
session_faults words =
    ap₂ faults_at (stopped_fault whole.top (names_of whole) start (codes "session", []) words) (left (codes "session") words) ∙ or_else-nil (leaf_faults (codes "session") words)

pub session_rows : (words : List Text) → subcommand_of program_app (codes "session" ∷ words) ≡ Some (rows_at (leaf (codes "session")) words)
unfolding clap_on_literals
session_rows words = ap (λ (w : Walk). entered whole w.stopped) (left (codes "session") words)

pub throughput_faults : (words : List Text) → fault_of program_app (codes "throughput" ∷ words) ≡ leaf_faults (codes "throughput") words
unfolding clap_on_literals
throughput_faults words =
    ap₂ faults_at (stopped_fault whole.top (names_of whole) start (codes "throughput", []) words) (left (codes "throughput") words) ∙ or_else-nil (leaf_faults (codes "throughput") words)

pub throughput_rows : (words : List Text) → subcommand_of program_app (codes "throughput" ∷ words) ≡ Some (rows_at (leaf (codes "throughput")) words)
unfolding clap_on_literals
throughput_rows words = ap (λ (w : Walk). entered whole w.stopped) (left (codes "throughput") words)

pub explain_faults : (words : List Text) → fault_of program_app (codes "explain" ∷ words) ≡ leaf_faults (codes "explain") words
unfolding clap_on_literals
explain_faults words =
    ap₂ faults_at (stopped_fault whole.top (names_of whole) start (codes "explain", []) words) (left (codes "explain") words) ∙ or_else-nil (leaf_faults (codes "explain") words)

pub explain_rows : (words : List Text) → subcommand_of program_app (codes "explain" ∷ words) ≡ Some (rows_at (leaf (codes "explain")) words)
unfolding clap_on_literals
explain_rows words = ap (λ (w : Walk). entered whole w.stopped) (left (codes "explain") words)

pub check_faults : (words : List Text) → fault_of program_app (codes "check" ∷ words) ≡ leaf_faults (codes "check") words
unfolding clap_on_literals
check_faults words =
    ap₂ faults_at (stopped_fault whole.top (names_of whole) start (codes "check", []) words) (left (codes "check") words) ∙ or_else-nil (leaf_faults (codes "check") words)

pub check_rows : (words : List Text) → subcommand_of program_app (codes "check" ∷ words) ≡ Some (rows_at (leaf (codes "check")) words)
unfolding clap_on_literals
check_rows words = ap (λ (w : Walk). entered whole w.stopped) (left (codes "check") words)

pub trial_faults : (words : List Text) → fault_of program_app (codes "trial" ∷ words) ≡ leaf_faults (codes "trial") words
unfolding clap_on_literals
trial_faults words =
    ap₂ faults_at (stopped_fault whole.top (names_of whole) start (codes "trial", []) words) (left (codes "trial") words) ∙ or_else-nil (leaf_faults (codes "trial") words)

pub trial_rows : (words : List Text) → subcommand_of program_app (codes "trial" ∷ words) ≡ Some (rows_at (leaf (codes "trial")) words)
unfolding clap_on_literals
trial_rows words = ap (λ (w : Walk). entered whole w.stopped) (left (codes "trial") words)

-- ---- the arguments are known by their places

pub session_placed : is_placed (leaf (codes "session")).rules ≡ true
session_placed = refl

pub throughput_placed : is_placed (leaf (codes "throughput")).rules ≡ true
throughput_placed = refl

pub explain_placed : is_placed (leaf (codes "explain")).rules ≡ true
explain_placed = refl

pub check_placed : is_placed (leaf (codes "check")).rules ≡ true
check_placed = refl

pub trial_placed : is_placed (leaf (codes "trial")).rules ≡ true
trial_placed = refl

pub top_placed : is_placed whole.top.rules ≡ true
top_placed = refl
