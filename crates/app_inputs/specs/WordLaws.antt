-- Which words are a command, in words of their own, and by examples.
use Rattle.std.specs.Prelude.{◌≡◌, ◌↔◌, ◌==◌, Bool, false, List, [], ◌∷◌, Option, None, Some}
use Rattle.std.specs.Prelude.{IsSome, if◌then◌else◌, codes, option_map}
use Rattle.std.specs.List.{All}
use Rattle.std.specs.Option.{option_and_then}
use Rattle.std.specs.Str.{IsUtf8, bytes_eq}
use Rattle.clap.specs.Words.{Text, fault_of}
use Rattle.app_inputs.specs.Subcommands.{program_app}
use Rattle.app_inputs.specs.Words.{Command, command_of, trial_number}
use Rattle.app_inputs.specs.Words.Command.{check, explain, session, throughput, trial}

-- words are a command exactly where clap finds no fault in them
abbrev pub AcceptedLaw : Type 0
AcceptedLaw = (words : List Text) → (fault_of program_app words ≡ []) ↔ IsSome (command_of words)

-- a minus and more after it
abbrev pub is_flag : Text → Bool
is_flag (first ∷ second ∷ rest) = first == 45
is_flag short = false

-- the values among the words after a subcommand's name: the first `--` is left out, what follows it
-- is a value however it begins, and no flag may come before it
abbrev pub values_in : List Text → Option (List Text)
values_in [] = Some []
values_in (word ∷ words) =
    if bytes_eq word (codes "--") then Some words
    else if is_flag word then None
    else option_map (λ values. word ∷ values) (values_in words)

-- `session` with its two values
abbrev pub session_with : List Text → Option Command
session_with (folder ∷ script ∷ []) = Some (session folder script)
session_with values = None

-- `throughput` with its two values
abbrev pub throughput_with : List Text → Option Command
throughput_with (folder ∷ job ∷ []) = Some (throughput folder job)
throughput_with values = None

-- `explain` with its one value
abbrev pub explain_with : List Text → Option Command
explain_with (script ∷ []) = Some (explain script)
explain_with values = None

-- `check` with its one value
abbrev pub check_with : List Text → Option Command
check_with (folder ∷ []) = Some (check folder)
check_with values = None

-- `trial` with its one value, which is a number from 1 to 1000
abbrev pub trial_with : List Text → Option Command
trial_with (number ∷ []) = option_map trial (trial_number number)
trial_with values = None

-- the command of a subcommand's name and of its values
abbrev pub command_with : Text → List Text → Option Command
command_with name values =
    if bytes_eq name (codes "session") then session_with values
    else if bytes_eq name (codes "throughput") then throughput_with values
    else if bytes_eq name (codes "explain") then explain_with values
    else if bytes_eq name (codes "check") then check_with values
    else if bytes_eq name (codes "trial") then trial_with values
    else None

-- the command that the words are, said without clap
abbrev pub command_by_values : List Text → Option Command
command_by_values [] = None
command_by_values (name ∷ words) = option_and_then (command_with name) (values_in words)

-- words of UTF-8 are just that command
abbrev pub ValuesLaw : Type 0
ValuesLaw = (words : List Text) → All IsUtf8 words → command_of words ≡ command_by_values words

-- lists of words that were worked out by hand
pub record WordExamples : Type 0 where
  -- a subcommand with just its values
  pub session_read : command_of (codes "session" ∷ codes "d" ∷ codes "s" ∷ [])
      ≡ Some (session (codes "d") (codes "s"))
  pub check_read : command_of (codes "check" ∷ codes "d" ∷ []) ≡ Some (check (codes "d"))
  pub explain_read : command_of (codes "explain" ∷ codes "s" ∷ []) ≡ Some (explain (codes "s"))
  pub throughput_read : command_of (codes "throughput" ∷ codes "d" ∷ codes "j" ∷ [])
      ≡ Some (throughput (codes "d") (codes "j"))
  pub trial_read : command_of (codes "trial" ∷ codes "10" ∷ []) ≡ Some (trial 10)
  pub no_trial : command_of (codes "trial" ∷ codes "0" ∷ []) ≡ None
  pub trial_too_high : command_of (codes "trial" ∷ codes "1001" ∷ []) ≡ None
  pub trial_of_no_number : command_of (codes "trial" ∷ codes "one" ∷ []) ≡ None
  pub none_given : command_of [] ≡ None
  pub too_few : command_of (codes "session" ∷ codes "d" ∷ []) ≡ None
  pub no_folder : command_of (codes "check" ∷ []) ≡ None
  pub too_many : command_of (codes "check" ∷ codes "d" ∷ codes "s" ∷ []) ≡ None
  pub unknown : command_of (codes "count" ∷ codes "d" ∷ []) ≡ None
  pub empty_folder : command_of (codes "session" ∷ [] ∷ codes "s" ∷ [])
      ≡ Some (session [] (codes "s"))
  -- no help
  pub help : command_of (codes "help" ∷ []) ≡ None
  pub help_flag : command_of (codes "--help" ∷ []) ≡ None
  pub short_help_flag : command_of (codes "check" ∷ codes "d" ∷ codes "-h" ∷ []) ≡ None
  pub help_named : command_of (codes "check" ∷ codes "help" ∷ []) ≡ Some (check (codes "help"))
  -- a flag is refused, a single minus is a value, and so is each word after `--`
  pub flag : command_of (codes "session" ∷ codes "-d" ∷ codes "s" ∷ []) ≡ None
  pub minus : command_of (codes "check" ∷ codes "-" ∷ []) ≡ Some (check (codes "-"))
  pub after_dashes : command_of (codes "session" ∷ codes "--" ∷ codes "-d" ∷ codes "--" ∷ [])
      ≡ Some (session (codes "-d") (codes "--"))
  pub dashes_last : command_of (codes "check" ∷ codes "d" ∷ codes "--" ∷ [])
      ≡ Some (check (codes "d"))
  pub dashes_first : command_of (codes "--" ∷ codes "check" ∷ codes "d" ∷ []) ≡ None
