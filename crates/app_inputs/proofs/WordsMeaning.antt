-- What words mean, by the values that are given.
use Rattle.std.proofs.Common.{◌≡◌, ◌∙◌, List, [], ◌∷◌, Option, None, Some, IsSome, Bool, true, false, true≢false, ap, ap₂, codes, cond, refl, sym}
use Rattle.std.specs.Option.{option_and_then}
use Rattle.std.specs.Str.Parse.{digits_value, without_leading_plus}
use Rattle.clap.proofs.OnLiterals.{clap_on_literals}
use Rattle.clap.specs.Faults.{fault_of, level_fault, walk_fault}
use Rattle.clap.specs.Kinds.{Kinds, or_else}
use Rattle.clap.specs.Simple.{Shape, subcommand_of}
use Rattle.clap.specs.ValueTests.{is_unsigned_in}
use Rattle.clap.specs.Walk.{Held, Row, Text, finished, is_empty, nothing_held, rows_after}
use Rattle.app_inputs.proofs.WordsGiven.{given, or_else_some, values_fault, values_held}
use Rattle.app_inputs.proofs.WordsTop.{check_faults, check_placed, check_rows, end_fault, explain_faults, explain_placed, explain_rows, leaf, session_faults, session_placed, session_rows, start, throughput_faults, throughput_placed, throughput_rows, trial_faults, trial_placed, trial_rows}
use Rattle.app_inputs.proofs.WordsWalk.{Walks, WalksAs, walks}
use Rattle.app_inputs.specs.Subcommands.{program_app}
use Rattle.app_inputs.specs.WordLaws.{command_with}
use Rattle.app_inputs.specs.Words.{Command, command_in, command_of}
use Rattle.app_inputs.specs.Words.Command.{trial}

-- the words are that command, and where clap finds no fault they are one
pub record Means (words : List Text) (command : Option Command) : Type 0 where
  pub is : command_of words ≡ command
  pub accepted : fault_of program_app words ≡ [] → IsSome command

pub refused_means : (words : List Text) (command : Option Command) → is_empty (fault_of program_app words) ≡ false → command ≡ None → Means words command
refused_means words command fault none = record {
  is = ap (λ b. cond b (option_and_then command_in (subcommand_of program_app words)) None) fault ∙ sym none;
  accepted = λ empty. absurd (true≢false (sym (ap is_empty empty) ∙ fault));
}

taken_means : (words : List Text) (command : Command) → fault_of program_app words ≡ [] → option_and_then command_in (subcommand_of program_app words) ≡ Some command → Means words (Some command)
taken_means words command none found = record {
  is = ap (λ ks. cond (is_empty ks) (option_and_then command_in (subcommand_of program_app words)) None) none ∙ found;
  accepted = λ empty. refl;
}

-- ---- a subcommand, by its values

-- the faults of a subcommand's words are those of the values
by_values : (s : Shape) (words values : List Text) → Walks s [] start words (values_fault s nothing_held 1 values) (values_held s.rules nothing_held 1 values)
    → level_fault s [] nothing_held words false [] ≡ or_else (values_fault s nothing_held 1 values) (end_fault s (values_held s.rules nothing_held 1 values))
by_values s words values walk = ap₂ (λ (ks : Kinds) (h : Held). or_else ks (end_fault s h)) walk.fault walk.held

-- and so are the rows
rows_by_values : (s : Shape) (words values : List Text) → Walks s [] start words (values_fault s nothing_held 1 values) (values_held s.rules nothing_held 1 values)
    → rows_after s.rules [] words ≡ finished s.rules (values_held s.rules nothing_held 1 values)
rows_by_values s words values walk = ap (finished s.rules) walk.held

session_values : (words values : List Text) → WalksAs (leaf (codes "session")) nothing_held 1 words (Some values) → Means (codes "session" ∷ words) (command_with (codes "session") values)
unfolding clap_on_literals
session_values words [] walk = refused_means _ _ (ap is_empty (session_faults words ∙ by_values (leaf (codes "session")) words [] walk)) refl
session_values words (folder ∷ []) walk = refused_means _ _ (ap is_empty (session_faults words ∙ by_values (leaf (codes "session")) words (folder ∷ []) walk)) refl
session_values words (folder ∷ script ∷ []) walk =
    taken_means _ _ (session_faults words ∙ by_values (leaf (codes "session")) words (folder ∷ script ∷ []) walk)
    (ap (option_and_then command_in) (session_rows words) ∙ ap (λ (rows : List Row). command_in (codes "session", rows)) (rows_by_values (leaf (codes "session")) words (folder ∷ script ∷ []) walk))
session_values words (folder ∷ script ∷ more ∷ others) walk = refused_means _ _ (ap is_empty (session_faults words ∙ by_values (leaf (codes "session")) words (folder ∷ script ∷ more ∷ others) walk)) refl

pub session_means : (words : List Text) → Means (codes "session" ∷ words) (option_and_then (command_with (codes "session")) (given words))
session_means words = by (given words) (walks (leaf (codes "session")) session_placed words nothing_held 1 refl)
  where
    by : (values : Option (List Text)) → WalksAs (leaf (codes "session")) nothing_held 1 words values → Means (codes "session" ∷ words) (option_and_then (command_with (codes "session")) values)
    by None fault = refused_means _ _ (ap is_empty (session_faults words) ∙ or_else_some (walk_fault (leaf (codes "session")) [] start words) _ fault) refl
    by (Some values) walk = session_values words values walk

throughput_values : (words values : List Text) → WalksAs (leaf (codes "throughput")) nothing_held 1 words (Some values) → Means (codes "throughput" ∷ words) (command_with (codes "throughput") values)
unfolding clap_on_literals
throughput_values words [] walk = refused_means _ _ (ap is_empty (throughput_faults words ∙ by_values (leaf (codes "throughput")) words [] walk)) refl
throughput_values words (folder ∷ []) walk = refused_means _ _ (ap is_empty (throughput_faults words ∙ by_values (leaf (codes "throughput")) words (folder ∷ []) walk)) refl
throughput_values words (folder ∷ job ∷ []) walk =
    taken_means _ _ (throughput_faults words ∙ by_values (leaf (codes "throughput")) words (folder ∷ job ∷ []) walk)
    (ap (option_and_then command_in) (throughput_rows words) ∙ ap (λ (rows : List Row). command_in (codes "throughput", rows)) (rows_by_values (leaf (codes "throughput")) words (folder ∷ job ∷ []) walk))
throughput_values words (folder ∷ job ∷ more ∷ others) walk = refused_means _ _ (ap is_empty (throughput_faults words ∙ by_values (leaf (codes "throughput")) words (folder ∷ job ∷ more ∷ others) walk)) refl

pub throughput_means : (words : List Text) → Means (codes "throughput" ∷ words) (option_and_then (command_with (codes "throughput")) (given words))
throughput_means words = by (given words) (walks (leaf (codes "throughput")) throughput_placed words nothing_held 1 refl)
  where
    by : (values : Option (List Text)) → WalksAs (leaf (codes "throughput")) nothing_held 1 words values → Means (codes "throughput" ∷ words) (option_and_then (command_with (codes "throughput")) values)
    by None fault = refused_means _ _ (ap is_empty (throughput_faults words) ∙ or_else_some (walk_fault (leaf (codes "throughput")) [] start words) _ fault) refl
    by (Some values) walk = throughput_values words values walk

explain_values : (words values : List Text) → WalksAs (leaf (codes "explain")) nothing_held 1 words (Some values) → Means (codes "explain" ∷ words) (command_with (codes "explain") values)
unfolding clap_on_literals
explain_values words [] walk = refused_means _ _ (ap is_empty (explain_faults words ∙ by_values (leaf (codes "explain")) words [] walk)) refl
explain_values words (script ∷ []) walk =
    taken_means _ _ (explain_faults words ∙ by_values (leaf (codes "explain")) words (script ∷ []) walk)
    (ap (option_and_then command_in) (explain_rows words) ∙ ap (λ (rows : List Row). command_in (codes "explain", rows)) (rows_by_values (leaf (codes "explain")) words (script ∷ []) walk))
explain_values words (script ∷ more ∷ []) walk = refused_means _ _ (ap is_empty (explain_faults words ∙ by_values (leaf (codes "explain")) words (script ∷ more ∷ []) walk)) refl
explain_values words (script ∷ more ∷ again ∷ others) walk = refused_means _ _ (ap is_empty (explain_faults words ∙ by_values (leaf (codes "explain")) words (script ∷ more ∷ again ∷ others) walk)) refl

pub explain_means : (words : List Text) → Means (codes "explain" ∷ words) (option_and_then (command_with (codes "explain")) (given words))
explain_means words = by (given words) (walks (leaf (codes "explain")) explain_placed words nothing_held 1 refl)
  where
    by : (values : Option (List Text)) → WalksAs (leaf (codes "explain")) nothing_held 1 words values → Means (codes "explain" ∷ words) (option_and_then (command_with (codes "explain")) values)
    by None fault = refused_means _ _ (ap is_empty (explain_faults words) ∙ or_else_some (walk_fault (leaf (codes "explain")) [] start words) _ fault) refl
    by (Some values) walk = explain_values words values walk

check_values : (words values : List Text) → WalksAs (leaf (codes "check")) nothing_held 1 words (Some values) → Means (codes "check" ∷ words) (command_with (codes "check") values)
unfolding clap_on_literals
check_values words [] walk = refused_means _ _ (ap is_empty (check_faults words ∙ by_values (leaf (codes "check")) words [] walk)) refl
check_values words (folder ∷ []) walk =
    taken_means _ _ (check_faults words ∙ by_values (leaf (codes "check")) words (folder ∷ []) walk)
    (ap (option_and_then command_in) (check_rows words) ∙ ap (λ (rows : List Row). command_in (codes "check", rows)) (rows_by_values (leaf (codes "check")) words (folder ∷ []) walk))
check_values words (folder ∷ more ∷ []) walk = refused_means _ _ (ap is_empty (check_faults words ∙ by_values (leaf (codes "check")) words (folder ∷ more ∷ []) walk)) refl
check_values words (folder ∷ more ∷ again ∷ others) walk = refused_means _ _ (ap is_empty (check_faults words ∙ by_values (leaf (codes "check")) words (folder ∷ more ∷ again ∷ others) walk)) refl

pub check_means : (words : List Text) → Means (codes "check" ∷ words) (option_and_then (command_with (codes "check")) (given words))
check_means words = by (given words) (walks (leaf (codes "check")) check_placed words nothing_held 1 refl)
  where
    by : (values : Option (List Text)) → WalksAs (leaf (codes "check")) nothing_held 1 words values → Means (codes "check" ∷ words) (option_and_then (command_with (codes "check")) values)
    by None fault = refused_means _ _ (ap is_empty (check_faults words) ∙ or_else_some (walk_fault (leaf (codes "check")) [] start words) _ fault) refl
    by (Some values) walk = check_values words values walk

trial_values : (words values : List Text) → WalksAs (leaf (codes "trial")) nothing_held 1 words (Some values) → Means (codes "trial" ∷ words) (command_with (codes "trial") values)
unfolding clap_on_literals
trial_values words [] walk = refused_means _ _ (ap is_empty (trial_faults words ∙ by_values (leaf (codes "trial")) words [] walk)) refl
trial_values words (number ∷ []) walk = at (is_unsigned_in 1 1000 number) refl
  where
    at : (fits : Bool) → is_unsigned_in 1 1000 number ≡ fits → Means (codes "trial" ∷ words) (command_with (codes "trial") (number ∷ []))
    at true fits =
        rw fits (taken_means (codes "trial" ∷ words) (trial (digits_value 10 (without_leading_plus number))) (trial_faults words ∙ by_values (leaf (codes "trial")) words (number ∷ []) walk ∙ rw fits refl)
        (ap (option_and_then command_in) (trial_rows words) ∙ ap (λ (rows : List Row). command_in (codes "trial", rows)) (rows_by_values (leaf (codes "trial")) words (number ∷ []) walk) ∙ rw fits refl))
    at false fits = refused_means _ _ (ap is_empty (trial_faults words ∙ by_values (leaf (codes "trial")) words (number ∷ []) walk) ∙ rw fits refl) (rw fits refl)
trial_values words (number ∷ more ∷ []) walk = refused_means _ _ (ap is_empty (trial_faults words ∙ by_values (leaf (codes "trial")) words (number ∷ more ∷ []) walk)) refl
trial_values words (number ∷ more ∷ again ∷ others) walk = refused_means _ _ (ap is_empty (trial_faults words ∙ by_values (leaf (codes "trial")) words (number ∷ more ∷ again ∷ others) walk)) refl

pub trial_means : (words : List Text) → Means (codes "trial" ∷ words) (option_and_then (command_with (codes "trial")) (given words))
trial_means words = by (given words) (walks (leaf (codes "trial")) trial_placed words nothing_held 1 refl)
  where
    by : (values : Option (List Text)) → WalksAs (leaf (codes "trial")) nothing_held 1 words values → Means (codes "trial" ∷ words) (option_and_then (command_with (codes "trial")) values)
    by None fault = refused_means _ _ (ap is_empty (trial_faults words) ∙ or_else_some (walk_fault (leaf (codes "trial")) [] start words) _ fault) refl
    by (Some values) walk = trial_values words values walk
