-- What is said of trials.
use Rattle.std.specs.Prelude.{◌≡◌, ◌≤◌, ℕ, List, Option, Some}
use Rattle.clap.specs.Words.{Text}
use Rattle.base_io.specs.Outside.{Folder}
use Rattle.app_run.specs.Journals.{Named}
use Rattle.app_run.specs.Meaning.{IsAccepted}
use Rattle.app_inputs.specs.Words.{command_of}
use Rattle.app_inputs.specs.Words.Command.{trial}

-- what a trial of a number from 1 to 1000 makes is accepted, whatever is known of the files and told
-- of the disk
abbrev pub TrialsAreAccepted : Type 0
TrialsAreAccepted = (number : ℕ) (known : Option Folder) (named : Named)
    → 1 ≤ number → number ≤ 1000 → IsAccepted (Some (trial number)) known named

-- so words that ask for a trial are accepted, whatever is known of the files and told of
-- the disk
abbrev pub TrialWordsAreAccepted : Type 0
TrialWordsAreAccepted = (words : List Text) (number : ℕ) (known : Option Folder) (named : Named)
    → command_of words ≡ Some (trial number) → IsAccepted (command_of words) known named
