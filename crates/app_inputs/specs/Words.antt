-- The words of the command line.
use Rattle.std.specs.Prelude.{ℕ, ◌≤◌, ⊤, List, Option, None, Some, if◌then◌else◌, codes, option_map}
use Rattle.std.specs.Option.{option_and_then}
use Rattle.std.specs.Str.{bytes_eq}
use Rattle.std.specs.Str.Parse.{digits_value, without_leading_plus}
use Rattle.clap.specs.ValueTests.{is_unsigned_in}
use Rattle.clap.specs.Walk.{is_empty}
use Rattle.clap.specs.Words.{Row, Text, fault_of, first_of, subcommand_of}
use Rattle.app_inputs.specs.Subcommands.{program_app}
use Rattle.app_sample_data.specs.Numbers.{IsDataNumber}

-- what the program is asked to do
pub data Command : Type 0 where
  -- the statements of a script over the tables of a folder
  session : (folder script : List ℕ) → Command
  -- the sessions and the refreshes of a job, side by side, over the tables of a folder
  throughput : (folder job : List ℕ) → Command
  -- the plans of a script
  explain : (script : List ℕ) → Command
  -- how many rows the tables of a folder have
  check : (folder : List ℕ) → Command
  -- the job of the made data of a number, from 1 to 1000
  trial : (number : ℕ) → Command

-- `session` with the values of DIR and SCRIPT
abbrev pub session_in : List Row → Option Command
session_in rows =
    option_and_then (λ folder. option_map (session folder) (first_of (codes "SCRIPT") rows))
    (first_of (codes "DIR") rows)

-- `throughput` with the values of DIR and JOB
abbrev pub throughput_in : List Row → Option Command
throughput_in rows =
    option_and_then (λ folder. option_map (throughput folder) (first_of (codes "JOB") rows))
    (first_of (codes "DIR") rows)

-- `explain` with the value of SCRIPT
abbrev pub explain_in : List Row → Option Command
explain_in rows = option_map explain (first_of (codes "SCRIPT") rows)

-- `check` with the value of DIR
abbrev pub check_in : List Row → Option Command
check_in rows = option_map check (first_of (codes "DIR") rows)

-- the number of a trial that a text is: digits, before which a plus may stand, whose number is of 1
-- to 1000
abbrev pub trial_number : Text → Option ℕ
trial_number text =
    if is_unsigned_in 1 1000 text then Some (digits_value 10 (without_leading_plus text)) else None

-- `trial` with the value of N
abbrev pub trial_in : List Row → Option Command
trial_in rows = option_map trial (option_and_then trial_number (first_of (codes "N") rows))

-- the command of a subcommand's name and of what was found for its arguments
abbrev pub command_in : Text × List Row → Option Command
command_in found =
    if bytes_eq found.0 (codes "session") then session_in found.1
    else if bytes_eq found.0 (codes "throughput") then throughput_in found.1
    else if bytes_eq found.0 (codes "explain") then explain_in found.1
    else if bytes_eq found.0 (codes "check") then check_in found.1
    else if bytes_eq found.0 (codes "trial") then trial_in found.1
    else None

-- the command that the words are: the subcommand that clap reads of them, where it finds no fault
-- in them
abbrev pub command_of : List Text → Option Command
command_of words =
    if is_empty (fault_of program_app words)
    then option_and_then command_in (subcommand_of program_app words) else None

-- the number of a trial is from 1 to 1000
abbrev pub IsInRange : Command → Type 0
IsInRange (trial number) = IsDataNumber number
IsInRange other = ⊤

-- the command names files
abbrev pub IsOverFiles : Command → Type 0
IsOverFiles (session dir script) = ⊤
IsOverFiles (throughput dir job) = ⊤
IsOverFiles (explain script) = ⊤
IsOverFiles (check dir) = ⊤
IsOverFiles (trial number) = ⊥

-- the line for words that are no command
abbrev pub usage_line : List ℕ
usage_line = codes
    "usage: tpch session DIR SCRIPT, throughput DIR JOB, explain SCRIPT, check DIR, trial N\n"
