-- The program's subcommands as clap is given them. An `App` is what clap reads of a command, and a
-- `Rule` what it reads of an argument.
use Rattle.std.specs.Prelude.{ℕ, List, Some, true, codes}
use Rattle.clap.specs.Simple.{on_top}
use Rattle.clap.specs.declared.builder.value_parser.ValueParser.TheVariants as parser
use Rattle.clap.specs.Words.{App, Rule, new_app, new_rule, with_rule, with_subcommand}

-- an argument that has to be there, and is known by its place among the words
abbrev pub required_argument : List ℕ → Rule
required_argument name = record (new_rule name) { required = true }

-- such an argument that is a number from 1 to 1000
abbrev pub trial_argument : List ℕ → Rule
trial_argument name = record (required_argument name) { parser = Some (parser.Unsigned 1 1000) }

-- `session DIR SCRIPT`
abbrev pub session_app : App
session_app =
    with_rule (with_rule (new_app (codes "session")) (required_argument (codes "DIR")))
    (required_argument (codes "SCRIPT"))

-- `throughput DIR JOB`
abbrev pub throughput_app : App
throughput_app =
    with_rule (with_rule (new_app (codes "throughput")) (required_argument (codes "DIR")))
    (required_argument (codes "JOB"))

-- `explain SCRIPT`
abbrev pub explain_app : App
explain_app = with_rule (new_app (codes "explain")) (required_argument (codes "SCRIPT"))

-- `check DIR`
abbrev pub check_app : App
check_app = with_rule (new_app (codes "check")) (required_argument (codes "DIR"))

-- `trial N`
abbrev pub trial_app : App
trial_app = with_rule (new_app (codes "trial")) (trial_argument (codes "N"))

-- the program, whose words begin with the name of a subcommand
abbrev pub bare_app : App
bare_app = on_top (λ s. record s { no_binary_name = true; subcommand_required = true })
    (new_app (codes "tpch"))

-- the program with its subcommands
abbrev pub program_app : App
program_app =
    with_subcommand
    (with_subcommand
    (with_subcommand
    (with_subcommand
    (with_subcommand bare_app session_app.top) throughput_app.top) explain_app.top) check_app.top)
    trial_app.top
