use Rattle.std.proofs.Common.{◌∙◌, ap, map, subst, sym, ⊎_elim}
use Rattle.std.specs.Option.{option_and_then}
use Rattle.std.specs.String.{string_bytes}
use Rattle.clap.specs.Kinds.{IsAmong}
use Rattle.clap.specs.Words.{App, fault_of, is_simple, is_simple_and_free, kind_of, subcommand_of}
use Rattle.app_inputs.proofs.WordsRead.{refused, simple, simple_and_free, taken}
use Rattle.app_inputs.specs.Subcommands.{program_app}
use Rattle.app_inputs.specs.Words.{command_in}
use Rattle.app_inputs.proofs.words.read_words.Goals as goal

pub returns-in-Ok-clause-command : goal.returns-in-Ok-clause-command
returns-in-Ok-clause-command c =
    let words = map string_bytes c.args.words.now in
    let is = c.in_ok-program.ensures in
    let none = ap (λ a. fault_of a words) (sym is) ∙ c.in-Ok.ensures.kinds (ap is_simple_and_free is ∙ simple_and_free) in
    let found = (c.in-Ok.ensures.matches (ap is_simple is ∙ simple)).1 ∙ ap (λ a. subcommand_of a words) is in
    c.command_found.ensures.command ∙ ap (option_and_then command_in) found ∙ taken (fault_of program_app words) (subcommand_of program_app words) none

pub returns-clause-command : goal.returns-clause-command
returns-clause-command c =
    let words = map string_bytes c.args.words.now in
    let is = c.in_ok-program.ensures in
    let kind = c.in-Err.ensures.kinds (ap is_simple_and_free is ∙ simple_and_free) in
    ⊎_elim (λ wanted. absurd (c.in_default.not-OutOfMemory (c.kind.ensures ∙ wanted)))
    (λ among. refused (fault_of program_app words) (kind_of c.in-Err.error) (option_and_then command_in (subcommand_of program_app words))
    (subst (λ (a : App). IsAmong (kind_of c.in-Err.error) (fault_of a words)) is among)) kind
