-- The program's words are of those whose faults clap states exactly, and a command is read of them where there is none.
use Rattle.std.proofs.Common.{◌≡◌, List, [], ◌∷◌, Option, None, ap, arith, cond, false, ne_eqb, refl, sym, true}
use Rattle.std.specs.Option.{option_and_then}
use Rattle.clap.proofs.OnLiterals.{clap_on_literals}
use Rattle.clap.specs.Faults.{is_simple_and_free}
use Rattle.clap.specs.Kinds.{IsAmong, Kinds}
use Rattle.clap.specs.Walk.{Row, Text, is_empty}
use Rattle.clap.specs.Words.{is_simple}
use Rattle.clap.specs.declared.error.ErrorKind.{ErrorKind}
use Rattle.app_inputs.specs.Subcommands.{program_app}
use Rattle.app_inputs.specs.Words.{Command, command_in}

pub simple : is_simple program_app ≡ true
unfolding clap_on_literals
simple = refl

pub simple_and_free : is_simple_and_free program_app ≡ true
unfolding clap_on_literals
simple_and_free = refl

-- the command that was found is taken where there is no fault
pub taken : (faults : Kinds) (found : Option (Text × List Row)) → faults ≡ [] → option_and_then command_in found ≡ cond (is_empty faults) (option_and_then command_in found) None
taken faults found none = sym (ap (λ ks. cond (is_empty ks) (option_and_then command_in found) None) none)

-- a list with an element is not empty
pub among_some : (kind : ErrorKind) (faults : Kinds) → IsAmong kind faults → is_empty faults ≡ false
among_some kind [] among = absurd among
among_some kind (k ∷ ks) among = ne_eqb _ _ (λ e. omega arith)

-- and none where there is one
pub refused : (faults : Kinds) (kind : ErrorKind) (command : Option Command) → IsAmong kind faults → None ≡ cond (is_empty faults) command None
refused faults kind command among = sym (ap (λ b. cond b command None) (among_some kind faults among))
