-- The number of a trial that words ask for is in its range.
use Rattle.std.proofs.Common.{◌≡◌, ℕ, ◌≤◌, ◌<◌, ◌^◌, Bool, true, false, cond, ◌&&◌, List, Option, Some, None, refl, ap, subst, ◌∙◌}
use Rattle.std.specs.Prelude.{codes, nat_le, nat_lt, option_map}
use Rattle.std.specs.Option.{option_and_then}
use Rattle.std.specs.Str.{bytes_eq}
use Rattle.std.specs.Str.Parse.{digits_value, without_leading_plus}
use Rattle.std.proofs.lemmas.Bool.{and_parts, leb-true}
use Rattle.clap.specs.ValueTests.{is_numeral, is_unsigned_in}
use Rattle.clap.specs.Walk.{is_empty}
use Rattle.clap.specs.Words.{Row, Text, fault_of, first_of, subcommand_of}
use Rattle.app_inputs.specs.Subcommands.{program_app}
use Rattle.app_inputs.specs.Words.{Command, check_in, command_in, command_of, explain_in, session_in, throughput_in, trial_in, trial_number}
use Rattle.app_inputs.specs.Words.Command.{check, explain, session, throughput, trial}

-- the number is from 1 to 1000
abbrev pub IsTrialNumber : ℕ → Type 0
IsTrialNumber number = (1 ≤ number) × (number ≤ 1000)

no_session : (number : ℕ) (dirs scripts : Option (List ℕ)) → option_and_then (λ folder. option_map (session folder) scripts) dirs ≡ Some (trial number) → ⊥
no_session number None scripts e = cc
no_session number (Some dir) None e = cc
no_session number (Some dir) (Some script) e = cc

no_throughput : (number : ℕ) (dirs jobs : Option (List ℕ)) → option_and_then (λ folder. option_map (throughput folder) jobs) dirs ≡ Some (trial number) → ⊥
no_throughput number None jobs e = cc
no_throughput number (Some dir) None e = cc
no_throughput number (Some dir) (Some job) e = cc

no_explain : (number : ℕ) (scripts : Option (List ℕ)) → option_map explain scripts ≡ Some (trial number) → ⊥
no_explain number None e = cc
no_explain number (Some script) e = cc

no_check : (number : ℕ) (dirs : Option (List ℕ)) → option_map check dirs ≡ Some (trial number) → ⊥
no_check number None e = cc
no_check number (Some dir) e = cc

chosen : (a b c d e : Bool) (rows : List Row) (number : ℕ)
    → cond a (session_in rows) (cond b (throughput_in rows) (cond c (explain_in rows) (cond d (check_in rows) (cond e (trial_in rows) None)))) ≡ Some (trial number)
    → trial_in rows ≡ Some (trial number)
chosen true b c d e rows number h = absurd (no_session number (first_of (codes "DIR") rows) (first_of (codes "SCRIPT") rows) h)
chosen false true c d e rows number h = absurd (no_throughput number (first_of (codes "DIR") rows) (first_of (codes "JOB") rows) h)
chosen false false true d e rows number h = absurd (no_explain number (first_of (codes "SCRIPT") rows) h)
chosen false false false true e rows number h = absurd (no_check number (first_of (codes "DIR") rows) h)
chosen false false false false true rows number h = h
chosen false false false false false rows number h = cc

tested : (a b c d : Bool) → (a && (b && (c && d))) ≡ true → (c ≡ true) × (d ≡ true)
tested a b c d h = and_parts c d (and_parts b (c && d) (and_parts a (b && (c && d)) h).1).1

by_test : (text : Text) (number : ℕ) (fits : Bool) → is_unsigned_in 1 1000 text ≡ fits
    → option_map trial (cond fits (Some (digits_value 10 (without_leading_plus text))) None) ≡ Some (trial number) → IsTrialNumber number
by_test text number false e h = cc
by_test text number true e h =
    let n = digits_value 10 (without_leading_plus text) in
    let parts : (nat_le 1 n ≡ true) × (nat_le n 1000 ≡ true) = tested (is_numeral (without_leading_plus text)) (nat_lt n (2 ^ 64)) (nat_le 1 n) (nat_le n 1000) e in
    let same : n ≡ number = cc in
    subst IsTrialNumber same (leb-true 1 n parts.0, leb-true n 1000 parts.1)

by_value : (text : Option Text) (number : ℕ) → option_map trial (option_and_then trial_number text) ≡ Some (trial number) → IsTrialNumber number
by_value None number h = cc
by_value (Some text) number h = by_test text number (is_unsigned_in 1 1000 text) refl h

by_found : (found : Option (Text × List Row)) (number : ℕ) → option_and_then command_in found ≡ Some (trial number) → IsTrialNumber number
by_found None number h = cc
by_found (Some (name, rows)) number h =
    by_value (first_of (codes "N") rows) number
    (chosen (bytes_eq name (codes "session")) (bytes_eq name (codes "throughput")) (bytes_eq name (codes "explain")) (bytes_eq name (codes "check")) (bytes_eq name (codes "trial")) rows number h)

by_faults : (free : Bool) (found : Option (Text × List Row)) (number : ℕ) → cond free (option_and_then command_in found) None ≡ Some (trial number) → IsTrialNumber number
by_faults true found number h = by_found found number h
by_faults false found number h = cc

pub words_in_range : (words : List Text) (number : ℕ) → command_of words ≡ Some (trial number) → IsTrialNumber number
words_in_range words number h = by_faults (is_empty (fault_of program_app words)) (subcommand_of program_app words) number h
