-- The laws of the words.
use Rattle.std.proofs.Common.{◌≡◌, ◌∙◌, ◌==◌, ◌||◌, ℕ, suc, List, [], ◌∷◌, ◌++◌, Option, None, Some, IsSome, is_some, Bool, true, false, true≢false, ap, ap₂, arith, codes, cond, eqb-true, lit<, ne_eqb, option_map, refl, subst, sym}
use Rattle.std.proofs.lemmas.Slice.Eq.{bytes_eq-Decides}
use Rattle.std.proofs.lemmas.Str.{IsUtf8-past_char, encode_ascii, encodes-chars}
use Rattle.std.specs.List.{All}
use Rattle.std.specs.Option.{option_and_then, option_map_or}
use Rattle.std.specs.Prelude.{encode_utf8_all, slice_get}
use Rattle.std.specs.Str.{IsUtf8, bytes_eq, chars}
use Rattle.clap.proofs.OnLiterals.{clap_on_literals}
use Rattle.clap.specs.Faults.{fault_of, turn_fault, walk_fault}
use Rattle.clap.specs.Kinds.{Kinds, or_else}
use Rattle.clap.specs.Lexer.{long_of_rest, short_of_rest, strip_byte}
use Rattle.clap.specs.Simple.{names_of}
use Rattle.clap.specs.Walk.{Text, Walk, idle, is_empty, nothing_held, subcommand_met}
use Rattle.app_inputs.proofs.WordsGiven.{given, is_flag_word, or_else_some}
use Rattle.app_inputs.proofs.WordsMeaning.{Means, check_means, explain_means, refused_means, session_means, throughput_means, trial_means}
use Rattle.app_inputs.proofs.WordsTop.{faults_at, start, top_placed, whole}
use Rattle.app_inputs.proofs.WordsWalk.{dashes_turn, flag_turn, value_turn}
use Rattle.app_inputs.specs.Subcommands.{program_app}
use Rattle.app_inputs.specs.WordLaws.{AcceptedLaw, ValuesLaw, command_with, is_flag, values_in}
use Rattle.app_inputs.specs.Words.{Command}

-- ---- another first word

help_fault : (words : List Text) → is_empty (fault_of program_app (codes "help" ∷ words)) ≡ false
unfolding clap_on_literals
help_fault words = refl

dashes_fault : (name : Text) (words : List Text) → subcommand_met (names_of whole) idle name ≡ None → bytes_eq name (45 ∷ 45 ∷ []) ≡ true → is_empty (fault_of program_app (name ∷ words)) ≡ false
unfolding clap_on_literals
dashes_fault name [] none dashes =
    let (fault, after) = dashes_turn whole.top (names_of whole) name nothing_held 1 none dashes in
    ap₂ (λ (ks : Kinds) (w : Walk). is_empty (faults_at (or_else ks []) w)) fault after
dashes_fault name (word ∷ words) none dashes =
    let (fault, after) = dashes_turn whole.top (names_of whole) name nothing_held 1 none dashes in
    or_else_some (walk_fault whole.top (names_of whole) start (name ∷ word ∷ words)) _
    (ap₂ (λ (ks : Kinds) (w : Walk). is_empty (or_else ks (walk_fault whole.top (names_of whole) w (word ∷ words)))) fault after)

other_fault : (name : Text) (words : List Text) → subcommand_met (names_of whole) idle name ≡ None → bytes_eq name (45 ∷ 45 ∷ []) ≡ false → is_empty (fault_of program_app (name ∷ words)) ≡ false
unfolding clap_on_literals
other_fault name words none dashes =
    or_else_some (walk_fault whole.top (names_of whole) start (name ∷ words)) _ (or_else_some (turn_fault whole.top (names_of whole) start name) _ (at (is_flag_word name) refl))
  where
    at : (flag : Bool) → is_flag_word name ≡ flag → is_empty (turn_fault whole.top (names_of whole) start name) ≡ false
    at true flag = flag_turn whole.top (names_of whole) top_placed name nothing_held 1 refl none dashes flag
    at false flag = ap is_empty (value_turn whole.top (names_of whole) top_placed name nothing_held 1 refl none dashes flag).0

unknown_fault : (name : Text) (words : List Text) → bytes_eq (codes "session") name ≡ false → bytes_eq (codes "throughput") name ≡ false → bytes_eq (codes "explain") name ≡ false → bytes_eq (codes "check") name ≡ false → bytes_eq (codes "trial") name ≡ false → bytes_eq (codes "help") name ≡ false
    → is_empty (fault_of program_app (name ∷ words)) ≡ false
unknown_fault name words no_session no_throughput no_explain no_check no_trial no_help = at (bytes_eq name (45 ∷ 45 ∷ [])) refl (rw (no_session, no_throughput, no_explain, no_check, no_trial, no_help) refl)
  where
    at : (dashes : Bool) → bytes_eq name (45 ∷ 45 ∷ []) ≡ dashes → subcommand_met (names_of whole) idle name ≡ None → is_empty (fault_of program_app (name ∷ words)) ≡ false
    at true dashes none = dashes_fault name words none dashes
    at false dashes none = other_fault name words none dashes

-- ---- any words

-- the command that the values say, by clap's own test of flags
abbrev by_given : List Text → Option Command
by_given [] = None
by_given (name ∷ words) = option_and_then (command_with name) (given words)

swapped : (a b : Text) → bytes_eq a b ≡ false → bytes_eq b a ≡ false
swapped a b apart = at (bytes_eq b a) refl
  where
    at : (same : Bool) → bytes_eq b a ≡ same → same ≡ false
    at true same = absurd (true≢false (sym ((bytes_eq-Decides a b).1 (sym ((bytes_eq-Decides b a).0 same))) ∙ apart))
    at false same = refl

no_command : (name : Text) → bytes_eq name (codes "session") ≡ false → bytes_eq name (codes "throughput") ≡ false → bytes_eq name (codes "explain") ≡ false → bytes_eq name (codes "check") ≡ false → bytes_eq name (codes "trial") ≡ false → (values : Option (List Text)) → option_and_then (command_with name) values ≡ None
no_command name no_session no_throughput no_explain no_check no_trial None = refl
no_command name no_session no_throughput no_explain no_check no_trial (Some values) = rw (no_session, no_throughput, no_explain, no_check, no_trial) refl

no_words : is_empty (fault_of program_app []) ≡ false
unfolding clap_on_literals
no_words = refl

means : (words : List Text) → Means words (by_given words)
means [] = refused_means [] None no_words refl
means (name ∷ words) = at (bytes_eq (codes "session") name) (bytes_eq (codes "throughput") name) (bytes_eq (codes "explain") name) (bytes_eq (codes "check") name) (bytes_eq (codes "trial") name) (bytes_eq (codes "help") name) refl refl refl refl refl refl
  where
    at : (is_session is_throughput is_explain is_check is_trial is_help : Bool) → bytes_eq (codes "session") name ≡ is_session → bytes_eq (codes "throughput") name ≡ is_throughput → bytes_eq (codes "explain") name ≡ is_explain → bytes_eq (codes "check") name ≡ is_check → bytes_eq (codes "trial") name ≡ is_trial → bytes_eq (codes "help") name ≡ is_help
        → Means (name ∷ words) (option_and_then (command_with name) (given words))
    at true b_throughput b_explain b_check b_trial b_help e_session e_throughput e_explain e_check e_trial e_help =
        let P : Text → Type 0 = λ n. Means (n ∷ words) (option_and_then (command_with n) (given words)) in
        subst P ((bytes_eq-Decides (codes "session") name).0 e_session) (session_means words)
    at false true b_explain b_check b_trial b_help e_session e_throughput e_explain e_check e_trial e_help =
        let P : Text → Type 0 = λ n. Means (n ∷ words) (option_and_then (command_with n) (given words)) in
        subst P ((bytes_eq-Decides (codes "throughput") name).0 e_throughput) (throughput_means words)
    at false false true b_check b_trial b_help e_session e_throughput e_explain e_check e_trial e_help =
        let P : Text → Type 0 = λ n. Means (n ∷ words) (option_and_then (command_with n) (given words)) in
        subst P ((bytes_eq-Decides (codes "explain") name).0 e_explain) (explain_means words)
    at false false false true b_trial b_help e_session e_throughput e_explain e_check e_trial e_help =
        let P : Text → Type 0 = λ n. Means (n ∷ words) (option_and_then (command_with n) (given words)) in
        subst P ((bytes_eq-Decides (codes "check") name).0 e_check) (check_means words)
    at false false false false true b_help e_session e_throughput e_explain e_check e_trial e_help =
        let P : Text → Type 0 = λ n. Means (n ∷ words) (option_and_then (command_with n) (given words)) in
        subst P ((bytes_eq-Decides (codes "trial") name).0 e_trial) (trial_means words)
    at false false false false false true e_session e_throughput e_explain e_check e_trial e_help =
        let P : Text → Type 0 = λ n. Means (n ∷ words) (option_and_then (command_with n) (given words)) in
        subst P ((bytes_eq-Decides (codes "help") name).0 e_help) (refused_means _ _ (help_fault words) (no_command (codes "help") refl refl refl refl refl (given words)))
    at false false false false false false e_session e_throughput e_explain e_check e_trial e_help =
        refused_means _ _ (unknown_fault name words e_session e_throughput e_explain e_check e_trial e_help) (no_command name (swapped (codes "session") name e_session) (swapped (codes "throughput") name e_throughput) (swapped (codes "explain") name e_explain) (swapped (codes "check") name e_check) (swapped (codes "trial") name e_trial) (given words))

no_fault : (faults : Kinds) (command : Option Command) → IsSome (cond (is_empty faults) command None) → faults ≡ []
no_fault [] command some = refl
no_fault (k ∷ ks) command some =
    let full : is_empty (k ∷ ks) ≡ false = ne_eqb _ _ (λ e. omega arith) in
    absurd (true≢false (sym (subst (λ (b : Bool). IsSome (cond b command None)) full some)))

pub accepted_law : AcceptedLaw
accepted_law words = (λ none. subst IsSome (sym (means words).is) ((means words).accepted none), no_fault (fault_of program_app words) _)

-- ---- flags among texts

first_char : (d : ℕ) (ds : List ℕ) → IsUtf8 (45 ∷ d ∷ ds) → is_some (slice_get (chars (d ∷ ds)) 0) ≡ true
first_char d ds utf8 = at (chars (d ∷ ds)) (encodes-chars (d ∷ ds) (IsUtf8-past_char (45 ∷ d ∷ ds) (d ∷ ds) 45 utf8 (sym (ap (λ e. e ++ (d ∷ ds)) (encode_ascii 45 (lit< tt))))))
  where
    at : (cs : List ℕ) → encode_utf8_all cs ≡ d ∷ ds → is_some (slice_get cs 0) ≡ true
    at [] spelled = absurd (cc)
    at (c ∷ cs) spelled = refl

-- after a first byte
abbrev flag_behind : Option Text → Bool
flag_behind rest = is_some (option_and_then long_of_rest (option_and_then (strip_byte 45) rest)) || option_map_or (λ flags. is_some (slice_get (chars flags) 0)) (option_and_then short_of_rest rest) false

same_flag : (word : Text) → IsUtf8 word → bytes_eq word (45 ∷ 45 ∷ []) ≡ false → is_flag word ≡ is_flag_word word
same_flag [] utf8 dashes = refl
same_flag (c ∷ []) utf8 dashes = at (c == 45)
  where
    at : (minus : Bool) → false ≡ flag_behind (cond minus (Some []) None)
    at true = refl
    at false = refl
same_flag (c ∷ d ∷ ds) utf8 dashes = at (c == 45) (d == 45) refl refl
  where
    double : (ds : List ℕ) → bytes_eq (c ∷ d ∷ ds) (45 ∷ 45 ∷ []) ≡ false → (c == 45) ≡ true → (d == 45) ≡ true → true ≡ flag_behind (Some (d ∷ ds))
    double [] dashes c_is d_is =
        absurd (true≢false (sym ((bytes_eq-Decides (c ∷ d ∷ []) (45 ∷ 45 ∷ [])).1 (ap₂ (λ x y. x ∷ y ∷ []) (eqb-true c 45 c_is) (eqb-true d 45 d_is))) ∙ dashes))
    double (e ∷ es) dashes c_is d_is = rw d_is refl

    at : (minus second : Bool) → (c == 45) ≡ minus → (d == 45) ≡ second → minus ≡ flag_behind (cond minus (Some (d ∷ ds)) None)
    at false second c_is d_is = refl
    at true true c_is d_is = double ds dashes c_is d_is
    at true false c_is d_is =
        let P : ℕ → Type 0 = λ x. IsUtf8 (x ∷ d ∷ ds) in
        rw d_is (sym (first_char d ds (subst P (eqb-true c 45 c_is) utf8)))

values_given : (words : List Text) → All IsUtf8 words → values_in words ≡ given words
values_given [] utf8 = refl
values_given (word ∷ words) utf8 = at (bytes_eq word (45 ∷ 45 ∷ [])) refl (utf8 0 word (omega arith)) (values_given words (λ k d below. utf8 (suc k) d (omega arith)))
  where
    at : (dashes : Bool) → bytes_eq word (45 ∷ 45 ∷ []) ≡ dashes → IsUtf8 word → values_in words ≡ given words
        → cond dashes (Some words) (cond (is_flag word) None (option_map (λ values. word ∷ values) (values_in words))) ≡ cond dashes (Some words) (cond (is_flag_word word) None (option_map (λ values. word ∷ values) (given words)))
    at true dashes text rest = refl
    at false dashes text rest = ap₂ (λ flag values. cond flag None (option_map (λ values. word ∷ values) values)) (same_flag word text dashes) rest

pub values_law : ValuesLaw
values_law [] utf8 = (means []).is
values_law (name ∷ words) utf8 = (means (name ∷ words)).is ∙ ap (option_and_then (command_with name)) (sym (values_given words (λ k d below. utf8 (suc k) d (omega arith))))
