-- What clap makes of the words of a command whose arguments are known by their places, and whose one flag is help.
use Rattle.std.proofs.Common.{◌≡◌, ◌∙◌, ◌||◌, ◌&&◌, ℕ, zero, suc, List, [], ◌∷◌, length, Option, None, Some, is_some, not, Bool, true, false, true≢false, ap, arith, cond, ne_eqb, option_map, refl, sym}
use Rattle.std.specs.List.{find, list_all}
use Rattle.std.specs.Option.{option_map_or}
use Rattle.std.specs.Prelude.{slice_get}
use Rattle.std.specs.Str.{bytes_eq, chars}
use Rattle.clap.proofs.FaultLemmas.{fault_ends}
use Rattle.clap.proofs.WalkLemmas.{both, bundle_ends}
use Rattle.clap.specs.Faults.{action_fault, bundle_fault, bundle_step_fault, flag_word_fault, flags_fault, long_fault, option_fault, react_fault, settle_fault, short_fault, step_fault, use_fault}
use Rattle.clap.specs.Facts.{unwrap_or_range}
use Rattle.clap.specs.Kinds.{Kinds, or_else, range_kinds, request_kinds}
use Rattle.clap.specs.Lexer.{long_of, short_of}
use Rattle.clap.specs.Simple.{Shape}
use Rattle.clap.specs.Walk.{Held, Outcome, Row, Rule, Text, Walk, action_of, after_flag, arg_by_index, arg_by_long, arg_by_short, attached_value, has_long, has_short, idle, is_empty, is_multiple, long_or_other, most_values, next_position, plain, positional_held, reacted, settled, short_or_plain, takes_values, value}
use Rattle.clap.specs.declared.builder.ArgAction.{ArgAction}
use Rattle.clap.specs.declared.builder.ArgAction.TheVariants.{Set, Append, SetTrue, SetFalse, Count, Help, HelpShort, HelpLong, Version}
use Rattle.clap.specs.declared.error.ErrorKind.TheVariants as kind

-- ---- the values

-- what is held once the argument takes the value
abbrev pub held_with : List Rule → Option Rule → Text → Held → Held
held_with c None word h = h
held_with c (Some a) word h = positional_held c a word h

-- the place after the argument
abbrev pub place_after : Option Rule → ℕ → ℕ
place_after None place = place
place_after (Some a) place = next_position a place

-- the faults of values, of which the first is for the argument at that place
abbrev pub values_fault : Shape → Held → ℕ → List Text → Kinds
values_fault s h place [] = []
values_fault s h place (word ∷ words) =
    or_else (step_fault s place h value) (values_fault s (held_with s.rules (arg_by_index s.rules place) word h) (place_after (arg_by_index s.rules place) place) words)

-- what is held after these values
abbrev pub values_held : List Rule → Held → ℕ → List Text → Held
values_held c h place [] = h
values_held c h place (word ∷ words) = values_held c (held_with c (arg_by_index c place) word h) (place_after (arg_by_index c place) place) words

-- ---- the words

-- the word is a flag: `--name`, or a minus and characters after it
abbrev pub is_flag_word : Text → Bool
is_flag_word word = is_some (long_of word) || option_map_or (λ flags. is_some (slice_get (chars flags) 0)) (short_of word) false

-- the values among the words, none where a flag comes before the first `--`
abbrev pub given : List Text → Option (List Text)
given [] = Some []
given (word ∷ words) = cond (bytes_eq word (45 ∷ 45 ∷ [])) (Some words) (cond (is_flag_word word) None (option_map (λ values. word ∷ values) (given words)))

-- a flag asks for help or the like
abbrev pub asks : Rule → Bool
asks a = not (takes_values a) && not (is_empty (request_kinds (action_of a)))

-- an argument takes one value
abbrev pub takes_one : Rule → Bool
takes_one a = not (is_multiple a) && not a.trailing_var_arg

-- each argument takes one value at its place, or is a flag that asks
abbrev pub is_placed : List Rule → Bool
is_placed c = list_all (λ a. (is_some a.index || asks a) && takes_one a) c

-- the walk between two words, where nothing waits for a value
abbrev pub between : Held → ℕ → Bool → Walk
between h place is_trailing = record { held = h; waiting = idle; position = place; is_trailing = is_trailing; stopped = None }

-- ---- faults

pub or_else_some : (a b : Kinds) → is_empty a ≡ false → is_empty (or_else a b) ≡ false
or_else_some [] b some = absurd (true≢false some)
or_else_some (k ∷ ks) b some = some

pub or_else_next : (a b : Kinds) → is_empty b ≡ false → is_empty (or_else a b) ≡ false
or_else_next [] b some = some
or_else_next (k ∷ ks) b some = ne_eqb _ _ (λ e. omega arith)

pub not_true : (b : Bool) → not b ≡ true → b ≡ false
not_true true e = absurd (true≢false (sym e))
not_true false e = refl

-- ---- the argument that is found

pub found_flag : (c : List Rule) (answers : Rule → Bool) → is_placed c ≡ true → option_map_or asks (find (λ a. not (is_some a.index) && answers a) c) true ≡ true
found_flag [] answers placed = refl
found_flag (a ∷ rest) answers placed = let (here, there) = both _ _ placed in at (is_some a.index) (answers a) (both _ _ here).0 (found_flag rest answers there)
  where
    at : (is_here is_answer : Bool) → (is_here || asks a) ≡ true → option_map_or asks (find (λ a. not (is_some a.index) && answers a) rest) true ≡ true
        → option_map_or asks (cond (not is_here && is_answer) (Some a) (find (λ a. not (is_some a.index) && answers a) rest)) true ≡ true
    at true is_answer help others = others
    at false true help others = help
    at false false help others = others

pub found_one : (c : List Rule) (answers : Rule → Bool) → is_placed c ≡ true → option_map_or takes_one (find answers c) true ≡ true
found_one [] answers placed = refl
found_one (a ∷ rest) answers placed = let (here, there) = both _ _ placed in at (answers a) (both _ _ here).1 (found_one rest answers there)
  where
    at : (is_answer : Bool) → takes_one a ≡ true → option_map_or takes_one (find answers rest) true ≡ true → option_map_or takes_one (cond is_answer (Some a) (find answers rest)) true ≡ true
    at true one others = one
    at false one others = others

-- ---- a flag is refused

request_refused : (action : ArgAction) (again : Bool) (a : Rule) (rows : List Row) → is_empty (request_kinds action) ≡ false → is_empty (action_fault action again a a.missing rows) ≡ false
request_refused Set again a rows asked = absurd (true≢false asked)
request_refused Append again a rows asked = absurd (true≢false asked)
request_refused SetTrue again a rows asked = absurd (true≢false asked)
request_refused SetFalse again a rows asked = absurd (true≢false asked)
request_refused Count again a rows asked = absurd (true≢false asked)
request_refused Help again a rows asked = asked
request_refused HelpShort again a rows asked = asked
request_refused HelpLong again a rows asked = asked
request_refused Version again a rows asked = asked

react_refused : (c : List Rule) (again : Bool) (a : Rule) (h : Held) → is_empty (request_kinds (action_of a)) ≡ false → is_empty (react_fault c again a [] h) ≡ false
react_refused c again a h asked = or_else_next (settle_fault c again h) (use_fault again a [] (settled c h).rows)
    (or_else_next (range_kinds (unwrap_or_range a.range).start_inclusive (most_values a) 0) (action_fault (action_of a) again a a.missing (settled c h).rows) (request_refused (action_of a) again a (settled c h).rows asked))

long_refused : (c : List Rule) (again : Bool) (found : Option Rule) (v : Option Text) (h : Held) → option_map_or asks found true ≡ true → is_empty (long_fault c again found v h) ≡ false
long_refused c again None v h asked = refl
long_refused c again (Some a) v h asked = let (takes, help) = both _ _ asked in at (takes_values a) v (not_true _ takes) (not_true _ help)
  where
    at : (takes : Bool) (v : Option Text) → takes ≡ false → is_empty (request_kinds (action_of a)) ≡ false
        → is_empty (cond takes (option_fault c again a v h) (cond (is_some v) (kind.TooManyValues ∷ []) (react_fault c again a [] h))) ≡ false
    at true v takes help = absurd (true≢false takes)
    at false None takes help = react_refused c again a h help
    at false (Some text) takes help = refl

short_refused : (c : List Rule) (again : Bool) (found : Option Rule) (rest : Text) (h : Held) (next : Held → Kinds) → option_map_or asks found true ≡ true → is_empty (short_fault c again found rest h next) ≡ false
short_refused c again None rest h next asked = refl
short_refused c again (Some a) rest h next asked = let (takes, help) = both _ _ asked in at (takes_values a) (not_true _ takes) (not_true _ help)
  where
    at : (takes : Bool) → takes ≡ false → is_empty (request_kinds (action_of a)) ≡ false
        → is_empty (cond takes (option_fault c again a (attached_value rest) h) (or_else (react_fault c again a [] h) (next (reacted c a [] h)))) ≡ false
    at true takes help = absurd (true≢false takes)
    at false takes help = or_else_some (react_fault c again a [] h) _ (react_refused c again a h help)

step_refused : (c : List Rule) (again : Bool) → is_placed c ≡ true → (first : Option ℕ) (flags : Text) (skip : ℕ) (h : Held) (next : Text → ℕ → Held → Kinds) → is_some first ≡ true → skip ≡ 0
    → is_empty (bundle_step_fault c again first flags skip h next) ≡ false
step_refused c again placed None flags skip h next first none = absurd (true≢false (sym first))
step_refused c again placed (Some x) flags (suc skip) h next first none = absurd (omega arith)
step_refused c again placed (Some x) flags zero h next first none = short_refused c again (arg_by_short c x) _ h _ (found_flag c (λ a. has_short a x) placed)

bundle_refused : (c : List Rule) (again : Bool) → is_placed c ≡ true → (flags : Text) (h : Held) → h.skip ≡ 0 → is_some (slice_get (chars flags) 0) ≡ true → is_empty (bundle_fault c again flags h) ≡ false
unfolding flags_fault chars
bundle_refused c again placed [] h none first = absurd (true≢false (sym first))
bundle_refused c again placed (x ∷ xs) h none first = step_refused c again placed (slice_get (chars (x ∷ xs)) 0) (x ∷ xs) h.skip (record h { skip = 0 }) _ first none

pub flag_refused : (c : List Rule) (again : Bool) → is_placed c ≡ true → (word : Text) (h : Held) → h.skip ≡ 0 → is_flag_word word ≡ true → is_empty (flag_word_fault c again (long_of word) word h) ≡ false
flag_refused c again placed word h none flag = by_long (long_of word) flag
  where
    by_short : (flags : Option Text) → option_map_or (λ flags. is_some (slice_get (chars flags) 0)) flags false ≡ true → is_empty (option_map_or (λ flags. bundle_fault c again flags h) flags []) ≡ false
    by_short None flag = absurd (true≢false (sym flag))
    by_short (Some flags) flag = bundle_refused c again placed flags h none flag

    by_long : (long : Option (Text × Option Text)) → (is_some long || option_map_or (λ flags. is_some (slice_get (chars flags) 0)) (short_of word) false) ≡ true → is_empty (flag_word_fault c again long word h) ≡ false
    by_long (Some p) flag = long_refused c again (arg_by_long c p.0) p.1 h (found_flag c (λ a. has_long a p.0) placed)
    by_long None flag = by_short (short_of word) flag

-- ---- another word is a value

no_first : (first : Option ℕ) → is_some first ≡ false → None ≡ first
no_first None none = refl
no_first (Some x) none = absurd (true≢false none)

pub no_flag_passes : (c : List Rule) (again : Bool) (word : Text) (h : Held) → is_flag_word word ≡ false → flag_word_fault c again (long_of word) word h ≡ []
no_flag_passes c again word h plain_word = by_long (long_of word) plain_word
  where
    by_short : (flags : Option Text) → option_map_or (λ flags. is_some (slice_get (chars flags) 0)) flags false ≡ false → option_map_or (λ flags. bundle_fault c again flags h) flags [] ≡ []
    by_short None none = refl
    by_short (Some flags) none = sym (fault_ends c again (length flags) flags h.skip (record h { skip = 0 }) (no_first _ none))

    by_long : (long : Option (Text × Option Text)) → (is_some long || option_map_or (λ flags. is_some (slice_get (chars flags) 0)) (short_of word) false) ≡ false → flag_word_fault c again long word h ≡ []
    by_long (Some p) none = absurd (true≢false none)
    by_long None none = by_short (short_of word) none

pub no_flag_is_value : (c : List Rule) (word : Text) (h : Held) → h.skip ≡ 0 → is_flag_word word ≡ false → long_or_other c idle word (long_of word) h ≡ (h, value)
no_flag_is_value c word h zero_skip plain_word = by_long (long_of word) plain_word
  where
    by_short : (flags : Option Text) → option_map_or (λ flags. is_some (slice_get (chars flags) 0)) flags false ≡ false → short_or_plain c idle word flags h ≡ (h, value)
    by_short None none = refl
    by_short (Some flags) none =
        ap (λ (met : Held × Outcome). after_flag c idle word met.0 met.1) (sym (bundle_ends c (length flags) flags h.skip plain (record h { skip = 0 }) (no_first _ none)))
        ∙ ap (λ (n : ℕ). (record h { skip = n }, value)) (sym zero_skip)

    by_long : (long : Option (Text × Option Text)) → (is_some long || option_map_or (λ flags. is_some (slice_get (chars flags) 0)) (short_of word) false) ≡ false → long_or_other c idle word long h ≡ (h, value)
    by_long (Some p) none = absurd (true≢false none)
    by_long None none = by_short (short_of word) none
