-- The walk over the words of such a command: it has the faults and the rows of the values that are given.
use Rattle.std.proofs.Common.{◌≡◌, ◌∙◌, ◌||◌, ◌&&◌, ◌==◌, ℕ, List, [], ◌∷◌, Option, None, Some, Bool, true, false, ap, ap₂, cond, option_map, refl}
use Rattle.std.specs.List.{fold}
use Rattle.std.specs.Option.{option_map_or}
use Rattle.std.specs.Str.{bytes_eq}
use Rattle.clap.proofs.WalkLemmas.{both}
use Rattle.clap.specs.Faults.{flag_word_fault, step_fault, turn_fault, walk_fault}
use Rattle.clap.specs.Kinds.{Kinds, or_else}
use Rattle.clap.specs.Lexer.{long_of}
use Rattle.clap.specs.Simple.{Shape}
use Rattle.clap.specs.Walk.{Held, Names, Rule, Text, Walk, arg_by_index, idle, is_empty, is_pending, next_position, positional, positional_held, settled, subcommand_met, takes_several, to_positional, value, walked}
use Rattle.app_inputs.proofs.WordsGiven.{between, flag_refused, found_one, given, held_with, is_flag_word, is_placed, no_flag_is_value, no_flag_passes, not_true, or_else_next, or_else_some, place_after, takes_one, values_fault, values_held}

or_false : (b : Bool) → (b || false) ≡ b
or_false true = refl
or_false false = refl

-- the walk after a value
value_taken : (c : List Rule) (found : Option Rule) (word : Text) (h : Held) (place : ℕ) (is_trailing : Bool) → option_map_or takes_one found true ≡ true
    → to_positional c found word (between h place is_trailing) h ≡ between (held_with c found word h) (place_after found place) is_trailing
value_taken c None word h place is_trailing one = refl
value_taken c (Some a) word h place is_trailing one =
    let (single, last) = both _ _ one in
    let waits = ap (λ (b : Bool). cond b positional idle) (not_true _ single) in
    let trails = ap (λ (b : Bool). is_trailing || b) (not_true _ last) ∙ or_false is_trailing in
    λ i. record { held = positional_held c a word h; waiting = waits i; position = next_position a place; is_trailing = trails i; stopped = None }

-- no flag of a bundle is passed over
held_skip : (c : List Rule) (found : Option Rule) (word : Text) (h : Held) → h.skip ≡ 0 → (held_with c found word h).skip ≡ 0
held_skip c None word h none = none
held_skip c (Some a) word h none = at (is_pending a h.pending && takes_several a)
  where
    at : (b : Bool) → (cond b h (settled c h)).skip ≡ 0
    at true = none
    at false = none

-- what a walk from there on makes of words
pub record Walks (s : Shape) (names : Names) (from : Walk) (words : List Text) (faults : Kinds) (last : Held) : Type 0 where
  pub fault : walk_fault s names from words ≡ faults
  pub held : (fold (walked s.rules names) from words).held ≡ last

-- after `--` each word is a value
pub trailing : (s : Shape) (names : Names) → is_placed s.rules ≡ true → (words : List Text) (h : Held) (place : ℕ)
    → Walks s names (between h place true) words (values_fault s h place words) (values_held s.rules h place words)
unfolding walk_fault walked
trailing s names placed [] h place = record { fault = refl; held = refl }
trailing s names placed (word ∷ words) h place =
    let found = arg_by_index s.rules place in
    let after = value_taken s.rules found word h place true (found_one s.rules (λ a. option_map_or (λ k. k == place) a.index false) placed) in
    let rest = trailing s names placed words (held_with s.rules found word h) (place_after found place) in
    record {
      fault = ap (λ (w : Walk). or_else (step_fault s place h value) (walk_fault s names w words)) after ∙ ap (or_else (step_fault s place h value)) rest.fault;
      held = ap (λ (w : Walk). (fold (walked s.rules names) w words).held) after ∙ rest.held;
    }

-- what the first word makes of the walk, where it names no subcommand
pub dashes_turn : (s : Shape) (names : Names) (word : Text) (h : Held) (place : ℕ) → subcommand_met names idle word ≡ None → bytes_eq word (45 ∷ 45 ∷ []) ≡ true
    → (turn_fault s names (between h place false) word ≡ []) × (walked s.rules names (between h place false) word ≡ between h place true)
unfolding walked
dashes_turn s names word h place none dashes = (rw (none, dashes) refl, rw (none, dashes) refl)

pub flag_turn : (s : Shape) (names : Names) → is_placed s.rules ≡ true → (word : Text) (h : Held) (place : ℕ) → h.skip ≡ 0 → subcommand_met names idle word ≡ None → bytes_eq word (45 ∷ 45 ∷ []) ≡ false
    → is_flag_word word ≡ true → is_empty (turn_fault s names (between h place false) word) ≡ false
flag_turn s names placed word h place skip none dashes flag = rw (none, dashes) (or_else_some (flag_word_fault s.rules s.args_override_self (long_of word) word h) _ (flag_refused s.rules s.args_override_self placed word h skip flag))

pub value_turn : (s : Shape) (names : Names) → is_placed s.rules ≡ true → (word : Text) (h : Held) (place : ℕ) → h.skip ≡ 0 → subcommand_met names idle word ≡ None → bytes_eq word (45 ∷ 45 ∷ []) ≡ false
    → is_flag_word word ≡ false
    → (turn_fault s names (between h place false) word ≡ step_fault s place h value)
    × (walked s.rules names (between h place false) word ≡ between (held_with s.rules (arg_by_index s.rules place) word h) (place_after (arg_by_index s.rules place) place) false)
unfolding walked
value_turn s names placed word h place skip none dashes plain = (
  rw (none, dashes, no_flag_passes s.rules s.args_override_self word h plain, no_flag_is_value s.rules word h skip plain) refl,
  rw (none, dashes, no_flag_is_value s.rules word h skip plain) (value_taken s.rules (arg_by_index s.rules place) word h place false (found_one s.rules (λ a. option_map_or (λ k. k == place) a.index false) placed)),
)

-- the walk from there on has a fault where a flag is given, else it is that of the values
abbrev pub WalksAs : Shape → Held → ℕ → List Text → Option (List Text) → Type 0
WalksAs s h place words None = is_empty (walk_fault s [] (between h place false) words) ≡ false
WalksAs s h place words (Some values) = Walks s [] (between h place false) words (values_fault s h place values) (values_held s.rules h place values)

-- the walk after a value, by the walk over the rest
walks_on : (s : Shape) → is_placed s.rules ≡ true → (word : Text) (words : List Text) (h : Held) (place : ℕ) → h.skip ≡ 0 → bytes_eq word (45 ∷ 45 ∷ []) ≡ false → is_flag_word word ≡ false → (values : Option (List Text))
    → WalksAs s (held_with s.rules (arg_by_index s.rules place) word h) (place_after (arg_by_index s.rules place) place) words values
    → WalksAs s h place (word ∷ words) (option_map (λ values. word ∷ values) values)
unfolding walk_fault
walks_on s placed word words h place skip dashes plain None rest =
    let (fault, after) = value_turn s [] placed word h place skip refl dashes plain in
    or_else_next _ _ (ap (λ (w : Walk). is_empty (walk_fault s [] w words)) after ∙ rest)
walks_on s placed word words h place skip dashes plain (Some values) rest =
    let (fault, after) = value_turn s [] placed word h place skip refl dashes plain in
    record {
      fault = ap₂ (λ (ks : Kinds) (w : Walk). or_else ks (walk_fault s [] w words)) fault after ∙ ap (or_else (step_fault s place h value)) rest.fault;
      held = ap (λ (w : Walk). (fold (walked s.rules []) w words).held) after ∙ rest.held;
    }

-- the walk over words, by their values
pub walks : (s : Shape) → is_placed s.rules ≡ true → (words : List Text) (h : Held) (place : ℕ) → h.skip ≡ 0 → WalksAs s h place words (given words)
unfolding walk_fault
walks s placed [] h place skip = record { fault = refl; held = refl }
walks s placed (word ∷ words) h place skip =
    at (bytes_eq word (45 ∷ 45 ∷ [])) (is_flag_word word) refl refl
    (walks s placed words (held_with s.rules (arg_by_index s.rules place) word h) (place_after (arg_by_index s.rules place) place) (held_skip s.rules (arg_by_index s.rules place) word h skip))
  where
    at : (dashes flag : Bool) → bytes_eq word (45 ∷ 45 ∷ []) ≡ dashes → is_flag_word word ≡ flag
        → WalksAs s (held_with s.rules (arg_by_index s.rules place) word h) (place_after (arg_by_index s.rules place) place) words (given words)
        → WalksAs s h place (word ∷ words) (cond dashes (Some words) (cond flag None (option_map (λ values. word ∷ values) (given words))))
    at true flag is_dashes is_flag rest =
        let (fault, after) = dashes_turn s [] word h place refl is_dashes in
        let last = trailing s [] placed words h place in
        record {
          fault = ap₂ (λ (ks : Kinds) (w : Walk). or_else ks (walk_fault s [] w words)) fault after ∙ last.fault;
          held = ap (λ (w : Walk). (fold (walked s.rules []) w words).held) after ∙ last.held;
        }
    at false true is_dashes is_flag rest = or_else_some _ _ (flag_turn s [] placed word h place skip refl is_dashes is_flag)
    at false false is_dashes is_flag rest = walks_on s placed word words h place skip is_dashes is_flag (given words) rest
