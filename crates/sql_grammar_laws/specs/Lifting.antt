-- Larger limits: a text of a grammar is one of the grammar with larger limits, and passes none of
-- them.
use Rattle.std.specs.Prelude.{◌≡◌, ℕ, ◌≤◌, List, [], ◌∷◌, length, None}
use Rattle.sql_grammar_laws.specs.Marks.{Mark, tokens}

-- no limit is passed
abbrev pub AllPlain : {T : Type 0} → List (Mark T) → Type 0
AllPlain [] = Unit {0}
AllPlain (m ∷ ms) = (m.passes ≡ None) × AllPlain ms

-- the same tokens and value, in the other grammar and with no limit passed
pub record Lifted {T A : Type 0} (H : List (Mark T) → A → Type 0) (ms : List (Mark T)) (a : A)
    : Type 0 where
  pub marks : List (Mark T)
  pub part : H marks a
  pub text : tokens marks ≡ tokens ms
  pub free : AllPlain marks

-- A text of G of at most n tokens is one of H that passes no limit.
pub record Lifts {T A : Type 0} (n : ℕ) (G H : List (Mark T) → A → Type 0) : Type 0 where
  pub at : (ms : List (Mark T)) (a : A) → G ms a → length (tokens ms) ≤ n → Lifted H ms a
