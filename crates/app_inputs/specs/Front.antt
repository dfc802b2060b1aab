-- The bytes at the front of a file.
use Rattle.std.specs.Prelude.{◌≡◌, ℕ, ◌≤◌, List, [], ◌++◌, length, ⊤, Option, None, Some}

-- the bytes are those at the front of the text, and all of it where they aren't more than the limit
pub record IsFront (limit : ℕ) (text bytes : List ℕ) : Type 0 where
  pub rest : List ℕ
  pub is : text ≡ bytes ++ rest
  pub whole : length bytes ≤ limit → rest ≡ []

-- the same of what was left of a file, where it is known
abbrev pub IsFrontOf : ℕ → Option (List ℕ) → List ℕ → Type 0
IsFrontOf limit None bytes = ⊤
IsFrontOf limit (Some text) bytes = IsFront limit text bytes
