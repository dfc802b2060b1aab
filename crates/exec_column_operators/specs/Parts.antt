-- Parts of a pattern that stand for themselves.
use Rattle.std.specs.Prelude.{◌≡◌, ℕ, Bool, true, not, ◌&&◌, ◌==◌, List, ◌++◌}
use Rattle.std.specs.List.{list_any}

-- no byte is `%` (37) or `_` (95)
abbrev pub is_plain : List ℕ → Bool
is_plain part =
    not (list_any (λ byte. byte == 37) part) && not (list_any (λ byte. byte == 95) part)

-- such bytes stand one after the other in the pattern
pub record IsPlainPart (pattern part : List ℕ) : Type 0 where
  pub before : List ℕ
  pub after : List ℕ
  pub is : pattern ≡ before ++ (part ++ after)
  pub plain : is_plain part ≡ true
