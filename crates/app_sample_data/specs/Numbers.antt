-- The numbers that data is made of.
use Rattle.std.specs.Prelude.{ℕ, ◌≤◌}

-- data is made for each number from 1 to 1000
abbrev pub IsDataNumber : ℕ → Type 0
IsDataNumber number = (1 ≤ number) × (number ≤ 1000)
