-- Rows as lists of values, and rows with standings.
use Rattle.std.specs.Prelude.{ℕ, List, [], ◌∷◌, ◌++◌, Bool, true, false, cond, ◌&&◌, ◌||◌, map}
use Rattle.std.specs.Prelude.{drop, min, nat_lt, slice_index_or}
use Rattle.base_row_laws.specs.Ranked.{Ranked, ranked, unknown_rank, true_rank}

module _ {V : Type 0} (same : V → V → Bool) where
  -- rows are identical value by value
  abbrev pub same_row : List V → List V → Bool
  same_row [] [] = true
  same_row [] (y ∷ ys) = false
  same_row (x ∷ xs) [] = false
  same_row (x ∷ xs) (y ∷ ys) = same x y && same_row xs ys

  -- the row r begins with values identical to d
  abbrev pub starts : List V → List V → Bool
  starts [] r = true
  starts (x ∷ d) [] = false
  starts (x ∷ d) (y ∷ r) = same x y && starts d r

  -- the row begins with one of the rows D
  abbrev pub starts_any : List (List V) → List V → Bool
  starts_any [] r = false
  starts_any (d ∷ D) r = starts d r || starts_any D r

-- the values at these columns; a column that isn't there is null
abbrev pub columns : {V : Type 0} → V → List ℕ → List V → List V
columns null cs x = map (λ c. slice_index_or x c null) cs

-- the row t after the values d
abbrev pub after : {V : Type 0} → List V → Ranked V → Ranked V
after d t = ranked (d ++ t.values) t.standing

-- the row without its first n values
abbrev pub strip : {V : Type 0} → ℕ → Ranked V → Ranked V
strip n x = ranked (drop n x.values) x.standing

-- the row at a standing, kept where that is above Unknown
abbrev pub keep : {V : Type 0} → List V → ℕ → List (Ranked V)
keep row standing = cond (nat_lt unknown_rank standing) (ranked row standing ∷ []) []

-- the row at the lesser of its standing and what a condition says of its values
abbrev pub lowered : {V : Type 0} → (List V → ℕ) → Ranked V → Ranked V
lowered c x = ranked x.values (min x.standing (c x.values))

-- a table's rows, at True
abbrev pub scanned : {V : Type 0} → List (List V) → List (Ranked V)
scanned rows = map (λ r. ranked r true_rank) rows

-- the one row of no columns, which FROM begins with
abbrev pub unit_row : {V : Type 0} → List (Ranked V)
unit_row = ranked [] true_rank ∷ []
