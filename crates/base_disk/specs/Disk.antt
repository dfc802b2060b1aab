-- What the calls of a disk do to the file reached, and what a crash may do between two syncs.
use Rattle.std.specs.Prelude.{◌≡◌, ◌⊎◌, ℕ, ◌+◌, ◌-◌, ◌≤◌, min, List, ◌++◌, length, take, drop}
use Rattle.std.specs.Prelude.{replicate, Option, None, Some, ⊤}
use Rattle.base_disk.specs.declared.disk.Size.{Size}
use Rattle.base_disk.specs.declared.disk.Size.TheVariants as sized
use Rattle.base_disk.specs.declared.disk.Got.{Got}
use Rattle.base_disk.specs.declared.disk.Got.TheVariants as got

-- where the file's bytes are known, the fact holds of them
abbrev pub Tells : Option (List ℕ) → (List ℕ → Type 0) → Type 0
Tells None P = ⊤
Tells (Some file) P = P file

-- what a read gives of a name, where that is known
abbrev pub file_named : Option (List ℕ → List ℕ) → List ℕ → Option (List ℕ)
file_named None name = None
file_named (Some files) name = Some (files name)

-- the size is the file's length
abbrev pub Measures : Option (List ℕ) → Size → Type 0
Measures reads (sized.Size n) = Tells reads (λ file. n ≡ length file)
Measures reads sized.Failed = ⊤

-- the bytes got stand at the piece's front; none are got only at or past the end
abbrev pub Gives : Option (List ℕ) → ℕ → Got → List ℕ → Type 0
Gives reads at (got.Got n) piece = (n ≤ length piece)
    × Tells reads (λ file. (take n piece ≡ take n (drop at file))
    × (at + n ≤ length file ⊎ n ≡ 0) × (n ≡ 0 → length file ≤ at))
Gives reads at got.Failed piece = ⊤

-- a file after a write: a gap before the place is zeros
abbrev pub written : ℕ → List ℕ → List ℕ → List ℕ
written at piece file =
    take at file ++ (replicate (at - length file) 0 ++ (piece ++ drop (at + length piece) file))

-- what a read gives after a write, where that is known
abbrev pub written_in : Option (List ℕ) → ℕ → List ℕ → Option (List ℕ)
written_in None at piece = None
written_in (Some file) at piece = Some (written at piece file)

-- after a write of n bytes that a crash cuts short: any bytes in the range and past the old end, the
-- same elsewhere
pub record Torn (at n : ℕ) (old new : List ℕ) : Type 0 where
  pub before : take (min at (length old)) new ≡ take (min at (length old)) old
  pub after : drop (at + n) new ≡ drop (at + n) old
  pub no_shorter : length old ≤ length new

-- each new outcome of a crash is an old outcome after a step
abbrev pub Follows : (List ℕ → List ℕ → Type 0) → (List ℕ → Type 0) → (List ℕ → Type 0) → Type 0
Follows step old new = (c : List ℕ) → new c → (d : List ℕ) × old d × step d c

-- Time goes on: a crash since t may have left what it may have left before, or what it may leave
-- now.
pub record Elapses (before now : ℕ) (past since : ℕ → List ℕ → Type 0)
    (may_leave : List ℕ → Type 0) : Type 0 where
  pub later : before ≤ now
  pub nothing_else : (t : ℕ) (c : List ℕ) → t ≤ before → since t c → past t c ⊎ may_leave c
  pub keeps : (t : ℕ) (c : List ℕ) → t ≤ before → past t c → since t c

-- A crash at any moment since old leaves a file that has P.
pub record LeavesOnly {D : Type 0} (moment : D → ℕ) (left_since : D → ℕ → List ℕ → Type 0)
    (old new : D) (P : List ℕ → Type 0) : Type 0 where
  pub later : moment old ≤ moment new
  pub each : (c : List ℕ) → left_since new (moment old) c → P c
  -- for a run that began earlier
  pub before : (t : ℕ) (c : List ℕ) → t ≤ moment old → left_since new t c → left_since old t c ⊎ P c
  -- what might have been left earlier still counts
  pub keeps : (t : ℕ) (c : List ℕ) → t ≤ moment old → left_since old t c → left_since new t c

-- what isn't known isn't some file
pub not_told : (f : List ℕ) → None ≡ Some f → ⊥
not_told f e = cc
