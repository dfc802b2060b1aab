-- A journal on a disk.
use Rattle.std.specs.Prelude.{◌≡◌, ◌⊎◌, ℕ, ◌^◌, ◌<◌, ◌≤◌, List, [], ◌∷◌, ◌++◌, length, take, Option}
use Rattle.std.specs.Prelude.{⊤, Bool, true, false}
use Rattle.base_disk.specs.Disk.{Torn, LeavesOnly, Tells, written}
use Rattle.store_journal.specs.declared.fault.JournalFault.{JournalFault}
use Rattle.store_journal.specs.declared.fault.JournalFault.TheVariants as fault
use Rattle.store_journal.specs.declared.journal.Appended.{Appended}
use Rattle.store_journal.specs.declared.journal.Appended.TheVariants as appended
use Rattle.store_journal.specs.Format.{entries, StandsFor, IsBad}

-- The disk holds these payloads for the journal whose closed gate is at `end`: each image that a
-- crash now may leave stands for them, and so does what a read gives, which is one of the images.
pub record Stands (is_payload : List ℕ → Type 0) (may_leave : List ℕ → Type 0)
    (payloads : List (List ℕ)) (end : ℕ) : Type 0 where
  pub place : end ≡ length (entries payloads)
  pub images : (c : List ℕ) → may_leave c → StandsFor is_payload c payloads

-- the file stands for the payloads, with one more or without it
abbrev pub WithOrWithout : (List ℕ → Type 0) → List (List ℕ) → List ℕ → List ℕ → Type 0
WithOrWithout is_payload payloads payload file =
    StandsFor is_payload file payloads ⊎ StandsFor is_payload file (payloads ++ payload ∷ [])

-- the file stands for the payloads and the first ones, at least so many, of those that were tried
-- after them
pub record StandsForSome (is_payload : List ℕ → Type 0) (least : ℕ)
    (payloads tried : List (List ℕ)) (file : List ℕ) : Type 0 where
  pub count : ℕ
  pub enough : least ≤ count
  pub most : count ≤ length tried
  pub stands : StandsFor is_payload file (payloads ++ take count tried)

-- the file is one that might have been left before, or one of those torn in the range
abbrev pub SameOrTorn : (List ℕ → Type 0) → ℕ → ℕ → List ℕ → Type 0
SameOrTorn may_leave at n c = may_leave c ⊎ ((d : List ℕ) × may_leave d × Torn at n d c)

-- a call that only reads: what a read gives stays, and a crash at any moment leaves what it might
-- have left before
pub record OnlyReads {D : Type 0} (reads : D → Option (List ℕ)) (may_leave : D → List ℕ → Type 0)
    (moment : D → ℕ) (left_since : D → ℕ → List ℕ → Type 0) (faults : D → ℕ)
    (old new : D) : Type 0 where
  pub same : reads new ≡ reads old
  pub images : (c : List ℕ) → may_leave new c → may_leave old c
  pub any_moment : LeavesOnly moment left_since old new (may_leave old)
  pub later : faults old ≤ faults new

-- what a read gives after a write
abbrev pub Written : ℕ → List ℕ → List ℕ → List ℕ → Type 0
Written at piece old new = new ≡ written at piece old

-- BadEntry and TooLong are told of a file just where they hold
abbrev pub Refuses : (List ℕ → Type 0) → Option (List ℕ) → JournalFault → Type 0
Refuses is_payload reads fault.Memory = ⊤
Refuses is_payload reads fault.Failed = ⊤
Refuses is_payload reads (fault.BadEntry place) =
    Tells reads (λ file. IsBad is_payload file place × (length file ≤ 2 ^ 60))
Refuses is_payload reads fault.TooLong = Tells reads (λ file. 2 ^ 60 < length file)

-- the answer is Stored
abbrev pub is_stored : Appended → Bool
is_stored appended.Stored = true
is_stored appended.Failed = false
is_stored appended.Shut = false
