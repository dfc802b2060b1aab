-- Reading a file to its end.
use Rattle.std.specs.Prelude.{◌≡◌, ℕ, ◌≤◌, List, length, take, ⊤}
use Rattle.store_journal.specs.declared.fault.JournalFault.{JournalFault}
use Rattle.store_journal.specs.declared.fault.JournalFault.TheVariants as fault

-- the bytes are the file's first ones
abbrev pub IsFront : List ℕ → List ℕ → Type 0
IsFront bytes file = (length bytes ≤ length file) × (bytes ≡ take (length bytes) file)

-- the fault says nothing of the file
abbrev pub NotRefused : JournalFault → Type 0
NotRefused fault.Memory = ⊤
NotRefused fault.Failed = ⊤
NotRefused (fault.BadEntry place) = ⊥
NotRefused fault.TooLong = ⊥
