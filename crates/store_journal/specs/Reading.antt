-- What reading the bytes of a journal answers.
use Rattle.std.specs.Prelude.{ℕ, List, ⊤}
use Rattle.store_journal.specs.declared.fault.ReadError.{ReadError}
use Rattle.store_journal.specs.declared.fault.ReadError.TheVariants.{Memory, Bad}
use Rattle.store_journal.specs.declared.fault.JournalFault.{JournalFault}
use Rattle.store_journal.specs.declared.fault.JournalFault.TheVariants as fault
use Rattle.store_journal.specs.Format.{IsBad}

-- the file is bad at the place that is told
abbrev pub FailsAt : (List ℕ → Type 0) → List ℕ → ReadError → Type 0
FailsAt is_payload file Memory = ⊤
FailsAt is_payload file (Bad place) = IsBad is_payload file place

-- the same as a journal's fault
abbrev pub fault_of : ReadError → JournalFault
fault_of Memory = fault.Memory
fault_of (Bad place) = fault.BadEntry place
