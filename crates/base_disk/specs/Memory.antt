-- What a disk in memory remembers, and what a crash at each moment may have left of it.
use Rattle.std.specs.Prelude.{◌≡◌, ◌⊎◌, ℕ, ◌≤◌, List, [], ◌∷◌, ◌++◌, length, take, Some}
use Rattle.std.specs.Prelude.{Bool, true, false, not, ◌||◌, if◌then◌else◌}
use Rattle.std.specs.Str.{bytes_eq}
use Rattle.std.proofs.Common.{inl, sym, subst, arith}
use Rattle.std.proofs.lemmas.List.{take_all}
use Rattle.base_disk.specs.Disk.{Torn, written}
use Rattle.base_disk.specs.declared.disk.Synced.{Synced as SyncAnswer}
use Rattle.base_disk.specs.declared.disk.Synced.TheVariants as sync
use Rattle.base_disk.specs.declared.disk.Wrote.{Wrote as WriteAnswer}
use Rattle.base_disk.specs.declared.disk.Wrote.TheVariants as write
use Rattle.base_disk.specs.declared.memory.Call.{Call}
use Rattle.base_disk.specs.declared.memory.Call.TheVariants.{Wrote, Synced}

-- what a read gives, what the last sync kept, and the ranges written since
pub record State : Type 0 where
  pub bytes : List ℕ
  pub firm : List ℕ
  pub writes : List (ℕ × ℕ)

-- these ranges of the file are torn, one after the other
abbrev pub TornBy : List (ℕ × ℕ) → List ℕ → List ℕ → Type 0
TornBy [] old new = new ≡ old
TornBy (w ∷ ws) old new = (d : List ℕ) × Torn w.0 w.1 old d × TornBy ws d new

-- what a crash may leave: what a read gives, or what was kept with each range since torn
abbrev pub IsImage : State → List ℕ → Type 0
IsImage s c = (c ≡ s.bytes) ⊎ TornBy s.writes s.firm c

-- before the first call all bytes are kept
abbrev pub start : List ℕ → State
start bytes = record { bytes = bytes; firm = bytes; writes = [] }

-- the state after a call more
abbrev pub done : State → Call → State
done s (Wrote at piece) = record {
  bytes = written at piece.items s.bytes;
  firm = s.firm;
  writes = s.writes ++ (at, length piece.items) ∷ [];
}
done s Synced = record { bytes = s.bytes; firm = s.bytes; writes = [] }

-- the state after calls
abbrev pub after : State → List Call → State
after s [] = s
after s (call ∷ calls) = after (done s call) calls

-- the state at the last moment
abbrev pub state_now : List ℕ → List Call → State
state_now first calls = after (start first) calls

-- a crash at some moment from the t-th on may have left it
abbrev pub LeftSince : List ℕ → List Call → ℕ → List ℕ → Type 0
LeftSince first calls t c =
    (k : ℕ) × (t ≤ k) × (k ≤ length calls) × IsImage (state_now first (take k calls)) c

-- the one file under its name, and no byte under another
abbrev pub file_only : List ℕ → List ℕ → List ℕ → List ℕ
file_only name bytes asked = if bytes_eq name asked then bytes else []

-- a call that is to fail, or of another name, reaches no file
abbrev pub is_unreached : Bool → List ℕ → List ℕ → Bool
is_unreached failing name asked = failing || not (bytes_eq name asked)

-- the write failed
abbrev pub is_write_failed : WriteAnswer → Bool
is_write_failed write.Wrote = false
is_write_failed write.Failed = true

-- the sync failed
abbrev pub is_sync_failed : SyncAnswer → Bool
is_sync_failed sync.Synced = false
is_sync_failed sync.Failed = true

-- what a read gives is an image
pub mem_reads_image :
    (first : List ℕ) (calls : List Call) (f : List ℕ)
    → Some (state_now first calls).bytes ≡ Some f → IsImage (state_now first calls) f
mem_reads_image first calls f e = inl cc

-- an image now is one since each earlier moment
pub mem_counts_now :
    (first : List ℕ) (calls : List Call) (t : ℕ) (c : List ℕ)
    → t ≤ length calls → IsImage (state_now first calls) c → LeftSince first calls t c
mem_counts_now first calls t c le now =
    let all = take_all (length calls) calls (omega arith) in
    let image = subst (λ (cs : List Call). IsImage (state_now first cs) c) (sym all) now in
    (length calls, le, omega arith, image)

-- what a crash may leave since the last moment is an image now
pub mem_only_now :
    (first : List ℕ) (calls : List Call) (c : List ℕ)
    → LeftSince first calls (length calls) c → IsImage (state_now first calls) c
mem_only_now first calls c left =
    subst (λ (cs : List Call). IsImage (state_now first cs) c) (take_all left.0 calls left.1) left.3
