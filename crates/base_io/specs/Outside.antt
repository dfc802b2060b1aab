-- Files, a sink, and what they count.
use Rattle.std.specs.Prelude.{◌≡◌, ℕ, ◌+◌, ◌-◌, ◌^◌, ◌<◌, ◌≤◌, min, List, [], ◌∷◌, length, take, ⊤}
use Rattle.std.specs.Prelude.{Option, None, Some, if◌then◌else◌, IsSome}
use Rattle.std.specs.Str.{bytes_eq}
use Rattle.std.specs.Io.KnownBytes.{Appends, Consumes, IsAtEnd, Keeps}
use Rattle.base_io.specs.declared.files.Open.{Open}
use Rattle.base_io.specs.declared.files.Open.TheVariants as opening
use Rattle.base_io.specs.declared.files.Got.{Got}
use Rattle.base_io.specs.declared.files.Got.TheVariants as got
use Rattle.base_io.specs.declared.sink.Put.{Put}
use Rattle.base_io.specs.declared.sink.Put.TheVariants as put

-- a count one higher, which stands still at its last value
abbrev pub next_count : ℕ → ℕ
next_count count = min (count + 1) (2 ^ 64 - 1)

-- a count has risen in the call, or stands at its last value
abbrev pub Rose : ℕ → ℕ → Type 0
Rose before now = next_count before ≤ now

-- a count never falls, and where the answer was given it rose
pub record Counts (answered : Type 0) (before now : ℕ) : Type 0 where
  pub later : before ≤ now
  pub rose : answered → Rose before now

-- files with their names, then their bytes
abbrev pub Folder : Type 0
Folder = List (List ℕ × List ℕ)

-- the bytes of the first file of that name
abbrev pub file_of : Folder → List ℕ → Option (List ℕ)
file_of [] name = None
file_of (file ∷ files) name = if bytes_eq file.0 name then Some file.1 else file_of files name

-- where the files are known: opened only where the name is held, with all of its bytes left; absent
-- only where it isn't
abbrev pub Opens : Option Folder → List ℕ → Open → Option (List ℕ) → Type 0
Opens None name answer left = ⊤
Opens (Some folder) name opening.Opened left = IsSome (file_of folder name)
    × (left ≡ file_of folder name)
Opens (Some folder) name opening.Absent left = file_of folder name ≡ None
Opens (Some folder) name opening.Failed left = ⊤

-- the bytes got stand at the piece's front and are gone from what is left; none are got only at the
-- end
abbrev pub Gives : Option (List ℕ) → Option (List ℕ) → Got → List ℕ → Type 0
Gives before now (got.Got n) piece = (n ≤ length piece) × Consumes before now (take n piece)
    × (n ≡ 0 → IsAtEnd now)
Gives before now got.Failed piece = ⊤

-- the bytes taken are the piece's first ones; without them the sink is as it was
abbrev pub Takes : Option (List ℕ) → Option (List ℕ) → Put → List ℕ → Type 0
Takes before now (put.Took n) piece = (n ≤ length piece) × Appends before now (take n piece)
Takes before now put.Failed piece = Keeps before now
Takes before now put.OutOfMemory piece = Keeps before now

-- the answer is a fault: a failure, or no byte taken of some
abbrev pub IsPutFault : Put → List ℕ → Type 0
IsPutFault (put.Took n) piece = (n ≡ 0) × (0 < length piece)
IsPutFault put.Failed piece = ⊤
IsPutFault put.OutOfMemory piece = ⊥

-- a part of the text from its front was taken
abbrev pub AppendsPart : Option (List ℕ) → Option (List ℕ) → List ℕ → Type 0
AppendsPart before now text = (n : ℕ) × Appends before now (take n text)

-- the bytes are all that was left
abbrev pub IsAll : Option (List ℕ) → List ℕ → Type 0
IsAll None bytes = ⊤
IsAll (Some all) bytes = bytes ≡ all

-- more bytes were left than that
abbrev pub IsLonger : Option (List ℕ) → ℕ → Type 0
IsLonger None limit = ⊤
IsLonger (Some all) limit = limit < length all
