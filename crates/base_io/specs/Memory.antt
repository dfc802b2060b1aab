-- What the files and the sink in memory hold, and what their calls answer.
use Rattle.std.specs.Prelude.{◌≡◌, ℕ, List, [], drop, length, map, min, slice_get, Option, None}
use Rattle.std.specs.Prelude.{Some, Bool, is_some, if◌then◌else◌, ◌==◌, ◌&&◌, nat_lt, true, false}
use Rattle.std.specs.Prelude.{⊤}
use Rattle.std.specs.List.{list_any}
use Rattle.std.specs.Option.{option_map_or}
use Rattle.std.specs.String.{string_bytes}
use Rattle.base_io.specs.Outside.{Folder, file_of, next_count}
use Rattle.base_io.specs.declared.files.Open.{Open}
use Rattle.base_io.specs.declared.files.Open.TheVariants as opening
use Rattle.base_io.specs.declared.files.Got.{Got}
use Rattle.base_io.specs.declared.files.Got.TheVariants as got
use Rattle.base_io.specs.declared.folder.MemFile.{MemFile}
use Rattle.base_io.specs.declared.folder.MemFolder.{MemFolder}
use Rattle.base_io.specs.declared.folder.Place.{Place}
use Rattle.base_io.specs.declared.sink.Put.{Put}
use Rattle.base_io.specs.declared.sink.Put.TheVariants as put

-- the files with their names and bytes
abbrev pub folder_of : List MemFile → Folder
folder_of files = map (λ f. (string_bytes f.name, f.bytes.items)) files

-- the bytes of the file at that place, none where there is no file
abbrev pub bytes_at : List MemFile → ℕ → List ℕ
bytes_at files i = option_map_or (λ f. f.bytes.items) (slice_get files i) []

-- the bytes of the open file from its place on, none where no file is open
abbrev pub unread_bytes : List MemFile → Option Place → List ℕ
unread_bytes files None = []
unread_bytes files (Some place) = drop place.at (bytes_at files place.index)

-- what is left of the open file, which is known
abbrev pub left_of : List MemFile → Option Place → Option (List ℕ)
left_of files place = Some (unread_bytes files place)

-- the call after n calls is one of those that are to fail
abbrev pub is_failing : List ℕ → ℕ → Bool
is_failing failing calls = list_any (λ k. k == next_count calls) failing

-- a count that rises where something happened
abbrev pub count_after : Bool → ℕ → ℕ
count_after happened count = if happened then next_count count else count

-- the folder has a file of that name
abbrev pub has_file : MemFolder → List ℕ → Bool
has_file folder name = is_some (file_of (folder_of folder.files.items) name)

-- opening finds a file of that name or is absent
abbrev pub open_answer : MemFolder → List ℕ → Open
open_answer folder name = if has_file folder name then opening.Opened else opening.Absent

-- reading gives as many of the unread bytes as there is room for
abbrev pub read_answer : MemFolder → ℕ → Got
read_answer folder room = got.Got (min room (length (unread_bytes folder.files.items folder.place)))

-- at most that many bytes were taken at once
abbrev pub TookOnly : Put → ℕ → Type 0
TookOnly (put.Took n) most = n ≡ most
TookOnly put.Failed most = ⊤
TookOnly put.OutOfMemory most = ⊤

-- nothing was taken, as a fault
abbrev pub is_failed : Put → Bool
is_failed (put.Took n) = false
is_failed put.Failed = true
is_failed put.OutOfMemory = false

-- the answer is a fault: a failure, or no byte taken of some
abbrev pub is_put_fault : Put → List ℕ → Bool
is_put_fault (put.Took n) piece = n == 0 && nat_lt 0 (length piece)
is_put_fault put.Failed piece = true
is_put_fault put.OutOfMemory piece = false
