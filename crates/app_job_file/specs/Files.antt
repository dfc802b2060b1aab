-- What a job's file asks for, and its first refusal.
use Rattle.std.specs.Prelude.{◌≡◌, ⊤, ℕ, ◌<◌, ◌≤◌, ◌+◌, List, [], ◌∷◌, ◌++◌, codes, length, nat_lt}
use Rattle.std.specs.Prelude.{◌==◌, ◌||◌, Bool, is_some, nat_le, Option, None, Some, option_map}
use Rattle.std.specs.Prelude.{map, Result, Ok, Err, if◌then◌else◌}
use Rattle.std.specs.List.{list_any}
use Rattle.std.specs.Str.{bytes_eq}
use Rattle.std.specs.String.{string_bytes}
use Rattle.base_schema.specs.Tables.{table_of}
use Rattle.sql_lexer.specs.Names.{name_of}
use Rattle.store_file_reader.specs.File.{cut_lines}
use Rattle.store_file_reader.specs.Line.{line_text}
use Rattle.app_job_file.specs.Lines.{JobLine, line_of}
use Rattle.app_job_file.specs.Lines.JobLine.{BeforeLine, BesideLine, JournalLine, ScriptLine}
use Rattle.app_job_file.specs.Lines.JobLine.{KeepLine}
use Rattle.app_job_file.specs.Lines.JobLine.{SendLine}
use Rattle.app_job_file.specs.declared.job.Job.{Job}
use Rattle.app_job_file.specs.declared.job.Keep.{Keep}
use Rattle.app_job_file.specs.declared.job.Mention.{Mention}
use Rattle.app_job_file.specs.declared.reading.JobFileError.{JobFileError}
use Rattle.app_job_file.specs.declared.reading.JobFileError.TheVariants.{Refused, OutOfMemory}
use Rattle.app_job_file.specs.declared.refusal.JobRefusal.{JobRefusal}
use Rattle.app_job_file.specs.declared.refusal.JobRefusal.TheVariants.{BadLine, LateBefore, TooMany}
use Rattle.app_job_file.specs.declared.refusal.JobRefusal.TheVariants.{NoSession, TooLong}
use Rattle.app_job_file.specs.declared.refusal.JobRefusal.TheVariants.{MixedSenders, BadKeep}
use Rattle.app_job_file.specs.declared.refusal.JobRefusal.TheVariants.{KeepTwice}
use Rattle.app_job_file.specs.declared.refusal.RefusedLine.{RefusedLine}
use Rattle.store_gateway.specs.declared.message.SenderId.{SenderId}

-- the number of a job's refusal
abbrev pub job_refusal_number : JobRefusal → ℕ
job_refusal_number BadLine = 1
job_refusal_number LateBefore = 2
job_refusal_number TooMany = 3
job_refusal_number NoSession = 4
job_refusal_number TooLong = 5
job_refusal_number MixedSenders = 6
job_refusal_number BadKeep = 7
job_refusal_number KeepTwice = 8

-- the name of a job's refusal
abbrev pub job_refusal_name : JobRefusal → List ℕ
job_refusal_name BadLine = codes "BadLine"
job_refusal_name LateBefore = codes "LateBefore"
job_refusal_name TooMany = codes "TooMany"
job_refusal_name NoSession = codes "NoSession"
job_refusal_name TooLong = codes "TooLong"
job_refusal_name MixedSenders = codes "MixedSenders"
job_refusal_name BadKeep = codes "BadKeep"
job_refusal_name KeepTwice = codes "KeepTwice"

-- A kept view of a job: its name, the name of the script that has its query, and its line.
pub record KeepParts : Type 0 where
  pub name : List ℕ
  pub file : List ℕ
  pub line : ℕ

-- the parts of one that was read
abbrev pub keep_parts : Keep → KeepParts
keep_parts keep =
    record { name = keep.name; file = string_bytes keep.file; line = keep.line }

-- What a job is made of: its kept views; the names of the scripts of its sessions; its refreshes, in the order of
-- its lines; how many of these are tried before the sessions; who sends each of the others, or
-- nobody where they are tried in their order; and the name of the file of its journal, if it has one.
pub record JobParts : Type 0 where
  pub keeps : List KeepParts
  pub scripts : List (List ℕ)
  pub refreshes : List Mention
  pub before : ℕ
  pub senders : List SenderId
  pub journal : Option (List ℕ)

-- the parts of a job that was read
abbrev pub parts_of : Job → JobParts
parts_of job = record {
  keeps = map keep_parts job.keeps.items;
  scripts = map string_bytes job.scripts.items;
  refreshes = job.refreshes.items;
  before = job.before;
  senders = job.senders.items;
  journal = option_map string_bytes job.journal;
}

-- the most sessions
abbrev pub most_sessions : ℕ
most_sessions = 64

-- the most refreshes
abbrev pub most_refreshes : ℕ
most_refreshes = 1024

-- the most kept views
abbrev pub most_keeps : ℕ
most_keeps = 16

-- the most bytes
abbrev pub job_limit : ℕ
job_limit = 1_048_576

-- nothing yet
abbrev pub no_parts : JobParts
no_parts = record {
  keeps = [];
  scripts = [];
  refreshes = [];
  before = 0;
  senders = [];
  journal = None;
}

-- one session more, but for the one that is too many
abbrev pub with_script : JobParts → List ℕ → Result JobParts JobRefusal
with_script parts name =
    if nat_lt (length parts.scripts) most_sessions
    then Ok (record parts { scripts = parts.scripts ++ name ∷ [] })
    else Err TooMany

-- a journal, unless there is one
abbrev pub with_journal : JobParts → List ℕ → Result JobParts JobRefusal
with_journal parts name =
    if is_some parts.journal then Err BadLine else Ok (record parts { journal = Some name })

-- a name that a kept view can't have: a table's, or that of one before it
abbrev pub is_taken : JobParts → List ℕ → Bool
is_taken parts name =
    is_some (table_of name) || list_any (λ keep. bytes_eq keep.name name) parts.keeps

-- another kept view would be one too many
abbrev pub has_most_keeps : JobParts → Bool
has_most_keeps parts = nat_le most_keeps (length parts.keeps)

-- One kept view more, in a line of this number, unless its name is none, it is one too many, or its
-- name is taken.
abbrev pub with_name : JobParts → ℕ → Option (List ℕ) → List ℕ → Result JobParts JobRefusal
with_name parts number None file = Err BadLine
with_name parts number (Some name) file =
    if has_most_keeps parts then Err TooMany
    else if is_taken parts name then Err KeepTwice
    else Ok (record parts {
      keeps = parts.keeps ++ record { name = name; file = file; line = number } ∷ [];
    })

-- the same of a line that has these words
abbrev pub with_keep : JobParts → ℕ → List ℕ → List ℕ → Result JobParts JobRefusal
with_keep parts number name file = with_name parts number (name_of name) file

-- another refresh would be one too many
abbrev pub is_full : JobParts → Bool
is_full parts = nat_le most_refreshes (length parts.refreshes)

-- a refresh beside the sessions is sent
abbrev pub has_sent : JobParts → Bool
has_sent parts = nat_lt 0 (length parts.senders)

-- a refresh beside the sessions is sent by nobody
abbrev pub has_unsent : JobParts → Bool
has_unsent parts = nat_lt (parts.before + length parts.senders) (length parts.refreshes)

-- one refresh more before the sessions; none may come after one beside them
abbrev pub with_before : JobParts → Mention → Result JobParts JobRefusal
with_before parts mention =
    if nat_lt parts.before (length parts.refreshes) then Err LateBefore
    else if is_full parts then Err TooMany
    else Ok (record parts {
      refreshes = parts.refreshes ++ mention ∷ [];
      before = parts.before + 1;
    })

-- one refresh more beside the sessions, which nobody sends; none may come after one that is sent
abbrev pub with_beside : JobParts → Mention → Result JobParts JobRefusal
with_beside parts mention =
    if is_full parts then Err TooMany
    else if has_sent parts then Err MixedSenders
    else Ok (record parts { refreshes = parts.refreshes ++ mention ∷ [] })

-- one refresh more beside the sessions, which is sent; none may come after one that nobody sends
abbrev pub with_sent : JobParts → SenderId → Mention → Result JobParts JobRefusal
with_sent parts sender mention =
    if is_full parts then Err TooMany
    else if has_unsent parts then Err MixedSenders
    else Ok (record parts {
      refreshes = parts.refreshes ++ mention ∷ [];
      senders = parts.senders ++ sender ∷ [];
    })

-- what one line more makes, which has this number
abbrev pub with_line : JobParts → ℕ → Option JobLine → Result JobParts JobRefusal
with_line parts number None = Err BadLine
with_line parts number (Some (ScriptLine name)) = with_script parts name
with_line parts number (Some (JournalLine name)) = with_journal parts name
with_line parts number (Some (KeepLine name file)) = with_keep parts number name file
with_line parts number (Some (BeforeLine mention)) = with_before parts mention
with_line parts number (Some (BesideLine mention)) = with_beside parts mention
with_line parts number (Some (SendLine sender mention)) = with_sent parts sender mention

-- the same for the text of a line; an empty one is skipped
abbrev pub with_text : JobParts → ℕ → List ℕ → Result JobParts JobRefusal
with_text parts number [] = Ok parts
with_text parts number (byte ∷ bytes) = with_line parts number (line_of (byte ∷ bytes))

-- why a job is refused, and at which of its lines, from 1, or at line 0 for the whole of it
abbrev pub refused_line : JobRefusal → ℕ → RefusedLine
refused_line refusal line = record { refusal = refusal; line = line }

-- what is read on after one line, or its refusal
abbrev pub after_line : ℕ → Result JobParts JobRefusal → (JobParts → Result JobParts RefusedLine)
    → Result JobParts RefusedLine
after_line number (Ok parts) further = further parts
after_line number (Err refusal) further = Err (refused_line refusal number)

-- what lines make, numbered on; the first bad one is refused
abbrev pub with_lines : ℕ → JobParts → List (List ℕ) → Result JobParts RefusedLine
with_lines number parts [] = Ok parts
with_lines number parts (line ∷ lines) =
    after_line number (with_text parts number (line_text line)) (λ p. with_lines (number + 1) p lines)

-- a job has a session
abbrev pub with_session : Result JobParts RefusedLine → Result JobParts RefusedLine
with_session (Ok parts) =
    if length parts.scripts == 0 then Err (refused_line NoSession 0) else Ok parts
with_session (Err refused) = Err refused

-- the job that bytes say, or their first refusal
abbrev pub job_of : List ℕ → Result JobParts RefusedLine
job_of bytes =
    if nat_lt job_limit (length bytes)
    then Err (refused_line TooLong 0)
    else with_session (with_lines 1 no_parts (cut_lines bytes))

-- a job that was read, or the line for which it is refused; out of memory says nothing
abbrev pub Says : Result JobParts RefusedLine → Result Job JobFileError → Type 0
Says made (Ok job) = made ≡ Ok (parts_of job)
Says made (Err (Refused line)) = made ≡ Err line
Says made (Err OutOfMemory) = ⊤

-- the same for one line more, of that number
abbrev pub Puts : ℕ → Result JobParts JobRefusal → JobParts → Result (Unit {0}) JobFileError
    → Type 0
Puts number made new (Ok done) = made ≡ Ok new
Puts number made new (Err (Refused refused)) =
    (made ≡ Err refused.refusal) × (refused.line ≡ number)
Puts number made new (Err OutOfMemory) = ⊤

-- A job within its limits, with no more refreshes before the sessions than it has. Where some
-- beside them are sent, all beside them are.
pub record IsWithin (job : Job) : Type 0 where
  pub views : length job.keeps.items ≤ most_keeps
  pub few : length job.scripts.items ≤ most_sessions
  pub refreshes : length job.refreshes.items ≤ most_refreshes
  pub places : job.before + length job.senders.items ≤ length job.refreshes.items
  pub all :
      0 < length job.senders.items
      → job.before + length job.senders.items ≡ length job.refreshes.items

-- the same with a session
pub record IsReadable (job : Job) : Type 0 where
  pub some : 0 < length job.scripts.items
  pub within : IsWithin job
