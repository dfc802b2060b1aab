-- The lines of a job's file.
use Rattle.std.specs.Prelude.{ℕ, Bool, ◌&&◌, ◌||◌, not, List, codes, drop, length, nat_eq, nat_lt}
use Rattle.std.specs.Prelude.{◌==◌, ◌+◌, take}
use Rattle.std.specs.Prelude.{Option, None, Some, option_map, if◌then◌else◌}
use Rattle.std.specs.Char.{is_ascii_digit}
use Rattle.std.specs.List.{list_all, position, starts_with}
use Rattle.std.specs.Option.{option_and_then}
use Rattle.std.specs.Str.Parse.{digits_value}
use Rattle.sql_ast.specs.declared.statement.RefreshKind.{RefreshKind}
use Rattle.sql_ast.specs.declared.statement.RefreshKind.TheVariants.{Insert, Delete}
use Rattle.app_job_file.specs.declared.job.Mention.{Mention}
use Rattle.app_job_file.specs.declared.line.Line.{Line}
use Rattle.app_job_file.specs.declared.line.Line.TheVariants.{Session, Journal, Before, Beside}
use Rattle.app_job_file.specs.declared.line.Line.TheVariants.{Send, Keep}
use Rattle.store_gateway.specs.declared.message.SenderId.{SenderId}
use Rattle.store_gateway.specs.declared.message.SenderId.TheVariants.{First, Second}

-- what a line asks for
pub data JobLine : Type 0 where
  -- a session of the script of this name
  ScriptLine : (name : List ℕ) → JobLine
  -- a journal in the file of this name
  JournalLine : (name : List ℕ) → JobLine
  -- a kept view of this name, whose query is in the script of that name
  KeepLine : (name file : List ℕ) → JobLine
  -- a refresh that is tried before the sessions
  BeforeLine : (mention : Mention) → JobLine
  -- a refresh that is tried beside them
  BesideLine : (mention : Mention) → JobLine
  -- a refresh that this sender sends beside them
  SendLine : (sender : SenderId) → (mention : Mention) → JobLine

-- what follows these bytes at a line's front, where they stand there
abbrev pub rest_after : List ℕ → List ℕ → Option (List ℕ)
rest_after front line =
    if starts_with nat_eq line front then Some (drop (length front) line) else None

-- a byte that a word can have: from 0x21 to 0x7E
abbrev pub is_visible : ℕ → Bool
is_visible byte = nat_lt 32 byte && nat_lt byte 127

-- the bytes, where they are a word
abbrev pub word_of : List ℕ → Option (List ℕ)
word_of bytes = if length bytes == 0 || not (list_all is_visible bytes) then None else Some bytes

-- the word that follows these bytes at a line's front
abbrev pub word_after : List ℕ → List ℕ → Option (List ℕ)
word_after front line = option_and_then word_of (rest_after front line)

-- two words
abbrev pub both_words : Option (List ℕ) → Option (List ℕ) → Option (List ℕ × List ℕ)
both_words (Some first) (Some second) = Some (first, second)
both_words (Some first) None = None
both_words None second = None

-- the words before and after a space at that place
abbrev pub words_at : List ℕ → Option ℕ → Option (List ℕ × List ℕ)
words_at bytes None = None
words_at bytes (Some space) =
    both_words (word_of (take space bytes)) (word_of (drop (space + 1) bytes))

-- the two words that bytes are, with a space between them
abbrev pub words_of : List ℕ → Option (List ℕ × List ℕ)
words_of bytes = words_at bytes (position (λ byte. byte == 32) bytes)

-- the two words that follow these bytes at a line's front
abbrev pub words_after : List ℕ → List ℕ → Option (List ℕ × List ℕ)
words_after front line = option_and_then words_of (rest_after front line)

-- the number that one to nine digits write
abbrev pub set_number : List ℕ → Option ℕ
set_number digits =
    if length digits == 0 || nat_lt 9 (length digits) || not (list_all is_ascii_digit digits)
    then None
    else Some (digits_value 10 digits)

-- a refresh of the set of that number
abbrev pub mention : RefreshKind → ℕ → Mention
mention change set = record { change = change; set = set }

-- the refresh of that kind whose number follows these bytes
abbrev pub mention_after : List ℕ → RefreshKind → List ℕ → Option Mention
mention_after front change line =
    option_map (mention change) (option_and_then set_number (rest_after front line))

-- the first of two that is there
abbrev pub or_second : {A : Type 0} → Option A → Option A → Option A
or_second (Some first) second = Some first
or_second None second = second

-- the refresh that bytes write: what it does, and the number of its set
abbrev pub mention_in : List ℕ → Option Mention
mention_in bytes =
    or_second (mention_after (codes "insert ") Insert bytes)
    (mention_after (codes "delete ") Delete bytes)

-- the refresh that follows these bytes at a line's front
abbrev pub refresh_after : List ℕ → List ℕ → Option Mention
refresh_after front line = option_and_then mention_in (rest_after front line)

-- what a line asks for, if it is of one of the forms
abbrev pub line_of : List ℕ → Option JobLine
line_of line =
    or_second (option_map ScriptLine (word_after (codes "session ") line))
    (or_second (option_map JournalLine (word_after (codes "journal ") line))
    (or_second (option_map (λ words. KeepLine words.0 words.1) (words_after (codes "keep ") line))
    (or_second (option_map BeforeLine (refresh_after (codes "before ") line))
    (or_second (option_map BesideLine (refresh_after (codes "beside ") line))
    (or_second (option_map (SendLine First) (refresh_after (codes "send1 ") line))
    (option_map (SendLine Second) (refresh_after (codes "send2 ") line)))))))

-- what a line that was read asks for
abbrev pub line_view : Line → JobLine
line_view (Session name) = ScriptLine name.now
line_view (Journal name) = JournalLine name.now
line_view (Keep name file) = KeepLine name.now file.now
line_view (Before mention) = BeforeLine mention
line_view (Beside mention) = BesideLine mention
line_view (Send sender mention) = SendLine sender mention
