-- What the files of a command hold, and which of them is refused first.
use Rattle.std.specs.Prelude.{◌≡◌, ℕ, List, [], ◌∷◌, ◌++◌, length, Option, None, Some}
use Rattle.std.specs.Prelude.{if◌then◌else◌, codes, decimal, nat_lt}
use Rattle.std.specs.List.{flat_map}
use Rattle.std.specs.declared.result.Result.{Result}
use Rattle.std.specs.declared.result.Result.TheVariants.{Ok, Err}
use Rattle.base_refusals.specs.Line.{line_fault_name, line_fault_number}
use Rattle.base_refusals.specs.declared.line.LineRefusal.{LineRefusal}
use Rattle.base_refusals.specs.declared.refresh.Cause.{Cause}
use Rattle.base_refusals.specs.declared.refresh.RefreshFile.{RefreshFile}
use Rattle.base_refusals.specs.declared.refresh.RefreshFile.TheVariants.{Orders, Lineitem, Delete}
use Rattle.app_result_text.specs.Refusal.{file_name, reason_written}
use Rattle.base_refusals.specs.declared.statement.Refusal.TheVariants as refusal
use Rattle.sql_ast.specs.declared.statement.RefreshKind.{RefreshKind}
use Rattle.sql_ast.specs.declared.statement.RefreshKind.TheVariants as refresh
use Rattle.sql_ast.specs.declared.statement.Statement.{Statement}
use Rattle.sql_ast.specs.declared.statement.Statement.TheVariants as statement
use Rattle.sql_parser.specs.Script.{IsReadScript, IsRefusedScript}
use Rattle.sql_parser.specs.declared.fault.ScriptRefusal.{ScriptRefusal}
use Rattle.sql_parser.specs.declared.fault.ScriptRefusal.TheVariants as script
use Rattle.base_value.specs.declared.value.Value.{Value}
use Rattle.store_state.specs.Keys.{order_keys}
use Rattle.store_state.specs.Lists.{state_of}
use Rattle.store_state.specs.Refresh.{Change, DeleteKeys, InsertRows, MalformedFile}
use Rattle.store_file_reader.specs.File.{file_rows, most_bytes}
use Rattle.base_io.specs.Outside.{Folder, file_of}
use Rattle.base_schema.specs.LineForm.{refresh_form, table_form}
use Rattle.base_schema.specs.State.{State}
use Rattle.base_schema.specs.Tables.{all_tables, table_name}
use Rattle.base_schema.specs.declared.table.TableName.{TableName}
use Rattle.app_inputs.specs.ScriptRefusals.{script_refusal_name, script_refusal_number}
use Rattle.app_inputs.specs.declared.input_error.InputFault.{InputFault}
use Rattle.app_inputs.specs.declared.input_error.InputFault.TheVariants as fault
use Rattle.app_job_file.specs.Files.{job_refusal_name, job_refusal_number}
use Rattle.app_job_file.specs.declared.job.Mention.{Mention}
use Rattle.app_job_file.specs.declared.refusal.RefusedLine.{RefusedLine}

-- an input that is refused: its name and why
pub record BadInput : Type 0 where
  pub name : List ℕ
  pub fault : InputFault

-- the most bytes of a script
abbrev pub script_limit : ℕ
script_limit = 1_048_576

-- the bytes of a file, refused where there is none or where they are more than that
abbrev pub bytes_within : ℕ → List ℕ → Option (List ℕ) → Result (List ℕ) BadInput
bytes_within limit name None = Err (record { name = name; fault = fault.Absent })
bytes_within limit name (Some bytes) =
    if nat_lt limit (length bytes)
    then Err (record { name = name; fault = fault.Byte script.TooLong limit }) else Ok bytes

-- the bytes of the file of that name, refused where it is absent or has more bytes than that
abbrev pub file_bytes : ℕ → Folder → List ℕ → Result (List ℕ) BadInput
file_bytes limit folder name = bytes_within limit name (file_of folder name)

-- what is read on from an input, where it isn't refused
abbrev pub and_then : {A B : Type 0} → Result A BadInput → (A → Result B BadInput)
    → Result B BadInput
and_then (Ok read) further = further read
and_then (Err refused) further = Err refused

-- the bytes are these statements, or have that first refusal at its byte
abbrev pub IsRead : List ℕ → List ℕ → Result (List Statement) BadInput → Type 0
IsRead name bytes (Ok statements) = IsReadScript bytes statements
IsRead name bytes (Err refused) = (r : ScriptRefusal) × (place : ℕ) × IsRefusedScript r bytes place
    × (refused ≡ record { name = name; fault = fault.Byte r place })

-- the script of that name: its statements, or why there are none
abbrev pub IsScriptOf : List ℕ → Result (List ℕ) BadInput → Result (List Statement) BadInput
    → Type 0
IsScriptOf name (Ok bytes) read = IsRead name bytes read
IsScriptOf name (Err refused) read = read ≡ Err refused

-- the rows that were read of a table's file, which its first bad line refuses
abbrev pub rows_or_refusal : {A : Type 0} → List ℕ → Result A LineRefusal → Result A BadInput
rows_or_refusal name (Ok rows) = Ok rows
rows_or_refusal name (Err first) = Err (record { name = name; fault = fault.Line first })

-- the rows of a table's file, if it is there
abbrev pub rows_in : TableName → List ℕ → Option (List ℕ) → Result (List (List Value)) BadInput
rows_in table name None = Err (record { name = name; fault = fault.Absent })
rows_in table name (Some bytes) =
    rows_or_refusal name (file_rows (table_form table) most_bytes bytes)

-- the name of a table's file in a folder
abbrev pub table_file : List ℕ → TableName → List ℕ
table_file dir table = dir ++ codes "/" ++ table_name table ++ codes ".tbl"

-- the rows of a table in a folder
abbrev pub table_in : List ℕ → TableName → Folder → Result (List (List Value)) BadInput
table_in dir table folder =
    rows_in table (table_file dir table) (file_of folder (table_file dir table))

-- the rows of each of the tables; the first one that is refused counts
abbrev pub lists_in : List ℕ → List TableName → Folder → Result (List (List (List Value))) BadInput
lists_in dir [] folder = Ok []
lists_in dir (table ∷ tables) folder =
    and_then (table_in dir table folder)
    (λ rows. and_then (lists_in dir tables folder) (λ lists. Ok (rows ∷ lists)))

-- the rows of all eight tables, which are read in the schema's order
abbrev pub state_in : List ℕ → Folder → Result State BadInput
state_in dir folder = and_then (lists_in dir all_tables folder) (λ lists. Ok (state_of lists))

-- the name of a refresh file in a folder
abbrev pub set_file : List ℕ → RefreshFile → ℕ → List ℕ
set_file dir file set = dir ++ codes "/" ++ file_name file set

-- what a refresh file holds, if it is there: its rows, or its first bad line
abbrev pub set_rows : List ℕ → RefreshFile → Option (List ℕ)
    → Result (Result (List (List Value)) LineRefusal) BadInput
set_rows name file None = Err (record { name = name; fault = fault.Absent })
set_rows name file (Some bytes) = Ok (file_rows (refresh_form file) most_bytes bytes)

-- what a refresh file of a folder holds
abbrev pub set_rows_in : List ℕ → RefreshFile → ℕ → Folder
    → Result (Result (List (List Value)) LineRefusal) BadInput
set_rows_in dir file set folder =
    set_rows (set_file dir file set) file (file_of folder (set_file dir file set))

-- an insert of what these files hold; a bad line of the orders comes before one of the lineitems
abbrev pub insert_of : ℕ → Result (List (List Value)) LineRefusal
    → Result (List (List Value)) LineRefusal → Change
insert_of set (Err first) lineitems = MalformedFile Orders set first
insert_of set (Ok orders) (Err first) = MalformedFile Lineitem set first
insert_of set (Ok orders) (Ok lineitems) = InsertRows orders lineitems

-- a delete of what this file holds
abbrev pub delete_of : ℕ → Result (List (List Value)) LineRefusal → Change
delete_of set (Err first) = MalformedFile Delete set first
delete_of set (Ok keys) = DeleteKeys (order_keys keys)

-- a refresh of what its files in a folder hold; the first absent one counts
abbrev pub refresh_in : List ℕ → RefreshKind → ℕ → Folder → Result Change BadInput
refresh_in dir refresh.Insert set folder = and_then (set_rows_in dir Orders set folder) (λ orders.
    and_then (set_rows_in dir Lineitem set folder)
    (λ lineitems. Ok (insert_of set orders lineitems)))
refresh_in dir refresh.Delete set folder =
    and_then (set_rows_in dir Delete set folder) (λ keys. Ok (delete_of set keys))

-- a refresh that a statement names
abbrev pub mention_of : Statement → List Mention
mention_of (statement.Refresh change set) = record { change = change; set = set } ∷ []
mention_of other = []

-- the refreshes that statements name, in their order
abbrev pub mentions_of : List Statement → List Mention
mentions_of steps = flat_map mention_of steps

-- what the files of these refreshes hold, in their order; the first absent one counts
abbrev pub changes_in : List ℕ → List Mention → Folder → Result (List Change) BadInput
changes_in dir [] folder = Ok []
changes_in dir (mention ∷ mentions) folder =
    and_then (refresh_in dir mention.change mention.set folder)
    (λ change. and_then (changes_in dir mentions folder) (λ list. Ok (change ∷ list)))

-- the refreshes of statements
abbrev pub refreshes_in : List ℕ → List Statement → Folder → Result (List Change) BadInput
refreshes_in dir steps folder = changes_in dir (mentions_of steps) folder

-- a line's number, its fault's number and its fault's name
abbrev pub line_text : LineRefusal → List ℕ
line_text first = codes " line " ++ decimal first.line ++ codes " "
    ++ decimal (line_fault_number first.fault) ++ codes " " ++ line_fault_name first.fault
    ++ codes "\n"

-- a script's byte, its refusal's number and its refusal's name
abbrev pub byte_text : ScriptRefusal → ℕ → List ℕ
byte_text refusal place = codes " byte " ++ decimal place ++ codes " "
    ++ decimal (script_refusal_number refusal) ++ codes " " ++ script_refusal_name refusal
    ++ codes "\n"

-- the byte of a refresh in a script of a job
abbrev pub refresh_text : ℕ → List ℕ
refresh_text place = codes " byte " ++ decimal place ++ codes " 9 RefreshHere\n"

-- the line of a job, its refusal's number and its refusal's name
abbrev pub job_line_text : RefusedLine → List ℕ
job_line_text refused =
    codes " line " ++ decimal refused.line ++ codes " "
    ++ decimal (job_refusal_number refused.refusal) ++ codes " "
    ++ job_refusal_name refused.refusal ++ codes "\n"

-- the byte at which a journal is bad
abbrev pub bad_entry_text : ℕ → List ℕ
bad_entry_text place = codes " place " ++ decimal place ++ codes " 1 BadEntry\n"

-- the number of a journal's entry that is refused, and why
abbrev pub refused_entry_text : ℕ → Cause → List ℕ
refused_entry_text number cause = codes " entry " ++ decimal number ++ codes " 2 Refused"
    ++ reason_written (refusal.Refresh cause) ++ codes "\n"

-- why an input is refused, as it is printed after the input's name
abbrev pub fault_text : InputFault → List ℕ
fault_text fault.Absent = codes " absent\n"
fault_text (fault.Byte refusal place) = byte_text refusal place
fault_text (fault.Line first) = line_text first
fault_text (fault.RefreshHere place) = refresh_text place
fault_text (fault.JobLine refused) = job_line_text refused
fault_text (fault.BadEntry place) = bad_entry_text place
fault_text (fault.RefusedEntry number cause) = refused_entry_text number cause
fault_text fault.JournalTooLong = codes " place 1152921504606846976 3 TooLong\n"

-- the line for a refused input
abbrev pub refusal_line : BadInput → List ℕ
refusal_line refused = codes "input refused " ++ refused.name ++ fault_text refused.fault
