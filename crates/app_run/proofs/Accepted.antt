-- Inputs are accepted exactly where each of them is good.
use Rattle.std.proofs.Common.{◌≡◌, ℕ, ◌<◌, List, [], ◌∷◌, ap, arith, length, map, refl, slice_index_or, subst, suc, sym, zero, ◌∙◌}
use Rattle.std.specs.declared.result.Result.{Result}
use Rattle.std.specs.declared.result.Result.TheVariants.{Ok, Err}
use Rattle.sql_ast.specs.declared.statement.Statement.{Statement}
use Rattle.store_state.specs.Refresh.{Change}
use Rattle.base_value.specs.declared.value.Value.{Value}
use Rattle.store_state.specs.Lists.{state_of}
use Rattle.base_io.specs.Outside.{Folder}
use Rattle.base_schema.specs.State.{State, table_rows}
use Rattle.base_schema.specs.Tables.{all_tables}
use Rattle.base_schema.specs.declared.table.TableName.{TableName}
use Rattle.base_schema.specs.declared.table.TableName.TheVariants as table
use Rattle.app_run.specs.SessionInputs.{AreInputs, AreSteps, work_of}
use Rattle.app_jobs.specs.Works.{Work}
use Rattle.app_inputs.specs.Inputs.{BadInput, and_then, lists_in, refreshes_in, state_in, table_in}
use Rattle.app_run.specs.Laws.{SessionAcceptedLaw, TablesAcceptedLaw}

-- a table's rows in a folder are that
abbrev pub HasRows : List ℕ → Folder → TableName → List (List Value) → Type 0
HasRows dir folder t rows = table_in dir t folder ≡ Ok rows

-- of tables that were read each has the rows at its place
read_at : (dir : List ℕ) (folder : Folder) (tables : List TableName) (lists : List (List (List Value))) → lists_in dir tables folder ≡ Ok lists → (k : ℕ) → k < length tables → HasRows dir folder (slice_index_or tables k table.Region) (slice_index_or lists k [])
read_at dir folder [] lists e k below = absurd (omega arith)
read_at dir folder (t ∷ ts) lists e k below = at (read_at dir folder ts) (table_in dir t folder) refl (lists_in dir ts folder) refl e k below
  where
    Behind : Type 0
    Behind = (others : List (List (List Value))) → lists_in dir ts folder ≡ Ok others → (k : ℕ) → k < length ts → HasRows dir folder (slice_index_or ts k table.Region) (slice_index_or others k [])

    place : Behind → (rows : List (List Value)) → table_in dir t folder ≡ Ok rows → (others : List (List (List Value))) → lists_in dir ts folder ≡ Ok others
        → (k : ℕ) → k < length (t ∷ ts) → HasRows dir folder (slice_index_or (t ∷ ts) k table.Region) (slice_index_or (rows ∷ others) k [])
    place behind rows is others are zero below = is
    place behind rows is others are (suc k) below = behind others are k (omega arith)

    at : Behind → (first : Result (List (List Value)) BadInput) → table_in dir t folder ≡ first → (further : Result (List (List (List Value))) BadInput) → lists_in dir ts folder ≡ further
        → and_then first (λ rows. and_then further (λ others. Ok (rows ∷ others))) ≡ Ok lists
        → (k : ℕ) → k < length (t ∷ ts) → HasRows dir folder (slice_index_or (t ∷ ts) k table.Region) (slice_index_or lists k [])
    at behind (Ok rows) is (Ok others) are e k below =
        let same : rows ∷ others ≡ lists = cc in
        subst (λ (all : List (List (List Value))). HasRows dir folder (slice_index_or (t ∷ ts) k table.Region) (slice_index_or all k [])) same (place behind rows is others are k below)
    at behind (Ok rows) is (Err first) are e k below = absurd (cc)
    at behind (Err first) is further are e k below = absurd (cc)

-- the same of all eight, which make the state
tables_read : (dir : List ℕ) (folder : Folder) (state : State) → state_in dir folder ≡ Ok state → (t : TableName) → HasRows dir folder t (table_rows state t)
tables_read dir folder state e t = at (lists_in dir all_tables folder) refl e
  where
    each : (lists : List (List (List Value))) → ((k : ℕ) → k < 8 → HasRows dir folder (slice_index_or all_tables k table.Region) (slice_index_or lists k [])) → (t : TableName) → HasRows dir folder t (table_rows (state_of lists) t)
    each lists all table.Region = all 0 (omega arith)
    each lists all table.Nation = all 1 (omega arith)
    each lists all table.Part = all 2 (omega arith)
    each lists all table.Supplier = all 3 (omega arith)
    each lists all table.Partsupp = all 4 (omega arith)
    each lists all table.Customer = all 5 (omega arith)
    each lists all table.Orders = all 6 (omega arith)
    each lists all table.Lineitem = all 7 (omega arith)

    at : (read : Result (List (List (List Value))) BadInput) → lists_in dir all_tables folder ≡ read → and_then read (λ lists. Ok (state_of lists)) ≡ Ok state → HasRows dir folder t (table_rows state t)
    at (Ok lists) is e =
        let same : state_of lists ≡ state = cc in
        subst (λ (s : State). HasRows dir folder t (table_rows s t)) same (each lists (read_at dir folder all_tables lists is) t)
    at (Err first) is e = absurd (cc)

-- tables that are good are read
good_read : (dir : List ℕ) (folder : Folder) (state : State) (tables : List TableName) → ((t : TableName) → HasRows dir folder t (table_rows state t)) → lists_in dir tables folder ≡ Ok (map (table_rows state) tables)
good_read dir folder state [] good = refl
good_read dir folder state (t ∷ ts) good = rw (good t, good_read dir folder state ts good) refl

state_read : (dir : List ℕ) (folder : Folder) (state : State) → ((t : TableName) → HasRows dir folder t (table_rows state t)) → state_in dir folder ≡ Ok state
state_read dir folder state good = ap (λ lists. and_then lists (λ read. Ok (state_of read))) (good_read dir folder state all_tables good)

pub tables_law : TablesAcceptedLaw
tables_law dir folder state = (tables_read dir folder state, state_read dir folder state)

-- a session's inputs, from its script, its tables and its refresh files
work_read : (dir : List ℕ) (folder : Folder) (work : Work) (steps : List Statement) → Ok work ≡ work_of dir folder steps → (steps ≡ work.steps) × (state_in dir folder ≡ Ok work.base) × (refreshes_in dir work.steps folder ≡ Ok work.list)
work_read dir folder work steps e = at (state_in dir folder) refl (refreshes_in dir steps folder) refl e
  where
    at : (tables : Result State BadInput) → state_in dir folder ≡ tables → (changes : Result (List Change) BadInput) → refreshes_in dir steps folder ≡ changes
        → Ok work ≡ and_then tables (λ base. and_then changes (λ list. Ok (record { steps = steps; base = base; list = list }))) → (steps ≡ work.steps) × (state_in dir folder ≡ Ok work.base) × (refreshes_in dir work.steps folder ≡ Ok work.list)
    at (Ok base) is (Ok list) are made =
        let same : work ≡ record { steps = steps; base = base; list = list } = cc in
        let steps_are : steps ≡ work.steps = sym (ap (λ (w : Work). w.steps) same) in
        (steps_are, is ∙ ap Ok (sym (ap (λ (w : Work). w.base) same)), subst (λ (ss : List Statement). refreshes_in dir ss folder ≡ Ok work.list) steps_are (are ∙ ap Ok (sym (ap (λ (w : Work). w.list) same))))
    at (Ok base) is (Err first) are made = absurd (cc)
    at (Err first) is changes are made = absurd (cc)

session_read : (dir script : List ℕ) (folder : Folder) (work : Work) → AreInputs dir script folder (Ok work) → AreSteps folder script (Ok work.steps) × (state_in dir folder ≡ Ok work.base) × (refreshes_in dir work.steps folder ≡ Ok work.list)
session_read dir script folder work (Ok steps, has, made) =
    let read = work_read dir folder work steps made in
    (subst (λ (ss : List Statement). AreSteps folder script (Ok ss)) read.0 has, read.1, read.2)
session_read dir script folder work (Err refused, has, made) = absurd (cc)

session_made : (dir script : List ℕ) (folder : Folder) (work : Work) → AreSteps folder script (Ok work.steps) × (state_in dir folder ≡ Ok work.base) × (refreshes_in dir work.steps folder ≡ Ok work.list) → AreInputs dir script folder (Ok work)
session_made dir script folder work (has, tables, list) = (Ok work.steps, has, rw (tables, list) refl)

pub session_law : SessionAcceptedLaw
session_law dir script folder work = (session_read dir script folder work, session_made dir script folder work)
