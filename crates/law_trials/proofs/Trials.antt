-- What a trial makes is accepted.
use Rattle.std.proofs.Common.{◌≡◌, ℕ, ◌≤◌, Bool, true, false, List, [], ◌∷◌, ◌++◌, map, Option, Some, None, refl, ap, sym, subst, ◌∙◌, cond}
use Rattle.std.specs.Prelude.{codes}
use Rattle.std.specs.Fmt.{digits}
use Rattle.std.specs.List.{list_any}
use Rattle.std.specs.Str.{bytes_eq}
use Rattle.std.specs.declared.result.Result.{Result}
use Rattle.std.specs.declared.result.Result.TheVariants.{Ok, Err}
use Rattle.app_job_file.specs.Files.{JobParts, job_of}
use Rattle.app_job_file.specs.declared.job.Mention.{Mention}
use Rattle.sql_ast.specs.declared.statement.RefreshKind.TheVariants as refresh
use Rattle.sql_ast.specs.declared.statement.Statement.{Statement}
use Rattle.sql_binder_steps.specs.declared.view.View.{View}
use Rattle.base_value.specs.declared.value.Value.{Value}
use Rattle.store_state.specs.Lists.{state_of}
use Rattle.store_state.specs.Refresh.{Change}
use Rattle.store_file_reader.specs.File.{file_rows, most_bytes}
use Rattle.base_io.specs.Outside.{Folder, file_of}
use Rattle.base_schema.specs.LineForm.{table_form}
use Rattle.base_schema.specs.State.{State}
use Rattle.base_schema.specs.Tables.{all_tables}
use Rattle.base_schema.specs.declared.table.TableName.{TableName}
use Rattle.app_sample_data.specs.Texts.{lasting, made, ordered, refresh_set}
use Rattle.law_made_tables.specs.Laws.{file_name}
use Rattle.law_made_tables.proofs.Files.{made_tables_give_rows}
use Rattle.app_inputs.specs.Inputs.{BadInput, IsScriptOf, and_then, changes_in, file_bytes, lists_in, rows_in, script_limit, state_in, table_file, table_in}
use Rattle.app_run.specs.JobKeeps.{AreKeeps, Follows}
use Rattle.app_run.specs.JobInputs.{AreFilesBehind, AreJobInputs, AreJobScripts, HasNoRefresh, IsJobScript, IsPlain, JobWork, is_refresh, job_base, job_work}
use Rattle.app_inputs.specs.JobFile.{job_in, job_or_refusal}
use Rattle.app_run.specs.Trial.{IsTrialAccepted, in_made, trial_files, trial_job, trial_queries}
use Rattle.app_run.specs.Meaning.{IsAccepted}
use Rattle.law_trials.specs.Laws.{TrialWordsAreAccepted, TrialsAreAccepted}
use Rattle.law_trials.proofs.Expanded.{runs_expanded}
use Rattle.law_trials.proofs.Ranges.{words_in_range}
use Rattle.law_trials.proofs.Runs.{runs_read}

-- a refresh of the first set
abbrev first_insert : Mention
first_insert = record { change = refresh.Insert; set = 1 }

abbrev first_delete : Mention
first_delete = record { change = refresh.Delete; set = 1 }

-- the job of the trial
abbrev parts : JobParts
parts = record {
  keeps = [];
  scripts = codes "queries" ∷ codes "queries" ∷ [];
  refreshes = first_insert ∷ first_delete ∷ [];
  before = 2;
  senders = [];
  journal = None;
}

job_read : job_of trial_job ≡ Ok parts
job_read = refl

job_held : (number : ℕ) → job_in (codes "job") (file_of (trial_files number) (codes "job")) ≡ Ok parts
job_held number = ap (job_or_refusal (codes "job")) job_read

-- its script

script_held : (number : ℕ) → file_bytes script_limit (trial_files number) (codes "queries") ≡ Ok trial_queries
script_held number = refl

record HasScript (number : ℕ) : Type 0 where
  steps : List Statement
  is : IsJobScript (trial_files number) (codes "queries") (Ok steps)

script_read : (number : ℕ) → HasScript number
script_read number =
    let read = runs_read in
    let expanded = runs_expanded read.runs read.are in
    let held = sym (script_held number) in
    record {
      steps = expanded.steps;
      is = (
        Ok expanded.steps,
        (Ok read.runs, subst (λ r. IsScriptOf (codes "queries") r (Ok read.runs)) held read.read, expanded.expand),
        subst (λ r. IsPlain (codes "queries") r (Ok expanded.steps) (Ok expanded.steps)) held
            (subst (λ b. HasNoRefresh (codes "queries") trial_queries b expanded.steps (Ok expanded.steps)) (sym expanded.plain) refl),
      );
    }

scripts_read : (number : ℕ) (s : HasScript number) → AreJobScripts (trial_files number) (codes "queries" ∷ codes "queries" ∷ []) (Ok (s.steps ∷ s.steps ∷ []))
scripts_read number s = (Ok s.steps, s.is, (Ok (s.steps ∷ []), (Ok s.steps, s.is, (Ok [], refl, refl)), refl))

-- its tables

within : (files : Folder) (name : List ℕ) → file_of (map in_made files) (codes "made/" ++ name) ≡ file_of files name
within [] name = refl
within (file ∷ files) name = ap (λ o. cond (bytes_eq file.0 name) (Some file.1) o) (within files name)

named : (table : TableName) → table_file (codes "made") table ≡ codes "made/" ++ file_name table
named table = refl

table_held : (number : ℕ) (table : TableName) (text : List ℕ) → file_of (made number) (file_name table) ≡ Some text → file_of (trial_files number) (table_file (codes "made") table) ≡ Some text
table_held number table text e = within (made number) (file_name table) ∙ e

record HasRows (number : ℕ) (table : TableName) : Type 0 where
  rows : List (List Value)
  is : table_in (codes "made") table (trial_files number) ≡ Ok rows

table_read : (number : ℕ) (table : TableName) → 1 ≤ number → number ≤ 1000 → HasRows number table
table_read number table some few =
    let gives = made_tables_give_rows number some few table in
    record {
      rows = gives.rows;
      is = ap (rows_in table (table_file (codes "made") table)) (table_held number table gives.text gives.held) ∙ rw gives.read refl;
    }

record HasLists (number : ℕ) (tables : List TableName) : Type 0 where
  lists : List (List (List Value))
  is : lists_in (codes "made") tables (trial_files number) ≡ Ok lists

lists_read : (number : ℕ) (tables : List TableName) → 1 ≤ number → number ≤ 1000 → HasLists number tables
lists_read number [] some few = record { lists = []; is = refl }
lists_read number (table ∷ tables) some few =
    let first = table_read number table some few in
    let others = lists_read number tables some few in
    record {
      lists = first.rows ∷ others.lists;
      is =
          ap (λ r. and_then r (λ rows. and_then (lists_in (codes "made") tables (trial_files number)) (λ lists. Ok (rows ∷ lists)))) first.is
          ∙ ap (λ r. and_then r (λ lists. Ok (first.rows ∷ lists))) others.is;
    }

-- its refreshes

abbrev is_fine : {A : Type 0} → Result A BadInput → Bool
is_fine (Ok a) = true
is_fine (Err refused) = false

record IsFine {A : Type 0} (r : Result A BadInput) : Type 0 where
  value : A
  is : r ≡ Ok value

fine : {A : Type 0} (r : Result A BadInput) → is_fine r ≡ true → IsFine r
fine (Ok a) e = record { value = a; is = refl }
fine (Err refused) e = cc

changes_fine : (number : ℕ) → is_fine (changes_in (codes "made") parts.refreshes (trial_files number)) ≡ true
unfolding made lasting ordered refresh_set digits
changes_fine number = refl

-- all of it

record HasBase (number : ℕ) : Type 0 where
  base : State
  list : List Change
  is : job_base (codes "made") parts.refreshes (trial_files number) ≡ Ok (base, list)

base_read : (number : ℕ) → 1 ≤ number → number ≤ 1000 → HasBase number
base_read number some few =
    let lists = lists_read number all_tables some few in
    let changes = fine (changes_in (codes "made") parts.refreshes (trial_files number)) (changes_fine number) in
    let state : state_in (codes "made") (trial_files number) ≡ Ok (state_of lists.lists) = ap (λ r. and_then r (λ l. Ok (state_of l))) lists.is in
    record {
      base = state_of lists.lists;
      list = changes.value;
      is =
          ap (λ r. and_then r (λ base. and_then (changes_in (codes "made") parts.refreshes (trial_files number)) (λ list. Ok (base, list)))) state
          ∙ ap (λ r. and_then r (λ list. Ok (state_of lists.lists, list))) changes.is;
    }

abbrev work_of : (scripts : List (List Statement)) → State × List Change → JobWork
work_of scripts r = record { keeps = []; scripts = scripts; base = r.0; list = r.1; before = 2; senders = []; journal = None; kept = [] }

work_read : (number : ℕ) (scripts : List (List Statement)) (b : HasBase number) → job_work (codes "made") (trial_files number) parts [] scripts ≡ Ok (work_of scripts (b.base, b.list))
work_read number scripts b = ap (λ r. and_then r (λ pair. Ok (work_of scripts pair))) b.is

trial_accepted : (number : ℕ) → 1 ≤ number → number ≤ 1000 → IsTrialAccepted number
trial_accepted number some few =
    let script = script_read number in
    let scripts = script.steps ∷ script.steps ∷ [] in
    let base = base_read number some few in
    let work : Result JobWork BadInput = Ok (work_of scripts (base.base, base.list)) in
    let Further : JobParts → Result JobWork BadInput → Type 0 =
    λ (p : JobParts) (result : Result JobWork BadInput). (keeps : Result (List View) BadInput) × AreKeeps (codes "job") (trial_files number) 0 p.keeps keeps
    × Follows keeps (AreFilesBehind (codes "made") (trial_files number) p) result in
    let inputs : Further parts work = (Ok [], refl, (Ok scripts, scripts_read number script, sym (work_read number scripts base))) in
    (work, (work, subst (λ r. Follows r Further work) (sym (job_held number)) inputs, (Ok [], refl, refl)), refl)

pub trials_are_accepted : TrialsAreAccepted
trials_are_accepted number None told some few = trial_accepted number some few
trials_are_accepted number (Some folder) told some few = ((refl, trial_accepted number some few), tt)

pub trial_words_are_accepted : TrialWordsAreAccepted
trial_words_are_accepted words number known told e =
    let in_range = words_in_range words number e in
    subst (λ c. IsAccepted c known told) (sym e) (trials_are_accepted number known told in_range.0 in_range.1)
