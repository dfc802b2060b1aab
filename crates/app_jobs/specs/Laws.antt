-- What a run leaves in a journal, as the next run reads it.
use Rattle.std.specs.Prelude.{◌≡◌, ◌≤◌, ◌↔◌, ℕ, List, Some, length}
use Rattle.std.specs.List.{AllByRecursion}
use Rattle.std.specs.declared.result.Result.{Result}
use Rattle.std.specs.declared.result.Result.TheVariants.{Ok}
use Rattle.base_schema.specs.State.{State}
use Rattle.store_refresh_entries.specs.Change.{IsStorable}
use Rattle.store_state.specs.Refresh.{Change}
use Rattle.store_state.specs.Versions.{taken}
use Rattle.app_inputs.specs.Inputs.{BadInput}
use Rattle.app_jobs.specs.Journals.{HoldsThen, IsKept, most_journal_bytes}

-- Where a journal's file in the end holds the accepted ones of refreshes that may come to be
-- stored, and has not too many bytes, the next run over the same base reads it as just these
-- refreshes, and doesn't refuse it.
abbrev pub NextRunLaw : Type 0
NextRunLaw = (name file : List ℕ) (base : State) (list : List Change) (files : List ℕ → List ℕ)
    (kept : Result (List Change) BadInput) → AllByRecursion IsStorable list
    → HoldsThen (Some name) (taken base list) (Some file) → files name ≡ file
    → length file ≤ most_journal_bytes
    → IsKept (Some name) base (Some files) kept ↔ (kept ≡ Ok (taken base list))
