-- What is said of refreshes that are read.
use Rattle.std.specs.Prelude.{◌≡◌, ℕ, List}
use Rattle.std.specs.List.{AllByRecursion}
use Rattle.std.specs.declared.result.Result.TheVariants.{Ok}
use Rattle.base_io.specs.Outside.{Folder}
use Rattle.store_state.specs.Refresh.{Change}
use Rattle.store_refresh_entries.specs.Change.{HasFewBytes, IsStorable}
use Rattle.app_job_file.specs.declared.job.Mention.{Mention}
use Rattle.app_inputs.specs.Inputs.{changes_in}

-- each refresh that the files of a folder give may come to be stored
abbrev pub ReadRefreshesAreStorable : Type 0
ReadRefreshesAreStorable =
    (dir : List ℕ) (mentions : List Mention) (folder : Folder) (list : List Change)
    → changes_in dir mentions folder ≡ Ok list → AllByRecursion IsStorable list

-- each refresh that the files of a folder give has few bytes
abbrev pub ReadRefreshesAreShort : Type 0
ReadRefreshesAreShort =
    (dir : List ℕ) (mentions : List Mention) (folder : Folder) (list : List Change)
    → changes_in dir mentions folder ≡ Ok list → AllByRecursion HasFewBytes list
