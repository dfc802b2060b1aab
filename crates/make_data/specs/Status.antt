-- How a run ended.
use Rattle.std.specs.Prelude.{ℕ}
use Rattle.make_data.specs.declared.status.Status.{Status}
use Rattle.make_data.specs.declared.status.Status.TheVariants.{Done, Usage, WriteFault, OutOfMemory}

-- the exit status
abbrev pub status_number : Status → ℕ
status_number Done = 0
status_number Usage = 2
status_number WriteFault = 5
status_number OutOfMemory = 6
