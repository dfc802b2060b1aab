-- How a run ends.
use Rattle.std.specs.Prelude.{ℕ}
use Rattle.app_inputs.specs.declared.status.Status.{Status}
use Rattle.app_inputs.specs.declared.status.Status.TheVariants.{Done, SomeRefused, Usage}
use Rattle.app_inputs.specs.declared.status.Status.TheVariants.{InputRefused, ReadFault, WriteFault}
use Rattle.app_inputs.specs.declared.status.Status.TheVariants.{DiskFault, OutOfMemory}

-- the program's exit status
abbrev pub status_number : Status → ℕ
status_number Done = 0
status_number SomeRefused = 1
status_number Usage = 2
status_number InputRefused = 3
status_number ReadFault = 4
status_number WriteFault = 5
status_number OutOfMemory = 6
status_number DiskFault = 7
