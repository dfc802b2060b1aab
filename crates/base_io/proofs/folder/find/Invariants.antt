use Rattle.std.proofs.Common.{◌≡◌, ◌-◌, length, drop}
use Rattle.base_io.specs.Outside.{file_of}
use Rattle.base_io.specs.Memory.{folder_of}
use Rattle.base_io.proofs.folder.find.Given as goal

abbrev pub invariant-loop-index : goal.invariant-loop-index
invariant-loop-index l = file_of (folder_of (drop l.index l.files)) l.name ≡ file_of (folder_of l.files) l.name

abbrev pub decreases-loop-index : goal.decreases-loop-index
decreases-loop-index l = length l.files - l.index
