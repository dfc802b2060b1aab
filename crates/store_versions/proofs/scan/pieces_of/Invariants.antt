use Rattle.std.proofs.Common.{◌≡◌, take}
use Rattle.store_versions.proofs.scan.pieces_of.Given as goal

abbrev pub invariant-loop-part : goal.invariant-loop-part
invariant-loop-part l = l.pieces.items ≡ take l.part-index l.parts
