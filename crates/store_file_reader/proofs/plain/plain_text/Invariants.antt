use Rattle.std.proofs.Common.{◌≡◌, take, true}
use Rattle.std.specs.List.{list_all}
use Rattle.base_text.specs.Printable.{is_printable}
use Rattle.store_file_reader.proofs.FieldCuts.{HasNoBar}
use Rattle.store_file_reader.proofs.plain.plain_text.Given as goal

abbrev pub invariant-loop-place : goal.invariant-loop-place
invariant-loop-place l = HasNoBar (take l.place l.text) × (list_all is_printable (take l.place l.text) ≡ true)
