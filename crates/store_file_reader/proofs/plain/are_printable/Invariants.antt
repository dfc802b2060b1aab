use Rattle.std.proofs.Common.{◌≡◌, take, true}
use Rattle.std.specs.List.{list_all}
use Rattle.base_text.specs.Printable.{is_printable}
use Rattle.store_file_reader.proofs.plain.are_printable.Given as goal

abbrev pub invariant-loop-byte : goal.invariant-loop-byte
invariant-loop-byte l = l.printable ≡ true → list_all is_printable (take l.byte-index l.text) ≡ true
