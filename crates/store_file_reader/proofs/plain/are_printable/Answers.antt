use Rattle.std.proofs.Common.{rules}
use Rattle.store_file_reader.proofs.FieldEnds.{flag_all}
use Rattle.store_file_reader.proofs.plain.are_printable.Goals as goal

pub returns : goal.returns
returns c = flag_all c.args.text.now c.loop-byte.byte-index c.loop-byte.printable (search rules) c.loop-byte.invariant
