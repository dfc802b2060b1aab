use Rattle.std.proofs.Common.{◌/◌}
use Rattle.std.proofs.lemmas.List.{get_or_read}
use Rattle.base_null_marks.proofs.Words.{bit_cleared}
use Rattle.base_null_marks.proofs.marks.clear_bit.Goals as goal

pub returns : goal.returns
returns c j =
    let e = get_or_read c.args.words.now.items (c.args.i / 64) c.index_mut.result.now c.requires c.index_mut.ensures.value 0 in
    rw e (bit_cleared c.args.words.now.items c.args.i c.requires j)
