use Rattle.std.proofs.Common.{sym}
use Rattle.base_columns.specs.Texts.{buffer_bytes}
use Rattle.base_columns.proofs.GatheredTexts.{gathered_texts}
use Rattle.base_columns.proofs.texts.Texts.gather.Goals as goal

pub invariant_of-result : goal.invariant_of-result
invariant_of-result c =
    let e = rw c.in-Some.is at c.in_ok-ends.ensures in
    (gathered_texts (buffer_bytes c.self.inside.buffer) c.self.inside.ends.items c.args.places.now c.in_ok-bytes.bytes.items c.in-Some.ends.items c.args.self.now
    (sym c.self.view_is) c.self.invariant c.requires c.in_ok-bytes.ensures e).0

pub returns : goal.returns
returns c =
    let e = rw c.in-Some.is at c.in_ok-ends.ensures in
    (gathered_texts (buffer_bytes c.self.inside.buffer) c.self.inside.ends.items c.args.places.now c.in_ok-bytes.bytes.items c.in-Some.ends.items c.args.self.now
    (sym c.self.view_is) c.self.invariant c.requires c.in_ok-bytes.ensures e).1
