use Rattle.std.proofs.Common.{◌≡◌, sym}
use Rattle.std.specs.Arc.{arc_value}
use Rattle.base_columns.specs.Lists.{gathered}
use Rattle.base_columns.proofs.CodeLists.{codes_gathered}
use Rattle.base_columns.proofs.codes.Codes.gather.Goals as goal

pub invariant_of-result : goal.invariant_of-result
invariant_of-result c =
    let e : arc_value c.in_ok-dictionary.dictionary ≡ arc_value c.self.inside.dictionary = c.in_ok-dictionary.ensures.cases in
    let g : c.in_ok-codes.codes.items ≡ gathered 0 c.self.inside.codes.items c.args.places.now = rw c.as_slice.ensures.value at (c.in_ok-codes.ensures 0) in
    (codes_gathered (arc_value c.self.inside.dictionary) (arc_value c.in_ok-dictionary.dictionary) c.args.self.now c.self.inside.codes.items c.in_ok-codes.codes.items c.args.places.now
    (sym c.self.view_is) e g c.self.invariant c.requires).0

pub returns : goal.returns
returns c =
    let e : arc_value c.in_ok-dictionary.dictionary ≡ arc_value c.self.inside.dictionary = c.in_ok-dictionary.ensures.cases in
    let g : c.in_ok-codes.codes.items ≡ gathered 0 c.self.inside.codes.items c.args.places.now = rw c.as_slice.ensures.value at (c.in_ok-codes.ensures 0) in
    (codes_gathered (arc_value c.self.inside.dictionary) (arc_value c.in_ok-dictionary.dictionary) c.args.self.now c.self.inside.codes.items c.in_ok-codes.codes.items c.args.places.now
    (sym c.self.view_is) e g c.self.invariant c.requires).1
