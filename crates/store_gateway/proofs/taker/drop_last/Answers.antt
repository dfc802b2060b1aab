use Rattle.std.proofs.Common.{◌∷◌, [], ap, ◌∙◌, arith, length, length-append}
use Rattle.std.proofs.lemmas.List.{take_at}
use Rattle.store_gateway.proofs.taker.drop_last.Goals as goal

pub returns : goal.returns
returns c rest x is =
    let e = ap length is in
    let f = length-append rest (x ∷ []) in
    let r = c.pop.ensures.rest in
    r ∙ rw is (take_at rest (x ∷ []) _ (omega (arith, e, f)))
