use Rattle.std.proofs.Common.{◌∷◌, [], ap, arith, length, length-append}
use Rattle.std.proofs.lemmas.List.{set_at}
use Rattle.store_gateway.proofs.taker.replace_last.Goals as goal

pub returns : goal.returns
returns c rest x is =
    let e = ap length is in
    let f = length-append rest (x ∷ []) in
    let n = c.len-last.ensures in
    rw is (set_at rest x [] c.args.id _ (omega (arith, e, f, n)))
