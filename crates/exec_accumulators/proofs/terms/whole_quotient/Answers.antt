use Rattle.std.proofs.Common.{◌∙◌, arith, refl}
use Rattle.std.proofs.lemmas.Int.{ints}
use Rattle.exec_accumulators.proofs.Quotients.{quotient_whole}
use Rattle.exec_accumulators.proofs.terms.whole_quotient.Goals as goal

pub returns : goal.returns
returns c =
    c.quotient.ensures
    ∙ quotient_whole c.args.a _ _ c.args.n _ _ (omega (arith, ints, c.ranges.a.sfits)) c.new.ensures (omega (arith, ints, c.ranges.n.fits)) refl
    (omega (arith, ints, c.ranges.a.sfits)) (omega (arith, ints, c.ranges.a.sfits)) c.requires
