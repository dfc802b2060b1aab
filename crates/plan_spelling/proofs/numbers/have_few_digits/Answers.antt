use Rattle.std.proofs.Common.{arith}
use Rattle.plan_spelling.proofs.Texts.{short_numbers}
use Rattle.plan_spelling.proofs.numbers.have_few_digits.Goals as goal

pub returns : goal.returns
returns c = short_numbers c.args.numbers.now (λ i. omega (arith, c.type_inv.numbers i))
