use Rattle.make_data.proofs.Growth.{first_asked}
use Rattle.make_data.proofs.run.make_data.Goals as goal

pub returns-in-Some-clause-first : goal.returns-in-Some-clause-first
returns-in-Some-clause-first g c = λ n folder asks. first_asked _ _ _ _ _ _ _ asks c.in-Some.ensures c.write_data.ensures.part
