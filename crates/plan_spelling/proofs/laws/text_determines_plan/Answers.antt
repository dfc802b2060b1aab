use Rattle.plan_spelling.proofs.Texts.{text_determines_plan}
use Rattle.plan_spelling.proofs.laws.text_determines_plan.Goals as goal

pub returns : goal.returns
returns c = text_determines_plan
