use Rattle.plan_computed_keys.proofs.Wide.{reads_own, reads_none}
use Rattle.plan_computed_keys.proofs.wider.reads_nothing.Goals as goal

pub returns-in-Closed : goal.returns-in-Closed
returns-in-Closed c = λ t. reads_own c.args.side.now c.in-Closed.is

pub returns-in-Closed-2 : goal.returns-in-Closed-2
returns-in-Closed-2 c = λ t. reads_own c.args.side.now c.in-Closed.is

pub returns-in-Dependent : goal.returns-in-Dependent
returns-in-Dependent c = λ t.
    reads_none c.args.side.now c.in-Dependent.columns c.in-Dependent.is (c.is_empty.ensures.0 t)
