use Rattle.store_state.proofs.WantedRows.{none_pushed}
use Rattle.store_state.proofs.parts.Parts.push_orders.Goals as goal

pub returns-else-may_have : goal.returns-else-may_have
returns-else-may_have c = none_pushed c.args.keys.now c.args.self.now c.args.part.now (c.may_have.ensures c.if-may_have.false)
