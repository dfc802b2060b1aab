use Rattle.store_state.proofs.Order.{lists_law, place_law}
use Rattle.store_state.proofs.laws.lists_stand_in_the_schemas_order.Goals as goal

pub returns-clause-place : goal.returns-clause-place
returns-clause-place c = place_law

pub returns-clause-lists : goal.returns-clause-lists
returns-clause-lists c = lists_law
