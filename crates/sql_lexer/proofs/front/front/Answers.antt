use Rattle.sql_lexer.proofs.Fronts.{found_is, none_is, some_is}
use Rattle.sql_lexer.proofs.front.front.Goals as goal

pub returns-clause-found : goal.returns-clause-found
returns-clause-found c = found_is c.args.bytes.now c.front_of.result c.front_of.ensures

pub returns-clause-none : goal.returns-clause-none
returns-clause-none c = none_is c.args.bytes.now c.front_of.result c.front_of.ensures

pub returns-clause-some : goal.returns-clause-some
returns-clause-some c = some_is c.args.bytes.now c.front_of.result (found_is c.args.bytes.now c.front_of.result c.front_of.ensures)
