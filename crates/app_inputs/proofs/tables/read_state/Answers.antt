use Rattle.std.proofs.Common.{Ok, ap, sym}
use Rattle.store_state.specs.Lists.{state_of}
use Rattle.base_schema.specs.Tables.{all_tables}
use Rattle.app_inputs.proofs.Lists.{eight_kinds}
use Rattle.app_inputs.proofs.Telling.{told_further}
use Rattle.app_inputs.specs.Inputs.{lists_in}
use Rattle.app_inputs.proofs.tables.read_state.Goals as goal

pub new-requires-clause-kinds : goal.new-requires-clause-kinds
new-requires-clause-kinds g c = eight_kinds c.in_ok-tables.tables.items c.in_ok-tables.ensures.length c.in_ok-tables.ensures.kinds

pub returns-clause-input : goal.returns-clause-input
returns-clause-input g c = told_further (g.F.Files.held c.args.files.now) (lists_in c.args.folder.now all_tables) (λ lists. Ok (state_of lists)) c.in_ok-tables.tables.items (Ok c.in_ok-state.state) (ap Ok (sym c.in_ok-state.ensures)) c.in_ok-tables.ensures.input
