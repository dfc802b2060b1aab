use Rattle.std.proofs.Common.{◌≡◌, [], take, drop}
use Rattle.store_state.specs.Refresh.{first_cause, line_cause}
use Rattle.store_state.proofs.cause.find_line_cause.Given as goal

abbrev pub invariant-loop-line : goal.invariant-loop-line
invariant-loop-line l = record {
  earlier : l.earlier ≡ take l.line-index l.lines;
  rest : first_cause (line_cause l.orders l.present) (take l.line-index l.lines) (drop l.line-index l.lines) ≡ first_cause (line_cause l.orders l.present) [] l.lines;
}
