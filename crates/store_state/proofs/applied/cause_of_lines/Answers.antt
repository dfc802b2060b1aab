use Rattle.std.proofs.Common.{◌∙◌}
use Rattle.store_state.specs.Keys.{line_keys}
use Rattle.store_state.proofs.FoundKeys.{lines_alike}
use Rattle.store_state.proofs.applied.cause_of_lines.Goals as goal

pub returns : goal.returns
returns c =
    let tells = rw c.table.ensures.rows at c.in_ok-present.ensures in
    c.in_ok-cause.ensures ∙ lines_alike c.args.wanted.now (line_keys c.args.state.now.lineitem) c.in_ok-present.present c.args.lines.now tells
