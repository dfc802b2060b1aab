use Rattle.std.proofs.Common.{◌∙◌, sym}
use Rattle.plan_unnested_nodes.proofs.Asked.{is_stored}
use Rattle.plan_unnested_nodes.proofs.own_columns.is_stored_as.Goals as goal

pub returns-in-Some : goal.returns-in-Some
returns-in-Some c = λ h. is_stored c.args.kinds.now c.args.column c.in-Some.known c.args.kind.now c.known_at.ensures c.in-Some.is (sym c.is_one_kind.ensures ∙ h)
