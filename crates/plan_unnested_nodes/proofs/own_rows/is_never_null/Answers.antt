use Rattle.std.proofs.Common.{◌∙◌, sym}
use Rattle.plan_unnested_nodes.proofs.OwnRows.{equals_itself}
use Rattle.plan_unnested_nodes.proofs.own_rows.is_never_null.Goals as goal

pub returns-in-Some : goal.returns-in-Some
returns-in-Some c = λ h. equals_itself c.in-Some.known (sym c.known_at.ensures ∙ c.in-Some.is) h
