use Rattle.std.proofs.Common.{inr}
use Rattle.plan_unnested_nodes.proofs.origins.listed_kind.Goals as goal

pub returns-in-Column : goal.returns-in-Column
returns-in-Column c = inr (c.in-Column.column, c.in-Column.is, c.known_at.ensures)
