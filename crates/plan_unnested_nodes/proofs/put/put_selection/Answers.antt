use Rattle.plan_unnested_nodes.proofs.OwnNodes.{own_selection_put}
use Rattle.plan_unnested_nodes.proofs.put.put_selection.Goals as goal

pub returns-in-Some : goal.returns-in-Some
returns-in-Some c =
    own_selection_put c.requires c.in_ok-width.ensures c.as_slice-notes.ensures c.as_slice-known.ensures c.in_ok-kinds.ensures (rw c.in-Some.is at c.in_ok-own.ensures) c.as_slice.ensures
    c.in_ok-id.ensures
