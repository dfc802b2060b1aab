use Rattle.std.proofs.Common.{◌≡◌, refl, rules}
use Rattle.plan_unnested_nodes.proofs.Turns.{note_put}
use Rattle.plan_unnested_nodes.proofs.origins.put_note.Goals as goal

pub returns : goal.returns
returns c =
    let same : c.in_ok-column.column ≡ c.args.i = search rules in
    note_put (record { column = c.in_ok-column.column; kind = c.in-Some.known.kind }) c.requires.within refl c.requires.notes c.in-Some.ensures same refl refl
    c.in_ok-push.ensures.ok
