use Rattle.plan_predicate_sinking.proofs.BelowLists.{read_below}
use Rattle.plan_predicate_sinking.proofs.below.is_read_below.Goals as goal

pub returns-in-Some : goal.returns-in-Some
returns-in-Some c = λ t.
    read_below c.args.n c.args.es.now c.args.places.now c.args.column c.in-Some.place
    (rw c.in-Some.is at c.place_below.ensures) (c.is_its_place.ensures t)
