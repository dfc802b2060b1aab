use Rattle.std.proofs.Common.{rules}
use Rattle.std.proofs.lemmas.Option.{IfSome_then}
use Rattle.plan_predicate_sinking.proofs.BelowLists.{place_of_domain, place_of_list}
use Rattle.plan_predicate_sinking.proofs.below.place_below.Goals as goal

pub returns-then-column-n : goal.returns-then-column-n
returns-then-column-n c =
    place_of_domain c.args.n c.args.es.now c.args.column c.if-column-n.true

pub returns : goal.returns
returns c =
    IfSome_then c.column_of-place.result c.column_of-place.ensures
    (λ place made. place_of_list c.args.n c.args.es.now c.args.column _ place c.index-es-i.result
    c.index-es-i.is (search rules) c.if-column-n.false (search rules) made)
