use Rattle.std.proofs.Common.{◌∙◌, ap}
use Rattle.std.proofs.lemmas.Option.{IfSome_then}
use Rattle.plan_predicate_sinking.specs.Narrow.{whole_columns}
use Rattle.plan_tree_moves.proofs.prune.side_of_slim.Goals as goal

pub returns : goal.returns
returns c =
    IfSome_then c.in_ok-new.new c.in_ok-new.ensures
    (λ side moves. moves c.args.n c.args.left.now.kept.items
    (c.deref-2.ensures.value ∙ c.in_ok-whole.ensures
    ∙ ap (whole_columns c.args.n) c.deref.ensures.value))
