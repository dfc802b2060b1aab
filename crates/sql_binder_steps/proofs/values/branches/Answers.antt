use Rattle.std.proofs.Common.{◌≡◌, ◌++◌, [], ap, ◌∙◌, arith}
use Rattle.std.proofs.lemmas.Grind.{common_steps}
use Rattle.sql_binder_steps.specs.Values as spec
use Rattle.sql_binder_steps.proofs.Small.{branches_of_none}
use Rattle.sql_binder_steps.proofs.values.branches.Goals as goal

pub returns-then-is_empty : goal.returns-then-is_empty
returns-then-is_empty c =
    let none : c.arms.gives ≡ [] = c.is_empty-in-arms.ensures.0 c.if-is_empty.true in
    let e : spec.branches c.arms.whens c.arms.gives ≡ [] =
    branches_of_none c.arms.whens c.arms.gives none in
    let i : spec.branches c.args.whens c.args.gives ≡ c.arms.all ++ [] =
    c.arms.invariant ∙ ap (λ z. c.arms.all ++ z) e in
    grind (arith, common_steps, i)
