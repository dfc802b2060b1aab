use Rattle.std.proofs.Common.{◌≡◌, ◌+◌, ◌∙◌, refl, rules}
use Rattle.plan_dependent_nodes.proofs.KeptTrees.{trim_same, trim_project}
use Rattle.plan_dependent_nodes.proofs.parts.trimmed.Goals as goal

pub returns-then-end-last : goal.returns-then-end-last
returns-then-end-last c =
    let same : c.in_ok-last.last ≡ c.args.start + c.args.width = search rules in (
      trim_same c.args.grown.tree c.args.start c.args.width c.args.grown.end
          (c.if-end-last.true ∙ same),
      refl,
    )

pub returns-in_ok-tree : goal.returns-in_ok-tree
returns-in_ok-tree c = rw c.in_ok-tree.ensures (
  trim_project c.args.grown.tree c.args.start c.args.width c.args.grown.end _
      c.in_ok-exprs.ensures,
  refl,
)
