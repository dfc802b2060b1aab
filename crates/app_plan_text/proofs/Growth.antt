-- The lines of a plan, one more.
use Rattle.std.proofs.Common.{◌≡◌, ℕ, ◌+◌, ◌<◌, List, [], ◌∷◌, ◌++◌, refl, sym, ap, ◌∙◌, subst, arith, length}
use Rattle.std.proofs.Common.{take, get_or}
use Rattle.std.proofs.lemmas.List.{take_more, length-take-le}
use Rattle.plan_algebra.specs.declared.node.Node.{Node}
use Rattle.app_plan_text.specs.declared.line.PlanLine.{PlanLine}
use Rattle.app_plan_text.specs.Lines.{AreLinesFrom, IsLineOf}

more_lines : (number : ℕ) (nodes : List Node) (node : Node) (lines : List PlanLine) (line : PlanLine)
    → AreLinesFrom number nodes lines → IsLineOf (number + length nodes) node line
    → AreLinesFrom number (nodes ++ node ∷ []) (lines ++ line ∷ [])
more_lines number [] node lines line are is = (
  line,
  [],
  ap (λ ls. ls ++ line ∷ []) are,
  subst (λ n. IsLineOf n node line) (omega arith) is,
  refl,
)
more_lines number (first ∷ nodes) node lines line are is = (
  are.0,
  are.1 ++ line ∷ [],
  ap (λ ls. ls ++ line ∷ []) are.2,
  are.3,
  more_lines (number + 1) nodes node are.1 line are.4
      (subst (λ n. IsLineOf n node line) (omega arith) is),
)

-- the lines of the first nodes, and of one more
pub grown : (nodes : List Node) (i : ℕ) (node : Node) (old new : List PlanLine) (line : PlanLine)
    → i < length nodes → node ≡ get_or nodes i node → AreLinesFrom 0 (take i nodes) old
    → IsLineOf i node line → new ≡ old ++ line ∷ [] → AreLinesFrom 0 (take (i + 1) nodes) new
grown nodes i node old new line h e are is made =
    let n : length (take i nodes) ≡ i = length-take-le i nodes (omega arith) in
    subst (λ ns. AreLinesFrom 0 ns new)
    (ap (λ x. take i nodes ++ x ∷ []) e ∙ sym (take_more nodes i node h))
    (subst (AreLinesFrom 0 (take i nodes ++ node ∷ [])) (sym made)
    (more_lines 0 (take i nodes) node old line are
    (subst (λ k. IsLineOf k node line) (omega (arith, n)) is)))
