-- Laws of a plan's nodes.
use Rattle.std.specs.Prelude.{◌≡◌, ℕ, List, length, IsTrue}
use Rattle.base_row_laws.specs.Ranked.{Ranked}
use Rattle.base_row_laws.specs.Bags.{SameBag, Each}
use Rattle.base_value.specs.declared.value.Value.{Value}
use Rattle.plan_algebra.specs.declared.node.Node.{Node}
use Rattle.plan_algebra.specs.Trees.{Database, HasKinds}
use Rattle.plan_algebra.specs.Plans.{rows_at, node_rows, inputs_of, plan_rows, plan_width}
use Rattle.plan_algebra.specs.Plans.{is_formed}

-- A node gives one bag for one bag: where the nodes that it reads have the same rows, as bags, in
-- two lists, so has it.
abbrev pub NodesAlike : Type 0
NodesAlike = (db : Database) (some others : List (List (Ranked Value))) (node : Node)
    → Each (λ i. SameBag (rows_at some i) (rows_at others i)) (inputs_of node)
    → SameBag (node_rows db some node) (node_rows db others node)

-- In a plan that is well formed each row of a node has as many values as the node has columns, over
-- tables whose rows are of their kinds.
abbrev pub RowsAreWide : Type 0
RowsAreWide = (db : Database) (nodes : List Node) (i : ℕ)
    → HasKinds db → IsTrue (is_formed nodes)
    → Each (λ r. length r.values ≡ plan_width nodes i) (plan_rows db nodes i)
