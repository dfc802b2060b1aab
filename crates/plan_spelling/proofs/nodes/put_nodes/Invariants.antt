use Rattle.std.proofs.Common.{◌≡◌, ◌++◌, drop}
use Rattle.std.specs.List.{flat_map}
use Rattle.plan_spelling.specs.Plans.{node_spelling}
use Rattle.plan_spelling.proofs.nodes.put_nodes.Given as goal

abbrev pub invariant-loop-node : goal.invariant-loop-node
invariant-loop-node l =
    l.numbers.items ++ flat_map node_spelling (drop l.node-index l.nodes) ≡ l.fn.numbers.items ++ flat_map node_spelling l.nodes
