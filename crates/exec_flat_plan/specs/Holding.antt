-- The rows of nodes, as they are held.
use Rattle.base_row_laws.specs.Ranked.{Relation}
use Rattle.base_value.specs.declared.value.Value.{Value}
use Rattle.exec_flat_plan.specs.declared.lent.LentOrOwn.{LentOrOwn}
use Rattle.exec_flat_plan.specs.declared.lent.LentOrOwn.TheVariants.{Lent, Own}
use Rattle.exec_flat_plan.specs.declared.node_rows.Held.{Held}
use Rattle.exec_flat_plan.specs.declared.node_rows.Held.TheVariants.{Made, Late}

-- the rows of a bag, or of a scan
abbrev pub held_relation : Held → Relation Value
held_relation (Made bag) = bag
held_relation (Late scan) = scan

-- the rows of a bag, lent or not
abbrev pub lent_relation : LentOrOwn → Relation Value
lent_relation (Lent bag) = bag.now
lent_relation (Own bag) = bag
