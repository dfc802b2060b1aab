use Rattle.std.proofs.Common.{take, map}
use Rattle.base_value.specs.declared.value.Value.TheVariants.{Number}
use Rattle.exec_hash_group.specs.NumberSums.{AreSums}
use Rattle.exec_hash_group.proofs.number_sums.summed.Given as goal

abbrev pub invariant-loop-row : goal.invariant-loop-row
invariant-loop-row l = AreSums (take l.row l.numbers) (take l.row (map (Number l.fn._scale) l.coefficients)) l.count l.terms.items l.ups.items l.downs.items
