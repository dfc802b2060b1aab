use Rattle.std.proofs.Common.{◌≡◌, take}
use Rattle.std.specs.List.{All}
use Rattle.base_value.specs.declared.value.Value.TheVariants.{Null}
use Rattle.plan_join_order.proofs.lateral.are_null.Given as goal

abbrev pub invariant-loop-value : goal.invariant-loop-value
invariant-loop-value l = All (λ v. v ≡ Null) (take l.value-index l.value-items)
