use Rattle.std.proofs.Common.{◌≡◌, take}
use Rattle.plan_join_order.specs.Groups.{total_of}
use Rattle.plan_join_order.specs.Narrow.{AreNarrowed}
use Rattle.plan_join_order.proofs.narrow.narrowed_inputs.Given as goal

abbrev pub invariant-loop-input : goal.invariant-loop-input
invariant-loop-input l = AreNarrowed l.n (take l.input-index l.inputs) l.new.inputs l.new.kept.items
    × (l.at ≡ total_of (take l.input-index l.inputs))
