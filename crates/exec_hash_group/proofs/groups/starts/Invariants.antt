use Rattle.std.proofs.Common.{◌≡◌, [], length}
use Rattle.exec_hash_group.specs.ByNumber.{AtEach}
use Rattle.exec_hash_group.proofs.groups.starts.Given as goal

abbrev pub invariant-loop-i : goal.invariant-loop-i
invariant-loop-i g l =
    (length l.states.items ≡ l._i)
    × AtEach (λ i s. g.A.Accumulator.terms s ≡ 0) l.states.items
    × AtEach (λ i s. g.A.Accumulator.has_taken s (g.A.Accumulator.aggregate l.scale) []) l.states.items
