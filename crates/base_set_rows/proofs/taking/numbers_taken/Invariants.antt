use Rattle.std.proofs.Common.{◌≡◌, ◌<◌}
use Rattle.std.specs.List.{All}
use Rattle.base_set_rows.specs.Numbered.{numbers_taken}
use Rattle.base_set_rows.proofs.taking.numbers_taken.Given as goal

abbrev pub invariant-loop-n : goal.invariant-loop-n
invariant-loop-n l = (l.taken.items ≡ numbers_taken l.kind l.all l.split l.numbers l.n)
    × (All (λ k. k < l.count) l.taken.items)
