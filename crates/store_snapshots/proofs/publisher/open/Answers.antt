use Rattle.std.proofs.Common.{◌≡◌, ℕ, length, rules, subst, sym}
use Rattle.std.specs.Arc.{arc_value}
use Rattle.store_versions.specs.Trials.{Trials}
use Rattle.store_snapshots.specs.Halls.{AreSeated, SeatsEnough}
use Rattle.store_snapshots.specs.Ruled.{opening_of}
use Rattle.store_snapshots.proofs.publisher.open.Goals as goal

pub returns-in-Ok-clause-readers : goal.returns-in-Ok-clause-readers
returns-in-Ok-clause-readers g c =
    let is : arc_value c.in_ok-share.share ≡ c.publisher_of.result.version = search rules in
    subst (λ (v : Trials). AreSeated (opening_of {A = g.row.A.Denot}) v c.in-Ok.readers.items) is c.in-Ok.ensures.readers

pub returns-in-Ok-clause-enough : goal.returns-in-Ok-clause-enough
returns-in-Ok-clause-enough g c =
    subst (λ (n : ℕ × ℕ). SeatsEnough c.args.want (length c.in-Ok.readers.items) n.0 n.1)
    (λ i. (c.over-hall.ensures.refusals i, sym c.publisher_of.ensures.refused i)) c.in-Ok.ensures.enough
