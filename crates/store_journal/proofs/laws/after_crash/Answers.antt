use Rattle.std.proofs.Common.{inl, inr, ⊎_elim, ◌++◌, [], ◌∷◌, take}
use Rattle.store_journal.proofs.Readings.{same_reading, not_bad}
use Rattle.store_journal.proofs.laws.after_crash.Goals as goal

pub returns-clause-one : goal.returns-clause-one
returns-clause-one g c file ps qs p left read =
    let K = g.P.Payload.is_payload in
    ⊎_elim (λ s. inl (same_reading K file qs ps read s))
    (λ s. inr (same_reading K file qs (ps ++ p ∷ []) read s)) left

pub returns-clause-some : goal.returns-clause-some
returns-clause-some g c file least ps qs tried left read =
    let same = same_reading g.P.Payload.is_payload file qs (ps ++ take left.count tried) read in
    (left.count, left.enough, left.most, same left.stands)

pub returns-clause-one_read : goal.returns-clause-one_read
returns-clause-one_read g c file ps p place left bad =
    let K = g.P.Payload.is_payload in
    ⊎_elim (λ s. not_bad K file ps place s bad) (λ s. not_bad K file (ps ++ p ∷ []) place s bad) left

pub returns-clause-some_read : goal.returns-clause-some_read
returns-clause-some_read g c file least ps tried place left bad =
    not_bad g.P.Payload.is_payload file (ps ++ take left.count tried) place left.stands bad
