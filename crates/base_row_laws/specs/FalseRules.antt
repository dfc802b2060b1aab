-- Rules that fail, each by two sides that are computed.
use Rattle.std.specs.Prelude.{◌≡◌, ℕ, [], ◌∷◌}
use Rattle.base_row_laws.specs.Ranked.{Ranked, ranked, false_rank, unknown_rank, divide_by_zero_rank}
use Rattle.base_row_laws.specs.Ranked.{true_rank}
use Rattle.base_row_laws.specs.Operators.{select, outer_loop, total, mark_of}

-- a row of one number, at True
abbrev pub number_row : ℕ → Ranked ℕ
number_row n = ranked (n ∷ []) true_rank

-- HAVING above aggregates without GROUP BY is no WHERE below them: the group of no rows stays.
abbrev pub NoHavingBelowTotal : Type 0
NoHavingBelowTotal =
    (select (λ r. false_rank) (total (λ ys. 7 ∷ []) (number_row 1 ∷ [])) ≡ [])
    × (total (λ ys. 7 ∷ []) (select (λ r. false_rank) (number_row 1 ∷ [])) ≡ number_row 7 ∷ [])

-- A part of a mark's condition that reads the right side only is no selection of it, where it is
-- Unknown: the mark is Unknown before and False after.
abbrev pub NoConditionOutOfMark : Type 0
NoConditionOutOfMark =
    (mark_of (λ r. r) (λ z. unknown_rank) [] (number_row 1 ∷ []) ≡ unknown_rank)
    × (mark_of (λ r. r) (λ z. true_rank) [] (select (λ z. unknown_rank) (number_row 1 ∷ []))
    ≡ false_rank)

-- WHERE on the right side of a left outer join is no selection of it: the left row comes back,
-- filled.
abbrev pub NoWhereBelowOuterRight : Type 0
NoWhereBelowOuterRight =
    (select (λ r. false_rank)
    (outer_loop (0 ∷ []) (λ z. true_rank) (number_row 1 ∷ []) (λ l. number_row 2 ∷ [])) ≡ [])
    × (outer_loop (0 ∷ []) (λ z. true_rank) (number_row 1 ∷ [])
    (λ l. select (λ r. false_rank) (number_row 2 ∷ [])) ≡ ranked (1 ∷ 0 ∷ []) true_rank ∷ [])

-- A part of ON on the left side is no selection of it, also where it is a fault: the left row
-- stands at True before and at the fault after.
abbrev pub NoOnBelowOuterLeft : Type 0
NoOnBelowOuterLeft =
    (outer_loop (0 ∷ []) (λ z. divide_by_zero_rank) (number_row 1 ∷ []) (λ l. [])
    ≡ ranked (1 ∷ 0 ∷ []) true_rank ∷ [])
    × (outer_loop (0 ∷ []) (λ z. true_rank) (select (λ r. divide_by_zero_rank) (number_row 1 ∷ []))
    (λ l. []) ≡ ranked (1 ∷ 0 ∷ []) divide_by_zero_rank ∷ [])
