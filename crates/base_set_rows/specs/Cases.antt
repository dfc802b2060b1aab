-- Small cases, over numbers.
use Rattle.std.specs.Prelude.{◌≡◌, ℕ, [], ◌∷◌, true, false, nat_eq}
use Rattle.base_row_laws.specs.Ranked.{Ranked, ranked, divide_by_zero_rank, true_rank}
use Rattle.base_set_rows.specs.SetOperations.{by_classes, union}
use Rattle.base_set_rows.specs.declared.kind.ClassKind.TheVariants.{Intersect, Except}

-- a row of one number, at True
abbrev pub one : ℕ → Ranked ℕ
one n = ranked (n ∷ []) true_rank

-- a row of a domain's number and one more
abbrev pub two : ℕ → ℕ → Ranked ℕ
two d n = ranked (d ∷ n ∷ []) true_rank

-- a row at a fault
abbrev pub faulty : ℕ → Ranked ℕ
faulty n = ranked (n ∷ []) divide_by_zero_rank

-- the rows 0 and 1 with the row 1
abbrev pub OfTwoAndOne : Type 0
OfTwoAndOne = let xs = one 0 ∷ one 1 ∷ [] in let ys = one 1 ∷ [] in
    (union nat_eq true xs ys ≡ one 0 ∷ one 1 ∷ one 1 ∷ [])
    × (union nat_eq false xs ys ≡ one 0 ∷ one 1 ∷ [])
    × (by_classes nat_eq Intersect true xs ys ≡ one 1 ∷ [])
    × (by_classes nat_eq Except true xs ys ≡ one 0 ∷ [])

-- rows that stand several times on both sides
abbrev pub OfDuplicates : Type 0
OfDuplicates = let xs = one 7 ∷ one 7 ∷ one 7 ∷ one 8 ∷ [] in let ys = one 7 ∷ one 7 ∷ one 8 ∷ one 8 ∷ [] in
    (by_classes nat_eq Intersect true xs ys ≡ one 7 ∷ one 7 ∷ one 8 ∷ [])
    × (by_classes nat_eq Intersect false xs ys ≡ one 7 ∷ one 8 ∷ [])
    × (by_classes nat_eq Except true xs ys ≡ one 7 ∷ [])
    × (by_classes nat_eq Except false xs ys ≡ [])

-- A fault among a class's standings, on either side, is the standing of its rows; UNION takes the
-- greatest.
abbrev pub OfFaults : Type 0
OfFaults = let xs = one 7 ∷ one 7 ∷ one 7 ∷ [] in let ys = faulty 7 ∷ [] in
    (by_classes nat_eq Intersect true xs ys ≡ faulty 7 ∷ [])
    × (by_classes nat_eq Except true xs ys ≡ faulty 7 ∷ faulty 7 ∷ [])
    × (union nat_eq false xs ys ≡ one 7 ∷ [])

-- Under a domain a right row takes away only rows of its own domain row.
abbrev pub OfDomains : Type 0
OfDomains = by_classes nat_eq Except true (two 1 5 ∷ two 2 5 ∷ []) (two 2 5 ∷ two 3 5 ∷ []) ≡ two 1 5 ∷ []
