-- What may be moved over joins when a tree is arranged anew.
use Rattle.std.specs.Prelude.{◌≡◌, ◌≤◌, ℕ, List, [], ◌∷◌, ◌++◌, Bool, map, min, max}
use Rattle.base_row_laws.specs.Ranked.{Ranked, true_rank}
use Rattle.base_row_laws.specs.Rows.{lowered, unit_row}
use Rattle.base_row_laws.specs.Bags.{SameBag, OfBag, Each}
use Rattle.base_row_laws.specs.Operators.{select, project, cross, join, join_loop, outer_loop}
use Rattle.base_row_laws.specs.Operators.{attach_loop, group_by, distinct}
use Rattle.base_row_laws.specs.StandingLaws.{Stands}

-- the condition e reads the columns of the left row l only, and says p of them
abbrev pub OfLeft : {V : Type 0} → (List V → ℕ) → (List V → ℕ) → Ranked V → Type 0
OfLeft {V} e p l = (r : List V) → e (l.values ++ r) ≡ p l.values

-- the condition e reads the columns of the right rows under l only, and says p of them
abbrev pub OfRight : {V : Type 0} → (List V → ℕ) → (List V → ℕ) → (List V → List (Ranked V))
    → Ranked V → Type 0
OfRight e p R l = Each (λ r. e (l.values ++ r.values) ≡ p r.values) (R l.values)

-- Two selections are one, under the AND of their conditions.
abbrev pub SelectTwice : (V : Type 0) → Type 0
SelectTwice V = (c e : List V → ℕ) (xs : List (Ranked V))
    → SameBag (select e (select c xs)) (select (λ r. min (c r) (e r)) xs)

-- A selection above DISTINCT is one below it, of rows at True or at a fault.
abbrev pub SelectBelowDistinct : {V : Type 0} → (V → V → Bool) → Type 0
SelectBelowDistinct {V} same = (c : List V → ℕ) (xs : List (Ranked V)) → Each Stands xs
    → SameBag (select c (distinct same xs)) (distinct same (select c xs))

-- A selection above GROUP BY whose condition c reads of each group its key only, and says q of it,
-- is one below it, of rows at True or at a fault, where the aggregates don't read standings.
abbrev pub SelectBelowGroup : {V : Type 0} → (V → V → Bool) → Type 0
SelectBelowGroup {V} same =
    (key : List V → List V) (aggregates : List (Ranked V) → List V) (c q : List V → ℕ)
    (xs : List (Ranked V))
    → Each (λ x. (ys : List (Ranked V)) → c (key x.values ++ aggregates ys) ≡ q (key x.values)) xs
    → ((e : List V → ℕ) (ys : List (Ranked V)) → aggregates (map (lowered e) ys) ≡ aggregates ys)
    → OfBag aggregates → Each Stands xs
    → SameBag (select c (group_by same key aggregates xs))
    (group_by same key aggregates (select (λ r. q (key r)) xs))

-- Two projections are one.
abbrev pub ProjectTwice : (V : Type 0) → Type 0
ProjectTwice V = (f g : List V → List V) (xs : List (Ranked V)) → project g (project f xs)
    ≡ project (λ r. g (f r)) xs

-- A selection above a projection is one below it that reads the projected row.
abbrev pub SelectThroughProject : (V : Type 0) → Type 0
SelectThroughProject V = (c : List V → ℕ) (f : List V → List V) (xs : List (Ranked V))
    → SameBag (select c (project f xs)) (project f (select (λ r. c (f r)) xs))

-- JOIN ON is the selection of all combinations.
abbrev pub JoinIsSelectedCross : (V : Type 0) → Type 0
JoinIsSelectedCross V = (c : List V → ℕ) (xs ys : List (Ranked V))
    → SameBag (join c xs ys) (select c (cross xs ys))

-- A selection above an inner join is part of its condition, also where the right side is taken anew
-- under each left row.
abbrev pub SelectIntoJoin : (V : Type 0) → Type 0
SelectIntoJoin V = (c e : List V → ℕ) (ls : List (Ranked V)) (R : List V → List (Ranked V))
    → SameBag (select e (join_loop c ls R)) (join_loop (λ r. min (c r) (e r)) ls R)

-- A selection above an inner join moves to the left side, where it reads that side's columns only.
abbrev pub SelectBelowLeft : (V : Type 0) → Type 0
SelectBelowLeft V = (c e p : List V → ℕ) (ls : List (Ranked V)) (R : List V → List (Ranked V))
    → Each (OfLeft e p) ls
    → SameBag (select e (join_loop c ls R)) (join_loop c (select p ls) R)

-- A selection above an inner join moves to the right side, where it reads that side's columns only.
abbrev pub SelectBelowRight : (V : Type 0) → Type 0
SelectBelowRight V = (c e p : List V → ℕ) (ls : List (Ranked V)) (R : List V → List (Ranked V))
    → Each (OfRight e p R) ls
    → SameBag (select e (join_loop c ls R)) (join_loop c ls (λ l. select p (R l)))

-- A selection above a left outer join moves to the left side, where it reads that side's columns
-- only.
abbrev pub SelectBelowOuter : (V : Type 0) → Type 0
SelectBelowOuter V =
    (c e p : List V → ℕ) (nulls : List V) (ls : List (Ranked V)) (R : List V → List (Ranked V))
    → Each (OfLeft e p) ls
    → SameBag (select e (outer_loop nulls c ls R)) (outer_loop nulls c (select p ls) R)

-- A selection above a mark or a scalar value moves below it, where it doesn't read the attached
-- column.
abbrev pub SelectBelowAttach : (V : Type 0) → Type 0
SelectBelowAttach V =
    (value : List V → List (Ranked V) → V) (e p : List V → ℕ) (ls : List (Ranked V))
    (R : List V → List (Ranked V))
    → Each (OfLeft e p) ls → select e (attach_loop value ls R) ≡ attach_loop value (select p ls) R

-- A part of a left outer join's ON moves to the right side, where it reads that side's columns
-- only.
-- To the left side no part may move: a small case shows it.
abbrev pub OnBelowRight : (V : Type 0) → Type 0
OnBelowRight V =
    (c e p : List V → ℕ) (ls : List (Ranked V)) (R : List V → List (Ranked V)) (nulls : List V)
    → Each (OfRight e p R) ls
    → SameBag (outer_loop nulls (λ r. min (c r) (e r)) ls R)
    (outer_loop nulls c ls (λ l. select p (R l)))

-- The sides of a product exchanged, where f puts the columns back.
abbrev pub SidesExchanged : (V : Type 0) → Type 0
SidesExchanged V = (f : List V → List V) (xs ys : List (Ranked V))
    → Each (λ x. Each (λ y. f (y.values ++ x.values) ≡ x.values ++ y.values) ys) xs
    → SameBag (cross xs ys) (project f (cross ys xs))

-- The last two sides of a product of three exchanged; so items of FROM may be joined in any order.
abbrev pub LastSidesExchanged : (V : Type 0) → Type 0
LastSidesExchanged V = (f : List V → List V) (ps xs ys : List (Ranked V))
    → Each (λ p. Each
    (λ x. Each
    (λ y. f ((p.values ++ y.values) ++ x.values) ≡ (p.values ++ x.values) ++ y.values) ys) xs) ps
    → SameBag (cross (cross ps xs) ys) (project f (cross (cross ps ys) xs))

-- A projection of a product's left side is one above the product, where g does to the combined row
-- what f does to its left part.
abbrev pub ProjectOutOfLeft : (V : Type 0) → Type 0
ProjectOutOfLeft V = (f g : List V → List V) (xs ys : List (Ranked V))
    → Each (λ x. Each (λ y. g (x.values ++ y.values) ≡ f x.values ++ y.values) ys) xs
    → cross (project f xs) ys ≡ project g (cross xs ys)

-- A projection of a product's right side is one above the product, where g does to the combined row
-- what f does to its right part.
abbrev pub ProjectOutOfRight : (V : Type 0) → Type 0
ProjectOutOfRight V = (f g : List V → List V) (xs ys : List (Ranked V))
    → Each (λ x. Each (λ y. g (x.values ++ y.values) ≡ x.values ++ f y.values) ys) xs
    → cross xs (project f ys) ≡ project g (cross xs ys)

-- A projection of an inner join's left side is one above the join, where g does to the combined row
-- what f does to its left part, also where the right side is taken anew under each left row.
abbrev pub ProjectOutOfJoin : (V : Type 0) → Type 0
ProjectOutOfJoin V =
    (f g : List V → List V) (c : List V → ℕ) (ls : List (Ranked V)) (R : List V → List (Ranked V))
    → Each (λ l. Each (λ r. g (l.values ++ r.values) ≡ f l.values ++ r.values) (R (f l.values))) ls
    → join_loop c (project f ls) R ≡ project g (join_loop (λ r. c (g r)) ls (λ l. R (f l)))

-- A projection of a left outer join's left side likewise, where g does so to the row filled with
-- nulls too.
abbrev pub ProjectOutOfOuter : (V : Type 0) → Type 0
ProjectOutOfOuter V =
    (f g : List V → List V) (nulls : List V) (c : List V → ℕ) (ls : List (Ranked V))
    (R : List V → List (Ranked V))
    → Each (λ l. Each (λ r. g (l.values ++ r.values) ≡ f l.values ++ r.values) (R (f l.values))) ls
    → Each (λ l. g (l.values ++ nulls) ≡ f l.values ++ nulls) ls
    → outer_loop nulls c (project f ls) R
    ≡ project g (outer_loop nulls (λ r. c (g r)) ls (λ l. R (f l)))

-- A projection below a mark or a scalar value is one above it, where g does to the row with the
-- attached column what f does to the row.
abbrev pub ProjectOutOfAttach : (V : Type 0) → Type 0
ProjectOutOfAttach V =
    (value : List V → List (Ranked V) → V) (f g : List V → List V) (ls : List (Ranked V))
    (R : List V → List (Ranked V))
    → Each (λ l. g (l.values ++ value (f l.values) (R (f l.values)) ∷ []) ≡ f l.values
    ++ value (f l.values) (R (f l.values)) ∷ []) ls
    → attach_loop value (project f ls) R
    ≡ project g (attach_loop (λ l us. value (f l) us) ls (λ l. R (f l)))

-- A selection that reads an attached column is one below it that reads the value.
abbrev pub SelectReadsAttached : (V : Type 0) → Type 0
SelectReadsAttached V =
    (value : List V → List (Ranked V) → V) (e : List V → ℕ) (ls : List (Ranked V))
    (R : List V → List (Ranked V))
    → select e (attach_loop value ls R)
    ≡ attach_loop value (select (λ l. e (l ++ value l (R l) ∷ [])) ls) R

-- A select list that reads an attached column is one that reads the value.
abbrev pub ProjectReadsAttached : (V : Type 0) → Type 0
ProjectReadsAttached V =
    (value : List V → List (Ranked V) → V) (g : List V → List V) (ls : List (Ranked V))
    (R : List V → List (Ranked V))
    → project g (attach_loop value ls R) ≡ project (λ l. g (l ++ value l (R l) ∷ [])) ls

-- An attached column that a selection reads and g drops, as EXISTS in WHERE, is a selection that
-- reads the value.
abbrev pub AttachedReadAndDropped : (V : Type 0) → Type 0
AttachedReadAndDropped V =
    (value : List V → List (Ranked V) → V) (e : List V → ℕ) (g : List V → List V)
    (ls : List (Ranked V)) (R : List V → List (Ranked V))
    → Each (λ l. g (l.values ++ value l.values (R l.values) ∷ []) ≡ l.values) ls
    → project g (select e (attach_loop value ls R)) ≡ select (λ l. e (l ++ value l (R l) ∷ [])) ls

-- The one row of no columns, which FROM begins with, adds nothing.
abbrev pub CrossUnit : (V : Type 0) → Type 0
CrossUnit V = (xs : List (Ranked V)) → Each (λ x. x.standing ≤ true_rank) xs → cross unit_row xs
    ≡ xs

-- The product of three sides, however it is bracketed.
abbrev pub CrossAssoc : (V : Type 0) → Type 0
CrossAssoc V = (xs ys zs : List (Ranked V))
    → SameBag (cross (cross xs ys) zs) (cross xs (cross ys zs))

-- AND distributes over OR on the chain, and OR over AND, so common factors may be taken out.
abbrev pub AndOverOr : Type 0
AndOverOr = (a b c : ℕ) → (min a (max b c) ≡ max (min a b) (min a c))
    × (max a (min b c) ≡ min (max a b) (max a c))
