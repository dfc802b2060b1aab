-- Laws of UNION, INTERSECT and EXCEPT.
use Rattle.std.specs.Prelude.{◌≡◌, ℕ, List, Bool, true, ◌++◌, length}
use Rattle.base_row_laws.specs.Ranked.{Ranked}
use Rattle.base_row_laws.specs.Bags.{SameBag, Each}
use Rattle.base_row_laws.specs.Operators.{least, select}
use Rattle.base_row_laws.specs.Domains.{Meets, Answers}
use Rattle.base_row_laws.specs.StandingLaws.{Stands}
use Rattle.base_set_rows.specs.declared.kind.ClassKind.{ClassKind}
use Rattle.base_set_rows.specs.declared.kind.SetOperation.{SetOperation}
use Rattle.base_set_rows.specs.SetOperations.{copies, alike, by_classes, union, set_rows}

-- One bag on each side gives one bag.
abbrev pub ByClassesAlike : {V : Type 0} → (V → V → Bool) → Type 0
ByClassesAlike {V} same = (kind : ClassKind) (all : Bool) (xs us ys vs : List (Ranked V))
    → SameBag xs us → SameBag ys vs
    → SameBag (by_classes same kind all xs ys) (by_classes same kind all us vs)

-- The same of UNION.
abbrev pub UnionAlike : {V : Type 0} → (V → V → Bool) → Type 0
UnionAlike {V} same = (all : Bool) (xs us ys vs : List (Ranked V))
    → SameBag xs us → SameBag ys vs → SameBag (union same all xs ys) (union same all us vs)

-- Of each row there are as many as the operation says of its numbers on the two sides.
abbrev pub ByClassesCounts : {V : Type 0} → (V → V → Bool) → Type 0
ByClassesCounts {V} same = (kind : ClassKind) (all : Bool) (xs ys : List (Ranked V)) (k : List V)
    → length (alike same k (by_classes same kind all xs ys))
    ≡ copies kind all (length (alike same k xs)) (length (alike same k ys))

-- Each row stands at the least of the standings of the rows of its class, on both sides.
abbrev pub ByClassesStandings : {V : Type 0} → (V → V → Bool) → Type 0
ByClassesStandings {V} same = (kind : ClassKind) (all : Bool) (xs ys : List (Ranked V))
    → Each (λ x. x.standing ≡ least (alike same x.values (xs ++ ys)))
    (by_classes same kind all xs ys)

-- Rows that stand at True or at a fault give such rows.
abbrev pub ByClassesStand : {V : Type 0} → (V → V → Bool) → Type 0
ByClassesStand {V} same = (kind : ClassKind) (all : Bool) (xs ys : List (Ranked V))
    → Each Stands xs → Each Stands ys → Each Stands (by_classes same kind all xs ys)

-- The same of UNION.
abbrev pub UnionStands : {V : Type 0} → (V → V → Bool) → Type 0
UnionStands {V} same = (all : Bool) (xs ys : List (Ranked V))
    → Each Stands xs → Each Stands ys → Each Stands (union same all xs ys)

-- What a test says of the values of each row of both sides it says of each row, as that they are of
-- some kinds.
abbrev pub ByClassesKeep : {V : Type 0} → (V → V → Bool) → Type 0
ByClassesKeep {V} same = (p : List V → Bool) (kind : ClassKind) (all : Bool)
    (xs ys : List (Ranked V)) → Each (λ x. p x.values ≡ true) xs → Each (λ x. p x.values ≡ true) ys
    → Each (λ x. p x.values ≡ true) (by_classes same kind all xs ys)

-- The same of UNION.
abbrev pub UnionKeeps : {V : Type 0} → (V → V → Bool) → Type 0
UnionKeeps {V} same = (p : List V → Bool) (all : Bool)
    (xs ys : List (Ranked V)) → Each (λ x. p x.values ≡ true) xs → Each (λ x. p x.values ≡ true) ys
    → Each (λ x. p x.values ≡ true) (union same all xs ys)

-- Under one domain row: where both sides meet it, so does the operation over both sides' rows with
-- the domain's columns. EXCEPT's rows on the right count under the same domain row.
abbrev pub ByClassesMeets : {V : Type 0} → (V → V → Bool) → Type 0
ByClassesMeets {V} same = (kind : ClassKind) (all : Bool) (d : List V)
    (xs ys ts us : List (Ranked V)) → Meets same d xs ts → Meets same d ys us
    → Meets same d (by_classes same kind all xs ys) (by_classes same kind all ts us)

-- The same of UNION.
abbrev pub UnionMeets : {V : Type 0} → (V → V → Bool) → Type 0
UnionMeets {V} same = (all : Bool) (d : List V) (xs ys ts us : List (Ranked V))
    → Meets same d xs ts → Meets same d ys us
    → Meets same d (union same all xs ys) (union same all ts us)

-- Over a domain that is pushed into both sides.
abbrev pub ByClassesAnswers : {V : Type 0} → (V → V → Bool) → Type 0
ByClassesAnswers {V} same = (kind : ClassKind) (all : Bool) (ds xs ys : List (Ranked V))
    (L R : List V → List (Ranked V)) → Answers same ds xs L → Answers same ds ys R
    → Answers same ds (by_classes same kind all xs ys) (λ d. by_classes same kind all (L d) (R d))

-- The same of UNION.
abbrev pub UnionAnswers : {V : Type 0} → (V → V → Bool) → Type 0
UnionAnswers {V} same = (all : Bool) (ds xs ys : List (Ranked V))
    (L R : List V → List (Ranked V)) → Answers same ds xs L → Answers same ds ys R
    → Answers same ds (union same all xs ys) (λ d. union same all (L d) (R d))

-- A selection of what a set operation gives is the operation of the selections, where rows stand at
-- True or at a fault.
abbrev pub SelectBelowUnion : {V : Type 0} → (V → V → Bool) → Type 0
SelectBelowUnion {V} same = (all : Bool) (c : List V → ℕ) (xs ys : List (Ranked V))
    → Each Stands xs → Each Stands ys
    → SameBag (select c (union same all xs ys)) (union same all (select c xs) (select c ys))

-- The same of INTERSECT and EXCEPT.
abbrev pub SelectBelowClasses : {V : Type 0} → (V → V → Bool) → Type 0
SelectBelowClasses {V} same = (kind : ClassKind) (all : Bool) (c : List V → ℕ)
    (xs ys : List (Ranked V)) → Each Stands xs → Each Stands ys
    → SameBag (select c (by_classes same kind all xs ys))
    (by_classes same kind all (select c xs) (select c ys))

-- ---- the same of every set operation

-- One bag on each side gives one bag.
abbrev pub SetRowsAlike : {V : Type 0} → (V → V → Bool) → Type 0
SetRowsAlike {V} same = (operation : SetOperation) (xs us ys vs : List (Ranked V))
    → SameBag xs us → SameBag ys vs
    → SameBag (set_rows same operation xs ys) (set_rows same operation us vs)

-- Over a domain that is pushed into both sides.
abbrev pub SetRowsAnswer : {V : Type 0} → (V → V → Bool) → Type 0
SetRowsAnswer {V} same = (operation : SetOperation) (ds xs ys : List (Ranked V))
    (L R : List V → List (Ranked V)) → Answers same ds xs L → Answers same ds ys R
    → Answers same ds (set_rows same operation xs ys) (λ d. set_rows same operation (L d) (R d))

-- Rows that stand at True or at a fault give such rows.
abbrev pub SetRowsStand : {V : Type 0} → (V → V → Bool) → Type 0
SetRowsStand {V} same = (operation : SetOperation) (xs ys : List (Ranked V))
    → Each Stands xs → Each Stands ys → Each Stands (set_rows same operation xs ys)

-- What a test says of the values of each row of both sides it says of each row.
abbrev pub SetRowsKeep : {V : Type 0} → (V → V → Bool) → Type 0
SetRowsKeep {V} same = (p : List V → Bool) (operation : SetOperation)
    (xs ys : List (Ranked V)) → Each (λ x. p x.values ≡ true) xs → Each (λ x. p x.values ≡ true) ys
    → Each (λ x. p x.values ≡ true) (set_rows same operation xs ys)

-- A selection of what an operation gives is the operation of the selections.
abbrev pub SelectBelowSetRows : {V : Type 0} → (V → V → Bool) → Type 0
SelectBelowSetRows {V} same = (operation : SetOperation) (c : List V → ℕ)
    (xs ys : List (Ranked V)) → Each Stands xs → Each Stands ys
    → SameBag (select c (set_rows same operation xs ys))
    (set_rows same operation (select c xs) (select c ys))
