-- The theorem on unnesting.
use Rattle.std.specs.Prelude.{◌≡◌, ℕ, List, [], Bool, true}
use Rattle.base_row_laws.specs.Ranked.{Ranked}
use Rattle.base_row_laws.specs.Bags.{SameBag, Each}
use Rattle.base_row_laws.specs.Rows.{unit_row, starts_any}
use Rattle.base_row_laws.specs.Domains.{values_of, under, meeting, IsDomain, Answers}
use Rattle.base_row_laws.specs.Trees.{Tree, tree_rows, node_rows}

-- Let T be any dependent tree, of any depth, and ds a domain of n columns, which hold what T uses
-- freely.
-- Among the rows of the node that T is lowered to over ds, those whose domain columns are identical
-- to a row of ds are, as a bag, under(ds, T): each row of ds before each row that T gives under it
-- by nested loops, at that row's standing.
-- This holds with nulls and faults in domain columns, for domain rows without input, and for an
-- empty ds.
-- Rows with other domain columns are left out of this. `node_rows` has none, as the next law says;
-- that they do no harm is said by the laws for each kind of node, which are about any rows that
-- answer its sides, as those of a right side that needs no domain.
abbrev pub Unnesting : {V : Type 0} → (V → V → Bool) → Type 0
Unnesting {V} same =
    (null : V) (tables : ℕ → List (List V)) (T : Tree V) (n : ℕ) (ds : List (Ranked V))
    → IsDomain same n ds
    → SameBag (meeting same (values_of ds) (node_rows same null tables T n ds))
    (under (values_of ds) (tree_rows same null tables T))

-- Each row of the node that a tree is lowered to begins with a row of the domain.
abbrev pub NodeRowsBegin : {V : Type 0} → (V → V → Bool) → Type 0
NodeRowsBegin {V} same =
    (null : V) (tables : ℕ → List (List V)) (T : Tree V) (n : ℕ) (ds : List (Ranked V))
    → IsDomain same n ds
    → Each (λ x. starts_any same (values_of ds) x.values ≡ true) (node_rows same null tables T n ds)

-- So the rows of the node that a tree is lowered to over a domain are, all of them, as a bag, each
-- row of the domain before each row that the tree gives under it by nested loops.
abbrev pub UnnestingOfNode : {V : Type 0} → (V → V → Bool) → Type 0
UnnestingOfNode {V} same =
    (null : V) (tables : ℕ → List (List V)) (T : Tree V) (n : ℕ) (ds : List (Ranked V))
    → IsDomain same n ds
    → SameBag (node_rows same null tables T n ds)
    (under (values_of ds) (tree_rows same null tables T))

-- Unnesting for each row of the domain by itself.
abbrev pub UnnestingRowByRow : {V : Type 0} → (V → V → Bool) → Type 0
UnnestingRowByRow {V} same =
    (null : V) (tables : ℕ → List (List V)) (T : Tree V) (n : ℕ) (ds : List (Ranked V))
    → IsDomain same n ds
    → Answers same ds (node_rows same null tables T n ds) (tree_rows same null tables T)

-- A tree that uses nothing freely, as that of a whole query:
-- its node over the one row of no columns has, as a bag, its rows by nested loops.
abbrev pub UnnestingOfQuery : {V : Type 0} → (V → V → Bool) → Type 0
UnnestingOfQuery {V} same = (null : V) (tables : ℕ → List (List V)) (T : Tree V)
    → SameBag (node_rows same null tables T 0 unit_row) (tree_rows same null tables T [])
