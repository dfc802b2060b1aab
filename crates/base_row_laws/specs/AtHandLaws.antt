-- Only what conditions and select lists say of the rows at hand matters: two that say the same of
-- these give the same rows.
use Rattle.std.specs.Prelude.{◌≡◌, ℕ, List, ◌++◌, Bool}
use Rattle.std.specs.List.{filter}
use Rattle.base_row_laws.specs.Ranked.{Ranked}
use Rattle.base_row_laws.specs.Bags.{Each}
use Rattle.base_row_laws.specs.Operators.{select, project, mark_of, join_loop, outer_loop, attach_loop}
use Rattle.base_row_laws.specs.Operators.{group_by, domain_node}

-- the conditions c and e say the same of each combination of a left row with a right row under it
abbrev pub SameOfPairs : {V : Type 0} → (List V → ℕ) → (List V → ℕ) → List (Ranked V)
    → (List V → List (Ranked V)) → Type 0
SameOfPairs c e ls R =
    Each (λ l. Each (λ r. c (l.values ++ r.values) ≡ e (l.values ++ r.values)) (R l.values)) ls

-- WHERE and HAVING keep the same rows under conditions that say the same of each row.
abbrev pub SelectAtHand : (V : Type 0) → Type 0
SelectAtHand V = (c e : List V → ℕ) (xs : List (Ranked V)) → Each (λ x. c x.values ≡ e x.values) xs
    → select c xs ≡ select e xs

-- Select lists that give the same for each row give the same rows.
abbrev pub ProjectAtHand : (V : Type 0) → Type 0
ProjectAtHand V = (f g : List V → List V) (xs : List (Ranked V))
    → Each (λ x. f x.values ≡ g x.values) xs → project f xs ≡ project g xs

-- The inner join gives the same rows under conditions that say the same of each combination.
abbrev pub JoinAtHand : (V : Type 0) → Type 0
JoinAtHand V = (c e : List V → ℕ) (ls : List (Ranked V)) (R : List V → List (Ranked V))
    → SameOfPairs c e ls R → join_loop c ls R ≡ join_loop e ls R

-- The left outer join gives the same rows under conditions that say the same of each combination.
abbrev pub OuterAtHand : (V : Type 0) → Type 0
OuterAtHand V =
    (nulls : List V) (c e : List V → ℕ) (ls : List (Ranked V)) (R : List V → List (Ranked V))
    → SameOfPairs c e ls R → outer_loop nulls c ls R ≡ outer_loop nulls e ls R

-- Marks are the same under conditions that say the same of each combination.
abbrev pub MarkAtHand : (V : Type 0) → Type 0
MarkAtHand V =
    (write : ℕ → V) (c e : List V → ℕ) (ls : List (Ranked V)) (R : List V → List (Ranked V))
    → SameOfPairs c e ls R → attach_loop (mark_of write c) ls R ≡ attach_loop (mark_of write e) ls R

-- An attached column is the same where one function gives for each left row and the right side's
-- rows under it what another gives for that row and another right side's rows.
abbrev pub AttachAtHand : (V : Type 0) → Type 0
AttachAtHand V =
    (value worth : List V → List (Ranked V) → V) (ls : List (Ranked V))
    (R S : List V → List (Ranked V))
    → Each (λ l. value l.values (R l.values) ≡ worth l.values (S l.values)) ls
    → attach_loop value ls R ≡ attach_loop worth ls S

-- GROUP BY gives the same groups under keys that say the same of each row, and aggregates that say
-- the same of any of the rows.
abbrev pub GroupAtHand : {V : Type 0} → (V → V → Bool) → Type 0
GroupAtHand {V} same =
    (key like : List V → List V) (aggregates worth : List (Ranked V) → List V)
    (xs : List (Ranked V))
    → Each (λ x. key x.values ≡ like x.values) xs
    → ((p : Ranked V → Bool) → aggregates (filter p xs) ≡ worth (filter p xs))
    → group_by same key aggregates xs ≡ group_by same like worth xs

-- A domain is the same where two functions take the same of each row.
abbrev pub DomainAtHand : {V : Type 0} → (V → V → Bool) → Type 0
DomainAtHand {V} same = (pick like : List V → List V) (xs : List (Ranked V))
    → Each (λ x. pick x.values ≡ like x.values) xs → domain_node same pick xs
    ≡ domain_node same like xs
