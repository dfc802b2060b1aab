-- Rows of FROM without the domain, and what it is for them to stand for a part of a dependent tree.
use Rattle.std.specs.Prelude.{◌≡◌, ℕ, ◌+◌, ◌≤◌, List, [], ◌++◌, length, min, replicate}
use Rattle.base_row_laws.specs.Ranked.{Ranked}
use Rattle.base_row_laws.specs.Bags.{SameBag}
use Rattle.base_row_laws.specs.Operators.{select, join_loop, outer_loop}
use Rattle.base_value.specs.declared.value.Value.{Value}
use Rattle.base_value.specs.declared.value.Value.TheVariants.{Null}
use Rattle.expr_scalar.specs.declared.expr.Expr.{Expr}
use Rattle.expr_scalar.specs.Meaning.{values}
use Rattle.expr_conditions.specs.Ranks.{rank_of, all_rank, says}
use Rattle.plan_algebra.specs.declared.node.Node.{Node}
use Rattle.plan_algebra.specs.declared.node.Node.TheVariants.{Select, Join}
use Rattle.plan_algebra.specs.declared.tree.Side.{Side}
use Rattle.plan_algebra.specs.declared.tree.Side.TheVariants.{Closed}
use Rattle.plan_algebra.specs.Trees.{Database, HasKinds, TreeMeaning}
use Rattle.plan_algebra.specs.Plans.{plan_rows, plan_width}
use Rattle.plan_unnested_nodes.specs.declared.domain.DomainRows.{DomainRows}
use Rattle.plan_unnested_nodes.specs.declared.domain.DomainRows.TheVariants.{One, Node as AtNode}
use Rattle.plan_unnested_nodes.specs.declared.footing.Footing.{Footing}
use Rattle.plan_unnested_nodes.specs.declared.from_rows.Apart.{Apart}
use Rattle.plan_unnested_nodes.specs.declared.from_rows.Part.{Part}
use Rattle.plan_unnested_nodes.specs.declared.from_rows.Part.TheVariants.{Whole, Apart as WithoutDomain}
use Rattle.plan_unnested_nodes.specs.Footings.{footing_width}
use Rattle.plan_unnested_nodes.specs.Growth.{Grows, IsPut}
use Rattle.plan_unnested_nodes.specs.Lowerings.{Lowers}

-- the rows without a domain under the domain row d
abbrev pub apart_rows : Database → List Node → Apart → List Value → List (Ranked Value)
apart_rows db nodes part d =
    select (λ t. all_rank part.conditions (d ++ t)) (plan_rows db nodes part.rows)

-- what they are as the rows of a tree
abbrev pub apart_meaning : List Node → Apart → TreeMeaning
apart_meaning nodes part = record {
  scans = [];
  domains = 0;
  width = part.width;
  rows = λ db d. apart_rows db nodes part d;
}

-- The plan grew, and its last node has rows without a domain: under each domain row of n columns
-- these are, as a bag, those of a meaning.
pub record GivesApart (before after : List Node) (m : TreeMeaning) (n : ℕ) (part : Apart)
    : Type 0 where
  pub most : ℕ
  pub plan : Grows before after m.scans most
  pub few : most ≤ m.domains
  pub last : length after ≡ part.rows + 1
  pub wide : plan_width after part.rows ≡ part.width
  pub width : part.width ≡ m.width
  pub rows : (db : Database) → HasKinds db → (d : List Value) → length d ≡ n
      → SameBag (apart_rows db after part d) (m.rows db d)

-- a part of FROM was lowered: as a whole, or without the domain and with a footing as before
abbrev pub IsPart : (before after : List Node) → TreeMeaning → (old new : Footing) → Part → Type 0
IsPart before after m old new (Whole id) = Lowers before after m old new id
IsPart before after m old new (WithoutDomain part) =
    (new ≡ old) × GivesApart before after m (footing_width old.rows) part

-- a select list over rows of n domain columns and others gives what another gives over the others
-- alone
pub record AreOwn (n : ℕ) (es own : List Expr) : Type 0 where
  pub gives : (d t : List Value) → length d ≡ n → values own t ≡ values es (d ++ t)

-- the conditions say of rows of n domain columns, w others and more after these what others say
-- without these
pub record IsGrown (n w : ℕ) (old new : List Expr) : Type 0 where
  pub says : (d t more : List Value) → length d ≡ n → length t ≡ w
      → all_rank new (d ++ (t ++ more)) ≡ all_rank old (d ++ t)

-- The conditions `old` and c over rows of n domain columns and w others, in two parts: `own` reads
-- the others alone.
pub record AreOwnAndRest (n w : ℕ) (old : List Expr) (c : Expr) (own rest : List Expr)
    : Type 0 where
  pub says : (d t : List Value) → length d ≡ n → length t ≡ w
      → min (all_rank own t) (all_rank rest (d ++ t))
      ≡ min (all_rank old (d ++ t)) (rank_of c (d ++ t))

-- a condition over rows of n domain columns and w others says what conditions say of the others
-- alone
pub record IsOwnCondition (n w : ℕ) (c : Expr) (own : List Expr) : Type 0 where
  pub says : (d t : List Value) → length d ≡ n → length t ≡ w
      → all_rank own t ≡ rank_of c (d ++ t)

-- the same of an outer join's condition, where the right side is closed
pub record IsOwnOn (n w : ℕ) (side : Side) (c : Expr) (own : List Expr) : Type 0 where
  pub closed : side ≡ Closed
  pub says : IsOwnCondition n w c own

-- the plan grew by the rows of its last node that conditions keep, as far as another condition
-- keeps them too
pub record KeepsRows (old new : List Node) (from : ℕ) (conditions : List Expr) (id : ℕ)
    : Type 0 where
  pub plan : Grows old new [] 0
  pub last : length new ≡ id + 1
  pub width : plan_width new id ≡ plan_width old from
  pub rows : (db : Database) (e : List Value → ℕ) → ((t : List Value) → e t ≤ 5)
      → SameBag (select e (plan_rows db new id))
      (select (λ t. min (all_rank conditions t) (e t)) (plan_rows db old from))

-- the plan grew, and its last node has the rows without a domain that a condition keeps
pub record SelectsApart (old new : List Node) (n : ℕ) (part : Apart) (c : Expr) (next : Apart)
    : Type 0 where
  pub plan : Grows old new [] 0
  pub last : length new ≡ next.rows + 1
  pub wide : plan_width new next.rows ≡ next.width
  pub width : next.width ≡ part.width
  pub rows : (db : Database) → HasKinds db → (d : List Value) → length d ≡ n
      → SameBag (apart_rows db new next d) (select (says c d) (apart_rows db old part d))

-- the plan grew, and its last node has the rows without a domain joined with those of the node
-- `right`, of `more` columns
pub record JoinsApart (old new : List Node) (n : ℕ) (part : Apart) (right more : ℕ) (c : Expr)
    (next : Apart) : Type 0 where
  pub plan : Grows old new [] 0
  pub last : length new ≡ next.rows + 1
  pub wide : plan_width new next.rows ≡ next.width
  pub width : next.width ≡ part.width + more
  pub rows : (db : Database) → HasKinds db → (d : List Value) → length d ≡ n
      → SameBag (apart_rows db new next d)
      (join_loop (says c d) (apart_rows db old part d) (λ l. plan_rows db old right))

-- the plan grew, and its last node is the left outer join of the rows without a domain with those
-- of the node `right`, of `more` columns
pub record OutersApart (old new : List Node) (n : ℕ) (part : Apart) (right more : ℕ) (c : Expr)
    (next : Apart) : Type 0 where
  pub plan : Grows old new [] 0
  pub last : length new ≡ next.rows + 1
  pub wide : plan_width new next.rows ≡ next.width
  pub width : next.width ≡ part.width + more
  pub rows : (db : Database) → HasKinds db → (d : List Value) → length d ≡ n
      → SameBag (apart_rows db new next d)
      (outer_loop (replicate more Null) (says c d) (apart_rows db old part d)
      (λ l. plan_rows db old right))

-- the plan grew by the rows of a node that a condition keeps, where the domain is a node by the
-- combinations of its rows with them
abbrev pub IsOverDomain : (old new : List Node) → (rows : ℕ) → Expr → DomainRows → ℕ → Type 0
IsOverDomain old new rows c One id = IsPut old new (Select rows c) id
IsOverDomain old new rows c (AtNode d width) id = IsPut old new (Join d rows [] c) id

-- the plan grew, and its last node answers for each row of a footing the rows without a domain
abbrev pub LowersApart : (old new : List Node) → (f g : Footing) → Apart → ℕ → Type 0
LowersApart old new f g part id = Lowers old new (apart_meaning old part) f g id
