-- What it is for a plan's node to stand for a dependent tree over a domain.
use Rattle.std.specs.Prelude.{◌≡◌, ℕ, ◌+◌, ◌≤◌, ◌<◌, ◌⊎◌, List, [], ◌∷◌, ◌++◌, length, map}
use Rattle.std.specs.List.{range_with_len}
use Rattle.std.specs.List.{All as Every}
use Rattle.base_row_laws.specs.Ranked.{Ranked}
use Rattle.base_row_laws.specs.Bags.{SameBag}
use Rattle.base_row_laws.specs.Domains.{values_of, under, meeting, Answers}
use Rattle.base_row_laws.specs.DomainLaws.{SidesAnswer}
use Rattle.base_row_laws.specs.Trees.{side_width, side_domain}
use Rattle.base_value.specs.declared.value.Value.{Value}
use Rattle.base_value.specs.declared.value.Value.TheVariants.{Null}
use Rattle.base_value.specs.Value.{same_value}
use Rattle.base_schema.specs.declared.table.TableName.{TableName}
use Rattle.plan_algebra.specs.declared.kept_plan.KeptPlan.{KeptPlan}
use Rattle.base_schema.specs.Tables.{kinds_of}
use Rattle.expr_scalar.specs.declared.expr.Expr.{Expr}
use Rattle.expr_scalar.specs.declared.expr.Expr.TheVariants.{All, Column}
use Rattle.expr_conditions.specs.Ranks.{columns_from}
use Rattle.plan_algebra.specs.declared.aggregate.Aggregate.{Aggregate}
use Rattle.plan_algebra.specs.declared.node.Node.{Node}
use Rattle.plan_algebra.specs.declared.node.Node.TheVariants.{Scan, Kept, Select, Project, Join, Group}
use Rattle.plan_algebra.specs.declared.node.Node.TheVariants.{Fill}
use Rattle.plan_algebra.specs.Aggregates.{aggregates_of}
use Rattle.plan_algebra.specs.declared.tree.DepTree.{DepTree}
use Rattle.plan_algebra.specs.declared.tree.Side.{Side}
use Rattle.plan_algebra.specs.declared.tree.Side.TheVariants.{Dependent}
use Rattle.plan_algebra.specs.Trees.{Database, HasKinds, TreeMeaning, tree_rows, side_of}
use Rattle.plan_algebra.specs.Trees.{own_domains}
use Rattle.plan_algebra.specs.Plans.{plan_rows, plan_width}
use Rattle.plan_unnested_nodes.specs.declared.domain.Domain.{Domain as DomainData}
use Rattle.plan_unnested_nodes.specs.declared.domain.DomainRows.{DomainRows}
use Rattle.plan_unnested_nodes.specs.declared.domain.DomainRows.TheVariants.{One, Node as AtNode}
use Rattle.plan_unnested_nodes.specs.declared.footing.Footing.{Footing}
use Rattle.plan_unnested_nodes.specs.Domains.{domain_rows, DomainHolds, KeepsNotes}
use Rattle.plan_unnested_nodes.specs.Footings.{footing_width, footing_rows, is_due, IsFooting}
use Rattle.plan_unnested_nodes.specs.Footings.{FootingHolds, SameFooting}
use Rattle.plan_unnested_nodes.specs.Growth.{Grows, IsPut}
use Rattle.plan_unnested_nodes.specs.OwnColumns.{with_own}
use Rattle.plan_unnested_nodes.specs.OwnRows.{AreAsked}
use Rattle.plan_unnested_nodes.specs.PlanKinds.{ColumnKinds}

-- Unnesting. Let T be any dependent tree, of any depth, and D the rows of a domain whose columns
-- hold what T uses freely.
-- Among the rows of the node `id`, those whose domain columns are identical to a row of D are, as a
-- bag, under(D, T): each row of D before each row that T gives under it by nested loops, at that
-- row's standing.
-- This holds over every database whose tables are of their kinds, with nulls and faults in domain
-- columns, for domain rows without input, and for an empty D.
-- Rows with other domain columns may be there; no row of D meets them.
pub record Unnests (before after : List Node) (T : DepTree) (domain : DomainData)
    (id : ℕ) : Type 0 where
  pub rows : (db : Database) → DomainHolds db before domain
      → let D = values_of (domain_rows db before domain.rows) in
      SameBag (meeting same_value D (plan_rows db after id)) (under D (tree_rows T db))

-- A tree that uses nothing freely, as that of a whole query: over tables of their kinds its node
-- over the one row of no columns has, as a bag, its rows by nested loops.
pub record Answered (after : List Node) (T : DepTree) (domain : DomainData) (id : ℕ) : Type 0 where
  pub rows : domain.rows ≡ One → (db : Database) → HasKinds db
      → SameBag (plan_rows db after id) (tree_rows T db [])

-- the plan grew, and the node `id` is its last
pub record KeepsNodes (before after : List Node) (id : ℕ) : Type 0 where
  pub more : List Node
  pub grows : after ≡ before ++ more
  pub last : length after ≡ id + 1

-- The plan grew, and its last node answers, for each row of a footing, the loops of a tree's
-- meaning. The footing's domain may have been put.
pub record Lowers (before after : List Node) (m : TreeMeaning) (old new : Footing)
    (id : ℕ) : Type 0 where
  pub most : ℕ
  pub plan : Grows before after m.scans most
  pub few : most + is_due new.rows ≤ m.domains + is_due old.rows
  pub same : SameFooting before after old new
  pub last : length after ≡ id + 1
  pub width : plan_width after id ≡ footing_width old.rows + m.width
  pub answers : (db : Database) → FootingHolds db before old
      → Answers same_value (footing_rows db before old.rows) (plan_rows db after id) (m.rows db)

-- The plan grew by a right side, of a left side that is the node `outer` over a footing: its last
-- node answers the loops of the right meaning over the right side's domain.
pub record LowersRight (before after : List Node) (m : TreeMeaning) (side : Side)
    (old new : Footing) (outer id : ℕ) : Type 0 where
  pub most : ℕ
  pub plan : Grows before after m.scans most
  pub few : most + is_due new.rows ≤ m.domains + own_domains (side_of side) + is_due old.rows
  pub same : SameFooting before after old new
  pub last : length after ≡ id + 1
  pub width : plan_width after id ≡ side_width (side_of side) (footing_width old.rows) + m.width
  pub answers : (db : Database) → FootingHolds db before old
      → Answers same_value
      (side_domain same_value Null (side_of side) (footing_rows db before old.rows)
      (plan_rows db before outer)) (plan_rows db after id) (m.rows db)

-- the rows of a right side that depends on these columns of the left side, the node `outer`
pub record IsOwnFooting (nodes : List Node) (outer : ℕ) (cs : List ℕ) (f : Footing) : Type 0 where
  pub in_plan : IsFooting nodes f.rows
  pub few : is_due f.rows ≤ own_domains (side_of (Dependent cs))
  pub width : footing_width f.rows ≡ length cs
  pub rows : (db : Database) (ds : List (Ranked Value))
      → footing_rows db nodes f.rows
      ≡ side_domain same_value Null (side_of (Dependent cs)) ds (plan_rows db nodes outer)
  pub noted : (db : Database) → HasKinds db
      → KeepsNotes f.unchanged (footing_rows db nodes f.rows)

-- The plan grew by two sides: the node `outer` answers a left meaning over the footing, the last
-- one, `rows`, a right meaning over the right side's domain.
pub record LowersSides (before after : List Node) (l r : TreeMeaning) (side : Side)
    (old new : Footing) (outer rows : ℕ) : Type 0 where
  pub most : ℕ
  pub plan : Grows before after (l.scans ++ r.scans) most
  pub few : most + is_due new.rows
      ≤ l.domains + r.domains + own_domains (side_of side) + is_due old.rows
  pub same : SameFooting before after old new
  pub outer_within : outer < length after
  pub last : length after ≡ rows + 1
  pub outer_width : plan_width after outer ≡ footing_width old.rows + l.width
  pub rows_width : plan_width after rows
      ≡ side_width (side_of side) (footing_width old.rows) + r.width
  pub answers : (db : Database) → FootingHolds db before old
      → SidesAnswer same_value Null (side_of side) (footing_width old.rows)
      (footing_rows db before old.rows)
      (plan_rows db after outer) (plan_rows db after rows) (l.rows db) (r.rows db)

-- the plan grew by a scan of a table, and where the domain is a node by all combinations of its
-- rows with the table's
abbrev pub IsScanned : (old new : List Node) → TableName → DomainRows → ℕ → Type 0
IsScanned old new table One id = IsPut old new (Scan table) id
IsScanned old new table (AtNode d width) id =
    IsPut (old ++ Scan table ∷ []) new (Join d (length old) [] (All [])) id

-- the same of the kept view of a number
abbrev pub IsKeptScanned : (old new : List Node) → ℕ → KeptPlan → DomainRows → ℕ → Type 0
IsKeptScanned old new number plan One id = IsPut old new (Kept number plan) id
IsKeptScanned old new number plan (AtNode d width) id =
    IsPut (old ++ Kept number plan ∷ []) new (Join d (length old) [] (All [])) id

-- The plan grew by a scan of a table, and by the rows of it that a condition keeps: where the
-- domain is a node, by the combinations of its rows with the table's that the condition keeps.
abbrev pub IsSelection : (old new : List Node) → TableName → Expr → DomainRows → ℕ → Type 0
IsSelection old new table c One id = IsPut (old ++ Scan table ∷ []) new (Select (length old) c) id
IsSelection old new table c (AtNode d width) id =
    IsPut (old ++ Scan table ∷ []) new (Join d (length old) [] c) id

-- the columns of groups by a domain's columns, and before their aggregates some of the domain's
-- once more
abbrev pub with_again : (width : ℕ) → List ℕ → (aggregates : ℕ) → List ℕ
with_again width by aggregates =
    (columns_from 0 width ++ by) ++ columns_from width aggregates

-- The plan grew by the groups of the node `rows` by a domain's columns and by others. Where the
-- others are the domain's too, it grew by the groups by the domain's columns alone, and by these
-- with the others once more.
abbrev pub IsGrouped : (old new : List Node) (rows width : ℕ) → List ℕ → List Aggregate → ℕ
    → Type 0
IsGrouped old new rows width by aggregates id =
    IsPut old new (Group rows (range_with_len 0 width ++ by) aggregates) id
    ⊎ (Every (λ c. c < width) by
    × IsPut (old ++ Group rows (range_with_len 0 width) aggregates ∷ []) new
    (Project (length old) (map Column (with_again width by (length aggregates)))) id)

-- the plan grew by the groups of the node `rows` by a domain's columns alone, and by the fill over
-- them
abbrev pub IsFilled : (old new : List Node) (rows : ℕ) → List Aggregate → (domain width : ℕ) → ℕ
    → Type 0
IsFilled old new rows aggregates d width id =
    IsPut (old ++ Group rows (range_with_len 0 width) aggregates ∷ []) new
    (Fill (length old) d (aggregates_of aggregates [])) id

-- the plan grew by the one group of the node `rows`; where the domain is a node, by the fill over
-- the groups by its columns
abbrev pub IsTotal : (old new : List Node) (rows : ℕ) → List Aggregate → DomainRows → ℕ → Type 0
IsTotal old new rows aggregates One id = IsPut old new (Group rows [] aggregates) id
IsTotal old new rows aggregates (AtNode d width) id =
    IsFilled old new rows aggregates d width id

-- the plan grew by the rows of the node `rows` that conditions keep; by nothing where there are no
-- conditions
abbrev pub IsKept : (old new : List Node) → (rows : ℕ) → List Expr → ℕ → Type 0
IsKept old new rows conditions id =
    ((conditions ≡ []) × (new ≡ old) × (id ≡ rows))
    ⊎ IsPut old new (Select rows (All conditions)) id

-- The plan grew by rows of the node `rows`, of w columns of these kinds: its columns `own` before
-- all of its columns, and those of these rows that a condition keeps. It reads the rows' own
-- columns in the place of a domain's.
pub record IsOwn (old new : List Node) (rows w : ℕ) (ks : ColumnKinds) (c : Expr) (own : List ℕ)
    (id : ℕ) : Type 0 where
  pub conditions : List Expr
  pub asked : AreAsked ks own c conditions
  pub put : IsKept (old ++ Project rows (map Column (with_own own w)) ∷ []) new (length old)
      conditions id

-- the same of the rows of a table, by a scan of it
abbrev pub IsOwnSelection : (old new : List Node) → TableName → ColumnKinds → Expr → List ℕ → ℕ
    → Type 0
IsOwnSelection old new table ks c own id =
    IsOwn (old ++ Scan table ∷ []) new (length old) (length (kinds_of table)) ks c own id
