-- Which columns of a plan's nodes come unchanged from a table, of which kind they are, and whether
-- they may be null.
use Rattle.std.specs.Prelude.{◌≡◌, ◌⊎◌, ℕ, ◌<◌, Bool, true, List, [], ◌∷◌, ◌++◌, length, map, drop}
use Rattle.std.specs.Prelude.{replicate, nat_le, Option, Some, None, IsTrue, slice_index_or}
use Rattle.base_row_laws.specs.Bags.{Each}
use Rattle.base_row_laws.specs.Rows.{columns}
use Rattle.base_row_laws.specs.Operators.{domain_node}
use Rattle.base_value.specs.declared.value.Value.{Value}
use Rattle.base_value.specs.declared.value.Value.TheVariants.{Null}
use Rattle.base_value.specs.Value.{same_value}
use Rattle.expr_scalar.specs.declared.expr.Expr.{Expr}
use Rattle.expr_scalar.specs.declared.expr.Expr.TheVariants.{Column}
use Rattle.base_schema.specs.declared.column.LineColumn.{LineColumn}
use Rattle.base_schema.specs.Tables.{columns_of}
use Rattle.plan_algebra.specs.declared.node.Node.{Node}
use Rattle.plan_algebra.specs.declared.node.Node.TheVariants as node
use Rattle.plan_algebra.specs.Trees.{Database, HasKinds}
use Rattle.plan_algebra.specs.Plans.{plan_rows, plan_width}
use Rattle.plan_unnested_nodes.specs.declared.domain.Origin.{Origin}
use Rattle.plan_unnested_nodes.specs.declared.origins.Known.{Known}
use Rattle.plan_unnested_nodes.specs.Domains.{is_unchanged, KeepsNotes}
use Rattle.plan_unnested_nodes.specs.OwnColumns.{stored_as}

-- for each column that comes unchanged from a table its kind, and whether it may be null
abbrev pub ColumnKinds : Type 0
ColumnKinds = List (Option Known)

-- what is known of a stored column
abbrev pub known_as : LineColumn → Option Known
known_as column =
    Some (record { kind = stored_as column.kind; may_be_null = column.nullable })

-- the same of a column that may be null, whatever it was before
abbrev pub nullable : Option Known → Option Known
nullable None = None
nullable (Some known) = Some (record { kind = known.kind; may_be_null = true })

-- the kinds of these columns
abbrev pub picked : ColumnKinds → List ℕ → ColumnKinds
picked ks cs = map (λ c. slice_index_or ks c None) cs

-- whether a value can stand in a column: where it is known, a value of its kind, and null where it
-- may be null
abbrev pub can_stand : Option Known → Value → Bool
can_stand None v = true
can_stand (Some known) Null = known.may_be_null
can_stand (Some known) v = is_unchanged known.kind v

-- in each column of a row of these values stands one that can
abbrev pub FitsKinds : ColumnKinds → List Value → Type 0
FitsKinds ks values =
    (c : ℕ) → IsTrue (can_stand (slice_index_or ks c None) (slice_index_or values c Null))

-- the kind of an expression's values: unknown, or that of the column that it is
abbrev pub IsListed : ColumnKinds → Expr → Option Known → Type 0
IsListed ks e k = (k ≡ None) ⊎ ((c : ℕ) × (e ≡ Column c) × (k ≡ slice_index_or ks c None))

-- the kinds of a select list, over rows of these kinds
abbrev pub AreListed : ColumnKinds → List Expr → ColumnKinds → Type 0
AreListed ks [] [] = Unit {0}
AreListed ks (e ∷ es) (k ∷ new) = IsListed ks e k × AreListed ks es new
AreListed ks es new = ⊥

-- the kinds of the columns of the node of this number, of those of the nodes so far
abbrev pub kinds_at : List ColumnKinds → ℕ → ColumnKinds
kinds_at kinds i = slice_index_or kinds i []

-- whether the right node has the columns that are matched and left out
abbrev pub has_matched : List ColumnKinds → Node → Bool
has_matched kinds (node.Join i j matched e) = nat_le (length matched) (length (kinds_at kinds j))
has_matched kinds (node.Outer i j matched nulls e) =
    nat_le (length matched) (length (kinds_at kinds j))
has_matched kinds other = true

-- the kinds of a node's columns, as far as they are known from those of the nodes before it
abbrev pub AreMade : List ColumnKinds → Node → ColumnKinds → Type 0
AreMade kinds (node.Scan table) new = new ≡ map known_as (columns_of table)
AreMade kinds (node.Kept number plan) new = new ≡ replicate (length plan.list) None
AreMade kinds (node.Domain i cs) new = new ≡ picked (kinds_at kinds i) cs
AreMade kinds (node.Select i e) new = new ≡ kinds_at kinds i
AreMade kinds (node.Project i es) new = AreListed (kinds_at kinds i) es new
AreMade kinds (node.Join i j matched e) new =
    new ≡ kinds_at kinds i ++ drop (length matched) (kinds_at kinds j)
AreMade kinds (node.Outer i j matched nulls e) new =
    new ≡ kinds_at kinds i ++ map nullable (drop (length matched) (kinds_at kinds j))
AreMade kinds (node.Mark i j matched e) new = new ≡ kinds_at kinds i ++ replicate 1 None
AreMade kinds (node.Single i j matched c) new = new ≡ kinds_at kinds i ++ replicate 1 None
AreMade kinds (node.Group i by aggregates) new =
    new ≡ picked (kinds_at kinds i) by ++ replicate (length aggregates) None
AreMade kinds (node.Fill i j empty) new =
    new ≡ replicate (length (kinds_at kinds j)) None ++ replicate (length empty) None
AreMade kinds (node.Distinct i) new = new ≡ kinds_at kinds i
AreMade kinds (node.Set i j operation) new =
    new ≡ replicate (length (kinds_at kinds i)) None

-- the kinds of a node's columns: one for each, and its rows keep them over tables of their kinds
pub record AreKindsOf (nodes : List Node) (i : ℕ) (ks : ColumnKinds) : Type 0 where
  pub long : length ks ≡ plan_width nodes i
  pub kept : (db : Database) → HasKinds db
      → Each (λ r. FitsKinds ks r.values) (plan_rows db nodes i)

-- those of the first n nodes
pub record AreKindsOfFirst (nodes : List Node) (n : ℕ) (kinds : List ColumnKinds) : Type 0 where
  pub long : length kinds ≡ n
  pub each : (i : ℕ) → i < n → AreKindsOf nodes i (slice_index_or kinds i [])

-- notes of some columns of a node: they hold of the rows of these columns
pub record AreOrigins (nodes : List Node) (i : ℕ) (cs : List ℕ) (notes : List Origin) : Type 0 where
  pub noted : (db : Database) → HasKinds db
      → KeepsNotes notes (domain_node same_value (columns Null cs) (plan_rows db nodes i))

-- notes of some columns of rows of these kinds
pub record AreNotesOf (ks : ColumnKinds) (cs : List ℕ) (notes : List Origin) : Type 0 where
  pub holds : (values : List Value) → FitsKinds ks values
      → Each (λ n. IsTrue
      (is_unchanged n.kind (slice_index_or (columns Null cs values) n.column Null))) notes
