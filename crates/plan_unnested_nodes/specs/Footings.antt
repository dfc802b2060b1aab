-- What a tree is lowered over while its plan is built: the rows of a domain, whose node is put into
-- the plan once another node reads it.
use Rattle.std.specs.Prelude.{◌≡◌, ℕ, ◌+◌, ◌<◌, ◌≤◌, List, [], length}
use Rattle.base_row_laws.specs.Ranked.{Ranked}
use Rattle.base_row_laws.specs.Rows.{columns, unit_row}
use Rattle.base_row_laws.specs.Operators.{domain_node}
use Rattle.base_row_laws.specs.Domains.{IsDomain}
use Rattle.base_value.specs.declared.value.Value.{Value}
use Rattle.base_value.specs.declared.value.Value.TheVariants.{Null}
use Rattle.base_value.specs.Value.{same_value}
use Rattle.plan_algebra.specs.declared.node.Node.{Node}
use Rattle.plan_algebra.specs.Trees.{Database, HasKinds}
use Rattle.plan_algebra.specs.Plans.{plan_rows, plan_width}
use Rattle.plan_unnested_nodes.specs.declared.domain.Domain.{Domain as DomainData}
use Rattle.plan_unnested_nodes.specs.declared.domain.DomainRows.{DomainRows}
use Rattle.plan_unnested_nodes.specs.declared.domain.DomainRows.TheVariants as domain
use Rattle.plan_unnested_nodes.specs.declared.footing.Footing.{Footing}
use Rattle.plan_unnested_nodes.specs.declared.footing.FootingRows.{FootingRows}
use Rattle.plan_unnested_nodes.specs.declared.footing.FootingRows.TheVariants.{One, Node as AtNode, Due}
use Rattle.plan_unnested_nodes.specs.Domains.{KeepsNotes}
use Rattle.plan_unnested_nodes.specs.Growth.{Grows}

-- how many columns the rows have
abbrev pub footing_width : FootingRows → ℕ
footing_width One = 0
footing_width (AtNode id width) = width
footing_width (Due outer cs) = length cs

-- the rows: the one row of no columns, those of a node, or the values of a node's rows at some
-- columns, identical ones once
abbrev pub footing_rows : Database → List Node → FootingRows → List (Ranked Value)
footing_rows db nodes One = unit_row
footing_rows db nodes (AtNode id width) = plan_rows db nodes id
footing_rows db nodes (Due outer cs) =
    domain_node same_value (columns Null cs) (plan_rows db nodes outer)

-- the node that the rows are read from is in the plan
abbrev pub IsFooting : List Node → FootingRows → Type 0
IsFooting nodes One = Unit {0}
IsFooting nodes (AtNode id width) = (id < length nodes) × (plan_width nodes id ≡ width)
IsFooting nodes (Due outer cs) = outer < length nodes

-- 1 where the node of the rows is still to be put
abbrev pub is_due : FootingRows → ℕ
is_due One = 0
is_due (AtNode id width) = 0
is_due (Due outer cs) = 1

-- the rows of a domain, as a footing has them
abbrev pub as_footing : DomainRows → FootingRows
as_footing domain.One = One
as_footing (domain.Node id width) = AtNode id width

-- a domain as a footing
abbrev pub footing_of : DomainData → Footing
footing_of d = record { rows = as_footing d.rows; unchanged = d.unchanged }

-- Over this database, whose tables are of their kinds, the rows are a domain: no two of them are
-- identical, each stands at True, and the notes hold.
pub record FootingHolds (db : Database) (nodes : List Node) (f : Footing) : Type 0 where
  pub kinds : HasKinds db
  pub is_domain : IsDomain same_value (footing_width f.rows) (footing_rows db nodes f.rows)
  pub noted : KeepsNotes f.unchanged (footing_rows db nodes f.rows)

-- while a plan grew, a footing stayed one of the same rows and notes
pub record SameFooting (before after : List Node) (old new : Footing) : Type 0 where
  pub in_plan : IsFooting after new.rows
  pub width : footing_width new.rows ≡ footing_width old.rows
  pub rows : (db : Database)
      → footing_rows db after new.rows ≡ footing_rows db before old.rows
  pub unchanged : new.unchanged ≡ old.unchanged

-- The plan grew by the domain of a footing where it was due: now these are its rows.
pub record Settles (before after : List Node) (old new : Footing) (rows : DomainRows) : Type 0 where
  pub most : ℕ
  pub plan : Grows before after [] most
  pub few : most + is_due new.rows ≤ is_due old.rows
  pub same : SameFooting before after old new
  pub settled : new.rows ≡ as_footing rows
