-- Domains of a plan that is being built.
use Rattle.std.specs.Prelude.{◌≡◌, ℕ, ◌<◌, Bool, false, List, length, IsTrue, slice_index_or}
use Rattle.base_row_laws.specs.Ranked.{Ranked}
use Rattle.base_row_laws.specs.Bags.{Each}
use Rattle.base_row_laws.specs.Rows.{unit_row}
use Rattle.base_row_laws.specs.Domains.{IsDomain}
use Rattle.base_value.specs.declared.value.Value.{Value}
use Rattle.base_value.specs.declared.value.Value.TheVariants.{Null, Fault}
use Rattle.base_value.specs.Value.{same_value}
use Rattle.expr_scalar.specs.declared.kind.Kind.{Kind}
use Rattle.expr_scalar.specs.Typing.{is_of_kind}
use Rattle.plan_algebra.specs.declared.node.Node.{Node}
use Rattle.plan_algebra.specs.Trees.{Database, HasKinds}
use Rattle.plan_algebra.specs.Plans.{plan_rows, plan_width}
use Rattle.plan_unnested_nodes.specs.declared.domain.Domain.{Domain as DomainData}
use Rattle.plan_unnested_nodes.specs.declared.domain.DomainRows.{DomainRows}
use Rattle.plan_unnested_nodes.specs.declared.domain.DomainRows.TheVariants.{One, Node as AtNode}
use Rattle.plan_unnested_nodes.specs.declared.domain.Origin.{Origin}

-- how many columns a domain has
abbrev pub domain_width : DomainRows → ℕ
domain_width One = 0
domain_width (AtNode id width) = width

-- a domain's rows: the one row of no columns, or those of its node in the plan
abbrev pub domain_rows : Database → List Node → DomainRows → List (Ranked Value)
domain_rows db nodes One = unit_row
domain_rows db nodes (AtNode id width) = plan_rows db nodes id

-- a domain's node is in the plan, and has as many columns
abbrev pub IsInPlan : List Node → DomainRows → Type 0
IsInPlan nodes One = Unit {0}
IsInPlan nodes (AtNode id width) = (id < length nodes) × (plan_width nodes id ≡ width)

-- a value that comes unchanged from a column of that kind: null, or a value of the kind and scale
abbrev pub is_unchanged : Kind → Value → Bool
is_unchanged kind (Fault f) = false
is_unchanged kind v = is_of_kind kind v

-- in each noted column the rows hold only nulls and values of the column's kind and scale
abbrev pub KeepsNotes : List Origin → List (Ranked Value) → Type 0
KeepsNotes notes rows =
    Each (λ e. Each (λ n. IsTrue (is_unchanged n.kind (slice_index_or e.values n.column Null))) notes)
    rows

-- Over this database, whose tables are of their kinds, a domain of the plan is one: no two of its
-- rows are identical, each stands at True, and its notes hold.
pub record DomainHolds (db : Database) (nodes : List Node) (domain : DomainData) : Type 0 where
  pub kinds : HasKinds db
  pub is_domain : IsDomain same_value (domain_width domain.rows) (domain_rows db nodes domain.rows)
  pub noted : KeepsNotes domain.unchanged (domain_rows db nodes domain.rows)
