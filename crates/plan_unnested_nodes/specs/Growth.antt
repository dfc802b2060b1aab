-- Plans that grow.
use Rattle.std.specs.Prelude.{◌≡◌, ℕ, ◌≤◌, List, [], ◌∷◌, ◌++◌, length}
use Rattle.plan_algebra.specs.Trees.{Occurrence}
use Rattle.plan_algebra.specs.declared.node.Node.{Node}
use Rattle.plan_algebra.specs.Plans.{plan_scans, plan_domains}

-- a plan that grew by some nodes, which scan these tables, and of which at most this number are
-- domains
pub record Grows (before after : List Node) (tables : List Occurrence) (most : ℕ) : Type 0 where
  pub more : List Node
  pub grows : after ≡ before ++ more
  pub scans : plan_scans more ≡ tables
  pub domains : plan_domains more ≤ most

-- the plan grew by one node, of this number
pub record IsPut (old new : List Node) (node : Node) (id : ℕ) : Type 0 where
  pub number : id ≡ length old
  pub nodes : new ≡ old ++ node ∷ []
