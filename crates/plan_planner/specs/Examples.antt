-- Texts of plans, worked out by hand.
use Rattle.std.specs.Prelude.{◌≡◌, true, false, List, [], ◌∷◌, ◌++◌, codes}
use Rattle.base_set_rows.specs.declared.kind.ClassKind.TheVariants.{Intersect, Except}
use Rattle.base_set_rows.specs.declared.kind.SetOperation.TheVariants.{Union, Classes}
use Rattle.expr_scalar.specs.declared.expr.Expr.TheVariants.{All}
use Rattle.base_schema.specs.declared.table.TableName.TheVariants.{Region, Nation}
use Rattle.plan_algebra.specs.declared.node.Node.{Node}
use Rattle.plan_algebra.specs.declared.node.Node.TheVariants.{Scan, Kept, Domain, Join, Distinct, Set}
use Rattle.plan_algebra.specs.KeptPlans.{regions_counted}
use Rattle.plan_planner.specs.PlanText.{text_of_plan}

-- two scans joined, and a domain of the result
abbrev pub joined : List Node
joined = Scan Region ∷ Scan Nation ∷ Join 1 0 ((2, 0) ∷ []) (All []) ∷ Domain 2 (0 ∷ []) ∷ []

-- UNION, EXCEPT ALL and INTERSECT of two scans
abbrev pub combined : List Node
combined = Scan Region ∷ Scan Region ∷ Set 0 1 Union ∷ Distinct 2 ∷ Set 3 1 (Classes Except true)
    ∷ Set 4 0 (Classes Intersect false) ∷ []

-- a scan and a kept view, joined
abbrev pub beside_kept : List Node
beside_kept = Scan Region ∷ Kept 1 regions_counted ∷ Join 0 1 [] (All []) ∷ []

-- one scan, and the nodes above
pub record Examples : Type 0 where
  pub kept : text_of_plan beside_kept
      ≡ codes "plan nodes 3 reads 2\n0 scan region\n1 kept 1\n2 join 0 1\n"
  pub scan : text_of_plan (Scan Region ∷ []) ≡ codes "plan nodes 1 reads 1\n0 scan region\n"
  pub inputs : text_of_plan joined
      ≡ codes "plan nodes 4 reads 2\n0 scan region\n1 scan nation\n2 join 1 0\n3 domain 2\n"
  pub sets : text_of_plan combined
      ≡ codes "plan nodes 6 reads 2\n0 scan region\n1 scan region\n2 union 0 1\n3 distinct 2\n"
      ++ codes "4 except 3 1\n5 intersect 4 0\n"
