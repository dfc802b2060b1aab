use Rattle.plan_dependent_nodes.proofs.LateralColumns.{table_gathers, derived_gathers}
use Rattle.plan_dependent_nodes.proofs.LateralColumns.{lateral_gathers}
use Rattle.plan_dependent_nodes.proofs.LateralColumns.{cross_gathers, inner_gathers, outer_gathers}
use Rattle.plan_dependent_tree.proofs.so_far.+so_far.Goals as goal

pub returns-in-Table : goal.returns-in-Table
returns-in-Table t c = (table_gathers _ c.in-Table.is).grows

pub returns-in-Derived : goal.returns-in-Derived
returns-in-Derived t c = (derived_gathers _ _ _ c.in-Derived.is).grows

pub returns-in_ok-nearest-in-Lateral : goal.returns-in_ok-nearest-in-Lateral
returns-in_ok-nearest-in-Lateral t c =
    (lateral_gathers _ _ c.in-Lateral.is c.get.ensures c.in_ok-nearest-in-Lateral.ensures).grows

pub returns-in_ok-source-in-Cross-2 : goal.returns-in_ok-source-in-Cross-2
returns-in_ok-source-in-Cross-2 t c =
    (cross_gathers _ _ _ c.in-Cross.is c.get-in-Cross.ensures c.in_ok-source-in-Cross.ensures
    c.get-in-Cross-2.ensures c.in_ok-source-in-Cross-2.ensures).grows

pub returns-in_ok-source-in-Inner-2 : goal.returns-in_ok-source-in-Inner-2
returns-in_ok-source-in-Inner-2 t c =
    (inner_gathers c.in-Inner.field-2 _ _ _ c.in-Inner.is c.get-in-Inner.ensures
    c.in_ok-source-in-Inner.ensures c.get-in-Inner-2.ensures
    c.in_ok-source-in-Inner-2.ensures).grows

pub returns-in_ok-source-in-Outer-2 : goal.returns-in_ok-source-in-Outer-2
returns-in_ok-source-in-Outer-2 t c =
    (outer_gathers c.in-Outer.field-2 c.in-Outer.field-3 _ _ _ c.in-Outer.is
    c.get-in-Outer.ensures c.in_ok-source-in-Outer.ensures c.get-in-Outer-2.ensures
    c.in_ok-source-in-Outer-2.ensures).grows
