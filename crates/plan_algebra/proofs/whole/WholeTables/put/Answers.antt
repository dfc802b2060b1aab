use Rattle.std.proofs.Common.{subst}
use Rattle.base_schema.specs.Kinds.{RowsAreOf}
use Rattle.base_schema.specs.declared.table.TableName.TheVariants as table
use Rattle.plan_algebra.specs.States.{of_tables}
use Rattle.plan_algebra.proofs.States.{with_kinds}
use Rattle.plan_algebra.proofs.whole.WholeTables.put.Goals as goal

pub invariant_of-self : goal.invariant_of-self
invariant_of-self c =
    with_kinds (of_tables c.self.inside.region c.self.inside.nation c.self.inside.part c.self.inside.supplier c.self.inside.partsupp c.self.inside.customer c.self.inside.orders c.self.inside.lineitem)
    table.Region c.args.rows c.self.invariant (subst (λ t. RowsAreOf t c.args.rows) c.in-Region.is c.requires)

pub invariant_of-self-in-Nation : goal.invariant_of-self-in-Nation
invariant_of-self-in-Nation c =
    with_kinds (of_tables c.self.inside.region c.self.inside.nation c.self.inside.part c.self.inside.supplier c.self.inside.partsupp c.self.inside.customer c.self.inside.orders c.self.inside.lineitem)
    table.Nation c.args.rows c.self.invariant (subst (λ t. RowsAreOf t c.args.rows) c.in-Nation.is c.requires)

pub invariant_of-self-in-Part : goal.invariant_of-self-in-Part
invariant_of-self-in-Part c =
    with_kinds (of_tables c.self.inside.region c.self.inside.nation c.self.inside.part c.self.inside.supplier c.self.inside.partsupp c.self.inside.customer c.self.inside.orders c.self.inside.lineitem)
    table.Part c.args.rows c.self.invariant (subst (λ t. RowsAreOf t c.args.rows) c.in-Part.is c.requires)

pub invariant_of-self-in-Supplier : goal.invariant_of-self-in-Supplier
invariant_of-self-in-Supplier c =
    with_kinds (of_tables c.self.inside.region c.self.inside.nation c.self.inside.part c.self.inside.supplier c.self.inside.partsupp c.self.inside.customer c.self.inside.orders c.self.inside.lineitem)
    table.Supplier c.args.rows c.self.invariant (subst (λ t. RowsAreOf t c.args.rows) c.in-Supplier.is c.requires)

pub invariant_of-self-in-Partsupp : goal.invariant_of-self-in-Partsupp
invariant_of-self-in-Partsupp c =
    with_kinds (of_tables c.self.inside.region c.self.inside.nation c.self.inside.part c.self.inside.supplier c.self.inside.partsupp c.self.inside.customer c.self.inside.orders c.self.inside.lineitem)
    table.Partsupp c.args.rows c.self.invariant (subst (λ t. RowsAreOf t c.args.rows) c.in-Partsupp.is c.requires)

pub invariant_of-self-in-Customer : goal.invariant_of-self-in-Customer
invariant_of-self-in-Customer c =
    with_kinds (of_tables c.self.inside.region c.self.inside.nation c.self.inside.part c.self.inside.supplier c.self.inside.partsupp c.self.inside.customer c.self.inside.orders c.self.inside.lineitem)
    table.Customer c.args.rows c.self.invariant (subst (λ t. RowsAreOf t c.args.rows) c.in-Customer.is c.requires)

pub invariant_of-self-in-Orders : goal.invariant_of-self-in-Orders
invariant_of-self-in-Orders c =
    with_kinds (of_tables c.self.inside.region c.self.inside.nation c.self.inside.part c.self.inside.supplier c.self.inside.partsupp c.self.inside.customer c.self.inside.orders c.self.inside.lineitem)
    table.Orders c.args.rows c.self.invariant (subst (λ t. RowsAreOf t c.args.rows) c.in-Orders.is c.requires)

pub invariant_of-self-in-Lineitem : goal.invariant_of-self-in-Lineitem
invariant_of-self-in-Lineitem c =
    with_kinds (of_tables c.self.inside.region c.self.inside.nation c.self.inside.part c.self.inside.supplier c.self.inside.partsupp c.self.inside.customer c.self.inside.orders c.self.inside.lineitem)
    table.Lineitem c.args.rows c.self.invariant (subst (λ t. RowsAreOf t c.args.rows) c.in-Lineitem.is c.requires)
