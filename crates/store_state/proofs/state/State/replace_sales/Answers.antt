use Rattle.std.proofs.Common.{set, length-set, ◌∙◌, subst, sym}
use Rattle.store_state.specs.Lists.{IsOfKinds, state_of}
use Rattle.store_state.proofs.Sales.{sales_of_kinds, sales_replaced}
use Rattle.store_state.proofs.state.State.replace_sales.Goals as goal
use mathlib.Core.Path.{refl}

pub invariant_of-self : goal.invariant_of-self
invariant_of-self c =
    let tables = c.self.inside.tables.items in
    let whole = state_of tables in (
      length-set (set tables 6 c.args.orders) 7 c.args.lineitems ∙ (length-set tables 6 c.args.orders ∙ c.self.invariant.0),
      subst IsOfKinds (sym (sales_replaced tables c.args.orders c.args.lineitems whole c.self.invariant.0 refl))
          (sales_of_kinds whole c.args.orders c.args.lineitems c.self.invariant.1 c.requires.orders c.requires.lineitems),
    )

pub returns : goal.returns
returns c = sales_replaced c.self.inside.tables.items c.args.orders c.args.lineitems c.args.self.now c.self.invariant.0 c.self.view_is
