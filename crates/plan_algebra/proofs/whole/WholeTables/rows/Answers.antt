use Rattle.std.proofs.Common.{subst}
use Rattle.base_schema.specs.State.{table_rows}
use Rattle.plan_algebra.specs.Trees.{HasKinds}
use Rattle.plan_algebra.proofs.whole.WholeTables.rows.Goals as goal

pub returns-in-Region-clause-kinds : goal.returns-in-Region-clause-kinds
returns-in-Region-clause-kinds c = subst (λ s. HasKinds (table_rows s)) c.self.view_is c.self.invariant

pub returns-in-Nation-clause-kinds : goal.returns-in-Nation-clause-kinds
returns-in-Nation-clause-kinds c = subst (λ s. HasKinds (table_rows s)) c.self.view_is c.self.invariant

pub returns-in-Part-clause-kinds : goal.returns-in-Part-clause-kinds
returns-in-Part-clause-kinds c = subst (λ s. HasKinds (table_rows s)) c.self.view_is c.self.invariant

pub returns-in-Supplier-clause-kinds : goal.returns-in-Supplier-clause-kinds
returns-in-Supplier-clause-kinds c = subst (λ s. HasKinds (table_rows s)) c.self.view_is c.self.invariant

pub returns-in-Partsupp-clause-kinds : goal.returns-in-Partsupp-clause-kinds
returns-in-Partsupp-clause-kinds c = subst (λ s. HasKinds (table_rows s)) c.self.view_is c.self.invariant

pub returns-in-Customer-clause-kinds : goal.returns-in-Customer-clause-kinds
returns-in-Customer-clause-kinds c = subst (λ s. HasKinds (table_rows s)) c.self.view_is c.self.invariant

pub returns-in-Orders-clause-kinds : goal.returns-in-Orders-clause-kinds
returns-in-Orders-clause-kinds c = subst (λ s. HasKinds (table_rows s)) c.self.view_is c.self.invariant

pub returns-in-Lineitem-clause-kinds : goal.returns-in-Lineitem-clause-kinds
returns-in-Lineitem-clause-kinds c = subst (λ s. HasKinds (table_rows s)) c.self.view_is c.self.invariant
