use Rattle.std.proofs.Common.{subst, sym, ap, ◌∙◌}
use Rattle.expr_scalar.specs.Rename.{IsRenamed, KeepsKinds}
use Rattle.expr_scalar.specs.Used.{used}
use Rattle.expr_scalar.proofs.RenamedKinds.{renamed_keeps}
use Rattle.expr_scalar.proofs.RenamedUses.{renamed_uses}
use Rattle.expr_scalar.proofs.Renames.{renamed_means}
use Rattle.expr_scalar.proofs.columns.rename.Goals as goal

pub returns-clause-meaning : goal.returns-clause-meaning
returns-clause-meaning c = subst (λ y. IsRenamed c.args.columns.now c.args.e.now y) (sym c.in_ok-new.ensures) (renamed_means c.args.columns.now c.args.e.now)

pub returns-clause-kinds : goal.returns-clause-kinds
returns-clause-kinds c = subst (λ y. KeepsKinds c.args.columns.now c.args.e.now y) (sym c.in_ok-new.ensures) (renamed_keeps c.args.columns.now c.args.e.now)

pub returns-clause-used : goal.returns-clause-used
returns-clause-used c = ap used c.in_ok-new.ensures ∙ renamed_uses c.args.columns.now c.args.e.now
