use Rattle.std.proofs.Common.{◌<◌, Ok, Err, length, refl, ap, subst, sym, ◌∙◌}
use Rattle.std.specs.Arc.{arc_value}
use Rattle.store_state.specs.declared.applied.RefreshError.TheVariants.{Refused}
use Rattle.store_versions.specs.Trials.{Leaves, Trials, one_more, tables_of, trials_at, version_of}
use Rattle.store_versions.proofs.Next.{kept_refused, same_version}
use Rattle.store_versions.proofs.directory.Directory.after_next.Goals as goal

pub returns-in_ok-next-in-Ok : goal.returns-in_ok-next-in-Ok
returns-in_ok-next-in-Ok g c =
    let next = c.in_ok-next-in-Ok.ensures in
    let leaves = c.in-Ok.ensures in
    (next.next, next.version, refl, λ change at. leaves change at ∙ ap Ok (sym next.tables))

pub invariant_of-self : goal.invariant_of-self
invariant_of-self g c =
    let trials : Trials = trials_at (arc_value c.self.inside.base) (arc_value c.self.inside.list).items c.self.inside.done c.self.inside.most in
    let less : c.self.inside.done < length (arc_value c.self.inside.list).items = subst (λ (t : Trials). t.done < length t.list) (sym c.self.view_is) c.requires in
    let here : Leaves c.args.self.now (Err (Refused c.in-Err-Refused.cause)) = rw c.in-Err-Refused.field-0-is at c.in-Err-Refused.ensures in
    let leaves : Leaves trials (Err (Refused c.in-Err-Refused.cause)) = subst (λ (t : Trials). Leaves t (Err (Refused c.in-Err-Refused.cause))) (sym c.self.view_is) here in (
      record {
        last = kept_refused trials c.self.inside.accepted (arc_value c.self.inside.state) c.in-Err-Refused.cause c.self.invariant.0.last less leaves;
        earlier = c.self.invariant.0.earlier;
      },
      c.self.invariant.1,
    )

pub returns-in-Err-Refused : goal.returns-in-Err-Refused
returns-in-Err-Refused g c =
    let leaves : Leaves c.args.self.now (Err (Refused c.in-Err-Refused.cause)) = rw c.in-Err-Refused.field-0-is at c.in-Err-Refused.ensures in
    let same = same_version c.args.self.now c.in-Err-Refused.cause c.requires leaves in (
      ap one_more c.self.view_is,
      ap (λ (t : Trials). version_of (one_more t)) c.self.view_is ∙ same.0,
      ap (λ (t : Trials). tables_of (one_more t)) c.self.view_is ∙ same.1,
      leaves,
    )
