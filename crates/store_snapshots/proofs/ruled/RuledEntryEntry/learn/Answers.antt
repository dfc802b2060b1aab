use Rattle.std.proofs.Common.{◌≡◌, ◌∙◌, ap, refl, subst, sym, ⊎_elim}
use Rattle.std.specs.Arc.{arc_value}
use Rattle.left_right.specs.Sides.{view}
use Rattle.store_state.specs.Prefixes.{IsPrefix}
use Rattle.store_state.proofs.Prefixes.{prefix-trans}
use Rattle.store_versions.specs.Trials.{Trials}
use Rattle.store_snapshots.specs.Openings.{HasOpening, IsOf}
use Rattle.store_snapshots.proofs.OneOpening.{has_opening, of_opening}
use Rattle.store_snapshots.proofs.ruled.RuledEntryEntry.learn.Goals as goal
use Rattle.store_snapshots.proofs.ruled.RuledEntryEntry.learn.Goals.{then-self, else-self}

pub longer_of-longer-requires : goal.longer_of-longer-requires
longer_of-longer-requires g c =
    let old = c.args.self.now in
    let opening = (view old.reader.place).opening in
    let told = sym c.replace.ensures.value ∙ c.in-Some.is in
    let kept : IsOf opening (arc_value c.args.note.kept) = subst (IsOf opening) (sym c.args.note.same) c.requires in
    (opening, old.named, of_opening opening (arc_value c.in-Some.before) (old.opened c.in-Some.before told), kept)

pub invariant_of-self : goal.invariant_of-self
invariant_of-self g c =
    let old = c.args.self.now in
    let opening = (view old.reader.place).opening in
    let told = sym c.replace.ensures.value ∙ c.in-Some.is in
    let kept : IsOf opening (arc_value c.args.note.kept) = subst (IsOf opening) (sym c.args.note.same) c.requires in
    let longer = c.longer_of-longer.result.0 in
    let has : HasOpening opening (arc_value longer) = ⊎_elim
    (λ (e : longer ≡ c.in-Some.before). subst (HasOpening opening) (sym (ap arc_value e)) (old.opened c.in-Some.before told))
    (λ (e : longer ≡ c.args.note.kept). subst (HasOpening opening) (sym (ap arc_value e)) (has_opening opening (arc_value c.args.note.kept) kept))
    c.longer_of-longer.ensures.either in
    record {
      named = old.named;
      opened = λ t is. let e : longer ≡ t = cc in subst (HasOpening opening) (ap arc_value e) has;
    }

pub returns-after-self-clause-more : goal.returns-after-self-clause-more
returns-after-self-clause-more g c list fits =
    let old = c.args.self.now in
    let told = sym c.replace.ensures.value ∙ c.in-Some.is in
    let longer = c.longer_of-longer.result.0 in
    elim c.if-self.branch [
      | then-self w ↦ absurd (let yes_is = w.self-is in let no = fits.2 in cc)
      | else-self w ↦
          let before = c.longer_of-longer.ensures.before (sym w.self-is ∙ fits.2) in
          let begins = prefix-trans (arc_value c.in-Some.before).list (arc_value longer).list list before (fits.1 longer refl) in (
            fits.0,
            λ t is. let both = sym told ∙ is in let e : c.in-Some.before ≡ t = cc in subst (λ (d : Trials). IsPrefix d.list list) (ap arc_value e) begins,
            w.if-self.false,
          )
    ]

pub returns-in-None-clause-told : goal.returns-in-None-clause-told
returns-in-None-clause-told g c list fits = subst (λ (d : Trials). IsPrefix d.list list) c.args.note.same (fits.1 c.args.note.kept refl)

pub returns-after-self-clause-told : goal.returns-after-self-clause-told
returns-after-self-clause-told g c list fits =
    let longer = c.longer_of-longer.result.0 in
    elim c.if-self.branch [
      | then-self w ↦ absurd (let yes_is = w.self-is in let no = fits.2 in cc)
      | else-self w ↦
          let now = c.longer_of-longer.ensures.now (sym w.self-is ∙ fits.2) in
          subst (λ (d : Trials). IsPrefix d.list list) c.args.note.same
          (prefix-trans (arc_value c.args.note.kept).list (arc_value longer).list list now (fits.1 longer refl))
    ]
