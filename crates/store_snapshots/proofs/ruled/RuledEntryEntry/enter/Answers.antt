use Rattle.std.proofs.Common.{rules, ◌≡◌, List, false, subst, sym}
use Rattle.std.specs.Option.{ForSome}
use Rattle.std.specs.Arc.{arc_value}
use Rattle.left_right.specs.Sides.{view}
use Rattle.store_state.specs.Prefixes.{IsPrefix}
use Rattle.store_state.specs.Refresh.{Change}
use Rattle.store_state.proofs.Prefixes.{prefix-refl, prefix-trans}
use Rattle.store_snapshots.specs.Openings.{HasOpening, IsNamed, IsOf}
use Rattle.store_snapshots.proofs.OneOpening.{of_opening}
use Rattle.store_snapshots.proofs.ruled.RuledEntryEntry.enter.Goals as goal

pub is_after-requires : goal.is_after-requires
is_after-requires g c told is =
    let opening = (view c.args.self.now.reader.place).opening in
    let now : IsOf opening c.deref-else-version-self.result.now = search rules in
    (opening, c.args.self.now.named, of_opening opening (arc_value told) (c.args.self.now.opened told is), now)

pub invariant_of-self : goal.invariant_of-self
invariant_of-self g c =
    let same : (view c.replace_with.new.dest.place).opening ≡ (view c.args.self.now.reader.place).opening = search rules in
    record {
      named = subst (λ o. IsNamed o c.args.self.now.first) (sym same) c.args.self.now.named;
      opened = subst (λ o. ForSome c.args.self.now.told (λ t. HasOpening o (arc_value t))) (sym same) c.args.self.now.opened;
    }

pub invariant_of-self-in-Refused : goal.invariant_of-self-in-Refused
invariant_of-self-in-Refused g c =
    let same : (view c.replace_with.new.dest.place).opening ≡ (view c.args.self.now.reader.place).opening = search rules in
    record {
      named = subst (λ o. IsNamed o c.args.self.now.first) (sym same) c.args.self.now.named;
      opened = subst (λ o. ForSome c.args.self.now.told (λ t. HasOpening o (arc_value t))) (sym same) c.args.self.now.opened;
    }

pub invariant_of-self-in-OutOfMemory : goal.invariant_of-self-in-OutOfMemory
invariant_of-self-in-OutOfMemory g c =
    let same : (view c.replace_with.new.dest.place).opening ≡ (view c.args.self.now.reader.place).opening = search rules in
    record {
      named = subst (λ o. IsNamed o c.args.self.now.first) (sym same) c.args.self.now.named;
      opened = subst (λ o. ForSome c.args.self.now.told (λ t. HasOpening o (arc_value t))) (sym same) c.args.self.now.opened;
    }

pub returns-else-not-is_after-clause-more : goal.returns-else-not-is_after-clause-more
returns-else-not-is_after-clause-more g c list fits =
    let old = c.args.self.now in
    let share = arc_value c.in-Share.share in
    let seen : IsPrefix (view old.reader.place).list share.list = search rules in
    let here : (view c.replace_with.new.dest.place).list ≡ share.list = search rules in
    let long : IsPrefix share.list list = subst (λ (l : List Change). IsPrefix l list) here fits.0 in
    let begins : ForSome old.told (λ t. IsPrefix (arc_value t).list share.list) = search rules in
    (prefix-trans (view old.reader.place).list share.list list seen long, λ told is. prefix-trans (arc_value told).list share.list list (begins told is) long, fits.2)

pub returns-else-not-is_after-clause-entered : goal.returns-else-not-is_after-clause-entered
returns-else-not-is_after-clause-entered g c =
    let old = c.args.self.now in
    let share = arc_value c.in-Share.share in
    let opened : IsOf (view old.reader.place).opening share = search rules in
    let seen : IsPrefix (view old.reader.place).list share.list = search rules in
    let here : (view c.replace_with.new.dest.place).list ≡ share.list = search rules in
    let begins : ForSome old.told (λ t. IsPrefix (arc_value t).list share.list) = search rules in
    let clear : old.is_stuck ≡ false = search rules in
    let whole : IsPrefix share.list share.list = prefix-refl share.list in (
      record {
        opened = opened;
        begins = (seen, begins, clear);
        seen = (subst (λ (l : List Change). IsPrefix l share.list) (sym here) whole, search rules, clear);
        added = λ list fits. subst (λ (l : List Change). IsPrefix l list) here fits.0;
      },
      search rules,
      search rules,
      search rules,
      search rules,
    )
