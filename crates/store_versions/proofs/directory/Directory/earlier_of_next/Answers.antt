use Rattle.std.proofs.Common.{◌+◌, ap, subst, sym}
use Rattle.std.specs.Arc.{arc_value}
use Rattle.std.proofs.lemmas.List.Elements.{All-filter, All-push}
use Rattle.store_versions.specs.Older.{IsVersionOf, is_kept_at}
use Rattle.store_versions.specs.Trials.{HasKept, Trials}
use Rattle.store_versions.proofs.directory.Directory.earlier_of_next.Goals as goal

pub returns : goal.returns
returns g c =
    let here : HasKept c.args.self.now c.self.inside.accepted (arc_value c.self.inside.state) =
    subst (λ (t : Trials). HasKept t c.self.inside.accepted (arc_value c.self.inside.state))
    c.self.view_is c.self.invariant.0.last in
    let done = ap (λ (t : Trials). t.done) c.self.view_is in
    let mine : IsVersionOf c.args.self.now c.new.result =
    rw (c.new.ensures, c.in_ok-state.ensures, done) here in
    rw c.in_ok-push.ensures.items
    (All-push (IsVersionOf c.args.self.now) c.in_ok-kept.kept.items
    c.new.result
    (rw c.in_ok-kept.ensures
    (All-filter (is_kept_at (c.self.inside.accepted + 1))
    (IsVersionOf c.args.self.now) c.earlier.result.now
    c.earlier.ensures))
    mine)

pub new-requires : goal.new-requires
new-requires g c =
    subst (g.A.Attachment.is_right c.in_ok-attachment.attachment) (sym c.in_ok-state.ensures)
    (c.in_ok-attachment.ensures (arc_value c.self.inside.state) c.self.invariant.1)
