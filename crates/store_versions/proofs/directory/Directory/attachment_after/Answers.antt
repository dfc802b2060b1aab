use Rattle.std.proofs.Common.{◌≡◌, Ok, Some, ap, length, refl, slice_get, slice_index_or, subst, sym, ◌∙◌}
use Rattle.std.specs.Arc.{arc_value}
use Rattle.std.proofs.lemmas.Option.{slice_get_read}
use Rattle.base_schema.specs.State.{State}
use Rattle.store_state.specs.Refresh.{after}
use Rattle.store_versions.specs.Trials.{Trials, tables_of}
use Rattle.store_versions.proofs.directory.Directory.attachment_after.Goals as goal

pub after_refresh-requires-clause-right : goal.after_refresh-requires-clause-right
after_refresh-requires-clause-right g c =
    subst (g.A.Attachment.is_right c.self.inside.attachment) (sym c.deref-2.ensures) c.self.invariant.1

pub after_refresh-requires-clause-leaves : goal.after_refresh-requires-clause-leaves
after_refresh-requires-clause-leaves g c =
    let t : Trials = c.args.self.now in
    let list : c.deref.result.now.items ≡ t.list =
    ap (λ v. v.items) c.deref.ensures ∙ ap (λ (t : Trials). t.list) c.self.view_is in
    let done : c.self.inside.done ≡ t.done = ap (λ (t : Trials). t.done) c.self.view_is in
    let before : c.deref-2.result.now ≡ tables_of t =
    c.deref-2.ensures ∙ c.self.invariant.0.last.left ∙ ap tables_of c.self.view_is in
    let read : c.index-refresh.result.now ≡ slice_index_or t.list t.done c.index-refresh.result.now =
    rw (sym list, sym done) c.index-refresh.ensures in
    let at : slice_get t.list t.done ≡ Some c.index-refresh.result.now =
    slice_get_read t.list (length t.list) t.done c.index-refresh.result.now refl c.requires.less read in
    subst (λ (s : State). after s c.index-refresh.result.now ≡ Ok (arc_value c.args.state.now)) (sym before)
    (c.requires.leaves c.index-refresh.result.now at)
