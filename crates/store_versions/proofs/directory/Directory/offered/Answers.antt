use Rattle.std.proofs.Common.{◌≡◌, ◌<◌, ◌≤◌, List, [], ◌∷◌, ◌++◌, length, ap, subst, sym, ◌∙◌}
use Rattle.std.specs.Arc.{arc_value}
use Rattle.store_state.specs.Refresh.{Change}
use Rattle.store_versions.specs.Older.{KeptState}
use Rattle.store_versions.specs.Trials.{HasKept, Trials, offered, tables_of, trials_at}
use Rattle.store_versions.proofs.Longer.{all_longer, kept_longer, tables_longer}
use Rattle.store_versions.proofs.directory.Directory.offered.Goals as goal

pub at-requires-clause-last : goal.at-requires-clause-last
at-requires-clause-last g c =
    let t : Trials = trials_at (arc_value c.self.inside.base) (arc_value c.self.inside.list).items c.self.inside.done c.self.inside.most in
    let room : length t.list < t.most = subst (λ (t : Trials). length t.list < t.most) (sym c.self.view_is) c.requires in
    let base : arc_value c.in_ok-base.base ≡ arc_value c.self.inside.base = c.in_ok-base.ensures in
    let list : (arc_value c.in_ok-list-2.list).items ≡ (arc_value c.self.inside.list).items ++ c.args.refresh ∷ [] =
    ap (λ v. v.items) c.in_ok-list-2.ensures.ok ∙ c.in_ok-list.ensures
    ∙ ap (λ l. l ++ c.args.refresh ∷ []) (c.as_slice.ensures.value ∙ ap (λ v. v.items) c.deref.ensures) in
    let kept : HasKept
    (trials_at (arc_value c.in_ok-base.base) (arc_value c.in_ok-list-2.list).items c.self.inside.done c.self.inside.most)
    c.self.inside.accepted (arc_value c.self.inside.state) =
    rw (base, list) (kept_longer t c.args.refresh c.self.inside.accepted (arc_value c.self.inside.state) room c.self.invariant.0.last) in
    rw (c.new-last.ensures, c.in_ok-state.ensures) kept

pub at-requires-clause-earlier : goal.at-requires-clause-earlier
at-requires-clause-earlier g c =
    let t : Trials = trials_at (arc_value c.self.inside.base) (arc_value c.self.inside.list).items c.self.inside.done c.self.inside.most in
    let room : length t.list < t.most = subst (λ (t : Trials). length t.list < t.most) (sym c.self.view_is) c.requires in
    let base : arc_value c.in_ok-base.base ≡ arc_value c.self.inside.base = c.in_ok-base.ensures in
    let list : (arc_value c.in_ok-list-2.list).items ≡ (arc_value c.self.inside.list).items ++ c.args.refresh ∷ [] =
    ap (λ v. v.items) c.in_ok-list-2.ensures.ok ∙ c.in_ok-list.ensures
    ∙ ap (λ l. l ++ c.args.refresh ∷ []) (c.as_slice.ensures.value ∙ ap (λ v. v.items) c.deref.ensures) in
    rw (base, list, c.in_ok-earlier.ensures)
    (all_longer t c.args.refresh (arc_value c.self.inside.earlier).items room c.self.invariant.0.earlier)

pub returns-clause-tables : goal.returns-clause-tables
returns-clause-tables g c =
    let base : arc_value c.in_ok-base.base ≡ arc_value c.self.inside.base = c.in_ok-base.ensures in
    let list : (arc_value c.in_ok-list-2.list).items ≡ (arc_value c.self.inside.list).items ++ c.args.refresh ∷ [] =
    ap (λ v. v.items) c.in_ok-list-2.ensures.ok ∙ c.in_ok-list.ensures
    ∙ ap (λ l. l ++ c.args.refresh ∷ []) (c.as_slice.ensures.value ∙ ap (λ v. v.items) c.deref.ensures) in
    let done = ap (λ (k : KeptState). k.done) c.new-last.ensures in
    let longer : List Change = (arc_value c.in_ok-list-2.list).items in
    let same : c.at.result ≡ offered c.args.refresh c.args.self.now =
    c.at.ensures
    ∙ ap (λ b. trials_at b longer c.new-last.result.done c.self.inside.most) base
    ∙ ap (λ l. trials_at (arc_value c.self.inside.base) l c.new-last.result.done c.self.inside.most) list
    ∙ ap (λ d. trials_at (arc_value c.self.inside.base) ((arc_value c.self.inside.list).items ++ c.args.refresh ∷ []) d c.self.inside.most) done
    ∙ ap (offered c.args.refresh) c.self.view_is in
    let within : c.args.self.now.done ≤ length c.args.self.now.list =
    subst (λ (t : Trials). t.done ≤ length t.list) c.self.view_is c.self.invariant.0.last.within in
    ap tables_of same ∙ tables_longer c.args.self.now c.args.refresh within

pub new-last-requires : goal.new-last-requires
new-last-requires g c =
    subst (g.A.Attachment.is_right c.in_ok-attachment.attachment) (sym c.in_ok-state.ensures)
    (c.in_ok-attachment.ensures (arc_value c.self.inside.state) c.self.invariant.1)
