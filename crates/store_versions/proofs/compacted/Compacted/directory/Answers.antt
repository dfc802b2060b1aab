use Rattle.std.proofs.Common.{◌≡◌, ap, map, subst, sym, ◌∙◌}
use Rattle.std.specs.Arc.{arc_value}
use Rattle.base_columns.specs.Lists.{one_list}
use Rattle.store_state.specs.Lists.{state_of}
use Rattle.store_versions.specs.Trials.{HasKept, trials_at}
use Rattle.store_versions.proofs.compacted.Compacted.directory.Goals as goal

pub state_over-requires-clause-kinds : goal.state_over-requires-clause-kinds
state_over-requires-clause-kinds g c = rw c.as_slice.ensures.value c.self.invariant.2

pub at-requires-clause-last : goal.at-requires-clause-last
at-requires-clause-last g c =
    let base : arc_value c.in_ok-base.base ≡ arc_value c.self.inside.base = c.in_ok-base.ensures in
    let list : (arc_value c.in_ok-list.list).items ≡ (arc_value c.self.inside.list).items =
    ap (λ v. v.items) c.in_ok-list.ensures in
    let kept : HasKept
    (trials_at (arc_value c.in_ok-base.base) (arc_value c.in_ok-list.list).items
    c.self.inside.done c.self.inside.most) c.self.inside.accepted c.in_ok-tables.tables =
    rw (base, list, c.in_ok-tables.ensures, c.as_slice.ensures.value) c.self.invariant.0.last in
    rw (c.new-last.ensures, c.in_ok-state.ensures.ok) kept

pub at-requires-clause-earlier : goal.at-requires-clause-earlier
at-requires-clause-earlier g c =
    let base : arc_value c.in_ok-base.base ≡ arc_value c.self.inside.base = c.in_ok-base.ensures in
    let list : (arc_value c.in_ok-list.list).items ≡ (arc_value c.self.inside.list).items =
    ap (λ v. v.items) c.in_ok-list.ensures in
    rw (base, list, c.in_ok-earlier.ensures) c.self.invariant.0.earlier

pub new-last-requires : goal.new-last-requires
new-last-requires g c =
    let here = state_of (map (λ segments. one_list segments.items) c.self.inside.tables.items) in
    let same : arc_value c.in_ok-state.state ≡ here =
    c.in_ok-state.ensures.ok ∙ c.in_ok-tables.ensures
    ∙ ap (λ tables. state_of (map (λ segments. one_list segments.items) tables)) c.as_slice.ensures.value in
    subst (g.A.Attachment.is_right c.in_ok-attachment.attachment) (sym same)
    (c.in_ok-attachment.ensures here c.self.invariant.3)
