use Rattle.std.proofs.Common.{◌≡◌, ℕ, ◌+◌, Ok, ap, subst, sym, ◌∙◌}
use Rattle.std.specs.Arc.{arc_value}
use Rattle.base_schema.specs.State.{State}
use Rattle.store_versions.specs.Older.{KeptState}
use Rattle.store_versions.specs.Trials.{HasKept, Leaves, Trials, one_more, tables_of, version_of}
use Rattle.store_versions.proofs.Next.{kept_next, next_tables, next_version}
use Rattle.store_versions.proofs.directory.Directory.next.Goals as goal

pub sharing-requires-clause-last : goal.sharing-requires-clause-last
sharing-requires-clause-last g c =
    let number = c.self.inside.accepted in
    let here : HasKept c.args.self.now number (arc_value c.self.inside.state) =
    subst (λ (t : Trials). HasKept t number (arc_value c.self.inside.state))
    c.self.view_is c.self.invariant.0.last in
    let kept : HasKept (one_more c.args.self.now) (number + 1) (arc_value c.in_ok-state.state) =
    subst (HasKept (one_more c.args.self.now) (number + 1)) (sym c.in_ok-state.ensures.ok)
    (kept_next c.args.self.now number (arc_value c.self.inside.state) c.args.state here
    c.requires.less c.requires.leaves) in
    let done = ap (λ (t : Trials). t.done) c.self.view_is in
    rw (c.new-last.ensures, done) kept

pub returns-clause-version : goal.returns-clause-version
returns-clause-version g c =
    let done : c.new-last.result.done ≡ c.args.self.now.done + 1 =
    ap (λ (k : KeptState). k.done) c.new-last.ensures
    ∙ ap (λ (t : Trials). t.done + 1) c.self.view_is in
    let same : c.in_ok-next.next ≡ one_more c.args.self.now =
    c.in_ok-next.ensures ∙ ap (λ (d : ℕ). record c.args.self.now { done = d }) done in
    ap version_of same
    ∙ next_version c.args.self.now c.args.state c.requires.less c.requires.leaves

pub returns-clause-tables : goal.returns-clause-tables
returns-clause-tables g c =
    let done : c.new-last.result.done ≡ c.args.self.now.done + 1 =
    ap (λ (k : KeptState). k.done) c.new-last.ensures
    ∙ ap (λ (t : Trials). t.done + 1) c.self.view_is in
    let same : c.in_ok-next.next ≡ one_more c.args.self.now =
    c.in_ok-next.ensures ∙ ap (λ (d : ℕ). record c.args.self.now { done = d }) done in
    ap tables_of same
    ∙ next_tables c.args.self.now c.args.state c.requires.less c.requires.leaves

pub attachment_after-requires-clause-leaves : goal.attachment_after-requires-clause-leaves
attachment_after-requires-clause-leaves g c =
    subst (λ (s : State). Leaves c.args.self.now (Ok s)) (sym c.in_ok-state.ensures.ok) c.requires.leaves
