use Rattle.std.proofs.Common.{◌≡◌, ◌∙◌, ap, subst, sym}
use Rattle.store_versions.specs.Trials.{Trials, version_of}
use Rattle.store_snapshots.specs.Publishers.{Edition, version_in}
use Rattle.store_snapshots.specs.Rule.{MayFollow, on_shelf}
use Rattle.store_snapshots.proofs.Steps.{follows_through}
use Rattle.store_snapshots.proofs.publisher.Publisher.keep.Goals as goal

pub invariant_of-self : goal.invariant_of-self
invariant_of-self g c =
    let shown = on_shelf c.self.inside.writer.desk.shown.value in
    let last = version_in c.self.inside.latest in
    let is : last ≡ c.args.self.now.version = ap (λ (e : Edition). e.version) c.self.view_is in
    let follows : MayFollow last c.args.trials = subst (λ (v : Trials). MayFollow v c.args.trials) (sym is) c.requires.follows in
    record {
      follows = follows_through shown last c.args.trials c.self.invariant.follows follows;
      number = c.self.invariant.number ∙ ap version_of is ∙ sym c.requires.number;
    }
