use Rattle.std.proofs.Common.{rules, ◌≡◌, ap, subst, sym}
use Rattle.store_versions.specs.Trials.{Trials, version_of}
use Rattle.store_snapshots.specs.Publishers.{Edition, version_in}
use Rattle.store_snapshots.specs.Rule.{MayFollow, on_shelf}
use Rattle.store_snapshots.proofs.Steps.{follows_same, follows_through}
use Rattle.store_snapshots.proofs.publisher.Publisher.show.Goals as goal

pub invariant_of-self-2 : goal.invariant_of-self-2
invariant_of-self-2 g c =
    let shown = on_shelf c.replace_with.new.dest.desk.shown.value in
    let is : shown ≡ version_in c.args.latest = search rules in
    record { follows = follows_same shown (version_in c.args.latest) (sym is); number = ap version_of is }

pub replace_with-requires : goal.replace_with-requires
replace_with-requires g c =
    let shown = on_shelf c.self.inside.writer.desk.shown.value in
    let last = version_in c.self.inside.latest in
    let next = version_in c.args.latest in
    let is : last ≡ c.args.self.now.version = ap (λ (e : Edition). e.version) c.self.view_is in
    let follows : MayFollow last next = subst (λ (v : Trials). MayFollow v next) (sym is) c.requires.follows in
    subst (MayFollow shown) (sym c.requires.share) (follows_through shown last next c.self.invariant.follows follows)
