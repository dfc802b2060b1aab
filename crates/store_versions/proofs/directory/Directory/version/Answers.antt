use Rattle.std.proofs.Common.{◌≡◌, arith, ap, ◌∙◌}
use Rattle.store_state.proofs.VersionSteps.{accepted-most}
use Rattle.store_versions.specs.Trials.{version_of}
use Rattle.store_versions.proofs.directory.Directory.version.Goals as goal

pub returns-clause-most : goal.returns-clause-most
returns-clause-most g c =
    let t = c.args.self.now in
    let e : c.self.inside.accepted ≡ version_of t = c.self.invariant.0.last.counted ∙ ap version_of c.self.view_is in
    let m = accepted-most t.base t.list t.done in
    omega (arith, e, m)
