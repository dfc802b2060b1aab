use Rattle.std.proofs.Common.{◌≡◌, ap, subst, sym}
use Rattle.std.specs.Arc.{arc_value}
use Rattle.store_versions.proofs.directory.Directory.another.Goals as goal

pub invariant_of-result : goal.invariant_of-result
invariant_of-result g c =
    let base : arc_value c.in_ok-base.base ≡ arc_value c.self.inside.base = c.in_ok-base.ensures in
    let list : (arc_value c.in_ok-list.list).items ≡ (arc_value c.self.inside.list).items =
    ap (λ v. v.items) c.in_ok-list.ensures in (
      record {
        last = rw (base, list, c.in_ok-state.ensures) c.self.invariant.0.last;
        earlier = rw (base, list, c.in_ok-earlier.ensures) c.self.invariant.0.earlier;
      },
      subst (g.A.Attachment.is_right c.in_ok-attachment.attachment) (sym c.in_ok-state.ensures)
          (c.in_ok-attachment.ensures (arc_value c.self.inside.state) c.self.invariant.1),
    )
