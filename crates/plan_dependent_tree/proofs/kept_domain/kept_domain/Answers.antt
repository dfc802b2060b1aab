use Rattle.std.proofs.Common.{◌≡◌, ◌+◌, length, rules}
use Rattle.plan_dependent_tree.proofs.SeenSources.{domain_is}
use Rattle.plan_dependent_tree.proofs.kept_domain.kept_domain.Goals as goal

pub returns : goal.returns
returns c =
    let s = c.args.sight.now in
    let begins : c.in_ok-begin.begin ≡ length c.in_ok-places.places = search rules in
    let sum : c.in_ok-start.start ≡ c.in_ok-begin.begin + c.args.width = search rules in
    let behind : c.in_ok-before.before ≡ s.before + c.args.width = search rules in
    domain_is c.args.s.now c.args.on.now s.outer.now s.so_far.now s.before s.start c.args.width
    c.in_ok-outer.outer _ c.in_ok-so_far.so_far _ c.in_ok-places.places c.in_ok-columns.columns
    c.in_ok-before.before c.in_ok-begin.begin c.in_ok-start.start c.as_slice.ensures
    c.as_slice-2.ensures c.in_ok-outer.ensures c.in_ok-so_far.ensures c.in_ok-places.ensures
    c.in_ok-columns.ensures begins sum behind
