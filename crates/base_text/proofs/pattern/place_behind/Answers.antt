use Rattle.std.proofs.Common.{◌+◌, ◌≤◌, length, arith}
use Rattle.base_text.proofs.Likes.{part_found, length_part}
use Rattle.base_text.proofs.pattern.place_behind.Goals as goal

pub returns-clause-found : goal.returns-clause-found
returns-clause-found c =
    let inside : c.in_ok-place.place + c.args.part ≤ length c.args.text.now =
    omega (arith, c.in_ok-place.ensures.inside, length_part c.args.pattern.now c.args.part c.requires.inside) in
    (inside, part_found c.args.pattern.now c.args.text.now c.args.part c.in_ok-place.place c.requires c.in_ok-place.ensures)
