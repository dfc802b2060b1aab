use Rattle.std.proofs.Common.{◌≡◌, ℕ, List, [], sym, subst, arith}
use Rattle.std.proofs.lemmas.List.{nil_from_length}
use Rattle.exec_hash_group.specs.Grouping.{AreGroups}
use Rattle.exec_hash_group.proofs.group_by.groups_of.Goals as goal

pub returns-then-by-eq0 : goal.returns-then-by-eq0
returns-then-by-eq0 g c =
    let none : c.args.by.now ≡ [] = nil_from_length c.args.by.now (omega arith) in
    let G : List ℕ → Type 0 = λ b. AreGroups b c.args.rows.now.rows c.in_ok-groups.groups.keys.items c.in_ok-groups.groups.numbers.items c.in_ok-groups.groups.count in
    subst G (sym none) c.in_ok-groups.ensures
