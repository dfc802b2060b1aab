use Rattle.std.proofs.Common.{◌≡◌, take}
use Rattle.base_row_laws.specs.Bags.{each_once}
use Rattle.base_row_laws.specs.Numbers.{numbers_of}
use Rattle.base_key_tables.specs.Distinct.{first_places}
use Rattle.base_key_tables.proofs.numbering.numbers.Given as goal

abbrev pub invariant-loop-row : goal.invariant-loop-row
invariant-loop-row g l =
    (l.seen ≡ each_once g.K.PartialEq.eq (take l.row l.keys))
    × (l.numbers.items ≡ numbers_of g.K.PartialEq.eq (take l.row l.keys))
    × (l.firsts.items ≡ first_places g.K.PartialEq.eq (take l.row l.keys))
