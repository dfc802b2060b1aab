use Rattle.std.proofs.Common.{◌≡◌, take, length}
use Rattle.base_row_laws.specs.Numbers.{numbers_of}
use Rattle.base_key_tables.specs.Distinct.{first_places}
use Rattle.exec_key_parts.specs.KeyParts.{key_part}
use Rattle.exec_key_parts.proofs.PartSteps.{AreTaken}
use Rattle.exec_key_parts.proofs.in_parts.numbers_by_leaders.Given as goal

abbrev pub invariant-loop-place : goal.invariant-loop-place
invariant-loop-place g l =
    record {
      long : length l.taken.items ≡ length l.leaders;
      taken : AreTaken (key_part g.K.Hash.hash_input (length l.leaders)) (length l.leaders) (take l.place l.keys) l.taken.items;
      numbers_are : l.numbers.items ≡ numbers_of g.K.PartialEq.eq (take l.place l.keys);
      firsts_are : l.firsts.items ≡ first_places g.K.PartialEq.eq (take l.place l.keys);
    }
