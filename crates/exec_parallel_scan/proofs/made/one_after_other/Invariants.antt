use Rattle.std.proofs.Common.{◌≡◌, ◌++◌, length}
use Rattle.std.specs.Prelude.{map}
use Rattle.std.specs.Vec.Iter.{into_iter_items, into_iter_len}
use Rattle.base_columns.specs.Lists.{one_list}
use Rattle.exec_parallel_scan.proofs.made.one_after_other.Given as goal

abbrev pub invariant-loop-list : goal.invariant-loop-list
invariant-loop-list g l =
    record {
      whole : l.yielded ++ into_iter_items l.list-iterator ≡ into_iter_items l.initial.list-iterator;
      left : into_iter_len l.list-iterator ≡ length (into_iter_items l.list-iterator);
      all : l.all.items ≡ one_list (map (λ v. v.items) l.yielded);
    }
