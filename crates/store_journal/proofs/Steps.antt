-- The two steps of an append, seen from its first moment on.
use Rattle.std.proofs.Common.{ℕ, ◌+◌, List}
use Rattle.base_disk.specs.Disk.{LeavesOnly}
use Rattle.store_journal.specs.Format.{IsEntry}
use Rattle.store_journal.specs.Journal.{SameOrTorn, WithOrWithout, Stands}
use Rattle.store_journal.proofs.Moments.{goes_on, weaker}
use Rattle.store_journal.proofs.Crash.{IsStaged, first_step, second_step}

module _ {D : Type 0} (moment : D → ℕ) (left_since : D → ℕ → List ℕ → Type 0) (may_leave : D → List ℕ → Type 0) (K : List ℕ → Type 0) (ps : List (List ℕ)) (end : ℕ) (p : List ℕ) (n : ℕ) (old mid : D) (stands : Stands K (may_leave old) ps end) (one : LeavesOnly moment left_since old mid (SameOrTorn (may_leave old) (end + 1) n))
  where
    -- in the first step
    pub in_first : LeavesOnly moment left_since old mid (WithOrWithout K ps p)
    in_first =
        weaker moment left_since old mid (SameOrTorn (may_leave old) (end + 1) n)
        (WithOrWithout K ps p) one
        (first_step K ps end stands.place (may_leave old) (may_leave old) (may_leave old) p stands.images n)

    -- in the second one, where an entry stands whole behind the gate
    pub in_second :
        (new : D) → IsEntry K p → ((c : List ℕ) → may_leave mid c → IsStaged K ps end stands.place p c)
        → LeavesOnly moment left_since mid new (SameOrTorn (may_leave mid) end 1)
        → LeavesOnly moment left_since old new (WithOrWithout K ps p)
    in_second new entry staged two =
        goes_on moment left_since old mid new (WithOrWithout K ps p)
        (SameOrTorn (may_leave mid) end 1) in_first two
        (second_step K ps end stands.place (may_leave old) (may_leave mid) (may_leave new) p stands.images entry staged)
