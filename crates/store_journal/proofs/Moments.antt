-- How a run of calls goes on.
use Rattle.std.proofs.Common.{inl, inr, ⊎_elim, ℕ, List, arith, ◌∙◌, Option}
use Rattle.base_disk.specs.Disk.{LeavesOnly}
use Rattle.store_journal.specs.Journal.{OnlyReads}

module _ {D : Type 0} (moment : D → ℕ) (left_since : D → ℕ → List ℕ → Type 0) where
  -- before the first call
  pub started : (old : D) (P : List ℕ → Type 0) → ((c : List ℕ) → left_since old (moment old) c → P c) → LeavesOnly moment left_since old old P
  started old P here = record { later = omega arith; each = here; before = λ t c le left. inl left; keeps = λ t c le left. left }

  -- one part more, after which a crash at any moment leaves what has P
  pub goes_on : (old mid new : D) (P Q : List ℕ → Type 0) → LeavesOnly moment left_since old mid P → LeavesOnly moment left_since mid new Q → ((c : List ℕ) → Q c → P c) → LeavesOnly moment left_since old new P
  goes_on old mid new P Q one two here = record {
    later = omega (arith, one.later, two.later);
    each = λ c left. ⊎_elim (λ was. one.each c was) (λ q. here c q) (two.before (moment old) c one.later left);
    before = λ t c le left. ⊎_elim (λ was. one.before t c le was) (λ q. inr (here c q)) (two.before t c (omega (arith, le, one.later)) left);
    keeps = λ t c le left. two.keeps t c (omega (arith, le, one.later)) (one.keeps t c le left);
  }

  -- what is left has another property too
  pub weaker : (old new : D) (P Q : List ℕ → Type 0) → LeavesOnly moment left_since old new P → ((c : List ℕ) → P c → Q c) → LeavesOnly moment left_since old new Q
  weaker old new P Q one here = record {
    later = one.later;
    each = λ c left. here c (one.each c left);
    before = λ t c le left. ⊎_elim (λ was. inl was) (λ p. inr (here c p)) (one.before t c le left);
    keeps = one.keeps;
  }

-- reading and reading on
pub reads_on : {D : Type 0} (reads : D → Option (List ℕ)) (may_leave : D → List ℕ → Type 0) (moment : D → ℕ) (left_since : D → ℕ → List ℕ → Type 0) (faults : D → ℕ) (old mid new : D) → OnlyReads reads may_leave moment left_since faults old mid → OnlyReads reads may_leave moment left_since faults mid new → OnlyReads reads may_leave moment left_since faults old new
reads_on reads may_leave moment left_since faults old mid new one two = record {
  same = two.same ∙ one.same;
  images = λ c left. one.images c (two.images c left);
  any_moment = goes_on moment left_since old mid new (may_leave old) (may_leave mid) one.any_moment two.any_moment one.images;
  later = omega (arith, one.later, two.later);
}
