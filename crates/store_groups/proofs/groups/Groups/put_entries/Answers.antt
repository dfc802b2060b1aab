use Rattle.std.proofs.Common.{◌∙◌, ◌∷◌, [], ap, sym, arith, length, length-append}
use Rattle.store_groups.specs.Entries.{Entries, group_at}
use Rattle.store_groups.specs.Pages.{first_of}
use Rattle.store_groups.proofs.PageLists.{popped}
use Rattle.store_groups.proofs.groups.Groups.put_entries.Goals as goal

pub loop-i-preserved : goal.loop-i-preserved
loop-i-preserved c = (
  omega (arith, c.loop-i.invariant.0, ap (λ (l : Entries). length l) c.in-Some.ensures.items, length-append c.pop.new.self.items (c.in-Some.entry ∷ [])),
  λ q.
      sym (popped c.pop.new.self.items c.in-Some.entry (group_at c.loop-i.self q) (group_at c.put_entry.new.self q) q (c.in_ok-put_entry.ensures q))
      ∙ ap (λ (l : Entries). first_of (group_at l q) (group_at c.loop-i.self q)) (sym c.in-Some.ensures.items)
      ∙ c.loop-i.invariant.1 q,
)
