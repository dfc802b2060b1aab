use Rattle.std.proofs.Common.{subst, map}
use Rattle.std.specs.List.{IsDistinct}
use Rattle.store_groups.specs.Entries.{Entries, same_key}
use Rattle.store_groups.proofs.PageLists.{table_distinct}
use Rattle.store_groups.proofs.groups.Groups.pages.Goals as goal

pub returns-clause-distinct : goal.returns-clause-distinct
returns-clause-distinct c = subst (λ (es : Entries). IsDistinct same_key (map (λ e. e.0) es)) c.self.view_is (table_distinct c.self.invariant)
