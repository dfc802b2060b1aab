use Rattle.std.proofs.Common.{subst, sym, arith, length, Some}
use Rattle.base_value.specs.Truth.{standing_rank}
use Rattle.store_groups.specs.Groups.{with_row}
use Rattle.store_groups.specs.Entries.{HasLong, group_at, or_empty}
use Rattle.store_groups.proofs.PageLists.{at_page, get_there, page_distinct, set_there, table_after, table_with}
use Rattle.store_groups.proofs.groups.Groups.add_row.Goals as goal

pub put_row-requires-clause-distinct : goal.put_row-requires-clause-distinct
put_row-requires-clause-distinct c = page_distinct c.self.invariant c.len.result c.page_of-at.result c.index_mut.result.now c.args.key.now (omega (arith, c.len.ensures, c.self.inside.pages.ok.0)) (at_page c.hash_of-hash.ensures c.len.result c.page_of-at.result c.page_of-at.ensures.value) c.index_mut.ensures.value

pub put_row-requires-clause-long : goal.put_row-requires-clause-long
put_row-requires-clause-long c =
    subst (λ g. HasLong (length c.args.arguments.now) g)
    (sym (get_there c.self.invariant c.len.result c.page_of-at.result c.index_mut.result.now c.args.key.now (omega (arith, c.len.ensures, c.self.inside.pages.ok.0)) (at_page c.hash_of-hash.ensures c.len.result c.page_of-at.result c.page_of-at.ensures.value) c.index_mut.ensures.value c.args.self.now c.self.view_is))
    c.requires

pub invariant_of-self : goal.invariant_of-self
invariant_of-self c =
    table_after c.self.invariant c.len.result c.page_of-at.result c.index_mut.result.now c.args.key.now (omega (arith, c.len.ensures, c.self.inside.pages.ok.0)) (at_page c.hash_of-hash.ensures c.len.result c.page_of-at.result c.page_of-at.ensures.value) c.index_mut.ensures.value
    c.put_row.new.self c.in_err-put_row.ensures.err

pub invariant_of-self-2 : goal.invariant_of-self-2
invariant_of-self-2 c =
    table_with c.self.invariant c.len.result c.page_of-at.result c.index_mut.result.now c.args.key.now (omega (arith, c.len.ensures, c.self.inside.pages.ok.0)) (at_page c.hash_of-hash.ensures c.len.result c.page_of-at.result c.page_of-at.ensures.value) c.index_mut.ensures.value
    (Some (with_row (or_empty (length c.args.arguments.now) (group_at c.index_mut.result.now c.args.key.now)) c.args.arguments.now (standing_rank c.args.standing))) c.put_row.new.self c.in_ok-put_row.ensures.ok

pub returns : goal.returns
returns c =
    set_there c.self.invariant c.len.result c.page_of-at.result c.index_mut.result.now c.args.key.now (omega (arith, c.len.ensures, c.self.inside.pages.ok.0)) (at_page c.hash_of-hash.ensures c.len.result c.page_of-at.result c.page_of-at.ensures.value) c.index_mut.ensures.value
    c.args.self.now c.self.view_is (λ g. Some (with_row (or_empty (length c.args.arguments.now) g) c.args.arguments.now (standing_rank c.args.standing))) c.put_row.new.self c.in_ok-put_row.ensures.ok
