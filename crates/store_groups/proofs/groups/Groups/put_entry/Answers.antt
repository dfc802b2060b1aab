use Rattle.std.proofs.Common.{ap, arith, inl, Some}
use Rattle.store_groups.specs.Entries.{keys_of}
use Rattle.store_groups.proofs.PageLists.{at_page, page_distinct, set_there, table_after, table_with}
use Rattle.store_groups.proofs.groups.Groups.put_entry.Goals as goal

pub put-requires : goal.put-requires
put-requires c = page_distinct c.self.invariant c.len.result c.page_of-at.result c.index_mut.result.now c.args.entry.0 (omega (arith, c.len.ensures, c.self.inside.pages.ok.0)) (at_page c.hash.ensures c.len.result c.page_of-at.result c.page_of-at.ensures.value) c.index_mut.ensures.value

pub invariant_of-self : goal.invariant_of-self
invariant_of-self c =
    table_after c.self.invariant c.len.result c.page_of-at.result c.index_mut.result.now c.args.entry.0 (omega (arith, c.len.ensures, c.self.inside.pages.ok.0)) (at_page c.hash.ensures c.len.result c.page_of-at.result c.page_of-at.ensures.value) c.index_mut.ensures.value
    c.put.new.self (ap keys_of c.in_err-put.ensures.err)

pub invariant_of-self-2 : goal.invariant_of-self-2
invariant_of-self-2 c =
    table_with c.self.invariant c.len.result c.page_of-at.result c.index_mut.result.now c.args.entry.0 (omega (arith, c.len.ensures, c.self.inside.pages.ok.0)) (at_page c.hash.ensures c.len.result c.page_of-at.result c.page_of-at.ensures.value) c.index_mut.ensures.value
    (Some c.args.entry.1) c.put.new.self (inl c.in_ok-put.ensures.ok)

pub returns : goal.returns
returns c =
    set_there c.self.invariant c.len.result c.page_of-at.result c.index_mut.result.now c.args.entry.0 (omega (arith, c.len.ensures, c.self.inside.pages.ok.0)) (at_page c.hash.ensures c.len.result c.page_of-at.result c.page_of-at.ensures.value) c.index_mut.ensures.value
    c.args.self.now c.self.view_is (λ g. Some c.args.entry.1) c.put.new.self (inl c.in_ok-put.ensures.ok)
