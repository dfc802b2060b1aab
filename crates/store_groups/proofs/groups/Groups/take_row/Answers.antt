use Rattle.std.proofs.Common.{ap, subst, sym, arith}
use Rattle.store_groups.specs.Entries.{CanTake, group_at, keys_of}
use Rattle.store_groups.specs.Taken.{IsTaken, left_of}
use Rattle.store_groups.proofs.PageLists.{at_page, get_there, page_distinct, set_there, table_after, table_with}
use Rattle.store_groups.proofs.groups.Groups.take_row.Goals as goal

pub take_row-requires-clause-distinct : goal.take_row-requires-clause-distinct
take_row-requires-clause-distinct c = page_distinct c.self.invariant c.len.result c.page_of-at.result c.index_mut.result.now c.args.key.now (omega (arith, c.len.ensures, c.self.inside.pages.ok.0)) (at_page c.hash_of-hash.ensures c.len.result c.page_of-at.result c.page_of-at.ensures.value) c.index_mut.ensures.value

pub take_row-requires-clause-can : goal.take_row-requires-clause-can
take_row-requires-clause-can c =
    subst (λ g. CanTake c.args.arguments.now g)
    (sym (get_there c.self.invariant c.len.result c.page_of-at.result c.index_mut.result.now c.args.key.now (omega (arith, c.len.ensures, c.self.inside.pages.ok.0)) (at_page c.hash_of-hash.ensures c.len.result c.page_of-at.result c.page_of-at.ensures.value) c.index_mut.ensures.value c.args.self.now c.self.view_is))
    c.requires

pub invariant_of-self : goal.invariant_of-self
invariant_of-self c =
    table_after c.self.invariant c.len.result c.page_of-at.result c.index_mut.result.now c.args.key.now (omega (arith, c.len.ensures, c.self.inside.pages.ok.0)) (at_page c.hash_of-hash.ensures c.len.result c.page_of-at.result c.page_of-at.ensures.value) c.index_mut.ensures.value
    c.take_row.new.self (ap keys_of c.in_err-taken.ensures.err)

pub invariant_of-self-2 : goal.invariant_of-self-2
invariant_of-self-2 c =
    table_with c.self.invariant c.len.result c.page_of-at.result c.index_mut.result.now c.args.key.now (omega (arith, c.len.ensures, c.self.inside.pages.ok.0)) (at_page c.hash_of-hash.ensures c.len.result c.page_of-at.result c.page_of-at.ensures.value) c.index_mut.ensures.value
    (left_of c.args.arguments.now (group_at c.index_mut.result.now c.args.key.now) c.in_ok-taken.taken) c.take_row.new.self c.in_ok-taken.ensures.ok

pub returns-clause-taken : goal.returns-clause-taken
returns-clause-taken c =
    subst (λ g. IsTaken c.args.arguments.now g c.in_ok-taken.taken)
    (get_there c.self.invariant c.len.result c.page_of-at.result c.index_mut.result.now c.args.key.now (omega (arith, c.len.ensures, c.self.inside.pages.ok.0)) (at_page c.hash_of-hash.ensures c.len.result c.page_of-at.result c.page_of-at.ensures.value) c.index_mut.ensures.value c.args.self.now c.self.view_is)
    c.in_ok-taken.ensures.taken

pub returns-clause-set : goal.returns-clause-set
returns-clause-set c =
    set_there c.self.invariant c.len.result c.page_of-at.result c.index_mut.result.now c.args.key.now (omega (arith, c.len.ensures, c.self.inside.pages.ok.0)) (at_page c.hash_of-hash.ensures c.len.result c.page_of-at.result c.page_of-at.ensures.value) c.index_mut.ensures.value
    c.args.self.now c.self.view_is (λ g. left_of c.args.arguments.now g c.in_ok-taken.taken) c.take_row.new.self c.in_ok-taken.ensures.ok
