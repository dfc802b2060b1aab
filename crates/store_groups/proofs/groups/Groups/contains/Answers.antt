use Rattle.std.proofs.Common.{◌∙◌, ap, arith, sym}
use Rattle.std.specs.Prelude.{is_some}
use Rattle.store_groups.specs.Entries.{Entries, group_at}
use Rattle.store_groups.proofs.PageLists.{at_page, get_there}
use Rattle.store_groups.proofs.groups.Groups.contains.Goals as goal

pub returns-then-is_empty : goal.returns-then-is_empty
returns-then-is_empty c = sym (ap (λ (es : Entries). is_some (group_at es c.args.key.now)) (c.is_empty.ensures c.if-is_empty.true))

pub returns : goal.returns
returns c =
    c.contains.ensures
    ∙ ap (λ g. is_some g)
    (get_there c.self.invariant c.len.result c.page_of-at.result c.index.result.now c.args.key.now (omega (arith, c.len.ensures, c.self.inside.pages.ok.0)) (at_page c.hash_of-hash.ensures c.len.result c.page_of-at.result c.page_of-at.ensures.value) c.index.ensures
    c.args.self.now c.self.view_is)
