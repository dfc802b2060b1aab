use Rattle.std.proofs.Common.{◌≡◌, ◌∙◌, [], ap, slice_get, sym}
use Rattle.std.proofs.lemmas.Bool.{true≢false}
use Rattle.store_groups.specs.Pages.{entries_of}
use Rattle.store_kept_views.specs.Output.{output_rows}
use Rattle.store_kept_views.proofs.Shows.{none_shown, some_shown}
use Rattle.store_kept_views.proofs.output.output_rows.Goals as goal

pub returns-clause-rows : goal.returns-clause-rows
returns-clause-rows c =
    let none : entries_of c.pages-pages.result.now ≡ [] = c.in_default.ensures in
    c.new.ensures.rows ∙ none_shown c.args.plan.now c.args.groups.now (λ e. true≢false (sym (c.is_empty.ensures.1 e) ∙ c.if-is_empty.false))
    (ap (λ l. slice_get l 0) (sym c.pages-pages.ensures.pages ∙ none))

pub returns-in-Some-clause-rows : goal.returns-in-Some-clause-rows
returns-in-Some-clause-rows c =
    c.in_ok-bag.ensures.rows
    ∙ some_shown c.args.plan.now (entries_of c.pages-pages.result.now) c.in-Some.ensures.1
    ∙ ap (λ es. output_rows c.args.plan.now es) c.pages-pages.ensures.pages
