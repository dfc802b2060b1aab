use Rattle.std.proofs.Common.{◌≡◌, ◌++◌, [], ◌∙◌, ap, append_assoc}
use Rattle.app_sample_data.specs.Texts.{lasting, made, named, ordered, refresh_set}
use Rattle.app_sample_data.proofs.texts.make.Goals as goal

pub returns : goal.returns
unfolding made named lasting ordered refresh_set
returns c =
    let n = c.args.number in
    let none : named c.new-texts.result.items ≡ [] = ap named c.new-texts.ensures.items in
    let first = c.in_ok-add_lasting.ensures ∙ ap (λ t. t ++ lasting n) none in
    let second = c.in_ok-add_orders.ensures ∙ ap (λ t. t ++ ordered n) first in
    c.in_ok-add_refresh_set.ensures ∙ ap (λ t. t ++ refresh_set n) second ∙ append_assoc (lasting n) (ordered n) (refresh_set n)
