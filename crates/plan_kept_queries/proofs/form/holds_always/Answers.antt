use Rattle.std.proofs.Common.{ap, sym, ◌∙◌}
use Rattle.std.specs.Prelude.{◌==◌}
use Rattle.std.proofs.lemmas.Bool.{eqb-true, true≢false}
use Rattle.plan_kept_queries.proofs.FormsOpened.{not_nothing}
use Rattle.plan_kept_queries.proofs.FormLists.{holds_of, true_always}
use Rattle.plan_kept_queries.proofs.form.holds_always.Goals as goal

pub returns-in-All-clause-test : goal.returns-in-All-clause-test
returns-in-All-clause-test c = ap (λ n. n == 0) c.len.ensures ∙ sym (holds_of c.args.e.now c.in-All.conditions (sym c.get.ensures ∙ c.in-All.is))

pub returns-in-All-clause-always : goal.returns-in-All-clause-always
returns-in-All-clause-always c = λ none. true_always c.args.e.now c.in-All.conditions (sym c.get.ensures ∙ c.in-All.is) (sym c.len.ensures ∙ eqb-true c.len.result 0 none)

pub returns-in_default : goal.returns-in_default
returns-in_default c = record {
  test = sym (not_nothing c.args.e.now (λ es is. c.in_default.not-All es (c.get.ensures ∙ is)));
  always = λ none. absurd (true≢false (sym none));
}
