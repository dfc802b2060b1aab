use Rattle.std.proofs.Common.{ap, ap₂, codes, true, ◌≡◌, ◌∙◌}
use Rattle.std.proofs.lemmas.Result.{IfOk-weaker}
use Rattle.clap.specs.Simple.{app_of_fields, on_top}
use Rattle.clap.specs.Words.{App, app_of, new_app, with_subcommand}
use Rattle.app_inputs.specs.Subcommands.{bare_app}
use Rattle.app_inputs.proofs.words.subcommands.program.Goals as goal

pub returns : goal.returns
returns c =
    let unnamed : app_of c.no_binary_name.result ≡ on_top (λ s. record s { no_binary_name = true }) (new_app (codes "tpch")) =
    ap app_of_fields c.no_binary_name.ensures ∙ ap (on_top (λ s. record s { no_binary_name = true })) c.new.ensures.app in
    let bare_is : app_of c.subcommand_required.result ≡ bare_app =
    ap app_of_fields c.subcommand_required.ensures ∙ ap (on_top (λ s. record s { subcommand_required = true })) unnamed in
    let top = λ (a : App). a.top in
    let one = c.in_ok-subcommand.ensures.shape c.in_ok-session.ensures.local ∙ ap₂ with_subcommand bare_is (ap top c.in_ok-session.ensures.app) in
    let two = c.in_ok-subcommand-2.ensures.shape c.in_ok-throughput.ensures.local ∙ ap₂ with_subcommand one (ap top c.in_ok-throughput.ensures.app) in
    let three = c.in_ok-subcommand-3.ensures.shape c.in_ok-explain.ensures.local ∙ ap₂ with_subcommand two (ap top c.in_ok-explain.ensures.app) in
    let four = c.in_ok-subcommand-4.ensures.shape c.in_ok-check.ensures.local ∙ ap₂ with_subcommand three (ap top c.in_ok-check.ensures.app) in
    IfOk-weaker c.subcommand-5.result _ _ (λ r h. h.shape c.in_ok-trial.ensures.local ∙ ap₂ with_subcommand four (ap top c.in_ok-trial.ensures.app)) c.subcommand-5.ensures
