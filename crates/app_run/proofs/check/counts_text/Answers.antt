use Rattle.std.proofs.Common.{◌≡◌, ◌∙◌, ℕ, [], ◌++◌, List, ap}
use Rattle.store_versions.specs.Trials.{tables_of}
use Rattle.app_sessions.specs.Counts.{counts_text}
use Rattle.app_run.proofs.check.counts_text.Goals as goal

pub returns : goal.returns
returns c =
    let old : c.new-text.result.items ≡ [] = c.new-text.ensures.items in
    let tables : tables_of c.in_ok-snapshot.snapshot ≡ c.args.state = ap tables_of (c.in_ok-snapshot.ensures ∙ c.in_ok-directory.ensures) in
    c.in_ok-push_counts.ensures ∙ ap (λ (t : List ℕ). t ++ counts_text (tables_of c.in_ok-snapshot.snapshot)) old ∙ ap counts_text tables
