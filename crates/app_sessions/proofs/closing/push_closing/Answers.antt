use Rattle.std.proofs.Common.{◌∙◌, ◌++◌, ap, append_assoc}
use Rattle.store_versions.specs.Trials.{tables_of, version_of}
use Rattle.app_sessions.specs.Counts.{counts_text}
use Rattle.app_sessions.specs.Jobs.{closing_line}
use Rattle.app_sessions.proofs.closing.push_closing.Goals as goal

pub returns : goal.returns
returns g c =
    let s = c.args.snapshot.now in
    let before = c.args.text.now.items in
    c.in_ok-push_counts.ensures
    ∙ ap (λ t. t ++ counts_text (tables_of s)) (c.in_ok-push_closing_line.ensures ∙ ap (λ v. before ++ closing_line v) c.version.ensures.version)
    ∙ append_assoc before (closing_line (version_of s)) (counts_text (tables_of s))
