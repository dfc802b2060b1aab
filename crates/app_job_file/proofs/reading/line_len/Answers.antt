use Rattle.std.proofs.Common.{◌≡◌, ◌∙◌, ◌==◌, None, Some, sym}
use Rattle.std.specs.List.{position}
use Rattle.app_job_file.proofs.LineSteps.{cut_first, cut_whole}
use Rattle.app_job_file.proofs.reading.line_len.Goals as goal

pub returns-in-Some-clause-cut : goal.returns-in-Some-clause-cut
returns-in-Some-clause-cut c =
    let found : position (λ byte. byte == 10) c.args.text.now ≡ Some c.in-Some.end = sym c.end_of_line.ensures ∙ c.in-Some.is in
    cut_first c.args.text.now c.in-Some.end found

pub returns-in-None-clause-cut : goal.returns-in-None-clause-cut
returns-in-None-clause-cut c =
    let none : position (λ byte. byte == 10) c.args.text.now ≡ None = sym c.end_of_line.ensures ∙ c.in-None.is in
    cut_whole c.args.text.now c.requires none
