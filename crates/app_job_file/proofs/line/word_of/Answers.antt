use Rattle.std.proofs.Common.{rules, ◌≡◌, true}
use Rattle.std.specs.List.{list_all}
use Rattle.app_job_file.specs.Lines.{is_visible}
use Rattle.app_job_file.proofs.Digits.{word_utf8}
use Rattle.app_job_file.proofs.line.word_of.Goals as goal

pub returns-in-Err : goal.returns-in-Err
returns-in-Err c =
    let all : list_all is_visible c.args.bytes.now ≡ true = search rules in
    absurd (c.in-Err.ensures.cases.0 (word_utf8 c.args.bytes.now all))
