use Rattle.std.proofs.Common.{◌≡◌, ◌∙◌, Ok, Some, ap, sym}
use Rattle.sql_lexer.specs.Names.{name_of}
use Rattle.app_job_file.specs.Files.{is_taken, parts_of, with_keep}
use Rattle.app_job_file.specs.declared.refusal.JobRefusal.TheVariants.{KeepTwice}
use Rattle.app_job_file.proofs.KeepNames.{added, puts_refused, refused_twice, with_one_more}
use Rattle.app_job_file.proofs.reading.put_keep.Goals as goal

pub returns-then-is_taken-clause-keep : goal.returns-then-is_taken-clause-keep
returns-then-is_taken-clause-keep c =
    let parts = parts_of c.args.job.now in
    let named : name_of c.args.name.now ≡ Some c.in-Some.name =
    ap name_of (sym c.as_bytes.ensures.value) ∙ sym c.in_ok-name.ensures ∙ c.in-Some.is in
    puts_refused c.args.number (with_keep parts c.args.number c.args.name.now c.args.file.now) parts KeepTwice c.refusal_at-then-is_taken.result
    c.refusal_at-then-is_taken.ensures
    (refused_twice parts c.args.number c.args.name.now c.args.file.now c.in-Some.name named
    (sym c.has_most_keeps.ensures ∙ c.if-has_most_keeps.false)
    (ap (is_taken parts) (sym c.bytes.ensures.text) ∙ sym c.is_taken.ensures ∙ c.if-is_taken.true))

pub returns-clause-keep : goal.returns-clause-keep
returns-clause-keep c =
    let parts = parts_of c.args.job.now in
    let named : name_of c.args.name.now ≡ Some c.in-Some.name =
    ap name_of (sym c.as_bytes.ensures.value) ∙ sym c.in_ok-name.ensures ∙ c.in-Some.is in
    added parts c.args.number c.args.name.now c.args.file.now c.in-Some.name named
    (sym c.has_most_keeps.ensures ∙ c.if-has_most_keeps.false)
    (ap (is_taken parts) (sym c.bytes.ensures.text) ∙ sym c.is_taken.ensures ∙ c.if-is_taken.false)
    ∙ ap (λ ks. Ok (record parts { keeps = ks }))
    (sym (with_one_more c.args.job.now.keeps.items c.push.new.self.items (record { name = c.in-Some.name; file = c.in_ok-file.file; line = c.args.number }) c.args.file.now
    c.in_ok-push.ensures.items c.in_ok-file.ensures.ok))
