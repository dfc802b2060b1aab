use Rattle.std.proofs.Common.{ℕ, List, Some, subst, sym}
use Rattle.app_run.specs.JobMeaning.{disk_told}
use Rattle.app_run.proofs.Texts.{gives, output_without_absence, refusal_of_absence, refusal_printed}
use Rattle.app_run.specs.Meaning.{Prints}
use Rattle.app_inputs.specs.Views.{command_view}
use Rattle.app_inputs.specs.declared.status.Status.TheVariants as status
use Rattle.app_run.proofs.commands.output_over_files.Goals as goal

pub returns-in-Ok-clause-gives : goal.returns-in-Ok-clause-gives
returns-in-Ok-clause-gives g c =
    gives (command_view c.args.command.now) (g.F.Files.held c.args.files.now) (disk_told (g.D.Disk.named c.args.disk.now) (g.D.Disk.reads c.command_text.new.disk)) c.in-Ok.output c.in-Ok.ensures.output

pub returns-in-Ok-clause-absent : goal.returns-in-Ok-clause-absent
returns-in-Ok-clause-absent g c = λ whole absent.
    absurd (output_without_absence (command_view c.args.command.now) (g.F.Files.held c.args.files.now) (disk_told (g.D.Disk.named c.args.disk.now) (g.D.Disk.reads c.command_text.new.disk)) c.in-Ok.output c.in-Ok.ensures.output whole absent)

pub returns-in_ok-text-in-Err-Refused-clause-gives : goal.returns-in_ok-text-in-Err-Refused-clause-gives
returns-in_ok-text-in-Err-Refused-clause-gives g c =
    let command = command_view c.args.command.now in
    let held = g.F.Files.held c.args.files.now in
    let told = disk_told (g.D.Disk.named c.args.disk.now) (g.D.Disk.reads c.command_text.new.disk) in
    let first = rw c.in-Err-Refused.field-0-is at c.in-Err-Refused.ensures.output in
    (tt, subst (λ (text : List ℕ). Prints (Some command) held told text status.InputRefused) (sym c.in_ok-text-in-Err-Refused.ensures) (refusal_printed command held told c.in-Err-Refused.refused c.requires first))

pub returns-in_ok-text-in-Err-Refused-clause-absent : goal.returns-in_ok-text-in-Err-Refused-clause-absent
returns-in_ok-text-in-Err-Refused-clause-absent g c = λ whole absent.
    let told = disk_told (g.D.Disk.named c.args.disk.now) (g.D.Disk.reads c.command_text.new.disk) in
    let first = rw c.in-Err-Refused.field-0-is at c.in-Err-Refused.ensures.output in
    let gone = rw c.in-Err-Refused.field-0-is at c.in-Err-Refused.ensures.files.absent in
    gone (refusal_of_absence (command_view c.args.command.now) (g.F.Files.held c.args.files.now) told c.in-Err-Refused.refused first absent)
