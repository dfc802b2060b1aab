use Rattle.std.proofs.Common.{subst, sym}
use Rattle.app_run.specs.JobMeaning.{disk_told}
use Rattle.app_run.specs.Views.{IsOutputOf}
use Rattle.app_inputs.specs.Views.{command_view}
use Rattle.app_inputs.specs.Words.{IsOverFiles}
use Rattle.app_inputs.specs.Words.Command.{check, explain, session}
use Rattle.app_inputs.specs.declared.words.Command.{Command}
use Rattle.app_run.proofs.Texts.{output_same}
use Rattle.app_run.proofs.commands.command_text.Goals as goal

pub returns-in-Session-clause-output : goal.returns-in-Session-clause-output
returns-in-Session-clause-output g c =
    let held = g.F.Files.held c.args.files.now in
    let told = disk_told (g.D.Disk.named c.args.disk.now) (g.D.Disk.reads c.args.disk.now) in
    subst (λ (command : Command). IsOutputOf (command_view command) held told c.output_of.result) (sym c.in-Session.is)
    (output_same (session c.in-Session.folder.now c.in-Session.script.now) held told c.session_text.result c.output_of.result (c.session_text.ensures.text told) c.output_of.ensures)

pub returns-in-Explain-clause-output : goal.returns-in-Explain-clause-output
returns-in-Explain-clause-output g c =
    let held = g.F.Files.held c.args.files.now in
    let told = disk_told (g.D.Disk.named c.args.disk.now) (g.D.Disk.reads c.args.disk.now) in
    subst (λ (command : Command). IsOutputOf (command_view command) held told c.output_of-in-Explain.result) (sym c.in-Explain.is)
    (output_same (explain c.in-Explain.script.now) held told c.explain_text.result c.output_of-in-Explain.result (c.explain_text.ensures.text told) c.output_of-in-Explain.ensures)

pub returns-in-Check-clause-output : goal.returns-in-Check-clause-output
returns-in-Check-clause-output g c =
    let held = g.F.Files.held c.args.files.now in
    let told = disk_told (g.D.Disk.named c.args.disk.now) (g.D.Disk.reads c.args.disk.now) in
    subst (λ (command : Command). IsOutputOf (command_view command) held told c.output_of-in-Check.result) (sym c.in-Check.is)
    (output_same (check c.in-Check.folder.now) held told c.check_output.result c.output_of-in-Check.result (c.check_output.ensures.text told) c.output_of-in-Check.ensures)

pub returns-in-Throughput-clause-output : goal.returns-in-Throughput-clause-output
returns-in-Throughput-clause-output g c =
    let held = g.F.Files.held c.args.files.now in
    let told = disk_told (g.D.Disk.named c.args.disk.now) (g.D.Disk.reads c.throughput_output.new.disk) in
    subst (λ (command : Command). IsOutputOf (command_view command) held told c.throughput_output.result) (sym c.in-Throughput.is) c.throughput_output.ensures.output

pub unreachable-requires : goal.unreachable-requires
unreachable-requires g c = subst (λ (command : Command). IsOverFiles (command_view command)) c.in-Trial.is c.requires
