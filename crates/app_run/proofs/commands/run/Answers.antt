use Rattle.std.proofs.Common.{◌≡◌, None, Some, map, inr, sym, subst, refl, rules, Option}
use Rattle.std.specs.String.{string_bytes}
use Rattle.app_run.proofs.Complete.{accepted_done, answered, completed}
use Rattle.app_run.specs.JobMeaning.{disk_told}
use Rattle.app_run.specs.Meaning.{IsAccepted, MayPrint}
use Rattle.app_inputs.specs.Views.{command_view}
use Rattle.app_inputs.specs.Words.{Command, command_of, usage_line}
use Rattle.app_inputs.specs.declared.status.Status.TheVariants as status
use Rattle.app_run.proofs.commands.run.Goals as goal

pub returns-in-Ok-Text-clause-answer : goal.returns-in-Ok-Text-clause-answer
returns-in-Ok-Text-clause-answer g c =
    let is : command_of (map string_bytes c.args.words.now) ≡ Some (command_view c.in-Some.command) = search rules in
    let gives = rw c.in-Ok-Text.field-0-is at c.in-Ok-Text.ensures.gives in
    answered (command_of (map string_bytes c.args.words.now)) (command_view c.in-Some.command) (g.F.Files.held c.args.files.now) (disk_told (g.D.Disk.named c.args.disk.now) (g.D.Disk.reads c.command_output.new.disk)) c.in-Ok-Text.text.items c.as_slice.result.now c.in-Ok-Text.status c.write_text-in-Ok-Text.result (g.S.Sink.taken c.args.out.now) (g.S.Sink.taken c.write_text-in-Ok-Text.new.out)
    is gives.1 c.as_slice.ensures.value c.write_text-in-Ok-Text.ensures.whole

pub returns-in-Ok-Text-clause-complete : goal.returns-in-Ok-Text-clause-complete
returns-in-Ok-Text-clause-complete g c =
    let is : command_of (map string_bytes c.args.words.now) ≡ Some (command_view c.in-Some.command) = search rules in
    let held = g.F.Files.held c.args.files.now in
    let told = disk_told (g.D.Disk.named c.args.disk.now) (g.D.Disk.reads c.command_output.new.disk) in
    λ accepted no_read no_write no_disk no_memory.
    let gives = rw c.in-Ok-Text.field-0-is at c.in-Ok-Text.ensures.gives in
    let done = accepted_done (command_view c.in-Some.command) held told c.in-Ok-Text.text.items c.in-Ok-Text.status gives.1 (subst (λ (k : Option Command). IsAccepted k held told.named) is accepted) in
    completed c.in-Ok-Text.status c.write_text-in-Ok-Text.result done (λ answer. (c.write_text-in-Ok-Text.ensures.whole answer).0) (λ written. no_write (c.write_text-in-Ok-Text.ensures.fault written)) c.write_text-in-Ok-Text.ensures.other c.write_text-in-Ok-Text.ensures.no_disk no_memory

pub returns-in_default-read-clause-write : goal.returns-in_default-read-clause-write
returns-in_default-read-clause-write g c =
    let none : command_of (map string_bytes c.args.words.now) ≡ None = search rules in
    let may = subst (λ (k : Option Command). MayPrint k (g.F.Files.held c.args.files.now) (disk_told (g.D.Disk.named c.args.disk.now) (g.D.Disk.reads c.args.disk.now)) usage_line) (sym none) (status.Usage, (refl, refl)) in
    λ e. (c.write_text.ensures.fault e, (usage_line, may, c.write_text.ensures.part))

pub returns-in_default-read-clause-memory : goal.returns-in_default-read-clause-memory
returns-in_default-read-clause-memory g c =
    let none : command_of (map string_bytes c.args.words.now) ≡ None = search rules in
    let may = subst (λ (k : Option Command). MayPrint k (g.F.Files.held c.args.files.now) (disk_told (g.D.Disk.named c.args.disk.now) (g.D.Disk.reads c.args.disk.now)) usage_line) (sym none) (status.Usage, (refl, refl)) in
    λ e. inr (usage_line, may, c.write_text.ensures.part)
