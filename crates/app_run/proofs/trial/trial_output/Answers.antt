use Rattle.std.proofs.Common.{◌≡◌, ◌∙◌, ℕ, List, Option, Some, ap, codes, false, subst, sym}
use Rattle.base_io.specs.Memory.{folder_of}
use Rattle.base_io.specs.declared.sure.SureFiles.{SureFiles}
use Rattle.base_io.specs.Outside.{Folder}
use Rattle.app_inputs.specs.Inputs.{refusal_line}
use Rattle.app_run.specs.JobMeaning.{NeedsNoDisk, PrintsJob, disk_told}
use Rattle.base_disk.specs.Memory.{file_only, state_now}
use Rattle.base_disk.specs.declared.memory.MemDisk.{MemDisk}
use Rattle.std.specs.String.{string_bytes}
use Rattle.app_run.specs.Trial.{trial_files}
use Rattle.app_inputs.specs.Views.{refused_view}
use Rattle.app_inputs.specs.declared.status.Status.TheVariants.{InputRefused}
use Rattle.app_run.proofs.JobAlike.{needs_no_disk}
use Rattle.app_run.proofs.TrialFiles.{refused_prints, trial_names_none}
use Rattle.app_run.proofs.trial.trial_output.Goals as goal

abbrev named : MemDisk → Option (List ℕ → List ℕ)
named m = Some (file_only (string_bytes m.name) (state_now m.first.items m.calls.items).bytes)

abbrev reads : MemDisk → Option (List ℕ)
reads m = Some (state_now m.first.items m.calls.items).bytes

pub returns-in-Ok-Text-clause-prints : goal.returns-in-Ok-Text-clause-prints
returns-in-Ok-Text-clause-prints g c =
    let is : folder_of c.new-files.result.folder.files.items ≡ trial_files c.args.number = ap (λ (m : SureFiles). folder_of m.folder.files.items) c.new-files.ensures ∙ c.in_ok-trial_files.ensures in
    let told = disk_told (named c.in_ok-disk.disk) (reads c.job_output.new.disk) in
    let prints = rw c.in-Ok-Text.field-0-is at c.in-Ok-Text.ensures.output in
    rw c.in-Ok-Text.field-0-is (told, subst (λ (f : Folder). PrintsJob false (codes "made") (codes "job") f told c.in-Ok-Text.text.items c.in-Ok-Text.status) is prints.0)

pub returns-in-Err-Refused-clause-prints : goal.returns-in-Err-Refused-clause-prints
returns-in-Err-Refused-clause-prints g c =
    let is : folder_of c.new-files.result.folder.files.items ≡ trial_files c.args.number = ap (λ (m : SureFiles). folder_of m.folder.files.items) c.new-files.ensures ∙ c.in_ok-trial_files.ensures in
    let first = rw c.in-Err-Refused.field-0-is at c.in-Err-Refused.ensures.output in
    let told = disk_told (named c.in_ok-disk.disk) (reads c.job_output.new.disk) in
    let prints = refused_prints (codes "made") (codes "job") (folder_of c.new-files.result.folder.files.items) told (refused_view c.in-Err-Refused.refused) first in (
      told,
      subst (λ (text : List ℕ). PrintsJob false (codes "made") (codes "job") (trial_files c.args.number) told text InputRefused) (sym c.in_ok-text-in-Err-Refused.ensures)
          (subst (λ (f : Folder). PrintsJob false (codes "made") (codes "job") f told (refusal_line (refused_view c.in-Err-Refused.refused)) InputRefused) is prints),
    )

pub unreachable-requires : goal.unreachable-requires
unreachable-requires g c =
    let is : folder_of c.new-files.result.folder.files.items ≡ trial_files c.args.number = ap (λ (m : SureFiles). folder_of m.folder.files.items) c.new-files.ensures ∙ c.in_ok-trial_files.ensures in
    let none = needs_no_disk (codes "made") (codes "job") (trial_files c.args.number) (trial_names_none c.args.number) in
    let mine = subst (λ (f : Folder). NeedsNoDisk (codes "made") (codes "job") (Some f)) (sym is) none in
    let untouched = rw (c.in-Ok-DiskFault.is, c.in-Ok-DiskFault.field-0-is) at c.job_output.ensures.untouched in
    (untouched mine).1 tt
