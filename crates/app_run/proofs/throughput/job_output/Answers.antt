use Rattle.std.proofs.Common.{◌≡◌, ◌∙◌, ℕ, List, None, Option, Some, ap, refl, subst, sym}
use Rattle.std.specs.Prelude.{option_map}
use Rattle.std.specs.String.{string_bytes}
use Rattle.app_jobs.specs.Works.{JobWork}
use Rattle.app_run.specs.JobMeaning.{MeansJob, disk_told}
use Rattle.app_jobs.specs.Sources.{work_view}
use Rattle.app_run.proofs.Complete.{job_done}
use Rattle.app_run.proofs.JobOver.{job_over, job_plain, names_none}
use Rattle.app_run.proofs.throughput.job_output.Goals as goal

pub returns-in-Some-clause-output : goal.returns-in-Some-clause-output
returns-in-Some-clause-output g c =
    let s = c.in_ok-sources.sources in
    let work = work_view s in
    let told = disk_told (g.D.Disk.named c.args.disk.now) (g.D.Disk.reads c.kept_output.new.disk) in
    let named : option_map string_bytes s.journal ≡ Some c.deref.result.now = ap (option_map string_bytes) (sym c.take.ensures.value ∙ c.in-Some.is) ∙ ap Some (sym c.deref.ensures) in
    job_over c.args.shows_rows c.args.folder.now c.args.job.now (g.F.Files.held c.args.files.now) told work _ c.deref.result.now c.kept_output.result named
    (ap (λ j. record work { journal = option_map string_bytes j }) c.take.ensures.after) c.in_ok-sources.ensures.input c.kept_output.ensures.output

pub returns-in_ok-text-in-None-clause-output : goal.returns-in_ok-text-in-None-clause-output
returns-in_ok-text-in-None-clause-output g c =
    let s = c.in_ok-sources.sources in
    let work = work_view s in
    let held = g.F.Files.held c.args.files.now in
    let reads = g.D.Disk.reads c.args.disk.now in
    let told = disk_told (g.D.Disk.named c.args.disk.now) reads in
    let nothing : s.journal ≡ None = sym c.take.ensures.value ∙ c.in-None.is in
    let same = ap (λ j. record work { journal = option_map string_bytes j }) (nothing ∙ sym c.take.ensures.after) in
    let t = c.in_ok-text-in-None in
    let means = subst (λ (w : JobWork). MeansJob c.args.shows_rows reads w t.text.items t.status) (sym same) (t.ensures reads) in
    (job_plain c.args.shows_rows c.args.folder.now c.args.job.now held told work t.text.items t.status (ap (option_map string_bytes) nothing) refl c.in_ok-sources.ensures.input means, job_done c.args.shows_rows reads work t.text.items t.status means)

pub returns-in-Some-clause-untouched : goal.returns-in-Some-clause-untouched
returns-in-Some-clause-untouched g c =
    let s = c.in_ok-sources.sources in
    let named : option_map string_bytes s.journal ≡ Some c.deref.result.now = ap (option_map string_bytes) (sym c.take.ensures.value ∙ c.in-Some.is) ∙ ap Some (sym c.deref.ensures) in
    λ none. absurd (names_none c.args.folder.now c.args.job.now (g.F.Files.held c.args.files.now) (work_view s) c.deref.result.now named c.in_ok-sources.ensures.input none)
