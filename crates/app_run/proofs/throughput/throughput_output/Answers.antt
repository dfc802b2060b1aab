use Rattle.app_run.specs.JobMeaning.{disk_told}
use Rattle.app_run.proofs.Texts.{job_output_of}
use Rattle.app_run.proofs.throughput.throughput_output.Goals as goal

pub returns-clause-output : goal.returns-clause-output
returns-clause-output g c =
    job_output_of c.args.folder.now c.args.job.now (g.F.Files.held c.args.files.now) (disk_told (g.D.Disk.named c.args.disk.now) (g.D.Disk.reads c.job_output.new.disk)) c.job_output.result c.job_output.ensures.output
