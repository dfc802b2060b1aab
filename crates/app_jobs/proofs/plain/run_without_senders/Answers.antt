use Rattle.std.proofs.Common.{IfOk, ap, refl, subst}
use Rattle.std.specs.Prelude.{option_map}
use Rattle.std.specs.String.{string_bytes}
use Rattle.std.proofs.lemmas.Result.{IfOk-weaker}
use Rattle.app_sessions.specs.Asked.{job_sessions}
use Rattle.app_sessions.specs.Jobs.{IsJobText}
use Rattle.store_versions.specs.Trials.{Trials}
use Rattle.app_jobs.specs.Sources.{work_view}
use Rattle.app_jobs.proofs.Orders.{plain_text}
use Rattle.app_jobs.proofs.plain.run_without_senders.Goals as goal

pub run_list_job-requires-clause-opened : goal.run_list_job-requires-clause-opened
run_list_job-requires-clause-opened g c κs within = λ i d less. (c.in_ok-publisher.ensures.readers i d less).0

pub returns : goal.returns
returns g c reads =
    let s = c.args.sources in
    let is = subst (λ (v : Trials). IfOk c.run_list_job.result (IsJobText v.base v.list s.before (job_sessions s.sessions.items))) c.in_ok-publisher.ensures.publisher c.run_list_job.ensures in
    IfOk-weaker c.run_list_job.result _ _ (λ job. plain_text (work_view s) reads (job_sessions s.sessions.items) job c.requires.unsent (ap (λ j. option_map string_bytes j) c.requires.plain) refl) is
