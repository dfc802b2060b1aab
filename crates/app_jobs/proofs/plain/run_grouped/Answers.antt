use denote.Param.Send.{sendable}
use Rattle.app_jobs.proofs.Crossing.{kept_of_send, kept_of_sync}
use Rattle.app_jobs.proofs.plain.run_grouped.Goals as goal

pub run_attached-requires-send-A : goal.run_attached-requires-send-A
run_attached-requires-send-A g c κs within = search (kept_of_send, sendable) depth 60 fits 40000

pub run_attached-requires-sync-A : goal.run_attached-requires-sync-A
run_attached-requires-sync-A g c κs within = search (kept_of_sync, sendable) depth 60 fits 40000
