use denote.Param.Send.{sendable}
use Rattle.store_snapshots.proofs.ruled.RuledEntry.TheSendSync.{the_send as entry_send}
use Rattle.app_sessions.proofs.Crossing.{worker_send}
use Rattle.app_sessions.proofs.worker.run_workers.Goals as goal

pub for_each_mut-requires-send-T : goal.for_each_mut-requires-send-T
for_each_mut-requires-send-T g c κs within = search (worker_send, entry_send, sendable) depth 60 fits 40000
