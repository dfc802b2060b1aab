use denote.Param.Send.{sendable}
use Rattle.store_snapshots.proofs.ruled.RuledEntry.TheSendSync.{the_send as entry_send}
use Rattle.app_sessions.proofs.Crossing.{worker_send}
use Rattle.app_sessions.proofs.forking.fork.Goals as goal

pub join_mut-outcome-requires-send-F : goal.join_mut-outcome-requires-send-F
join_mut-outcome-requires-send-F g c κs within = search (worker_send, entry_send, sendable) depth 60 fits 40000
