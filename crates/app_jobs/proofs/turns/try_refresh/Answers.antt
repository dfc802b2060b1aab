use Rattle.app_sessions.specs.Sessions.{course_of}
use Rattle.app_jobs.specs.NextVersions.{joined_in, version_in}
use Rattle.app_jobs.proofs.NextVersions.{compacted_next}
use Rattle.app_jobs.proofs.OnTheWay.{handed_err, handed_ok}
use Rattle.app_jobs.proofs.turns.try_refresh.Goals as goal

pub returns-in_ok-next-in-Ok-clause-handed : goal.returns-in_ok-next-in-Ok-clause-handed
returns-in_ok-next-in-Ok-clause-handed c =
    let next = c.in-Ok.ensures in
    handed_ok (course_of c.args.session.now) (course_of c.hand_in.new.self) c.args.directory c.in-Ok.next c.version-before.result c.version.result
    c.version-before.ensures.version c.version.ensures.version c.requires.place next.1 next.3 c.in_ok-hand_in-in-Ok.ensures.1

pub returns-in_ok-hand_in-in-Err-Refused-clause-handed : goal.returns-in_ok-hand_in-in-Err-Refused-clause-handed
returns-in_ok-hand_in-in-Err-Refused-clause-handed c =
    let refused = rw c.in-Err-Refused.field-0-is at c.in-Err-Refused.ensures in
    handed_err (course_of c.args.session.now) (course_of c.hand_in-in-Err-Refused.new.self) c.args.directory c.version-before.result c.in-Err-Refused.cause
    c.version-before.ensures.version c.requires.place refused.3 c.in_ok-hand_in-in-Err-Refused.ensures.1

pub returns-in_ok-next-in-Ok-clause-compacted : goal.returns-in_ok-next-in-Ok-clause-compacted
returns-in_ok-next-in-Ok-clause-compacted c =
    let kept = c.in_ok-next-in-Ok.ensures in
    compacted_next c.args.directory c.in-Ok.next (version_in c.in_ok-next-in-Ok.next) (joined_in c.in_ok-next-in-Ok.next) kept.version kept.compacted

pub returns-in_ok-hand_in-in-Err-Refused-clause-compacted : goal.returns-in_ok-hand_in-in-Err-Refused-clause-compacted
returns-in_ok-hand_in-in-Err-Refused-clause-compacted c =
    let refused = rw c.in-Err-Refused.field-0-is at c.in-Err-Refused.ensures in
    λ differs due. absurd (differs refused.1)
