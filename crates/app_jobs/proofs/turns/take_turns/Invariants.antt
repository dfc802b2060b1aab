use Rattle.std.proofs.Common.{◌-◌, length}
use Rattle.app_sessions.specs.Sessions.{course_of}
use Rattle.app_jobs.specs.Turns.{IsOnTheWay, clean_from, text_from}
use Rattle.app_jobs.proofs.turns.take_turns.Given as goal

abbrev pub invariant-turns : goal.invariant-turns
invariant-turns g l = IsOnTheWay (course_of l.session) l.directory (text_from (course_of l.fn.session) l.fn.directory) (clean_from (course_of l.fn.session) l.fn.directory)

abbrev pub decreases-turns : goal.decreases-turns
decreases-turns g l = length (course_of l.session).steps - (course_of l.session).answered
