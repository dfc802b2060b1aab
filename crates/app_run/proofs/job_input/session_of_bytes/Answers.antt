use Rattle.std.proofs.Common.{rules}
use Rattle.app_run.proofs.JobReading.{bytes_refused, session_of_script}
use Rattle.app_run.proofs.job_input.session_of_bytes.Goals as goal

pub returns-in-Ok-clause-session : goal.returns-in-Ok-clause-session
returns-in-Ok-clause-session c =
    session_of_script c.args.name.now c.args.bytes.now c.in-Ok.statements c.plain_session.result c.in-Ok.ensures.read c.plain_session.ensures.session

pub returns-in-Err-Refused-clause-session : goal.returns-in-Err-Refused-clause-session
returns-in-Err-Refused-clause-session c =
    let r = c.in-Err-Refused.refusal in
    let place = c.in-Err-Refused.place in
    bytes_refused c.args.name.now c.args.bytes.now r place c.refusal_of.result (c.read_script.ensures.refused r place (search rules)) c.refusal_of.ensures
