use Rattle.app_sessions.proofs.Texts.{sessions_text}
use Rattle.app_sessions.proofs.laws.sessions_have_their_text.Goals as goal

pub returns : goal.returns
returns c = sessions_text
