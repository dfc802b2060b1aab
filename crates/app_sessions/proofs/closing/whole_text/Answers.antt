use Rattle.std.proofs.Common.{◌∙◌, ◌++◌, ap}
use Rattle.app_sessions.proofs.closing.whole_text.Goals as goal

pub returns : goal.returns
returns g c =
    record {
      none_lost = c.is_any_lost.ensures c.if-is_any_lost.false;
      sessions = c.in_ok-text.text;
      gathers = c.in_ok-text.ensures;
      whole = c.in_ok-close.ensures.text ∙ ap (λ l. c.in_ok-text.text.text ++ l) c.as_slice.ensures.value;
      versions = c.in_ok-close.ensures.versions;
      clean = c.in_ok-close.ensures.clean;
    }
