use Rattle.sql_binder.specs.Binding.{bound_query}
use Rattle.app_sessions.proofs.Explaining.{query_lines}
use Rattle.app_sessions.proofs.explained.push_query.Goals as goal

pub returns-in_ok-push_numbered-in-Ok-clause-lines :
    goal.returns-in_ok-push_numbered-in-Ok-clause-lines
returns-in_ok-push_numbered-in-Ok-clause-lines c =
    query_lines c.args.number (bound_query c.args.query.now c.args.views.now) c.in-Ok.plan c.args.text.now.items c.push_numbered.new.text.items c.as_slice.result.now c.in_ok-lines-in-Ok.lines.items
    c.in-Ok.ensures c.in_ok-lines-in-Ok.ensures c.as_slice.ensures.value c.in_ok-push_numbered-in-Ok.ensures
