use Rattle.std.proofs.Common.{rules, ◌≡◌, ◌∙◌, ◌+◌, ◌<◌, ◌≤◌, List, arith, drop, le_trans, length, map, slice_index_or, subst, sym}
use Rattle.std.proofs.lemmas.List.{length-map}
use Rattle.std.proofs.lemmas.Result.{err_from_is_err_and}
use Rattle.std.specs.Global.{Vec}
use Rattle.std.specs.String.{string_bytes}
use Rattle.app_sessions.specs.declared.session.Session.{Session}
use Rattle.sql_ast.specs.declared.statement.Statement.{Statement}
use Rattle.app_jobs.specs.Sources.{steps_of}
use Rattle.app_inputs.specs.Views.{IfKnown}
use Rattle.app_run.proofs.JobScripts.{Continues, begins_more, counted_more, named_at, sessions_more, sessions_read, sessions_refused, steps_more, unasked_more}
use Rattle.app_run.proofs.job_input.read_sessions.Goals as goal

pub returns-in_err-session-clause-input : goal.returns-in_err-session-clause-input
returns-in_err-session-clause-input g c =
    let bs = map string_bytes c.args.names.now in
    let i = c.reading.name-index in
    let same : slice_index_or c.args.names.now i c.name-item.result ≡ c.name-item.result = search rules in
    let shown : string_bytes c.name-item.result ≡ c.as_str.result.now = search rules in
    let at = named_at string_bytes c.args.names.now i c.name-item.result c.reading-test.true same ∙ shown in
    let inside : i < length bs = let l = length-map c.args.names.now string_bytes in let t = c.reading-test.true in omega (arith, l, t) in
    let p = err_from_is_err_and c.from_residual.result c.from_residual.ensures.1 in
    rw (p.1, p.2) (sessions_refused steps_of (λ (v : Vec Session). map steps_of v.items) (g.F.Files.held c.args.files.now) (g.F.Files.held c.reading.files) bs i c.as_str.result.now (map steps_of c.reading.sessions.items) _
    c.reading.invariant.held inside at c.reading.invariant.read c.in_err-session.ensures.input)

pub reading-preserved : goal.reading-preserved
reading-preserved g c =
    let held = g.F.Files.held c.args.files.now in
    let bs = map string_bytes c.args.names.now in
    let i = c.reading.name-index in
    let inv = c.reading.invariant in
    let before = c.reading.sessions.items in
    let session = c.in_ok-session.session in
    let e = c.in_ok-push.ensures.items in
    let same : slice_index_or c.args.names.now i c.name-item.result ≡ c.name-item.result = search rules in
    let shown : string_bytes c.name-item.result ≡ c.as_str.result.now = search rules in
    let at = named_at string_bytes c.args.names.now i c.name-item.result c.reading-test.true same ∙ shown in
    let inside : i < length bs = let l = length-map c.args.names.now string_bytes in let t = c.reading-test.true in omega (arith, l, t) in
    let told = sessions_more held (g.F.Files.held c.reading.files) bs i c.as_str.result.now (map steps_of before) session.steps inv.held inside at inv.read c.in_ok-session.ensures.input in
    record {
      read = subst (λ (l : List (List Statement)). IfKnown held (Continues bs (drop (i + 1) bs) l)) (sym (steps_more before c.push.new.self.items session e)) told;
      count = counted_more before c.push.new.self.items session i e inv.count;
      unasked = unasked_more before c.push.new.self.items session e inv.unasked c.in_ok-session.ensures.unasked;
      begins = begins_more c.args.shows_rows c.args.views.now before c.push.new.self.items session e inv.begins c.in_ok-session.ensures.rows c.in_ok-session.ensures.views;
      held = c.read_session.ensures.files.held ∙ inv.held;
      faults = le_trans inv.faults c.read_session.ensures.files.faults;
      misses = le_trans inv.misses c.read_session.ensures.files.misses;
    }

pub returns-clause-input : goal.returns-clause-input
returns-clause-input g c =
    let bs = map string_bytes c.args.names.now in
    let past : length bs ≤ c.reading.name-index = let l = length-map c.args.names.now string_bytes in let t = c.reading-test.false in omega (arith, l, t) in
    sessions_read (g.F.Files.held c.args.files.now) bs c.reading.name-index (map steps_of c.reading.sessions.items) past c.reading.invariant.read
