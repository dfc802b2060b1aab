-- From what a job's publisher has tried to the job's text.
use Rattle.std.proofs.Common.{◌≡◌, ◌∙◌, ℕ, ◌+◌, ◌<◌, ◌≤◌, Bool, List, [], ◌∷◌, ◌++◌, None, length, take, drop, map, refl, sym, ap, subst, arith, append_assoc, append-nil, le_refl, le_trans, length-append}
use Rattle.std.specs.Prelude.{◌&&◌}
use Rattle.std.proofs.lemmas.List.{drop_at, length-map, length-take-le, map-append, take-append-drop, take_all}
use Rattle.std.proofs.Math.Seq.{take-length}
use Rattle.store_state.specs.Prefixes.{IsPrefix}
use Rattle.store_state.specs.Refresh.{Change}
use Rattle.store_state.specs.Versions.{accepted, version_state}
use Rattle.store_state.proofs.Prefixes.{accepted-prefix, length-prefix, prefix-whole, state-prefix}
use Rattle.store_state.proofs.VersionSteps.{accepted-most}
use Rattle.base_schema.specs.State.{State}
use Rattle.store_snapshots.specs.Publishers.{Edition}
use Rattle.store_snapshots.specs.Turns.{from_nobody, list_tried}
use Rattle.store_versions.specs.Trials.{Trials, tables_of, version_of}
use Rattle.app_sessions.specs.Gathered.{IsSessionsText}
use Rattle.app_sessions.specs.Jobs.{ArePermitted, IsOrderText, JobAnswer, JobSession, are_refreshes_accepted, are_sessions_clean, closing_text, last_version, refreshes_text, sessions_text}
use Rattle.app_sessions.specs.Orders.{RefreshOrder, changes_of, later_by, whole_order}
use Rattle.app_sessions.specs.Reports.{HasTried, IsTold, are_accepted, report_text}
use Rattle.app_sessions.specs.declared.report.Report.{Report}

pub changes-from_nobody : (list : List Change) → changes_of (from_nobody list) ≡ list
changes-from_nobody [] = refl
changes-from_nobody (change ∷ list) = ap (λ l. change ∷ l) (changes-from_nobody list)

pub whole_changes : (start : Trials) (order : RefreshOrder) → changes_of (whole_order start order) ≡ take start.done start.list ++ changes_of order
whole_changes start order =
    map-append (λ e. e.1) (from_nobody (take start.done start.list)) order
    ∙ ap (λ l. l ++ changes_of order) (changes-from_nobody (take start.done start.list))

-- where all is done, the list is that of all that was tried
pub whole_list : (start : Trials) (now : Edition) (order : RefreshOrder) → HasTried start now order → now.version.done ≡ length now.version.list
    → now.version.list ≡ changes_of (whole_order start order)
whole_list start now order h all =
    sym (ap (λ n. take n now.version.list) all ∙ take-length now.version.list) ∙ h.done ∙ sym (whole_changes start order)

-- the refreshes that were done before are the first ones
pub drop_done : (start : Trials) (order : RefreshOrder) → start.done ≤ length start.list → drop start.done (whole_order start order) ≡ order
drop_done start order within =
    drop_at (from_nobody (take start.done start.list)) order start.done
    (length-map (take start.done start.list) (λ change. (None, change)) ∙ length-take-le start.done start.list within)

-- the first refreshes of a longer list make the same version, with the same tables
pub version_at : (start : Trials) (list : List Change) → start.done ≤ length start.list → IsPrefix start.list list
    → accepted start.base list start.done ≡ version_of start
version_at start list within begins = accepted-prefix start.base start.list list start.done begins within

pub tables_at : (start : Trials) (list : List Change) → start.done ≤ length start.list → IsPrefix start.list list
    → version_state start.base list (accepted start.base list start.done) ≡ tables_of start
tables_at start list within begins =
    ap (version_state start.base list) (version_at start list within begins)
    ∙ state-prefix start.base start.list list (version_of start) begins (accepted-most start.base start.list start.done)

-- the lines of the refreshes
pub refreshes_told : (start : Trials) (order : RefreshOrder) → start.done ≤ length start.list → IsPrefix start.list (changes_of (whole_order start order))
    → refreshes_text start.base (whole_order start order) start.done ≡ report_text (tables_of start) (version_of start) 1 order
refreshes_told start order within begins =
    let list = changes_of (whole_order start order) in
    (λ i. report_text (tables_at start list within begins i) (version_at start list within begins i) 1 (drop_done start order within i))

pub refreshes_accepted : (start : Trials) (order : RefreshOrder) → start.done ≤ length start.list → IsPrefix start.list (changes_of (whole_order start order))
    → are_refreshes_accepted start.base (whole_order start order) start.done ≡ are_accepted (tables_of start) order
refreshes_accepted start order within begins =
    let list = changes_of (whole_order start order) in
    (λ i. are_accepted (tables_at start list within begins i) (drop_done start order within i))

-- the whole text: the sessions', the report, and the lines of the closing version
pub order_over : (start : Trials) (now : Edition) (order : RefreshOrder) (before : ℕ) (all : List JobSession) (report closed : Report) (sessions job : JobAnswer)
    → start.done + before ≤ length start.list → HasTried start now order → now.version.done ≡ length now.version.list → IsTold start order report
    → IsSessionsText (start.base, now.version.list) (accepted start.base start.list (start.done + before)) (last_version start.base now.version.list) all sessions
    → closed.text.items ≡ report.text.items ++ closing_text now.version.base now.version.list (version_of now.version)
    → closed.accepted ≡ report.accepted
    → job.text ≡ sessions.text ++ closed.text.items → job.versions ≡ sessions.versions → job.is_clean ≡ (sessions.is_clean && closed.accepted)
    → IsOrderText start.base (whole_order start order) start.done before all job
order_over start now order before all report closed sessions job places h done told over closed_is accepted_is text versions clean =
    let o = h.version (start.base, start.list, start.most) refl in
    let base = start.base in
    let whole = whole_order start order in
    let list = changes_of whole in
    let list_is : now.version.list ≡ list = whole_list start now order h done in
    let begins : IsPrefix start.list list = subst (IsPrefix start.list) list_is o.1 in
    let within : start.done ≤ length start.list = omega (arith, places) in
    let low : accepted base start.list (start.done + before) ≡ accepted base list (start.done + before) = sym (accepted-prefix base start.list list (start.done + before) begins places) in
    let high : last_version base now.version.list ≡ last_version base list = ap (last_version base) list_is in
    let closing : closing_text now.version.base now.version.list (version_of now.version) ≡ closing_text base list (last_version base list) =
    (λ i. closing_text (o.0 i) (list_is i) (accepted (o.0 i) (list_is i) (done i)))
    ∙ (λ i. closing_text base list (accepted base list (length (list_is i)))) in
    let lines : closed.text.items ≡ refreshes_text base whole start.done ++ closing_text base list (last_version base list) =
    closed_is ∙ (λ i. told.text i ++ closing i) ∙ ap (λ l. l ++ closing_text base list (last_version base list)) (sym (refreshes_told start order within begins)) in
    let fine : closed.accepted ≡ are_refreshes_accepted base whole start.done =
    accepted_is ∙ told.accepted ∙ sym (refreshes_accepted start order within begins) in
    let permitted : ArePermitted (accepted base list (start.done + before)) (last_version base list) all sessions.versions =
    subst (λ n. ArePermitted n (last_version base list) all sessions.versions) low
    (subst (λ n. ArePermitted (accepted base start.list (start.done + before)) n all sessions.versions) high over.versions) in
    let lines_of : sessions.text ≡ sessions_text base list 1 all job.versions =
    over.text ∙ ap (λ l. sessions_text base l 1 all sessions.versions) list_is ∙ ap (sessions_text base list 1 all) (sym versions) in
    let none_refused : sessions.is_clean ≡ are_sessions_clean base list all job.versions =
    over.clean ∙ ap (λ l. are_sessions_clean base l all sessions.versions) list_is ∙ ap (are_sessions_clean base list all) (sym versions) in
    record {
      versions = subst (ArePermitted (accepted base list (start.done + before)) (last_version base list) all) (sym versions) permitted;
      text = text ∙ (λ i. lines_of i ++ lines i);
      clean = clean ∙ (λ i. none_refused i && fine i);
    }

-- ---- what the list's own feed tried
from_nobody-append : (first second : List Change) → from_nobody (first ++ second) ≡ from_nobody first ++ from_nobody second
from_nobody-append first second = map-append (λ change. (None, change)) first second

-- what was tried by the list's feed and then by another one
pub whole_later : (start : Trials) (after : Edition) (before : ℕ) (mine : List Change) (order : RefreshOrder)
    → after.version ≡ later_by before start → HasTried start after (from_nobody mine)
    → whole_order start (from_nobody mine ++ order) ≡ whole_order (later_by before start) order
whole_later start after before mine order is h =
    let here : take (start.done + before) start.list ≡ take start.done start.list ++ mine =
    sym (ap (λ (t : Trials). take t.done t.list) is) ∙ h.done ∙ ap (λ l. take start.done start.list ++ l) (changes-from_nobody mine) in
    sym (append_assoc (from_nobody (take start.done start.list)) (from_nobody mine) order)
    ∙ ap (λ l. l ++ order) (sym (from_nobody-append (take start.done start.list) mine) ∙ ap from_nobody (sym here))

-- what the list's feed alone tried, where that is as much as the list has, is the list
pub whole_of_list : (start : Trials) (mine : List Change) → IsPrefix start.list (changes_of (whole_order start (from_nobody mine)))
    → length (whole_order start (from_nobody mine)) ≡ length start.list → whole_order start (from_nobody mine) ≡ from_nobody start.list
whole_of_list start mine begins many =
    let whole = take start.done start.list ++ mine in
    let is : whole_order start (from_nobody mine) ≡ from_nobody whole = sym (from_nobody-append (take start.done start.list) mine) in
    let list_is : changes_of (whole_order start (from_nobody mine)) ≡ whole = ap changes_of is ∙ changes-from_nobody whole in
    let size : length whole ≡ length start.list = sym (length-map whole (λ change. (None, change))) ∙ sym (ap length is) ∙ many in
    is ∙ ap from_nobody (prefix-whole start.list whole (subst (IsPrefix start.list) list_is begins) (omega (arith, size)))

-- the list is no longer than all that was tried
pub list_within : (start : Trials) (order : RefreshOrder) → IsPrefix start.list (changes_of (whole_order start order)) → length start.list ≤ length (whole_order start order)
list_within start order begins =
    let l = length-prefix start.list (changes_of (whole_order start order)) begins in
    let m = length-map (whole_order start order) (λ e. e.1) in
    omega (arith, l, m)
