use Rattle.std.proofs.Common.{◌≡◌, ◌∙◌, ◌+◌, List, Option, drop, le_trans, subst, sym}
use Rattle.store_state.specs.Refresh.{Change}
use Rattle.app_inputs.proofs.Changes.{all_push, changes_behind, changes_counted, changes_more}
use Rattle.base_io.specs.Outside.{Folder}
use Rattle.std.specs.List.{AllByRecursion}
use Rattle.app_inputs.specs.Inputs.{changes_in}
use Rattle.store_refresh_entries.specs.Change.{MayBeStored}
use Rattle.app_inputs.specs.KnownFiles.{AreKnown}
use Rattle.app_inputs.specs.Views.{IfKnown}
use Rattle.app_inputs.proofs.refreshes.read_refreshes.Goals as goal

pub loop-mention-preserved : goal.loop-mention-preserved
loop-mention-preserved g c =
    let held = g.F.Files.held c.args.files.now in
    let mentions = c.args.mentions.now in
    let i = c.loop-mention.mention-index in
    let before = c.loop-mention.list.items in
    let change = c.in_ok-refresh.refresh in
    let invariant = c.loop-mention.invariant in
    let told = changes_more held (g.F.Files.held c.loop-mention.files) c.args.folder.now mentions i _ before change invariant.2 c.loop-mention-test.true invariant.0 c.in_ok-refresh.ensures.input in (
      subst (λ (list : List Change). IfKnown held (λ folder. changes_in c.args.folder.now mentions folder ≡ changes_behind list (changes_in c.args.folder.now (drop (i + 1) mentions) folder))) (sym c.in_ok-push.ensures.items) told,
      changes_counted before c.push.new.self.items change i c.in_ok-push.ensures.items invariant.1,
      c.read_refresh.ensures.files.held ∙ invariant.2,
      le_trans invariant.3 c.read_refresh.ensures.files.faults,
      le_trans invariant.4 c.read_refresh.ensures.files.misses,
      subst (λ (list : List Change). AllByRecursion MayBeStored list) (sym c.in_ok-push.ensures.items) (all_push MayBeStored before change invariant.5 c.in_ok-refresh.ensures.storable),
      subst (λ (h : Option Folder). AreKnown c.args.folder.now h c.read_refresh.new.known.items) (sym c.read_refresh.ensures.files.held) c.in_ok-refresh.ensures.known,
    )
