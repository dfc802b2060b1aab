use Rattle.std.proofs.Common.{◌≡◌, ◌∙◌, ◌+◌, List, drop, le_trans, subst, sym}
use Rattle.base_value.specs.declared.value.Value.{Value}
use Rattle.app_inputs.proofs.Lists.{behind, count_pushed, kinds_more, lists_more}
use Rattle.app_inputs.specs.Inputs.{lists_in}
use Rattle.app_inputs.specs.Lists.{TablesHaveKinds}
use Rattle.app_inputs.specs.Views.{IfKnown}
use Rattle.app_inputs.proofs.tables.read_tables.Goals as goal

pub loop-name-preserved : goal.loop-name-preserved
loop-name-preserved g c =
    let held = g.F.Files.held c.args.files.now in
    let names = c.args.names.now in
    let i = c.loop-name.name-index in
    let before = c.loop-name.tables.items in
    let rows = c.in_ok-rows.rows in
    let invariant = c.loop-name.invariant in
    let pushed = c.in_ok-push.ensures.items in
    let told = lists_more held (g.F.Files.held c.loop-name.files) c.args.folder.now names i _ before rows invariant.3 c.loop-name-test.true invariant.0 c.in_ok-rows.ensures.input in
    let kinds = kinds_more names before rows i _ invariant.1 c.loop-name-test.true invariant.2 c.in_ok-rows.ensures.kinds in (
      subst (λ (lists : List (List (List Value))). IfKnown held (λ folder. lists_in c.args.folder.now names folder ≡ behind lists (lists_in c.args.folder.now (drop (i + 1) names) folder))) (sym pushed) told,
      count_pushed before c.push.new.self.items rows i c.in_ok-push.ensures.items invariant.1,
      subst (TablesHaveKinds names) (sym pushed) kinds,
      c.read_table.ensures.files.held ∙ invariant.3,
      le_trans invariant.4 c.read_table.ensures.files.faults,
      le_trans invariant.5 c.read_table.ensures.files.misses,
    )
