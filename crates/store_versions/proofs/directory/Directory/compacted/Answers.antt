use Rattle.std.proofs.Common.{◌≡◌, List, ap, length, map, subst, sym, ◌∙◌}
use Rattle.std.proofs.lemmas.List.{length-map}
use Rattle.std.proofs.lemmas.List.Elements.{All-map}
use Rattle.std.specs.Arc.{arc_value}
use Rattle.std.specs.Vec.{vec_items}
use Rattle.base_columns.specs.Lists.{one_list}
use Rattle.base_schema.specs.State.{State, table_rows}
use Rattle.base_schema.specs.Tables.{all_tables}
use Rattle.store_state.specs.Lists.{IsOfKinds, state_of}
use Rattle.store_state.specs.Refresh.{Change}
use Rattle.store_versions.specs.Segments.{AreJoined}
use Rattle.store_versions.specs.Trials.{Trials, tables_of, trials_at}
use Rattle.store_versions.proofs.Neighbours.{all-of-kinds, fused}
use Rattle.store_versions.proofs.directory.Directory.compacted.Goals as goal

pub invariant_of-result : goal.invariant_of-result
invariant_of-result g c =
    let made = map (λ segments. one_list segments.items) c.in_ok-tables.tables.items in
    let first : state_of made ≡ c.deref.result.now = ap state_of c.in_ok-tables.ensures.rows in
    let same : state_of made ≡ arc_value c.self.inside.state = first ∙ c.deref.ensures in
    let base : arc_value c.in_ok-base.base ≡ arc_value c.self.inside.base = c.in_ok-base.ensures in
    let list : (arc_value c.in_ok-list.list).items ≡ (arc_value c.self.inside.list).items =
    ap (λ v. v.items) c.in_ok-list.ensures in (
      record {
        last = rw (base, list, same) c.self.invariant.0.last;
        earlier = rw (base, list, c.in_ok-earlier.ensures) c.self.invariant.0.earlier;
      },
      sym (length-map c.in_ok-tables.tables.items (λ segments. one_list segments.items))
          ∙ ap length c.in_ok-tables.ensures.rows,
      subst IsOfKinds (sym first) (all-of-kinds c.deref.result.now c.in_ok-tables.ensures.kinds),
      subst (g.A.Attachment.is_right c.in_ok-attachment.attachment) (sym same)
          (c.in_ok-attachment.ensures (arc_value c.self.inside.state) c.self.invariant.1),
    )

pub returns : goal.returns
returns g c =
    let base : arc_value c.in_ok-base.base ≡ arc_value c.self.inside.base = c.in_ok-base.ensures in
    let list : (arc_value c.in_ok-list.list).items ≡ (arc_value c.self.inside.list).items =
    ap (λ v. v.items) c.in_ok-list.ensures in
    let made : State → List Change → Trials = λ b l.
    trials_at b l c.self.inside.done c.self.inside.most in
    record {
      same = ap (λ b. made b (arc_value c.in_ok-list.list).items) base
          ∙ ap (λ l. made (arc_value c.self.inside.base) l) list ∙ c.self.view_is;
      rows = fused vec_items one_list c.in_ok-tables.tables.items ∙ c.in_ok-tables.ensures.rows
          ∙ ap (λ (s : State). map (table_rows s) all_tables)
          (c.deref.ensures ∙ c.self.invariant.0.last.left ∙ ap tables_of c.self.view_is);
      joined = All-map AreJoined vec_items c.in_ok-tables.tables.items
          c.in_ok-tables.ensures.joined;
    }
