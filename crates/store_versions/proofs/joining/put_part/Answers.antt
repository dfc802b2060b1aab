use Rattle.std.proofs.Common.{◌≡◌, ◌<◌, List, length, ap, arith, subst, sym, ◌∙◌}
use Rattle.std.specs.List.{All}
use Rattle.base_value.specs.declared.value.Value.{Value}
use Rattle.base_columns.specs.Lists.{one_list}
use Rattle.base_columns.specs.Tables.{standing_rows}
use Rattle.store_versions.proofs.Rest.{rows_joined}
use Rattle.store_versions.proofs.Neighbours.{part-joined, same-width}
use Rattle.store_versions.proofs.joining.put_part.Goals as goal

pub push-requires : goal.push-requires
push-requires c =
    let part = c.args.part.now in
    let batch = c.in_ok-batch.batch in
    let wide : All (λ row. length row ≡ batch.width) part =
    subst (λ (rows : List (List Value)). All (λ row. length row ≡ batch.width) rows)
    c.in_ok-piece.ensures c.in_ok-batch.ensures.width in
    let some : 0 < length part = omega (arith, c.len-count.ensures.count, c.if-count-eq0.false) in
    sym (c.in_ok-make_room.ensures.room.width
    ∙ same-width part c.args.rest.now.width batch.width some c.requires.width wide)

pub returns-clause-joining : goal.returns-clause-joining
returns-clause-joining c =
    let part = c.args.part.now in
    let batch = c.in_ok-batch.batch in
    let has = c.in_ok-make_room.ensures.room in
    let wide : All (λ row. length row ≡ batch.width) part =
    subst (λ (rows : List (List Value)). All (λ row. length row ≡ batch.width) rows)
    c.in_ok-piece.ensures c.in_ok-batch.ensures.width in
    let some : 0 < length part = omega (arith, c.len-count.ensures.count, c.if-count-eq0.false) in
    part-joined c.len-count.result c.args.full.now.items c.make_room.new.full.items c.args.rest.now
    c.make_room.new.rest batch c.push.new.self part has c.len-count.ensures.count
    (c.in_ok-batch.ensures.rows ∙ ap standing_rows c.in_ok-piece.ensures)
    (has.width ∙ same-width part c.args.rest.now.width batch.width some c.requires.width wide)
    wide c.in_ok-push.ensures.width c.in_ok-push.ensures.ok

pub returns-clause-rows : goal.returns-clause-rows
returns-clause-rows c =
    rows_joined (one_list c.make_room.new.full.items) c.args.rest.now.rows
    c.make_room.new.rest.rows c.in_ok-batch.batch.rows c.push.new.self.rows
    (one_list c.args.full.now.items) c.args.part.now c.in_ok-push.ensures.ok
    (c.in_ok-batch.ensures.rows ∙ ap standing_rows c.in_ok-piece.ensures)
    c.in_ok-make_room.ensures.room.rows
