use Rattle.std.proofs.Common.{◌≡◌, ◌+◌, ℕ, length, take, refl, ap, sym, subst, arith}
use Rattle.base_columns.specs.Batches.{AreLong}
use Rattle.exec_hash_group.proofs.FilledRows.{first_beside, filled_below, filled_rows}
use Rattle.exec_hash_group.proofs.filling.places_by_columns.Goals as goal

pub slice_bounds-keys-end : goal.slice_bounds-keys-end
slice_bounds-keys-end c = (first_beside c.args.groups.now c.args.domain.now c.args.group_columns.now c.args.domain_columns.now (length c.args.domain_columns.now) c.requires.groups c.requires.domain c.requires.widths refl).1

pub places_of-requires-clause-beside : goal.places_of-requires-clause-beside
places_of-requires-clause-beside c = (first_beside c.args.groups.now c.args.domain.now c.args.group_columns.now c.args.domain_columns.now (length c.args.domain_columns.now) c.requires.groups c.requires.domain c.requires.widths refl).1

pub places_of-requires-clause-domain : goal.places_of-requires-clause-domain
places_of-requires-clause-domain c =
    let L : ℕ → Type 0 = λ n. AreLong n c.args.domain_columns.now in
    subst L (sym c.len.ensures) (first_beside c.args.groups.now c.args.domain.now c.args.group_columns.now c.args.domain_columns.now (length c.args.domain_columns.now) c.requires.groups c.requires.domain c.requires.widths refl).3

pub places_of-requires-clause-groups : goal.places_of-requires-clause-groups
places_of-requires-clause-groups c =
    let L : ℕ → Type 0 = λ n. AreLong n (take (length c.args.domain_columns.now) c.args.group_columns.now) in
    subst L (sym c.len-2.ensures) (first_beside c.args.groups.now c.args.domain.now c.args.group_columns.now c.args.domain_columns.now (length c.args.domain_columns.now) c.requires.groups c.requires.domain c.requires.widths refl).2

pub returns-clause-below : goal.returns-clause-below
returns-clause-below c =
    let n = c.len.ensures in
    let m = c.len-2.ensures in
    let b : length c.args.groups.now.rows + length c.args.domain.now.rows ≡ c.len-2.result + c.len.result = omega (arith, n, m) in
    filled_below c.args.domain_columns.now (take (length c.args.domain_columns.now) c.args.group_columns.now) c.len.result c.len-2.result
    (length c.args.groups.now.rows + length c.args.domain.now.rows) c.in_ok-places.places.items c.in_ok-places.ensures b

pub returns-clause-rows : goal.returns-clause-rows
returns-clause-rows c =
    λ empty widths.
    filled_rows c.args.groups.now c.args.domain.now c.args.group_columns.now c.args.domain_columns.now empty c.requires.groups c.requires.domain widths
    (take (length c.args.domain_columns.now) c.args.group_columns.now) c.len.result c.len-2.result c.in_ok-places.places.items
    (ap (λ k. take k c.args.group_columns.now) (first_beside c.args.groups.now c.args.domain.now c.args.group_columns.now c.args.domain_columns.now (length c.args.domain_columns.now) c.requires.groups c.requires.domain c.requires.widths refl).4)
    c.len.ensures c.len-2.ensures c.in_ok-places.ensures
