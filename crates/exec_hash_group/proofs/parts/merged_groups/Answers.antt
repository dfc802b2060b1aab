use Rattle.std.proofs.Common.{◌<◌, ◌^◌, ℕ, List, ap, sym, subst, ◌∙◌, arith, length}
use Rattle.base_columns.specs.Lists.{AreBelow}
use Rattle.exec_hash_group.specs.Standings.{ranks, row_ranks, least_of, AreOfNumbers}
use Rattle.exec_hash_group.proofs.GroupRows.{groups_below}
use Rattle.exec_hash_group.proofs.PartLists.{merged_is}
use Rattle.exec_hash_group.proofs.parts.merged_groups.Goals as goal

pub least_standings-requires-clause-numbers : goal.least_standings-requires-clause-numbers
least_standings-requires-clause-numbers c =
    let B : List ℕ → Type 0 = λ ns. AreBelow c.in_ok-keys.field-0.count ns in
    subst B (sym c.as_slice-3.ensures.value)
    (groups_below c.as_slice.result.now c.in_ok-entries.entries.rows c.in_ok-keys.field-0.keys.items c.in_ok-keys.field-0.numbers.items c.in_ok-keys.field-0.count c.in_ok-keys.ensures).0

pub returns : goal.returns
returns c =
    let entries = c.in_ok-entries.entries in
    let count = c.in_ok-keys.field-0.count in
    let least = c.in_ok-least.least.items in
    let A : List ℕ → Type 0 = λ all. AreOfNumbers (least_of c.as_slice-3.result.now all) count (ranks least) in
    let B : List ℕ → Type 0 = λ ns. AreOfNumbers (least_of ns (row_ranks entries.rows)) count (ranks least) in
    let are = subst B c.as_slice-3.ensures.value (subst A (ap ranks c.as_slice-2.ensures.value ∙ c.in_ok-standings.ensures) c.in_ok-least.ensures) in
    let small : length entries.rows < 2 ^ 32 = omega (arith, c.len.ensures, c.if-len.false) in
    merged_is c.args.by.now c.args.parts.now entries c.as_slice.result.now c.in_ok-keys.field-0.keys.items c.in_ok-keys.field-0.numbers.items count least c.requires c.in_ok-entries.ensures.width
    c.in_ok-entries.ensures.rows c.all_places.ensures.wide (c.as_slice.ensures ∙ c.in_ok-places.ensures.places) small c.in_ok-keys.ensures are
