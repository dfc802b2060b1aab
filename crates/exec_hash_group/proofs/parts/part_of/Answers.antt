use Rattle.std.proofs.Common.{refl, ◌≡◌, ℕ, List, ap, sym, subst, ◌∙◌, arith, length}
use Rattle.base_columns.specs.Lists.{AreBelow}
use Rattle.exec_hash_group.specs.Standings.{ranks, row_ranks, least_of, AreOfNumbers}
use Rattle.exec_hash_group.proofs.GroupRows.{groups_below}
use Rattle.exec_hash_group.proofs.PartLists.{part_below, part_keys_are, part_width}
use Rattle.exec_hash_group.proofs.parts.part_of.Goals as goal

pub least_standings-requires-clause-numbers : goal.least_standings-requires-clause-numbers
least_standings-requires-clause-numbers g c =
    let B : List ℕ → Type 0 = λ ns. AreBelow c.in_ok-keys.field-0.count ns in
    subst B (sym c.as_slice-2.ensures.value)
    (groups_below c.args.by.now c.args.rows.rows c.in_ok-keys.field-0.keys.items c.in_ok-keys.field-0.numbers.items c.in_ok-keys.field-0.count c.in_ok-keys.ensures).0

pub invariant_of-result : goal.invariant_of-result
invariant_of-result g c =
    let rows = c.args.rows.rows in
    let keys = c.in_ok-keys.field-0.keys.items in
    let numbers = c.in_ok-keys.field-0.numbers.items in
    let count = c.in_ok-keys.field-0.count in
    let least = c.in_ok-least.least.items in
    let A : List ℕ → Type 0 = λ all. AreOfNumbers (least_of c.as_slice-2.result.now all) count (ranks least) in
    let B : List ℕ → Type 0 = λ ns. AreOfNumbers (least_of ns (row_ranks rows)) count (ranks least) in
    let are = subst B c.as_slice-2.ensures.value (subst A (ap ranks c.as_slice.ensures.value ∙ c.in_ok-standings.ensures) c.in_ok-least.ensures) in
    let long : length numbers ≡ length rows = (groups_below c.args.by.now rows keys numbers count c.in_ok-keys.ensures).1 in
    record {
      long = long;
      few = omega (arith, long, c.len.ensures, c.if-len.false);
      below = subst (λ b. AreBelow (length b.rows) numbers) (sym c.of-keys.ensures) (part_below c.args.by.now rows keys numbers count least c.in_ok-keys.ensures are);
    }

pub returns : goal.returns
returns g c =
    let rows = c.args.rows.rows in
    let keys = c.in_ok-keys.field-0.keys.items in
    let numbers = c.in_ok-keys.field-0.numbers.items in
    let count = c.in_ok-keys.field-0.count in
    let least = c.in_ok-least.least.items in
    let A : List ℕ → Type 0 = λ all. AreOfNumbers (least_of c.as_slice-2.result.now all) count (ranks least) in
    let B : List ℕ → Type 0 = λ ns. AreOfNumbers (least_of ns (row_ranks rows)) count (ranks least) in
    let are = subst B c.as_slice-2.ensures.value (subst A (ap ranks c.as_slice.ensures.value ∙ c.in_ok-standings.ensures) c.in_ok-least.ensures) in (
      refl,
      record {
        width = ap (λ b. b.width) c.of-keys.ensures ∙ part_width c.args.by.now rows keys numbers count least c.in_ok-keys.ensures;
        numbers_are = c.in_ok-keys.ensures.numbers_are;
        keys_are = ap (λ b. b.rows) c.of-keys.ensures ∙ part_keys_are c.args.by.now rows keys numbers count least c.in_ok-keys.ensures are;
      },
    )
