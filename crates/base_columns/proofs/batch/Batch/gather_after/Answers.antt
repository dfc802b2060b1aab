use Rattle.std.proofs.Common.{◌≡◌, ℕ, ◌-◌, List, sym, ap, ◌∙◌, map, take, drop, length}
use Rattle.base_value.specs.declared.value.Value.{Value}
use Rattle.base_value.specs.declared.value.Value.TheVariants.{Null}
use Rattle.base_columns.specs.Lists.{gathered}
use Rattle.base_columns.proofs.WiderRows.{dropped_whole, dropped_below, taken_made}
use Rattle.base_columns.proofs.batch.Batch.gather_after.Goals as goal

new_columns : (cs xs new : List (List Value)) (places : List ℕ) (n : ℕ) → xs ≡ cs → new ≡ map (λ c. gathered Null c places) (take (length xs - n) (drop n xs))
    → new ≡ map (λ c. gathered Null c places) (drop n cs)
new_columns cs xs new places n e f =
    f ∙ ap (map (λ (c : List Value). gathered Null c places)) (dropped_whole n xs ∙ ap (drop n) e)

pub gather_columns-requires : goal.gather_columns-requires
gather_columns-requires c =
    dropped_below c.args.self.now c.args.n c.as_slice.result.now c.self.inside.standings c.args.places.now (rw c.as_slice.ensures.value (sym c.self.view_is)) (rw c.as_slice.ensures.value c.self.invariant) c.requires.below

pub invariant_of-result : goal.invariant_of-result
invariant_of-result c =
    (taken_made c.args.self.now c.args.n c.self.inside.columns.items c.in_ok-columns.columns.items c.self.inside.standings c.in_ok-standings.standings c.args.places.now
    (sym c.self.view_is) c.requires.below (new_columns c.self.inside.columns.items c.as_slice.result.now c.in_ok-columns.columns.items c.args.places.now c.args.n c.as_slice.ensures.value c.in_ok-columns.ensures) c.in_ok-standings.ensures).0

pub returns-clause-width : goal.returns-clause-width
returns-clause-width c =
    (taken_made c.args.self.now c.args.n c.self.inside.columns.items c.in_ok-columns.columns.items c.self.inside.standings c.in_ok-standings.standings c.args.places.now
    (sym c.self.view_is) c.requires.below (new_columns c.self.inside.columns.items c.as_slice.result.now c.in_ok-columns.columns.items c.args.places.now c.args.n c.as_slice.ensures.value c.in_ok-columns.ensures) c.in_ok-standings.ensures).1

pub returns-clause-rows : goal.returns-clause-rows
returns-clause-rows c =
    (taken_made c.args.self.now c.args.n c.self.inside.columns.items c.in_ok-columns.columns.items c.self.inside.standings c.in_ok-standings.standings c.args.places.now
    (sym c.self.view_is) c.requires.below (new_columns c.self.inside.columns.items c.as_slice.result.now c.in_ok-columns.columns.items c.args.places.now c.args.n c.as_slice.ensures.value c.in_ok-columns.ensures) c.in_ok-standings.ensures).2
