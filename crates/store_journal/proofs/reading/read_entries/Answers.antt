use Rattle.std.proofs.Common.{refl, ◌≡◌, ◌++◌, [], ◌∷◌, List, ℕ, sym, ap, ◌∙◌, subst}
use Rattle.std.specs.Prelude.{map}
use Rattle.std.specs.List.{AllByRecursion}
use Rattle.store_journal.specs.Format.{IsEntry, framed, entries}
use Rattle.store_journal.proofs.Entries.{all-push, entries-push, fits-push, map-push}
use Rattle.store_journal.proofs.reading.read_entries.Goals as goal

pub loop-alloc-preserved : goal.loop-alloc-preserved
loop-alloc-preserved g c =
    let K = g.P.Payload.is_payload in
    let spelling = g.P.Payload.spelling in
    let found = rw c.in-Some.is at c.in_ok-value.ensures.some in
    let value = c.in-Some.value in
    let rest = c.in-Some.rest.now in
    let payloads = map spelling c.loop-alloc.values.items in
    let left : c.loop-alloc.left.now ≡ 1 ∷ (framed (spelling value) ++ rest) = c.loop-alloc-test.ensures.«open» refl ∙ ap (λ (l : List ℕ). 1 ∷ l) (sym c.split_at.ensures.back ∙ found.1) in
    let pushed : map spelling c.push.new.self.items ≡ payloads ++ spelling value ∷ [] = ap (λ vs. map spelling vs) c.in_ok-push.ensures.items ∙ map-push spelling c.loop-alloc.values.items value in
    record {
      values = subst (λ vs. AllByRecursion g.P.Payload.is_value vs) (sym c.in_ok-push.ensures.items) (all-push g.P.Payload.is_value c.loop-alloc.values.items value c.loop-alloc.invariant.values found.2);
      whole = c.loop-alloc.invariant.whole ∙ ap (λ (l : List ℕ). entries payloads ++ l) left ∙ sym (entries-push payloads (spelling value) rest) ∙ ap (λ (ps : List (List ℕ)). entries ps ++ rest) (sym pushed);
      fits = subst (λ (ps : List (List ℕ)). AllByRecursion (IsEntry K) ps) (sym pushed) (fits-push K payloads (spelling value) c.loop-alloc.invariant.fits found.0);
    }
