use Rattle.std.proofs.Common.{◌≡◌, ℕ, List, ◌++◌, length, take, drop, sym, ap, subst, ◌∙◌, arith}
use Rattle.std.proofs.lemmas.List.{take-append-drop}
use Rattle.std.proofs.Math.Seq.{take-length}
use Rattle.store_state.specs.Prefixes.{IsPrefix}
use Rattle.store_versions.proofs.lists.is_beginning.Goals as goal

begun : {A : Type 0} (short long : List A) (k : ℕ) → k ≡ length short → take k short ≡ take k long → IsPrefix short long
begun short long k is same =
    let whole : take k short ≡ short = subst (λ n. take n short ≡ short) (sym is) (take-length short) in
    (drop k long, sym (take-append-drop k long) ∙ ap (λ l. l ++ drop k long) (sym same ∙ whole))

pub returns : goal.returns
returns c _ =
    let at_end = c.loop-k.auto.k-end in
    let past = c.loop-k-test.false in
    begun c.args.short.now c.args.long.now c.loop-k.k (omega (arith, at_end, past)) c.loop-k.invariant
