use Rattle.std.proofs.Common.{◌≡◌, ◌≤◌, length, sym, ◌∙◌, ap, subst, arith, List, ℕ}
use Rattle.base_disk.specs.Disk.{written}
use Rattle.base_disk.specs.Memory.{TornBy, done}
use Rattle.base_disk.specs.declared.memory.Call.{Call}
use Rattle.base_disk.specs.declared.memory.Call.TheVariants.{Wrote}
use Rattle.base_disk.proofs.Moves.{redone}
use Rattle.base_disk.proofs.memory.redo.Goals as goal

pub returns-in_ok-torn-in-Wrote : goal.returns-in_ok-torn-in-Wrote
returns-in_ok-torn-in-Wrote c _ s now torn =
    let at = c.in-Wrote.at in
    let v = c.in-Wrote.piece in
    let filled = c.in_ok-filled-in-Wrote.filled.items in
    let image = c.in_ok-torn-in-Wrote.field-0.items in
    let next = c.in_ok-now-in-Wrote.field-0.items in
    let is : c.args.call.now ≡ Wrote at v = c.in-Wrote.is in
    let wrote : next ≡ written at c.deref-in-Wrote.result.now c.deref.result.now = c.in_ok-now-in-Wrote.ensures in
    let made : image ≡ written at c.deref-in-Wrote-3.result.now c.deref-in-Wrote-2.result.now = c.in_ok-torn-in-Wrote.ensures in
    let within : at ≤ length c.args.torn.now.items = omega (arith, c.if-len-at-2.false, c.len-else-len-at.ensures) in
    let long : length filled ≡ length v.items = omega (arith, c.in_ok-filled-in-Wrote.ensures.len, c.len-in-Wrote.ensures) in
    let wrote_now : next ≡ written at v.items c.args.now.now.items = wrote ∙ ap (λ (l : List ℕ). written at l c.deref.result.now) c.deref-in-Wrote.ensures.value ∙ ap (λ (l : List ℕ). written at v.items l) c.deref.ensures.value in
    let made_now : image ≡ written at filled c.args.torn.now.items = made ∙ ap (λ (l : List ℕ). written at l c.deref-in-Wrote-2.result.now) c.deref-in-Wrote-3.ensures.value ∙ ap (λ (l : List ℕ). written at filled l) c.deref-in-Wrote-2.ensures.value in
    subst (λ (call : Call). (next ≡ (done s call).bytes) × TornBy (done s call).writes (done s call).firm image) (sym is)
    (redone s at v filled c.args.now.now.items c.args.torn.now.items next image now torn within long wrote_now made_now)
