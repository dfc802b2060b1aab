use Rattle.std.proofs.Common.{◌≤◌, length, ap, sym, subst, ◌∙◌, arith}
use Rattle.base_disk.specs.Disk.{written}
use Rattle.base_disk.specs.Memory.{IsImage, state_now}
use Rattle.base_disk.specs.declared.memory.Call.TheVariants.{Wrote}
use Rattle.base_disk.proofs.Moves.{now-push, wrote_crash, elapses_push}
use Rattle.base_disk.proofs.memory.MemDiskDisk.write_at.Goals as goal

pub invariant_of-self-in-Ok : goal.invariant_of-self-in-Ok
invariant_of-self-in-Ok c =
    let call = c.in-Ok.ensures.ok in
    let step = ap (λ s. s.bytes) (now-push c.args.self.now.first.items c.args.self.now.calls.items c.write.new.calls.items (Wrote c.args.at call.0) call.2) in
    record { replayed = c.in-Ok.ensures.bytes ∙ ap (λ p. written c.args.at p c.args.self.now.bytes.items) (sym call.1) ∙ ap (λ f. written c.args.at call.0.items f) c.args.self.now.replayed ∙ sym step }

pub returns-in-Ok-clause-crash : goal.returns-in-Ok-clause-crash
returns-in-Ok-clause-crash c f image =
    let first = c.args.self.now.first.items in
    let call = c.in-Ok.ensures.ok in
    let s = state_now first c.args.self.now.calls.items in
    let within : c.args.at ≤ length s.bytes = omega (arith, c.if-at-len.false, ap length c.args.self.now.replayed) in
    wrote_crash s c.args.at call.0 c.args.piece.now call.1 within f
    (subst (λ t. IsImage t f) (now-push first c.args.self.now.calls.items c.write.new.calls.items (Wrote c.args.at call.0) call.2) image)

pub returns-in-Ok-clause-time : goal.returns-in-Ok-clause-time
returns-in-Ok-clause-time c =
    let call = c.in-Ok.ensures.ok in
    elapses_push c.args.self.now.first.items c.args.self.now.calls.items c.write.new.calls.items (Wrote c.args.at call.0) call.2
