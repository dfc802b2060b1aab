use Rattle.std.proofs.Common.{inl, ap, sym, ◌∙◌, Some}
use Rattle.base_disk.specs.declared.memory.Call.TheVariants.{Synced}
use Rattle.base_disk.proofs.Moves.{now-push, synced_only, elapses_push}
use Rattle.base_disk.proofs.memory.MemDiskDisk.sync.Goals as goal

pub invariant_of-self-in-Ok : goal.invariant_of-self-in-Ok
invariant_of-self-in-Ok c = record { replayed = c.args.self.now.replayed ∙ sym (ap (λ s. s.bytes) (now-push c.args.self.now.first.items c.args.self.now.calls.items c.note_sync.new.calls.items Synced c.in-Ok.ensures.ok)) }

pub returns-in-Ok-clause-durable : goal.returns-in-Ok-clause-durable
returns-in-Ok-clause-durable c _ f image =
    let first = c.args.self.now.first.items in
    ap Some (ap (λ s. s.bytes) (now-push first c.args.self.now.calls.items c.note_sync.new.calls.items Synced c.in-Ok.ensures.ok)
    ∙ sym (synced_only first c.args.self.now.calls.items c.note_sync.new.calls.items c.in-Ok.ensures.ok f image))

pub returns-in-Ok-clause-crash : goal.returns-in-Ok-clause-crash
returns-in-Ok-clause-crash c f image = inl (synced_only c.args.self.now.first.items c.args.self.now.calls.items c.note_sync.new.calls.items c.in-Ok.ensures.ok f image)

pub returns-in-Ok-clause-time : goal.returns-in-Ok-clause-time
returns-in-Ok-clause-time c = elapses_push c.args.self.now.first.items c.args.self.now.calls.items c.note_sync.new.calls.items Synced c.in-Ok.ensures.ok
