use Rattle.std.proofs.Common.{◌≡◌, ◌+◌, ◌++◌, [], ◌∷◌, length, ◌∙◌, ap, arith, refl, length-append}
use Rattle.std.specs.Int.{w64, to_be_bytes}
use Rattle.store_journal.specs.Format.{IsEntry, framed}
use Rattle.store_journal.proofs.Crash.{staged_images, stored_images}
use Rattle.store_journal.proofs.Steps.{in_first, in_second}
use Rattle.store_journal.proofs.journal.Journal.append.Goals as goal

pub returns-then-not-write_and_sync-clause-any_moment : goal.returns-then-not-write_and_sync-clause-any_moment
returns-then-not-write_and_sync-clause-any_moment g c ps s =
    in_first g.D.Disk.moment g.D.Disk.left_since g.D.Disk.may_leave g.P.Payload.is_payload ps
    c.args.self.now.end (g.P.Payload.spelling c.args.value.now) (length c.deref.result.now)
    c.args.disk.now c.write_and_sync.new.disk s c.write_and_sync.ensures.any_moment

pub returns-then-not-write_and_sync-2-clause-any_moment : goal.returns-then-not-write_and_sync-2-clause-any_moment
returns-then-not-write_and_sync-2-clause-any_moment g c ps s =
    let may_leave = g.D.Disk.may_leave in
    let K = g.P.Payload.is_payload in
    let p = g.P.Payload.spelling c.args.value.now in
    let end = c.args.self.now.end in
    let old = c.args.disk.now in
    let mid = c.write_and_sync.new.disk in
    let entry : IsEntry K p = record {
      spelled = c.requires.spelled c.if-self.false;
      short = omega (arith, c.requires.room c.if-self.false);
    } in
    let is : c.deref.result.now ≡ framed p ++ 0 ∷ [] = c.deref.ensures.value ∙ c.in_ok-piece.ensures in
    let staged = staged_images K ps end s.place (may_leave old) (may_leave mid) (may_leave mid) p s.images c.deref.result.now is (c.if-not-write_and_sync.ensures.done refl) in
    in_second g.D.Disk.moment g.D.Disk.left_since may_leave K ps end p (length c.deref.result.now) old mid s
    c.write_and_sync.ensures.any_moment c.write_and_sync-2.new.disk entry staged
    c.write_and_sync-2.ensures.any_moment

pub returns-clause-any_moment : goal.returns-clause-any_moment
returns-clause-any_moment g c ps s =
    let may_leave = g.D.Disk.may_leave in
    let K = g.P.Payload.is_payload in
    let p = g.P.Payload.spelling c.args.value.now in
    let end = c.args.self.now.end in
    let old = c.args.disk.now in
    let mid = c.write_and_sync.new.disk in
    let entry : IsEntry K p = record {
      spelled = c.requires.spelled c.if-self.false;
      short = omega (arith, c.requires.room c.if-self.false);
    } in
    let is : c.deref.result.now ≡ framed p ++ 0 ∷ [] = c.deref.ensures.value ∙ c.in_ok-piece.ensures in
    let staged = staged_images K ps end s.place (may_leave old) (may_leave mid) (may_leave mid) p s.images c.deref.result.now is (c.if-not-write_and_sync.ensures.done refl) in
    in_second g.D.Disk.moment g.D.Disk.left_since may_leave K ps end p (length c.deref.result.now) old mid s
    c.write_and_sync.ensures.any_moment c.write_and_sync-2.new.disk entry staged
    c.write_and_sync-2.ensures.any_moment

pub returns-clause-stored : goal.returns-clause-stored
returns-clause-stored g c ps s _ =
    let may_leave = g.D.Disk.may_leave in
    let K = g.P.Payload.is_payload in
    let p = g.P.Payload.spelling c.args.value.now in
    let end = c.args.self.now.end in
    let old = may_leave c.args.disk.now in
    let mid = may_leave c.write_and_sync.new.disk in
    let new = may_leave c.write_and_sync-2.new.disk in
    let entry : IsEntry K p = record {
      spelled = c.requires.spelled c.if-self.false;
      short = omega (arith, c.requires.room c.if-self.false);
    } in
    let is : c.deref.result.now ≡ framed p ++ 0 ∷ [] = c.deref.ensures.value ∙ c.in_ok-piece.ensures in
    let staged = staged_images K ps end s.place old mid new p s.images c.deref.result.now is (c.if-not-write_and_sync.ensures.done refl) in
    let long : c.len.result ≡ 9 + length p = omega (arith, c.len.ensures, ap length c.in_ok-piece.ensures, length-append (framed p) (0 ∷ []), length-append (to_be_bytes w64 (length p)) p) in
    stored_images K ps end s.place old mid new p s.images c.len.result long entry staged (c.if-not-write_and_sync-2.ensures.done refl)
