use Rattle.std.proofs.Common.{◌≡◌, ◌+◌, ◌<◌, ◌++◌, [], ◌∷◌, List, ℕ, suc, length, take, drop, sym, ◌∙◌, ap, subst, arith, length-append}
use Rattle.std.specs.Prelude.{Ok, if◌then◌else◌, map}
use Rattle.std.specs.Int.{w64, to_be_bytes}
use Rattle.store_journal.specs.Format.{framed, entries}
use Rattle.store_journal.specs.Journal.{WithOrWithout, Stands, StandsForSome, is_stored}
use Rattle.store_journal.proofs.Moments.{goes_on}
use Rattle.store_journal.proofs.Runs.{length-payloads, left_at, before_next, fits_at, some_of, one_more}
use Rattle.store_journal.proofs.appends.append_all.Goals as goal

pub append-requires-clause-spelled : goal.append-requires-clause-spelled
append-requires-clause-spelled g c _ =
    (fits_at g.P.Payload.is_payload g.P.Payload.spelling c.args.values.now c.loop-value.value-index c.value-item.result c.loop-value-test.true c.value-item.is c.requires.spelled).spelled

pub append-requires-clause-room : goal.append-requires-clause-room
append-requires-clause-room g c _ =
    let f = g.P.Payload.spelling in
    let i = c.loop-value.value-index in
    let p = f c.value-item.result in
    let left = left_at f c.args.values.now i c.value-item.result c.loop-value-test.true c.value-item.is in
    let rest = entries (drop (suc i) (map f c.args.values.now)) in
    let long : length (entries (drop i (map f c.args.values.now))) ≡ suc (length (framed p ++ rest)) = ap (λ (l : List (List ℕ)). length (entries l)) left in
    omega (arith, c.loop-value.invariant.room, long, length-append (framed p) rest, length-append (to_be_bytes w64 (length p)) p)

pub returns-in_default : goal.returns-in_default
returns-in_default g c =
    let K = g.P.Payload.is_payload in
    let f = g.P.Payload.spelling in
    let tried = map f c.args.values.now in
    let i = c.loop-value.value-index in
    let q = f c.value-item.result in
    let less : i < length tried = omega (arith, c.loop-value-test.true, length-payloads f c.args.values.now) in
    let next : take (suc i) tried ≡ take i tried ++ q ∷ [] = before_next f c.args.values.now i c.value-item.result c.loop-value-test.true c.value-item.is in
    let one = λ (ps : List (List ℕ)) (s : Stands K (g.D.Disk.may_leave c.args.disk.now) ps c.args.journal.now.end). c.append.ensures.any_moment (ps ++ take i tried) (c.loop-value.invariant.stands ps s) in
    record {
      any_moment = λ ps s. goes_on g.D.Disk.moment g.D.Disk.left_since c.args.disk.now c.loop-value.disk c.append.new.disk (StandsForSome K 0 ps tried) (WithOrWithout K (ps ++ take i tried) q) (c.loop-value.invariant.any_moment ps s) (one ps s) (λ h left. some_of K ps tried i q less next 0 h (omega arith) left);
      acknowledged = λ ps s h left. some_of K ps tried i q less next c.loop-value.count h (omega (arith, c.loop-value.invariant.count)) ((one ps s).each h (g.met.D.Disk.counts_now c.append.new.disk (g.D.Disk.moment c.loop-value.disk) h (one ps s).later left));
      all = λ is. absurd (c.in_default.not-Stored is);
      failed = record { later = omega (arith, c.loop-value.invariant.faults, c.append.ensures.failed.later); rose = λ is. omega (arith, c.loop-value.invariant.faults, c.in_ok-other.ensures.failed.rose (ap Ok is)) };
      reached = c.append.ensures.reached;
    }

pub loop-value-preserved : goal.loop-value-preserved
loop-value-preserved g c =
    let K = g.P.Payload.is_payload in
    let f = g.P.Payload.spelling in
    let tried = map f c.args.values.now in
    let i = c.loop-value.value-index in
    let q = f c.value-item.result in
    let less : i < length tried = omega (arith, c.loop-value-test.true, length-payloads f c.args.values.now) in
    let next : take (suc i) tried ≡ take i tried ++ q ∷ [] = before_next f c.args.values.now i c.value-item.result c.loop-value-test.true c.value-item.is in
    let one = λ (ps : List (List ℕ)) (s : Stands K (g.D.Disk.may_leave c.args.disk.now) ps c.args.journal.now.end). c.append.ensures.any_moment (ps ++ take i tried) (c.loop-value.invariant.stands ps s) in
    let left = left_at f c.args.values.now i c.value-item.result c.loop-value-test.true c.value-item.is in
    let rest = entries (drop (suc i) tried) in
    let long : length (entries (drop i tried)) ≡ suc (length (framed q ++ rest)) = ap (λ (l : List (List ℕ)). length (entries l)) left in
    let up : i + 1 ≡ suc i = omega arith in
    let again : length (entries (drop (i + 1) tried)) ≡ length rest = ap (λ (k : ℕ). length (entries (drop k tried))) up in
    let end : c.append.new.self.end ≡ c.loop-value.journal.end + (9 + length q) = c.in_ok-other.ensures.end ∙ ap (λ r. if is_stored r then c.loop-value.journal.end + (9 + length q) else c.loop-value.journal.end) c.in-Stored.is in
    record {
      count = omega (arith, c.loop-value.invariant.count);
      room = omega (arith, c.loop-value.invariant.room, long, again, end, length-append (framed q) rest, length-append (to_be_bytes w64 (length q)) q);
      stands = λ ps s. subst (λ (l : List (List ℕ)). Stands K (g.D.Disk.may_leave c.append.new.disk) l c.append.new.self.end) (one_more K ps tried i q less next ∙ ap (λ (k : ℕ). ps ++ take k tried) (sym up)) (c.in_ok-other.ensures.stored (ps ++ take i tried) (c.loop-value.invariant.stands ps s) (ap Ok c.in-Stored.is));
      any_moment = λ ps s. goes_on g.D.Disk.moment g.D.Disk.left_since c.args.disk.now c.loop-value.disk c.append.new.disk (StandsForSome K 0 ps tried) (WithOrWithout K (ps ++ take i tried) q) (c.loop-value.invariant.any_moment ps s) (one ps s) (λ h left. some_of K ps tried i q less next 0 h (omega arith) left);
      reached = c.append.ensures.reached;
      faults = omega (arith, c.loop-value.invariant.faults, c.append.ensures.failed.later);
    }

pub returns-clause-acknowledged : goal.returns-clause-acknowledged
returns-clause-acknowledged g c ps s file left = record {
  count = c.loop-value.value-index;
  enough = omega (arith, c.loop-value.invariant.count);
  most = omega (arith, c.loop-value.auto.value-index-end, length-payloads g.P.Payload.spelling c.args.values.now);
  stands = (c.loop-value.invariant.stands ps s).images file left;
}
