-- One more call joins those that a disk in memory remembers.
use Rattle.std.proofs.Common.{◌≡◌, inl, inr, ⊎_elim, ℕ, zero, suc, ◌+◌, ◌-◌, ◌≤◌, ◌<◌, min, List, [], ◌∷◌, ◌++◌, length, take, drop, get_or, Vec, refl, sym, ◌∙◌, ap, subst, arith, length-append, length-take, length-drop, append_assoc}
use Rattle.std.specs.Prelude.{replicate}
use Rattle.std.specs.declared.alloc.Global.{Global}
use Rattle.std.proofs.lemmas.Bool.{cases_lt}
use Rattle.std.proofs.lemmas.List.{take_all, take_at, drop_at, take-append-le}
use Rattle.base_disk.specs.Disk.{Torn, Follows, Elapses, written}
use Rattle.base_disk.specs.Memory.{State, TornBy, IsImage, LeftSince, start, done, after, state_now}
use Rattle.base_disk.specs.declared.memory.Call.{Call}
use Rattle.base_disk.specs.declared.memory.Call.TheVariants.{Wrote, Synced}

pub after-push : (s : State) (calls : List Call) (call : Call) → after s (calls ++ call ∷ []) ≡ done (after s calls) call
after-push s [] call = refl
after-push s (x ∷ calls) call = after-push (done s x) calls call

pub torn-push : (ws : List (ℕ × ℕ)) (w : ℕ × ℕ) (old c : List ℕ) → TornBy (ws ++ w ∷ []) old c → (d : List ℕ) × TornBy ws old d × Torn w.0 w.1 d c
torn-push [] w old c t = (old, refl, subst (λ x. Torn w.0 w.1 old x) (sym t.2) t.1)
torn-push (x ∷ ws) w old c t = let r = torn-push ws w t.0 c t.2 in (r.0, (t.0, t.1, r.1), r.2)

-- a write within the file, in plain parts
pub written-within : (at : ℕ) (piece file : List ℕ) → at ≤ length file → written at piece file ≡ take at file ++ (piece ++ drop (at + length piece) file)
written-within at piece file le =
    let gap : at - length file ≡ 0 = omega arith in
    let none : replicate (at - length file) 0 ≡ [] = ap (λ (n : ℕ). replicate n 0) gap in
    ap (λ (l : List ℕ). take at file ++ (l ++ (piece ++ drop (at + length piece) file))) none

pub torn_written : (at : ℕ) (piece file : List ℕ) → at ≤ length file → Torn at (length piece) file (written at piece file)
torn_written at piece file le =
    let rest = drop (at + length piece) file in
    let front : length (take at file) ≡ at = omega (arith, length-take at file) in
    let is : written at piece file ≡ take at file ++ (piece ++ rest) = written-within at piece file le in
    let place : min at (length file) ≡ at = omega arith in
    let long : length (take at file ++ (piece ++ rest)) ≡ at + (length piece + (length file - (at + length piece))) = omega (arith, length-append (take at file) (piece ++ rest), length-append piece rest, length-drop (at + length piece) file, front) in
    record {
      before = ap (λ (k : ℕ). take k (written at piece file)) place ∙ ap (λ (l : List ℕ). take at l) is ∙ take_at (take at file) (piece ++ rest) at front ∙ ap (λ (k : ℕ). take k file) (sym place);
      after = ap (λ (l : List ℕ). drop (at + length piece) l) (is ∙ sym (append_assoc (take at file) piece rest)) ∙ drop_at (take at file ++ piece) rest (at + length piece) (omega (arith, length-append (take at file) piece, front));
      no_shorter = omega (arith, ap length is, long);
    }

-- what a crash may leave after a write is what it might have left before, torn
pub wrote_crash : (s : State) (at : ℕ) (v : Vec ℕ Global) (piece : List ℕ) → v.items ≡ piece → at ≤ length s.bytes → Follows (Torn at (length piece)) (IsImage s) (IsImage (done s (Wrote at v)))
wrote_crash s at v piece is le c image =
    ⊎_elim
    (λ now. (s.bytes, inl refl, subst (λ p. Torn at (length piece) s.bytes p) (sym now) (subst (λ p. Torn at (length p) s.bytes (written at v.items s.bytes)) is (torn_written at v.items s.bytes le))))
    (λ torn. let r = torn-push s.writes (at, length v.items) s.firm c torn in (r.0, inr r.1, subst (λ p. Torn at (length p) r.0 c) is r.2))
    image

-- time goes on by one call
pub elapses_push : (first : List ℕ) (calls later : List Call) (call : Call) → later ≡ calls ++ call ∷ [] → Elapses (length calls) (length later) (LeftSince first calls) (LeftSince first later) (IsImage (state_now first later))
elapses_push first calls later call is = record {
  later = omega (arith, ap length is, length-append calls (call ∷ []));
  nothing_else = λ t c le left. elim (cases_lt (length calls) left.0) [
    | inr within ↦ inl (left.0, left.1, within, subst (λ (cs : List Call). IsImage (state_now first cs) c) (front left.0 within) left.3)
    | inl past ↦ inr (subst (λ (cs : List Call). IsImage (state_now first cs) c) (take_all left.0 later (omega (arith, past, ap length is, length-append calls (call ∷ [])))) left.3)
  ];
  keeps = λ t c le left. (left.0, left.1, omega (arith, left.2, ap length is, length-append calls (call ∷ [])), subst (λ (cs : List Call). IsImage (state_now first cs) c) (sym (front left.0 left.2)) left.3);
}
  where
    front : (k : ℕ) → k ≤ length calls → take k later ≡ take k calls
    front k le = ap (λ (cs : List Call). take k cs) is ∙ take-append-le k calls (call ∷ []) le

-- the state with one more call
pub now-push : (first : List ℕ) (calls later : List Call) (call : Call) → later ≡ calls ++ call ∷ [] → state_now first later ≡ done (state_now first calls) call
now-push first calls later call is = ap (λ (cs : List Call). after (start first) cs) is ∙ after-push (start first) calls call

-- a sync leaves one image
pub synced_only : (first : List ℕ) (calls later : List Call) → later ≡ calls ++ Synced ∷ [] → (c : List ℕ) → IsImage (state_now first later) c → c ≡ (state_now first calls).bytes
synced_only first calls later is c image = ⊎_elim (λ here. here) (λ torn. torn) (subst (λ s. IsImage s c) (now-push first calls later Synced is) image)

pub torn-more : (ws : List (ℕ × ℕ)) (w : ℕ × ℕ) (old d c : List ℕ) → TornBy ws old d → Torn w.0 w.1 d c → TornBy (ws ++ w ∷ []) old c
torn-more [] w old d c is torn = (c, subst (λ x. Torn w.0 w.1 x c) is torn, refl)
torn-more (x ∷ ws) w old d c t torn = (t.0, t.1, torn-more ws w t.0 d c t.2 torn)

-- a write and its range filled once more
pub redone : (s : State) (at : ℕ) (v : Vec ℕ Global) (filled now torn next image : List ℕ) → now ≡ s.bytes → TornBy s.writes s.firm torn → at ≤ length torn → length filled ≡ length v.items → next ≡ written at v.items now → image ≡ written at filled torn → (next ≡ (done s (Wrote at v)).bytes) × TornBy (done s (Wrote at v)).writes (done s (Wrote at v)).firm image
redone s at v filled now torn next image is before le long wrote made =
    let one : Torn at (length v.items) torn image = subst (λ (n : ℕ). Torn at n torn image) long (subst (λ (l : List ℕ). Torn at (length filled) torn l) (sym made) (torn_written at filled torn le)) in
    (wrote ∙ ap (λ (l : List ℕ). written at v.items l) is, torn-more s.writes (at, length v.items) s.firm torn image before one)

-- one call more of a list
pub next_state : (first : List ℕ) (calls : List Call) (i : ℕ) (call : Call) → i < length calls → call ≡ get_or calls i call → state_now first (take (suc i) calls) ≡ done (state_now first (take i calls)) call
next_state first calls i call less is = ap (λ (cs : List Call). after (start first) cs) (take_next calls i call less is) ∙ after-push (start first) (take i calls) call
  where
    take_next : (cs : List Call) (k : ℕ) (x : Call) → k < length cs → x ≡ get_or cs k x → take (suc k) cs ≡ take k cs ++ x ∷ []
    take_next [] k x less is = absurd (omega (arith, less))
    take_next (y ∷ cs) zero x less is = ap (λ (z : Call). z ∷ []) (sym is)
    take_next (y ∷ cs) (suc k) x less is = ap (λ (l : List Call). y ∷ l) (take_next cs k x (omega (arith, less)) is)
