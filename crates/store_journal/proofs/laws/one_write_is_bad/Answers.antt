use Rattle.std.proofs.Common.{inr, ℕ, List, ◌+◌, ◌≤◌, [], ◌∷◌, ◌++◌, length, refl, sym, ◌∙◌, ap, arith, length-append}
use Rattle.std.specs.Int.{w64, to_be_bytes}
use Rattle.std.proofs.lemmas.List.{drop_all}
use Rattle.base_disk.specs.Disk.{Torn}
use Rattle.store_journal.specs.Format.{IsBad, NoEntry, framed}
use Rattle.store_journal.proofs.laws.one_write_is_bad.Goals as goal

no_bytes : (K : List ℕ → Type 0) → NoEntry K []
no_bytes K q rest entry is =
    let size = to_be_bytes w64 (length q) in
    let none : 8 ≤ 0 = omega (arith, ap length is, length-append (framed q) rest, length-append size q) in
    omega (arith, none)

pub returns : goal.returns
returns g c p =
    let K = g.P.Payload.is_payload in
    let n = length (1 ∷ (framed p ++ 0 ∷ [])) in
    let long : 1 ≤ 0 + n = omega arith in
    let torn : Torn 0 n (0 ∷ []) (1 ∷ []) = record {
      before = refl;
      after = drop_all (0 + n) (1 ∷ []) long ∙ sym (drop_all (0 + n) (0 ∷ []) long);
      no_shorter = omega arith;
    } in
    let bad : IsBad K (1 ∷ []) 0 = record {
      payloads = [];
      rest = 1 ∷ [];
      whole = refl;
      fits = tt;
      here = refl;
      broken = inr ([], refl, no_bytes K);
    } in
    (1 ∷ [], torn, bad)
