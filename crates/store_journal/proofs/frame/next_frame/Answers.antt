use Rattle.std.proofs.Common.{◌≡◌, ◌++◌, List, ℕ, ◌≤◌, ◌<◌, ◌^◌, get_or, length, take, drop, arith}
use Rattle.std.proofs.Common.{sym, ap, ◌∙◌, subst}
use Rattle.std.specs.Int.{w64, from_be_bytes}
use Rattle.store_journal.specs.Format.{framed}
use Rattle.store_journal.proofs.Frames.{is_framed}
use Rattle.store_journal.proofs.frame.next_frame.Goals as goal

pub returns-clause-some : goal.returns-clause-some
returns-clause-some c =
    let bytes = c.args.bytes.now in
    let n = c.from_be_bytes-len.result in
    let behind : c.split_at.result.1.now ≡ drop 8 bytes = c.split_at.ensures.back in
    let payload : c.split_at-2.result.0.now ≡ take n (drop 8 bytes) = c.split_at-2.ensures.front ∙ ap (λ (l : List ℕ). take n l) behind in
    let rest : c.split_at-2.result.1.now ≡ drop n (drop 8 bytes) = c.split_at-2.ensures.back ∙ ap (λ (l : List ℕ). drop n l) behind in
    let number : n ≡ from_be_bytes w64 (take 8 bytes) = c.from_be_bytes-len.ensures ∙ ap (λ (l : List ℕ). from_be_bytes w64 l) c.split_at.ensures.front in
    let within : n ≤ length (drop 8 bytes) = subst (λ (l : List ℕ). n ≤ length l) behind c.if-behind-len.false in
    let fits : (i : ℕ) → get_or bytes i 0 < 256 = λ i. omega (arith, c.type_inv.bytes i) in
    let short : length c.split_at-2.result.0.now < 2 ^ 64 = omega (arith, c.from_be_bytes-len.type_inv, c.split_at-2.ensures.front_len) in (
      short,
      is_framed bytes n c.if-bytes-lt8.false number fits within
          ∙ ap (λ (l : List ℕ). framed l ++ drop n (drop 8 bytes)) (sym payload)
          ∙ ap (λ (l : List ℕ). framed c.split_at-2.result.0.now ++ l) (sym rest),
    )
