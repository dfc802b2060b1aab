-- Entries are read in one way.
use Rattle.std.proofs.Common.{◌≡◌, ◌≢◌, inl, inr, ℕ, ◌+◌, ◌≤◌, ◌<◌, ◌^◌, List, [], ◌∷◌, ◌++◌, length, take, drop, get_or, refl, sym, ◌∙◌, ap, arith, length-append, length-take, append_assoc, take-append-drop}
use Rattle.std.specs.List.{AllByRecursion}
use Rattle.std.specs.Int.{w64, to_be_bytes, from_be_bytes}
use Rattle.std.proofs.lemmas.Bool.{cases_lt}
use Rattle.std.proofs.lemmas.List.{take_at, drop_at, get_or-take, get_or_past}
use Rattle.std.proofs.lemmas.Nat.{be_bytes_8, from_be_bytes-to_be_bytes_8}
use Rattle.store_journal.specs.Format.{IsEntry, framed, entries, IsBroken}

-- an entry's parts stand at their places
pub record Parts (bytes payload rest : List ℕ) : Type 0 where
  pub long : 8 + length payload ≤ length bytes
  pub number : from_be_bytes w64 (take 8 bytes) ≡ length payload
  pub front : take (length payload) (drop 8 bytes) ≡ payload
  pub back : drop (length payload) (drop 8 bytes) ≡ rest

pub parts : (bytes payload rest : List ℕ) → length payload < 2 ^ 64 → bytes ≡ framed payload ++ rest → Parts bytes payload rest
parts bytes payload rest short is =
    let size = to_be_bytes w64 (length payload) in
    let split : bytes ≡ size ++ (payload ++ rest) = is ∙ append_assoc size payload rest in
    let texts : drop 8 bytes ≡ payload ++ rest = ap (λ (l : List ℕ). drop 8 l) split ∙ drop_at size (payload ++ rest) 8 refl in
    record {
      long = omega (arith, ap length split, length-append size (payload ++ rest), length-append payload rest);
      number = ap (λ (l : List ℕ). from_be_bytes w64 l) (ap (λ (l : List ℕ). take 8 l) split ∙ take_at size (payload ++ rest) 8 refl) ∙ from_be_bytes-to_be_bytes_8 (length payload) short;
      front = ap (λ (l : List ℕ). take (length payload) l) texts ∙ take_at payload rest (length payload) refl;
      back = ap (λ (l : List ℕ). drop (length payload) l) texts ∙ drop_at payload rest (length payload) refl;
    }

-- two entries at one place are one
pub one_entry : (p q r s : List ℕ) → length p < 2 ^ 64 → length q < 2 ^ 64 → framed p ++ r ≡ framed q ++ s → (p ≡ q) × (r ≡ s)
one_entry p q r s short_p short_q is =
    let one = parts (framed p ++ r) p r short_p refl in
    let two = parts (framed p ++ r) q s short_q is in
    let same : length p ≡ length q = sym one.number ∙ two.number in
    let texts = drop 8 (framed p ++ r) in
    (sym one.front ∙ ap (λ (n : ℕ). take n texts) same ∙ two.front, sym one.back ∙ ap (λ (n : ℕ). drop n texts) same ∙ two.back)

IsBytes-take : (n : ℕ) (bytes : List ℕ) → ((i : ℕ) → get_or bytes i 0 < 256) → (i : ℕ) → get_or (take n bytes) i 0 < 256
IsBytes-take n bytes h i =
    elim (cases_lt i n) [
      | inl lt ↦ rw (get_or-take n bytes i 0 lt) (h i)
      | inr le ↦ rw (get_or_past (take n bytes) i 0 (omega (arith, length-take n bytes))) (omega arith)
    ]

-- what was cut at its length is an entry
pub is_framed : (bytes : List ℕ) (n : ℕ) → 8 ≤ length bytes → n ≡ from_be_bytes w64 (take 8 bytes) → ((i : ℕ) → get_or bytes i 0 < 256) → n ≤ length (drop 8 bytes) → bytes ≡ framed (take n (drop 8 bytes)) ++ drop n (drop 8 bytes)
is_framed bytes n long is fits within =
    let texts = drop 8 bytes in
    let len : length (take n texts) ≡ n = omega (arith, length-take n texts) in
    let eight : length (take 8 bytes) ≡ 8 = omega (arith, length-take 8 bytes) in
    let number : to_be_bytes w64 (from_be_bytes w64 (take 8 bytes)) ≡ take 8 bytes = be_bytes_8 (take 8 bytes) _ eight (IsBytes-take 8 bytes fits) refl in
    let size : take 8 bytes ≡ to_be_bytes w64 (length (take n texts)) = sym number ∙ ap (λ (k : ℕ). to_be_bytes w64 k) (sym is ∙ sym len) in
    sym (take-append-drop 8 bytes)
    ∙ ap (λ (l : List ℕ). take 8 bytes ++ l) (sym (take-append-drop n texts))
    ∙ ap (λ (l : List ℕ). l ++ (take n texts ++ drop n texts)) size
    ∙ sym (append_assoc (to_be_bytes w64 (length (take n texts))) (take n texts) (drop n texts))

module _ (K : List ℕ → Type 0) where
  -- the head and the tail of equal lists
  heads : (x y : ℕ) (xs ys : List ℕ) → x ∷ xs ≡ y ∷ ys → (x ≡ y) × (xs ≡ ys)
  heads x y xs ys e = (cc, cc)

  pub same_payloads : (ps qs : List (List ℕ)) (g h : ℕ) (r s : List ℕ) → AllByRecursion (IsEntry K) ps → AllByRecursion (IsEntry K) qs → g ≢ 1 → h ≢ 1 → entries ps ++ g ∷ r ≡ entries qs ++ h ∷ s → ps ≡ qs
  same_payloads [] [] g h r s fp fq sg sh e = refl
  same_payloads [] (q ∷ qs) g h r s fp fq sg sh e = absurd (sg (heads g 1 r _ e).0)
  same_payloads (p ∷ ps) [] g h r s fp fq sg sh e = absurd (sh (sym (heads 1 h _ s e).0))
  same_payloads (p ∷ ps) (q ∷ qs) g h r s fp fq sg sh e =
      let behind : framed p ++ (entries ps ++ g ∷ r) ≡ framed q ++ (entries qs ++ h ∷ s) = sym (append_assoc (framed p) (entries ps) (g ∷ r)) ∙ (heads 1 1 _ _ e).1 ∙ append_assoc (framed q) (entries qs) (h ∷ s) in
      let one = one_entry p q (entries ps ++ g ∷ r) (entries qs ++ h ∷ s) fp.0.short fq.0.short behind in
      ap (λ (l : List (List ℕ)). p ∷ l) (same_payloads ps qs g h r s fp.1 fq.1 sg sh one.1) ∙ ap (λ (x : List ℕ). x ∷ qs) one.0

  -- no journal ends where one is broken
  pub not_both : (ps qs : List (List ℕ)) (g : ℕ) (r rest : List ℕ) → AllByRecursion (IsEntry K) ps → AllByRecursion (IsEntry K) qs → g ≢ 1 → IsBroken K rest → entries ps ++ g ∷ r ≡ entries qs ++ rest → ⊥
  not_both [] [] g r rest fp fq sg (inl none) e = absurd (cons_nil g r (e ∙ none))
    where
      cons_nil : (x : ℕ) (xs : List ℕ) → x ∷ xs ≡ [] → ⊥
      cons_nil x xs e = cc
  not_both [] [] g r rest fp fq sg (inr open_gate) e = sg (heads g 1 r open_gate.0 (e ∙ open_gate.1)).0
  not_both [] (q ∷ qs) g r rest fp fq sg b e = sg (heads g 1 r _ e).0
  not_both (p ∷ ps) [] g r rest fp fq sg (inl none) e = absurd (cons_nil 1 _ (e ∙ none))
    where
      cons_nil : (x : ℕ) (xs : List ℕ) → x ∷ xs ≡ [] → ⊥
      cons_nil x xs e = cc
  not_both (p ∷ ps) [] g r rest fp fq sg (inr open_gate) e =
      open_gate.2 p (entries ps ++ g ∷ r) fp.0 (sym (heads 1 1 _ open_gate.0 (e ∙ open_gate.1)).1 ∙ append_assoc (framed p) (entries ps) (g ∷ r))
  not_both (p ∷ ps) (q ∷ qs) g r rest fp fq sg b e =
      let behind : framed p ++ (entries ps ++ g ∷ r) ≡ framed q ++ (entries qs ++ rest) = sym (append_assoc (framed p) (entries ps) (g ∷ r)) ∙ (heads 1 1 _ _ e).1 ∙ append_assoc (framed q) (entries qs) rest in
      let one = one_entry p q (entries ps ++ g ∷ r) (entries qs ++ rest) fp.0.short fq.0.short behind in
      not_both ps qs g r rest fp.1 fq.1 sg b one.1

  -- a journal is broken at one place
  pub same_place : (ps qs : List (List ℕ)) (r s : List ℕ) → AllByRecursion (IsEntry K) ps → AllByRecursion (IsEntry K) qs → IsBroken K r → IsBroken K s → entries ps ++ r ≡ entries qs ++ s → length (entries ps) ≡ length (entries qs)
  same_place [] [] r s fp fq b c e = refl
  same_place [] (q ∷ qs) r s fp fq (inl none) c e = absurd (cons_nil 1 _ (sym e ∙ none))
    where
      cons_nil : (x : ℕ) (xs : List ℕ) → x ∷ xs ≡ [] → ⊥
      cons_nil x xs e = cc
  same_place [] (q ∷ qs) r s fp fq (inr o) c e =
      absurd (o.2 q (entries qs ++ s) fq.0 ((heads 1 1 o.0 _ (sym o.1 ∙ e)).1 ∙ append_assoc (framed q) (entries qs) s))
  same_place (p ∷ ps) [] r s fp fq b (inl none) e = absurd (cons_nil 1 _ (e ∙ none))
    where
      cons_nil : (x : ℕ) (xs : List ℕ) → x ∷ xs ≡ [] → ⊥
      cons_nil x xs e = cc
  same_place (p ∷ ps) [] r s fp fq b (inr o) e =
      absurd (o.2 p (entries ps ++ r) fp.0 ((heads 1 1 o.0 _ (sym o.1 ∙ sym e)).1 ∙ append_assoc (framed p) (entries ps) r))
  same_place (p ∷ ps) (q ∷ qs) r s fp fq b c e =
      let behind : framed p ++ (entries ps ++ r) ≡ framed q ++ (entries qs ++ s) = sym (append_assoc (framed p) (entries ps) r) ∙ (heads 1 1 _ _ e).1 ∙ append_assoc (framed q) (entries qs) s in
      let one = one_entry p q (entries ps ++ r) (entries qs ++ s) fp.0.short fq.0.short behind in
      let rest = same_place ps qs r s fp.1 fq.1 b c one.1 in
      omega (arith, rest, ap length one.0, length-append (framed p) (entries ps), length-append (framed q) (entries qs), length-append (to_be_bytes w64 (length p)) p, length-append (to_be_bytes w64 (length q)) q)
