-- What a crash leaves in each of the two steps of an append.
use Rattle.std.proofs.Common.{◌≡◌, ◌≢◌, inl, inr, ⊎_elim, ℕ, ◌+◌, ◌-◌, ◌≤◌, min, List, [], ◌∷◌, ◌++◌, length, get_or, take, drop, sym, ◌∙◌, ap, subst, arith, append_assoc, length-append, take-append-drop}
use Rattle.std.specs.Prelude.{replicate}
use Rattle.std.specs.List.{AllByRecursion}
use Rattle.std.proofs.lemmas.Bool.{cases_eq}
use Rattle.std.proofs.lemmas.List.{take_at, drop_at, drop_more}
use Rattle.base_disk.specs.Disk.{Torn, Follows, written}
use Rattle.store_journal.specs.Format.{IsEntry, framed, entries, StandsFor}
use Rattle.store_journal.specs.Journal.{Written, WithOrWithout, Stands, SameOrTorn}
use Rattle.store_journal.proofs.Entries.{entries-push, length-entries-push, fits-push}

-- a write within the file, in plain parts
pub written-within : (at : ℕ) (piece file : List ℕ) → at ≤ length file → written at piece file ≡ take at file ++ (piece ++ drop (at + length piece) file)
written-within at piece file le =
    let gap : at - length file ≡ 0 = omega arith in
    let none : replicate (at - length file) 0 ≡ [] = ap (λ (n : ℕ). replicate n 0) gap in
    ap (λ (l : List ℕ). take at file ++ (l ++ (piece ++ drop (at + length piece) file))) none

-- a closed gate at the front stands for no refresh
pub made_first : (K : List ℕ → Type 0) (d c : List ℕ) → Written 0 (0 ∷ []) d c → StandsFor K c []
made_first K d c w = record {
  gate = 0;
  rest = drop 1 d;
  shut = omega arith;
  whole = w ∙ written-within 0 (0 ∷ []) d (omega arith);
  fits = tt;
}

module _ (K : List ℕ → Type 0) (ps : List (List ℕ)) (end : ℕ) (place : end ≡ length (entries ps)) where
  -- the file up to and with its closed gate
  split : (d : List ℕ) (gate : ℕ) (rest : List ℕ) → d ≡ entries ps ++ gate ∷ rest → (take (end + 1) d ≡ entries ps ++ gate ∷ []) × (drop (end + 1) d ≡ rest) × (take end d ≡ entries ps) × (end + 1 + length rest ≡ length d)
  split d gate rest is =
      let again : d ≡ (entries ps ++ gate ∷ []) ++ rest = is ∙ sym (append_assoc (entries ps) (gate ∷ []) rest) in
      let size : length (entries ps ++ gate ∷ []) ≡ end + 1 = omega (arith, place, length-append (entries ps) (gate ∷ [])) in (
        ap (λ (l : List ℕ). take (end + 1) l) again ∙ take_at (entries ps ++ gate ∷ []) rest (end + 1) size,
        ap (λ (l : List ℕ). drop (end + 1) l) again ∙ drop_at (entries ps ++ gate ∷ []) rest (end + 1) size,
        ap (λ (l : List ℕ). take end l) is ∙ take_at (entries ps) (gate ∷ rest) end (sym place),
        omega (arith, place, ap length is, length-append (entries ps) (gate ∷ rest)),
      )

  -- the closed gate stands in each outcome of the first write
  pub torn_behind : (n : ℕ) (d c : List ℕ) → StandsFor K d ps → Torn (end + 1) n d c → StandsFor K c ps
  torn_behind n d c stands torn =
      let parts = split d stands.gate stands.rest stands.whole in
      let at : min (end + 1) (length d) ≡ end + 1 = omega (arith, parts.3) in
      let front : take (end + 1) c ≡ entries ps ++ stands.gate ∷ [] = ap (λ (k : ℕ). take k c) (sym at) ∙ torn.before ∙ ap (λ (k : ℕ). take k d) at ∙ parts.0 in
      record {
        gate = stands.gate;
        rest = drop (end + 1) c;
        shut = stands.shut;
        whole = sym (take-append-drop (end + 1) c) ∙ ap (λ (l : List ℕ). l ++ drop (end + 1) c) front ∙ append_assoc (entries ps) (stands.gate ∷ []) (drop (end + 1) c);
        fits = stands.fits;
      }

  -- an entry stands whole behind the closed gate
  pub record IsStaged (p file : List ℕ) : Type 0 where
    pub gate : ℕ
    pub rest : List ℕ
    pub shut : gate ≢ 1
    pub whole : file ≡ entries ps ++ gate ∷ (framed p ++ 0 ∷ rest)
    pub fits : AllByRecursion (IsEntry K) ps

  pub written_behind : (p d c : List ℕ) → StandsFor K d ps → Written (end + 1) (framed p ++ 0 ∷ []) d c → IsStaged p c
  written_behind p d c stands w =
      let parts = split d stands.gate stands.rest stands.whole in
      let piece = framed p ++ 0 ∷ [] in
      let behind = drop (end + 1 + length piece) d in
      record {
        gate = stands.gate;
        rest = behind;
        shut = stands.shut;
        whole = w ∙ written-within (end + 1) piece d (omega (arith, parts.3))
            ∙ ap (λ (l : List ℕ). l ++ (piece ++ behind)) parts.0
            ∙ append_assoc (entries ps) (stands.gate ∷ []) (piece ++ behind)
            ∙ ap (λ (l : List ℕ). entries ps ++ stands.gate ∷ l) (append_assoc (framed p) (0 ∷ []) behind);
        fits = stands.fits;
      }

  -- the entry counts behind an open gate
  counted : (p rest c : List ℕ) → AllByRecursion (IsEntry K) ps → IsEntry K p → c ≡ entries ps ++ 1 ∷ (framed p ++ 0 ∷ rest) → StandsFor K c (ps ++ p ∷ [])
  counted p rest c fits entry is = record {
    gate = 0;
    rest = rest;
    shut = omega arith;
    whole = is ∙ sym (entries-push ps p (0 ∷ rest));
    fits = fits-push K ps p fits entry;
  }

  -- the entry stands whole in each outcome of the second write
  pub torn_gate : (p d c : List ℕ) → IsEntry K p → IsStaged p d → Torn end 1 d c → WithOrWithout K ps p c
  torn_gate p d c entry staged torn =
      let behind = framed p ++ 0 ∷ staged.rest in
      let parts = split d staged.gate behind staged.whole in
      let at : min end (length d) ≡ end = omega (arith, parts.3) in
      let front : take end c ≡ entries ps = ap (λ (k : ℕ). take k c) (sym at) ∙ torn.before ∙ ap (λ (k : ℕ). take k d) at ∙ parts.2 in
      let gate = get_or c end 0 in
      let back : drop end c ≡ gate ∷ behind = drop_more c end 0 (omega (arith, torn.no_shorter, parts.3)) ∙ ap (λ (l : List ℕ). gate ∷ l) (torn.after ∙ parts.1) in
      let whole : c ≡ entries ps ++ gate ∷ behind = sym (take-append-drop end c) ∙ ap (λ (l : List ℕ). l ++ drop end c) front ∙ ap (λ (l : List ℕ). entries ps ++ l) back in
      elim (cases_eq gate 1) [
        | inl is_open ↦ inr (counted p staged.rest c staged.fits entry (whole ∙ ap (λ (g : ℕ). entries ps ++ g ∷ behind) is_open))
        | inr shut ↦ inl (record { gate = gate; rest = behind; shut = shut; whole = whole; fits = staged.fits })
      ]

  pub written_gate : (p d c : List ℕ) → IsEntry K p → IsStaged p d → Written end (1 ∷ []) d c → StandsFor K c (ps ++ p ∷ [])
  written_gate p d c entry staged w =
      let behind = framed p ++ 0 ∷ staged.rest in
      let parts = split d staged.gate behind staged.whole in
      counted p staged.rest c staged.fits entry (
      w ∙ written-within end (1 ∷ []) d (omega (arith, parts.3))
      ∙ ap (λ (l : List ℕ). l ++ ((1 ∷ []) ++ drop (end + 1) d)) parts.2
      ∙ ap (λ (l : List ℕ). entries ps ++ 1 ∷ l) parts.1)

  -- an entry behind a closed gate doesn't count
  staged_without : (p c : List ℕ) → IsStaged p c → StandsFor K c ps
  staged_without p c staged = record { gate = staged.gate; rest = framed p ++ 0 ∷ staged.rest; shut = staged.shut; whole = staged.whole; fits = staged.fits }

  module _ (old mid new : List ℕ → Type 0) (p : List ℕ) (images : (c : List ℕ) → old c → StandsFor K c ps) where
    -- a crash in the first step
    pub first_step : (n : ℕ) (c : List ℕ) → SameOrTorn old (end + 1) n c → WithOrWithout K ps p c
    first_step n c left = inl (⊎_elim (λ was. images c was) (λ torn. torn_behind n torn.0 c (images torn.0 torn.1) torn.2) left)

    pub staged_images : (piece : List ℕ) → piece ≡ framed p ++ 0 ∷ [] → Follows (Written (end + 1) piece) old mid → (c : List ℕ) → mid c → IsStaged p c
    staged_images piece is follows c left =
        let from = follows c left in
        written_behind p from.0 c (images from.0 from.1) (subst (λ (l : List ℕ). Written (end + 1) l from.0 c) is from.2)

    -- a crash in the second step
    pub second_step : IsEntry K p → ((c : List ℕ) → mid c → IsStaged p c) → (c : List ℕ) → SameOrTorn mid end 1 c → WithOrWithout K ps p c
    second_step entry staged c left = ⊎_elim (λ was. inl (staged_without p c (staged c was))) (λ torn. torn_gate p torn.0 c entry (staged torn.0 torn.1) torn.2) left

    -- and then the entry is on the disk
    pub stored_images : (n : ℕ) → n ≡ 9 + length p → IsEntry K p → ((c : List ℕ) → mid c → IsStaged p c) → Follows (Written end (1 ∷ [])) mid new → Stands K new (ps ++ p ∷ []) (end + n)
    stored_images n is entry staged follows = record {
      place = omega (arith, place, is, length-entries-push ps p);
      images = λ c left. let from = follows c left in written_gate p from.0 c entry (staged from.0 from.1) from.2;
    }
