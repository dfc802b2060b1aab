-- A file is read in one way.
use Rattle.std.proofs.Common.{◌≡◌, ℕ, List, sym, ◌∙◌}
use Rattle.store_journal.specs.Format.{StandsFor, IsBad}
use Rattle.store_journal.proofs.Frames.{same_payloads, not_both, same_place}

module _ (K : List ℕ → Type 0) (file : List ℕ) where
  pub same_reading : (ps qs : List (List ℕ)) → StandsFor K file ps → StandsFor K file qs → ps ≡ qs
  same_reading ps qs a b =
      same_payloads K ps qs a.gate b.gate a.rest b.rest a.fits b.fits a.shut b.shut
      (sym a.whole ∙ b.whole)

  pub not_bad : (ps : List (List ℕ)) (place : ℕ) → StandsFor K file ps → IsBad K file place → ⊥
  not_bad ps place a b =
      not_both K ps b.payloads a.gate a.rest b.rest a.fits b.fits a.shut b.broken
      (sym a.whole ∙ b.whole)

  pub one_place : (here there : ℕ) → IsBad K file here → IsBad K file there → here ≡ there
  one_place here there a b =
      a.here
      ∙ same_place K a.payloads b.payloads a.rest b.rest a.fits b.fits a.broken b.broken
      (sym a.whole ∙ b.whole)
      ∙ sym b.here
