-- Readers that meet the publisher.
use Rattle.std.proofs.Common.{◌≡◌, ℕ, ◌≤◌, List, length, subst, arith}
use Rattle.store_state.specs.Prefixes.{IsPrefix}
use Rattle.store_state.specs.Refresh.{Change}
use Rattle.store_state.proofs.Prefixes.{prefix-whole}
use Rattle.store_versions.specs.Trials.{Trials}

-- a list that fits, begins with the whole one and is no longer than it may get is the whole one
pub whole_fits : (fits : List Change → Type 0) (whole : List Change) (version : Trials) (most : ℕ) → fits version.list → IsPrefix whole version.list
    → length version.list ≤ version.most → version.most ≡ most → length whole ≡ most → fits whole
whole_fits fits whole version most fit begins short same full =
    subst fits (prefix-whole whole version.list begins (omega (arith, short, same, full))) fit
