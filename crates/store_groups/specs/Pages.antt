-- Keys on the pages that their hashes lead to.
use Rattle.std.specs.Prelude.{◌≡◌, ℕ, suc, ◌%◌, ◌<◌, List, [], ◌∷◌, ◌++◌, map, length}
use Rattle.std.specs.Prelude.{Option, Some, None}
use Rattle.std.specs.List.{fold, IsDistinct, AllByRecursion}
use Rattle.std.specs.Hash.FoldHasher.{initial, write, finish}
use Rattle.base_value.specs.declared.value.Value.{Value}
use Rattle.store_groups.specs.Groups.{Group}
use Rattle.store_groups.specs.Entries.{Entries, same_key}

-- the entries of pages, one page after the other
abbrev pub entries_of : List Entries → Entries
entries_of [] = []
entries_of (es ∷ pages) = es ++ entries_of pages

-- the page of a key that is fed to a hasher, among `count`
abbrev pub page_in : {K : Type 0} → (K → List (List ℕ)) → ℕ → K → ℕ
page_in fed count key = finish (fold write initial (fed key)) % count

-- from page i on, each page's keys are those that it is the page of, and no two of them are the
-- same
abbrev pub ArePlaced : (List Value → ℕ) → ℕ → List Entries → Type 0
ArePlaced page i [] = Unit {0}
ArePlaced page i (es ∷ pages) = AllByRecursion (λ e. page e.0 ≡ i) es
    × IsDistinct same_key (map (λ e. e.0) es) × ArePlaced page (suc i) pages

-- there is a page, and each entry lies on the page of its key
pub record IsTable (fed : List Value → List (List ℕ)) (pages : List Entries) : Type 0 where
  pub some : 0 < length pages
  pub placed : ArePlaced (page_in fed (length pages)) 0 pages

-- the first of two groups that is there
abbrev pub first_of : Option Group → Option Group → Option Group
first_of None other = other
first_of (Some g) other = Some g
