-- The rule over the published version.
use Rattle.std.specs.Prelude.{◌≡◌, ℕ, ◌≤◌, List}
use Rattle.std.specs.Arc.{arc_value}
use mathlib.Core.Option.{some}
use lib.ListN.{get_elem?}
use Rattle.store_state.specs.Prefixes.{IsPrefix}
use Rattle.store_versions.specs.Trials.{Trials, version_of}
use Rattle.store_snapshots.specs.Openings.{IsOf, opening_at}
use Rattle.store_snapshots.specs.declared.shelf.Shelf.{Shelf}
use Rattle.store_snapshots.specs.declared.shelf.ShelfView.{ShelfView}

-- the version on a shelf
abbrev pub on_shelf : {A : Type 0} → Shelf A → Trials
on_shelf shelf = arc_value shelf.directory

-- what is known is true of the version: its list begins with the one that was seen last
abbrev pub Fits : Trials → ShelfView → Type 0
Fits version view = IsOf view.opening version × IsPrefix view.list version.list
    × (view.number ≤ version_of version)

-- the rule: what each of them knows is
abbrev pub AllFit : Trials → List ShelfView → Type 0
AllFit version views = (seat : ℕ) (view : ShelfView) → get_elem? views seat ≡ some view
    → Fits version view

-- the new version may be shown after the old one
pub record MayFollow (old new : Trials) : Type 0 where
  pub base : new.base ≡ old.base
  pub list : IsPrefix old.list new.list
  pub most : new.most ≡ old.most
  pub later : version_of old ≤ version_of new

-- what is known after the version was seen
abbrev pub entered : ShelfView → Trials → ShelfView
entered view version = record view { list = version.list; number = version_of version }

-- an entry tells what was known, and it is known by then
abbrev pub SeesVersion : ShelfView → Trials → ShelfView → Type 0
SeesVersion view version new = Fits version view × (new ≡ entered view version)

-- all that is known of a version
abbrev pub own_view : Trials → ShelfView
own_view version = record {
  opening = opening_at version;
  list = version.list;
  number = version_of version;
}

-- the version is known
abbrev pub KnowsVersion : Trials → ShelfView → Type 0
KnowsVersion version new = new ≡ own_view version

-- the opening and the list alone
abbrev pub named_only : ShelfView → ShelfView
named_only view = record view { number = 0 }
