-- The standings of a batch's rows.
use Rattle.std.specs.Prelude.{List, [], ◌∷◌, replicate}
use Rattle.base_value.specs.declared.truth.Standing.{Standing}
use Rattle.base_value.specs.declared.truth.Standing.TheVariants.{AtTrue}
use Rattle.base_value.specs.Truth.{lesser_standing}
use Rattle.base_columns.specs.declared.standings.Counted.{Counted}
use Rattle.base_columns.specs.declared.standings.Counted.TheVariants.{AllTrue, Each}

-- as many rows at True as are counted, or one standing each
unfoldable pub standings_of : Counted → List Standing
standings_of (AllTrue n) = replicate n AtTrue
standings_of (Each standings) = standings.items

-- the lesser of two standings, place by place
abbrev pub lesser_standings : List Standing → List Standing → List Standing
lesser_standings [] ts = []
lesser_standings (s ∷ ss) [] = []
lesser_standings (s ∷ ss) (t ∷ ts) = lesser_standing s t ∷ lesser_standings ss ts
