-- Small cases, computed.
use Rattle.std.specs.Prelude.{◌≡◌, true, false, codes, [], Some, None}
use Rattle.base_text.specs.Printable.{first_unprintable}
use Rattle.base_text.specs.Pattern.{is_like, places}

-- `%` stands for any bytes, none among them
abbrev pub AnyBytes : Type 0
AnyBytes = (is_like (codes "%special%requests%") (codes "special requests") ≡ true)
    × (is_like (codes "green%") (codes "the green") ≡ false) × (is_like (codes "%") [] ≡ true)

-- `_` stands for one byte
abbrev pub OneByte : Type 0
OneByte = (is_like (codes "a_c") (codes "abc") ≡ true) × (is_like (codes "_") [] ≡ false)
    × (is_like (codes "_") (codes "ab") ≡ false)

-- a part that stands twice: the last part stands at the end
abbrev pub LastPart : Type 0
LastPart = (is_like (codes "%ab") (codes "abab") ≡ true)
    × (is_like (codes "%ab") (codes "aba") ≡ false)

-- the first two bytes; those past the end aren't there
abbrev pub Parts : Type 0
Parts = (places 1 2 (codes "13-100") ≡ codes "13") × (places 4 9 (codes "13-100") ≡ codes "100")
    × (places 7 1 (codes "13-100") ≡ [])

-- a tab is no byte of a text
abbrev pub Tab : Type 0
Tab = (first_unprintable (codes "a\tb") ≡ Some 1) × (first_unprintable (codes "a~b") ≡ None)
