-- What the fields of a line are made of. n is the number that the data is made for.
use Rattle.std.specs.Prelude.{ℕ, ◌+◌, ◌-◌, ◌*◌, ◌/◌, ◌%◌, ◌^◌, ◌==◌, if◌then◌else◌, List, [], ◌∷◌}
use Rattle.std.specs.Prelude.{◌++◌, codes, decimal, ℤ, pos}
use Rattle.base_date.specs.Move.{Day, day_at, days_moved}
use Rattle.base_decimal.specs.Written.{decimal_written, last_digits}

-- a value below count that looks random, for a column and a key
unfoldable pub draw : ℕ → ℕ → ℕ → ℕ → ℕ
draw n column key count = (key * 2654435761 + column * 40503 + n * 97) % 2 ^ 32 / 256 % count

-- a field of a line, ended by a bar
unfoldable pub field : List ℕ → List ℕ
field text = text ++ 124 ∷ []

-- a label and the key in nine digits
abbrev pub labelled : List ℕ → ℕ → List ℕ
labelled label key = label ++ last_digits 9 key

-- an amount in hundredths, with two digits after the point
abbrev pub money : ℤ → List ℕ
money hundredths = decimal_written hundredths 2

-- the address of somebody with that key
abbrev pub address : ℕ → List ℕ
address key = codes "A" ++ decimal key

-- the phone number of somebody of that nation
abbrev pub phone : ℕ → List ℕ
phone nation = decimal (10 + nation) ++ codes "-100-200-3000"

-- a day as YYYY-MM-DD
unfoldable pub day_text : Day → List ℕ
day_text d = last_digits 4 d.year ++ 45 ∷ last_digits 2 d.month ++ 45 ∷ last_digits 2 d.day

-- the day n days after 1992-01-01
unfoldable pub date_text : ℕ → List ℕ
date_text days = day_text (days_moved (day_at 1992 1 1) (pos days))

-- the i-th of the four suppliers of a part, from 0
unfoldable pub supplier_of : ℕ → ℕ → ℕ → ℕ
supplier_of n part i = 1 + (part + 2 * n * i) % (10 * n)

-- a drawn key, or the one before it where three divides it
unfoldable pub not_third : ℕ → ℕ
not_third key = if key % 3 == 0 then key - 1 else key
