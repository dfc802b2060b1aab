-- How decimals are written, and read again.
use Rattle.std.specs.Prelude.{ℕ, zero, suc, ◌+◌, ◌-◌, ◌*◌, ◌/◌, ◌%◌, ◌^◌, Bool, true, false, ◌&&◌}
use Rattle.std.specs.Prelude.{◌==◌, ℤ, pos, Option, Some, None, Result, Ok, Err, nat_lt, nat_le}
use Rattle.std.specs.Prelude.{int_lt, unsigned_abs, if◌then◌else◌, List, [], ◌∷◌, ◌++◌, length}
use Rattle.std.specs.Prelude.{take, drop, position, decimal}
use Rattle.std.specs.Str.{all_ascii_digits}
use Rattle.std.specs.Str.Parse.{digits_value}
use Rattle.base_decimal.specs.declared.read.Spelling.{Spelling}
use Rattle.base_decimal.specs.declared.read.Spelling.TheVariants.{NotANumber, TooWide}
use Rattle.base_decimal.specs.Decimal.{fits, signed_of}

-- one digit or more, and nothing else
abbrev pub is_digits : List ℕ → Bool
is_digits text = nat_lt 0 (length text) && all_ascii_digits text

-- the number that the digits before and after the point write, in units of the last place
abbrev pub coefficient_of : ℕ → List ℕ → List ℕ → ℕ
coefficient_of places whole fraction =
    digits_value 10 (whole ++ fraction) * 10 ^ (places - length fraction)

-- digits alone; or digits, a point, and at most `places` digits
abbrev pub read_parts : ℕ → List ℕ → Option ℕ → Option ℕ
read_parts places text None = if is_digits text then Some (coefficient_of places text []) else None
read_parts places text (Some point) =
    if is_digits (take point text)
    && (is_digits (drop (point + 1) text) && nat_le (length (drop (point + 1) text)) places)
    then Some (coefficient_of places (take point text) (drop (point + 1) text)) else None

-- the size of a number without its sign, where it is spelled so; the first point parts it
abbrev pub read_size : List ℕ → ℕ → Option ℕ
read_size text places = read_parts places text (position (λ byte. byte == 46) text)

-- the number of that size and sign, where there is one and a coefficient holds it
abbrev pub with_sign : Bool → Option ℕ → Result ℤ Spelling
with_sign is_negative None = Err NotANumber
with_sign is_negative (Some size) =
    if fits (signed_of is_negative size) then Ok (signed_of is_negative size) else Err TooWide

-- an optional minus before the size
abbrev pub decimal_read : List ℕ → ℕ → Result ℤ Spelling
decimal_read [] places = with_sign false (read_size [] places)
decimal_read (byte ∷ rest) places =
    if byte == 45 then with_sign true (read_size rest places) else with_sign false
    (read_size (byte ∷ rest) places)

-- a number, where it is below 2^128
abbrev pub below_limit : ℕ → Option ℕ
below_limit n = if nat_lt n (2 ^ 128) then Some n else None

-- the size that digits write: no number where they are none, too wide from 2^128 on
abbrev pub size_answer : Option ℕ → Result ℕ Spelling
size_answer None = Err NotANumber
size_answer (Some n) = if nat_lt n (2 ^ 128) then Ok n else Err TooWide

-- the last digits of n, the highest of them first
abbrev pub last_digits : ℕ → ℕ → List ℕ
last_digits zero n = []
last_digits (suc places) n = (48 + n / 10 ^ places % 10) ∷ last_digits places n

-- the whole part, and all the places after a point
abbrev pub size_written : ℕ → ℕ → List ℕ
size_written n zero = decimal n
size_written n (suc places) = decimal (n / 10 ^ suc places) ++ 46 ∷ last_digits (suc places) n

-- after a minus where the number is below 0
abbrev pub decimal_written : ℤ → ℕ → List ℕ
decimal_written z places = (if int_lt z (pos 0) then 45 ∷ [] else [])
    ++ size_written (unsigned_abs z) places
