-- The words that columns are made of.
use Rattle.std.specs.Prelude.{ℕ, List, [], ◌∷◌, codes, slice_index_or}

-- the word at that place of a list, counted from 0
unfoldable pub word : List (List ℕ) → ℕ → List ℕ
word words place = slice_index_or words place []

-- the names of the regions, in the order of their keys
abbrev pub regions : List (List ℕ)
regions = codes "AFRICA" ∷ codes "AMERICA" ∷ codes "ASIA" ∷ codes "EUROPE" ∷ codes "MIDDLE EAST"
    ∷ []

-- the names of the nations, in the order of their keys
abbrev pub nations : List (List ℕ)
nations = codes "ALGERIA" ∷ codes "ARGENTINA" ∷ codes "BRAZIL" ∷ codes "CANADA" ∷ codes "EGYPT"
    ∷ codes "ETHIOPIA" ∷ codes "FRANCE" ∷ codes "GERMANY" ∷ codes "INDIA" ∷ codes "INDONESIA"
    ∷ codes "IRAN" ∷ codes "IRAQ" ∷ codes "JAPAN" ∷ codes "JORDAN" ∷ codes "KENYA" ∷ codes "MOROCCO"
    ∷ codes "MOZAMBIQUE" ∷ codes "PERU" ∷ codes "CHINA" ∷ codes "ROMANIA" ∷ codes "SAUDI ARABIA"
    ∷ codes "VIETNAM" ∷ codes "RUSSIA" ∷ codes "UNITED KINGDOM" ∷ codes "UNITED STATES" ∷ []

-- the key of each nation's region, in the order of the nations
abbrev pub nation_regions : List ℕ
nation_regions = 0 ∷ 1 ∷ 1 ∷ 1 ∷ 4 ∷ 0 ∷ 3 ∷ 3 ∷ 2 ∷ 2 ∷ 4 ∷ 4 ∷ 2 ∷ 4 ∷ 0 ∷ 0 ∷ 0 ∷ 1 ∷ 2 ∷ 3 ∷ 4
    ∷ 2 ∷ 3 ∷ 3 ∷ 1 ∷ []

-- the key of the region of the nation with that key
unfoldable pub region_of : ℕ → ℕ
region_of nation = slice_index_or nation_regions nation 0

-- the colours of which a part's name has two
abbrev pub colours : List (List ℕ)
colours = codes "green" ∷ codes "forest" ∷ codes "red" ∷ codes "blue" ∷ codes "pink" ∷ codes "plum"
    ∷ codes "navy" ∷ codes "snow" ∷ []

-- the first word of a part's type
abbrev pub type_sizes : List (List ℕ)
type_sizes = codes "STANDARD" ∷ codes "SMALL" ∷ codes "MEDIUM" ∷ codes "LARGE" ∷ codes "ECONOMY"
    ∷ codes "PROMO" ∷ []

-- the second word of a part's type
abbrev pub type_finishes : List (List ℕ)
type_finishes = codes "ANODIZED" ∷ codes "BURNISHED" ∷ codes "PLATED" ∷ codes "POLISHED"
    ∷ codes "BRUSHED" ∷ []

-- the third word of a part's type
abbrev pub type_metals : List (List ℕ)
type_metals = codes "TIN" ∷ codes "NICKEL" ∷ codes "BRASS" ∷ codes "STEEL" ∷ codes "COPPER" ∷ []

-- the first word of a part's container
abbrev pub container_sizes : List (List ℕ)
container_sizes = codes "SM" ∷ codes "LG" ∷ codes "MED" ∷ codes "JUMBO" ∷ codes "WRAP" ∷ []

-- the second word of a part's container
abbrev pub container_kinds : List (List ℕ)
container_kinds = codes "CASE" ∷ codes "BOX" ∷ codes "BAG" ∷ codes "JAR" ∷ codes "PKG"
    ∷ codes "PACK" ∷ codes "CAN" ∷ codes "DRUM" ∷ []

-- a customer's market segment
abbrev pub market_segments : List (List ℕ)
market_segments = codes "AUTOMOBILE" ∷ codes "BUILDING" ∷ codes "FURNITURE" ∷ codes "MACHINERY"
    ∷ codes "HOUSEHOLD" ∷ []

-- an order's status
abbrev pub order_statuses : List (List ℕ)
order_statuses = codes "F" ∷ codes "O" ∷ codes "P" ∷ []

-- an order's priority
abbrev pub order_priorities : List (List ℕ)
order_priorities = codes "1-URGENT" ∷ codes "2-HIGH" ∷ codes "3-MEDIUM" ∷ codes "4-NOT SPECIFIED"
    ∷ codes "5-LOW" ∷ []

-- a line's return flag
abbrev pub return_flags : List (List ℕ)
return_flags = codes "R" ∷ codes "A" ∷ codes "N" ∷ []

-- a line's status
abbrev pub line_statuses : List (List ℕ)
line_statuses = codes "O" ∷ codes "F" ∷ []

-- what a line's shipping is told
abbrev pub ship_instructions : List (List ℕ)
ship_instructions = codes "DELIVER IN PERSON" ∷ codes "COLLECT COD" ∷ codes "NONE"
    ∷ codes "TAKE BACK RETURN" ∷ []

-- how a line is shipped
abbrev pub ship_modes : List (List ℕ)
ship_modes = codes "REG AIR" ∷ codes "AIR" ∷ codes "RAIL" ∷ codes "SHIP" ∷ codes "TRUCK"
    ∷ codes "MAIL" ∷ codes "FOB" ∷ []
