-- The lines of the files. n is the number that the data is made for.
use Rattle.std.specs.Prelude.{ℕ, ◌+◌, ◌-◌, ◌*◌, ◌%◌, ◌==◌, nat_lt, if◌then◌else◌, List, [], ◌∷◌}
use Rattle.std.specs.Prelude.{◌++◌, codes, decimal, pos, ◌-ℤ◌}
use Rattle.std.specs.List.{flat_map, range_with_len}
use Rattle.app_sample_data.specs.Choices.{word, regions, nations, region_of, colours, type_sizes}
use Rattle.app_sample_data.specs.Choices.{type_finishes, type_metals, container_sizes}
use Rattle.app_sample_data.specs.Choices.{container_kinds}
use Rattle.app_sample_data.specs.Choices.{market_segments, order_statuses, order_priorities}
use Rattle.app_sample_data.specs.Choices.{return_flags, line_statuses, ship_instructions}
use Rattle.app_sample_data.specs.Choices.{ship_modes}
use Rattle.app_sample_data.specs.Fields.{draw, field, labelled, money, address, phone, date_text}
use Rattle.app_sample_data.specs.Fields.{supplier_of, not_third}

-- fields one after another
abbrev pub fields : List (List ℕ) → List ℕ
fields texts = flat_map field texts

-- the lines of the keys from the first to the one before the end
unfoldable pub lines : (ℕ → List ℕ) → ℕ → ℕ → List ℕ
lines line first end = flat_map line (range_with_len first (end - first))

-- the line of a region: key, name, no comment
unfoldable pub region_line : ℕ → List ℕ
region_line k = fields (decimal k ∷ word regions k ∷ [] ∷ []) ++ 10 ∷ []

-- the line of a nation: key, name, its region's key, no comment
unfoldable pub nation_line : ℕ → List ℕ
nation_line k = fields (decimal k ∷ word nations k ∷ decimal (region_of k) ∷ [] ∷ []) ++ 10 ∷ []

-- the balance of somebody's account, in hundredths from -99999 on
unfoldable pub balance : ℕ → ℕ → ℕ → List ℕ
balance n column k = money (pos (draw n column k 1100000) -ℤ pos 99999)

-- where somebody lives, whose nation is drawn for that column
unfoldable pub residence : ℕ → ℕ → ℕ → List ℕ
residence n column k =
    fields (address k ∷ decimal (draw n column k 25) ∷ phone (draw n column k 25) ∷ [])

-- every seventh supplier has complaints
unfoldable pub supplier_comment : ℕ → List ℕ
supplier_comment k = if k % 7 == 0 then codes "Customer Complaints" else codes "ok"

-- the last fields of a supplier's line
unfoldable pub supplier_tail : ℕ → ℕ → List ℕ
supplier_tail n k = fields (balance n 2 k ∷ supplier_comment k ∷ [])

-- the line of a supplier: key, name, address, nation, phone number, balance, comment
unfoldable pub supplier_line : ℕ → ℕ → List ℕ
supplier_line n k =
    fields (decimal k ∷ labelled (codes "Supplier#") k ∷ []) ++ residence n 1 k ++ supplier_tail n k
    ++ 10 ∷ []

-- a part's name: two colours
unfoldable pub part_name : ℕ → ℕ → List ℕ
part_name n k = word colours (draw n 3 k 8) ++ 32 ∷ word colours (draw n 4 k 8)

-- the digit of a part's maker, from 1 to 5
abbrev pub maker_of : ℕ → ℕ → ℕ
maker_of n k = 1 + draw n 5 k 5

-- a part's maker, by a digit
unfoldable pub manufacturer : ℕ → ℕ → List ℕ
manufacturer n k = codes "Manufacturer#" ++ decimal (maker_of n k)

-- the maker's digit and a second one
unfoldable pub brand : ℕ → ℕ → List ℕ
brand n k = codes "Brand#" ++ decimal (maker_of n k) ++ decimal (1 + draw n 6 k 5)

-- a part's type: three words
unfoldable pub part_type : ℕ → ℕ → List ℕ
part_type n k = word type_sizes (draw n 7 k 6) ++ 32 ∷ word type_finishes (draw n 8 k 5) ++ 32
    ∷ word type_metals (draw n 9 k 5)

-- a part's container: two words
unfoldable pub part_container : ℕ → ℕ → List ℕ
part_container n k = word container_sizes (draw n 11 k 5) ++ 32
    ∷ word container_kinds (draw n 12 k 8)

-- a part's retail price, in hundredths
abbrev pub retail_price : ℕ → ℕ
retail_price part = 90000 + part

-- the first fields of a part's line: key, name, maker, brand
unfoldable pub part_head : ℕ → ℕ → List ℕ
part_head n k = fields (decimal k ∷ part_name n k ∷ manufacturer n k ∷ brand n k ∷ [])

-- the others: type, size, container, price, no comment
unfoldable pub part_tail : ℕ → ℕ → List ℕ
part_tail n k =
    fields (part_type n k ∷ decimal (1 + draw n 10 k 50) ∷ part_container n k
    ∷ money (pos (retail_price k)) ∷ [] ∷ [])

-- the line of a part
unfoldable pub part_line : ℕ → ℕ → List ℕ
part_line n k = part_head n k ++ part_tail n k ++ 10 ∷ []

-- the line of a part with the i-th of its suppliers
unfoldable pub partsupp_line : ℕ → ℕ → ℕ → List ℕ
partsupp_line n k i =
    fields (decimal k ∷ decimal (supplier_of n k i) ∷ decimal (1 + draw n 13 (4 * k + i) 9999)
    ∷ money (pos (100 + draw n 14 (4 * k + i) 99901)) ∷ [] ∷ [])
    ++ 10 ∷ []

-- i before the first of the others whose supplier is higher
abbrev pub put_in_order : ℕ → ℕ → ℕ → List ℕ → List ℕ
put_in_order n k i [] = i ∷ []
put_in_order n k i (j ∷ others) =
    if nat_lt (supplier_of n k i) (supplier_of n k j) then i ∷ j ∷ others else j
    ∷ put_in_order n k i others

-- 0 to 3 by ascending supplier of the part
unfoldable pub by_supplier : ℕ → ℕ → List ℕ
by_supplier n k = put_in_order n k 0 (put_in_order n k 1 (put_in_order n k 2 (3 ∷ [])))

-- the lines of a part, by ascending supplier
unfoldable pub partsupp_lines : ℕ → ℕ → List ℕ
partsupp_lines n k = flat_map (partsupp_line n k) (by_supplier n k)

-- the last fields of a customer's line: balance, market segment, no comment
unfoldable pub customer_tail : ℕ → ℕ → List ℕ
customer_tail n k = fields (balance n 16 k ∷ word market_segments (draw n 17 k 5) ∷ [] ∷ [])

-- the line of a customer: key, name, address, nation, phone number, and the last fields
unfoldable pub customer_line : ℕ → ℕ → List ℕ
customer_line n k =
    fields (decimal k ∷ labelled (codes "Customer#") k ∷ []) ++ residence n 15 k
    ++ customer_tail n k ++ 10 ∷ []

-- the days from 1992-01-01 to the order
unfoldable pub order_day : ℕ → ℕ → ℕ
order_day n k = draw n 21 k 2406

-- every fifth order has special requests
unfoldable pub order_comment : ℕ → List ℕ
order_comment k = if k % 5 == 0 then codes "special requests" else codes "plain"

-- the first fields of an order's line: key, customer, status, price
unfoldable pub order_head : ℕ → ℕ → List ℕ
order_head n k =
    fields (decimal k ∷ decimal (not_third (1 + draw n 18 k (15 * n)))
    ∷ word order_statuses (draw n 19 k 3)
    ∷ money (pos (100000 + draw n 20 k 40000000)) ∷ [])

-- the last fields of an order's line: priority, clerk, shipping priority 0, comment
unfoldable pub order_tail : ℕ → ℕ → List ℕ
order_tail n k =
    fields (word order_priorities (draw n 22 k 5) ∷ labelled (codes "Clerk#") (1 + draw n 23 k 10)
    ∷ decimal 0 ∷ order_comment k ∷ [])

-- the line of an order: the first fields, the date, the last fields
unfoldable pub order_line : ℕ → ℕ → List ℕ
order_line n k = order_head n k ++ fields (date_text (order_day n k) ∷ []) ++ order_tail n k ++ 10
    ∷ []

-- the part of the line that is drawn by x
unfoldable pub line_part : ℕ → ℕ → ℕ
line_part n x = 1 + draw n 24 x (20 * n)

-- the quantity of the line that is drawn by x
unfoldable pub line_quantity : ℕ → ℕ → ℕ
line_quantity n x = 1 + draw n 26 x 50

-- a line's keys: order, part, supplier, its number within the order
unfoldable pub lineitem_keys : ℕ → ℕ → ℕ → ℕ → List ℕ
lineitem_keys n k j x =
    fields (decimal k ∷ decimal (line_part n x)
    ∷ decimal (supplier_of n (line_part n x) (draw n 25 x 4)) ∷ decimal j ∷ [])

-- a line's amounts: quantity, price, discount, tax
unfoldable pub lineitem_amounts : ℕ → ℕ → List ℕ
lineitem_amounts n x =
    fields (money (pos (100 * line_quantity n x))
    ∷ money (pos (line_quantity n x * retail_price (line_part n x)))
    ∷ money (pos (draw n 27 x 11)) ∷ money (pos (draw n 28 x 9)) ∷ [])

-- the days from 1992-01-01 to the shipping
unfoldable pub ship_day : ℕ → ℕ → ℕ → ℕ
ship_day n k x = order_day n k + 1 + draw n 31 x 121

-- a line's dates: shipping, commitment, receipt
unfoldable pub lineitem_dates : ℕ → ℕ → ℕ → List ℕ
lineitem_dates n k x =
    fields (date_text (ship_day n k x) ∷ date_text (order_day n k + 30 + draw n 32 x 61)
    ∷ date_text (ship_day n k x + 1 + draw n 33 x 30) ∷ [])

-- a line's return flag and status
unfoldable pub lineitem_statuses : ℕ → ℕ → List ℕ
lineitem_statuses n x =
    fields (word return_flags (draw n 29 x 3) ∷ word line_statuses (draw n 30 x 2) ∷ [])

-- a line's shipping: instruction, mode, and no comment
unfoldable pub lineitem_shipping : ℕ → ℕ → List ℕ
lineitem_shipping n x =
    fields (word ship_instructions (draw n 34 x 4) ∷ word ship_modes (draw n 35 x 7) ∷ [] ∷ [])

-- the fields of line j of order k are drawn by 4k + j
unfoldable pub lineitem_line : ℕ → ℕ → ℕ → List ℕ
lineitem_line n k j =
    lineitem_keys n k j (4 * k + j)
    ++ lineitem_amounts n (4 * k + j)
    ++ lineitem_statuses n (4 * k + j)
    ++ lineitem_dates n k (4 * k + j)
    ++ lineitem_shipping n (4 * k + j)
    ++ 10 ∷ []

-- the lines of an order: one to four
unfoldable pub order_lineitems : ℕ → ℕ → List ℕ
order_lineitems n k = lines (lineitem_line n k) 1 (2 + k % 4)

-- the line that deletes an order: its key
unfoldable pub delete_line : ℕ → List ℕ
delete_line k = fields (decimal k ∷ []) ++ 10 ∷ []
