-- The made tables whose keys are pairs: parts with their suppliers, and lineitems.
use Rattle.std.proofs.Common.{◌≡◌, inl, inr, ℕ, suc, ◌+◌, ◌-◌, ◌*◌, ◌%◌, ◌^◌, ◌<◌, ◌≤◌, List, [], ◌∷◌, ◌++◌, length, refl, sym, ap, subst, ◌∙◌, arith, pos}
use Rattle.std.specs.Fmt.{decimal}
use Rattle.std.specs.List.{flat_map}
use Rattle.std.proofs.Math.Nat.{mod-lt, mul-le-mul}
use Rattle.std.proofs.lemmas.Bool.{cases_lt}
use Rattle.base_schema.specs.LineForm.{table_form}
use Rattle.base_schema.specs.declared.table.TableName.TheVariants.{Partsupp, Lineitem}
use Rattle.app_sample_data.specs.Choices.{word, return_flags, line_statuses, ship_instructions, ship_modes}
use Rattle.app_sample_data.specs.Fields.{draw, money, date_text, supplier_of}
use Rattle.app_sample_data.specs.Lines.{fields, lines, partsupp_line, by_supplier, partsupp_lines, retail_price, order_day, line_part, line_quantity, lineitem_keys, lineitem_amounts, ship_day, lineitem_dates, lineitem_statuses, lineitem_shipping, lineitem_line, order_lineitems}
use Rattle.app_sample_data.proofs.Ring.{before, past, none_past, one_past, two_past, three_past}
use Rattle.law_made_tables.proofs.Fields.{Made, key, whole, amount, text, date, AreMade, body}
use Rattle.law_made_tables.proofs.Parts.{Part, one_line, all_lines, moved, nothing, joined, within, between}
use Rattle.law_made_tables.proofs.Tables.{three_joined, empty, drawn, order_day_below}
use Rattle.law_made_tables.proofs.Texts.{draw_below}

-- a part with one of its suppliers

supplier_most : (n part i : ℕ) → 1 ≤ n → supplier_of n part i ≤ 10 * n
unfolding supplier_of
supplier_most n part i some = let low = mod-lt (part + 2 * n * i) {m = 10 * n} (omega arith) in omega (arith, low)

abbrev partsupp_made : ℕ → ℕ → ℕ → List Made
partsupp_made n k i = key (supplier_of n k i) ∷ whole (1 + draw n 13 (4 * k + i) 9999) ∷ amount (pos (100 + draw n 14 (4 * k + i) 99901)) ∷ text 199 [] ∷ []

partsupp_one : (n k i low high : ℕ) → 1 ≤ n → n ≤ 1000 → k < 10 ^ 12 → low ≤ k * 65536 + supplier_of n k i → k * 65536 + supplier_of n k i < high
    → Part (table_form Partsupp) low high 500 (partsupp_line n k i)
unfolding partsupp_line
partsupp_one n k i low high some few h from to =
    let most = supplier_most n k i some in
    let supply = draw_below n 13 (4 * k + i) 9999 (omega arith) in
    let cost = draw_below n 14 (4 * k + i) 99901 (omega arith) in
    one_line (table_form Partsupp) low high (key k) (partsupp_made n k i) refl (h, (omega (arith, most), (omega (arith, supply), (omega (arith, cost), (empty 199, tt))))) (omega arith) from to

-- the suppliers of a part at these places ascend
abbrev Rise : ℕ → ℕ → ℕ → List ℕ → Type 0
Rise n k low [] = low ≤ 65536
Rise n k low (i ∷ places) = (low ≤ supplier_of n k i) × Rise n k (suc (supplier_of n k i)) places

partsupp_all : (n k low count : ℕ) (places : List ℕ) → 1 ≤ n → n ≤ 1000 → k < 10 ^ 12 → Rise n k low places → length places ≡ count
    → Part (table_form Partsupp) (k * 65536 + low) ((k + 1) * 65536) (count * 500) (flat_map (partsupp_line n k) places)
partsupp_all n k low count [] some few h rise e =
    within (table_form Partsupp) (k * 65536 + low) ((k + 1) * 65536) 0 (count * 500) [] (omega arith) (nothing (table_form Partsupp) (k * 65536 + low) ((k + 1) * 65536) (omega (arith, rise)))
partsupp_all n k low count (i ∷ places) some few h rise e =
    let next = k * 65536 + suc (supplier_of n k i) in
    let one = partsupp_one n k i (k * 65536 + low) (k * 65536 + suc (supplier_of n k i)) some few h (omega (arith, rise.0)) (omega arith) in
    let rest = partsupp_all n k (suc (supplier_of n k i)) (length places) places some few h rise.1 refl in
    within (table_form Partsupp) (k * 65536 + low) ((k + 1) * 65536) (500 + length places * 500) (count * 500) _ (omega (arith, e))
    (joined (table_form Partsupp) (k * 65536 + low) next ((k + 1) * 65536) 500 (length places * 500) (partsupp_line n k i) (flat_map (partsupp_line n k) places) one rest)

-- four places whose suppliers ascend
record Four (n k : ℕ) (places : List ℕ) : Type 0 where
  rise : Rise n k 0 places
  four : length places ≡ 4

four_places : (n k : ℕ) → 1 ≤ n → n ≤ 1000 → Four n k (by_supplier n k)
four_places n k some few =
    let ring = mod-lt k {m = 10 * n} (omega arith) in
    elim (cases_lt (k % (10 * n)) (4 * n)) [
      | inl a ↦ subst (Four n k) (none_past n k some a) (by_none a)
      | inr a ↦ elim (cases_lt (k % (10 * n)) (6 * n)) [
        | inl b ↦ subst (Four n k) (one_past n k some a b) (by_one a b)
        | inr b ↦ elim (cases_lt (k % (10 * n)) (8 * n)) [
          | inl c ↦ subst (Four n k) (two_past n k some b c) (by_two b c)
          | inr c ↦ subst (Four n k) (three_past n k some c) (by_three c ring)
        ]
      ]
    ]
  where
    by_none : k % (10 * n) < 4 * n → Four n k (0 ∷ 1 ∷ 2 ∷ 3 ∷ [])
    by_none a =
        let s0 = before n k 0 (omega (arith, some, a)) in
        let s1 = before n k 1 (omega (arith, some, a)) in
        let s2 = before n k 2 (omega (arith, some, a)) in
        let s3 = before n k 3 (omega (arith, some, a)) in
        record { rise = (omega arith, (omega (arith, s0, s1, some), (omega (arith, s1, s2, some), (omega (arith, s2, s3, some), omega (arith, s3, some, few, a))))); four = refl }

    by_one : 4 * n ≤ k % (10 * n) → k % (10 * n) < 6 * n → Four n k (3 ∷ 0 ∷ 1 ∷ 2 ∷ [])
    by_one a b =
        let s0 = before n k 0 (omega (arith, some, a, b)) in
        let s1 = before n k 1 (omega (arith, some, a, b)) in
        let s2 = before n k 2 (omega (arith, some, a, b)) in
        let s3 = past n k 3 (omega (arith, some, a, b)) (omega (arith, some, a, b)) in
        record { rise = (omega arith, (omega (arith, s3, s0, some, a, b), (omega (arith, s0, s1, some), (omega (arith, s1, s2, some), omega (arith, s2, some, few, b))))); four = refl }

    by_two : 6 * n ≤ k % (10 * n) → k % (10 * n) < 8 * n → Four n k (2 ∷ 3 ∷ 0 ∷ 1 ∷ [])
    by_two a b =
        let s0 = before n k 0 (omega (arith, some, a, b)) in
        let s1 = before n k 1 (omega (arith, some, a, b)) in
        let s2 = past n k 2 (omega (arith, some, a, b)) (omega (arith, some, a, b)) in
        let s3 = past n k 3 (omega (arith, some, a, b)) (omega (arith, some, a, b)) in
        record { rise = (omega arith, (omega (arith, s2, s3, some, a, b), (omega (arith, s3, s0, some, a, b), (omega (arith, s0, s1, some), omega (arith, s1, some, few, b))))); four = refl }

    by_three : 8 * n ≤ k % (10 * n) → k % (10 * n) < 10 * n → Four n k (1 ∷ 2 ∷ 3 ∷ 0 ∷ [])
    by_three a b =
        let s0 = before n k 0 (omega (arith, some, a, b)) in
        let s1 = past n k 1 (omega (arith, some, a, b)) (omega (arith, some, a, b)) in
        let s2 = past n k 2 (omega (arith, some, a, b)) (omega (arith, some, a, b)) in
        let s3 = past n k 3 (omega (arith, some, a, b)) (omega (arith, some, a, b)) in
        record { rise = (omega arith, (omega (arith, s1, s2, some, a, b), (omega (arith, s2, s3, some, a, b), (omega (arith, s3, s0, some, a, b), omega (arith, s0, some, few, b))))); four = refl }

partsupp_of_part : (n k : ℕ) → 1 ≤ n → n ≤ 1000 → k < 10 ^ 12 → Part (table_form Partsupp) (k * 65536) ((k + 1) * 65536) 2000 (partsupp_lines n k)
unfolding partsupp_lines
partsupp_of_part n k some few h =
    let places = four_places n k some few in
    between (table_form Partsupp) (k * 65536 + 0) (k * 65536) ((k + 1) * 65536) ((k + 1) * 65536) 2000 _ (omega arith) (omega arith)
    (partsupp_all n k 0 4 (by_supplier n k) some few h places.rise places.four)

pub partsupp_part : (n : ℕ) → 1 ≤ n → n ≤ 1000 → Part (table_form Partsupp) (1 * 65536) ((20 * n + 1) * 65536) ((20 * n + 1 - 1) * 2000) (lines (partsupp_lines n) 1 (20 * n + 1))
partsupp_part n some few =
    all_lines (table_form Partsupp) (λ k. k * 65536) (partsupp_lines n) 2000 1 (20 * n + 1) (omega arith) (λ k from to. partsupp_of_part n k some few (omega arith))

-- lineitems

part_small : (n x : ℕ) → 1 ≤ n → line_part n x ≤ 20 * n
unfolding line_part
part_small n x some = let below = draw_below n 24 x (20 * n) (omega arith) in omega (arith, below)

quantity_small : (n x : ℕ) → line_quantity n x ≤ 50
unfolding line_quantity
quantity_small n x = let below = draw_below n 26 x 50 (omega arith) in omega (arith, below)

price_small : (n x : ℕ) → 1 ≤ n → n ≤ 1000 → line_quantity n x * retail_price (line_part n x) < 10 ^ 12
price_small n x some few =
    let part = part_small n x some in
    let price : retail_price (line_part n x) ≤ 110000 = omega (arith, part) in
    let most : line_quantity n x * retail_price (line_part n x) ≤ 50 * 110000 = mul-le-mul (quantity_small n x) price in
    omega (arith, most)

ship_day_small : (n k x : ℕ) → ship_day n k x ≤ 2526
unfolding ship_day
ship_day_small n k x =
    let day = order_day_below n k in let later = draw_below n 31 x 121 (omega arith) in omega (arith, day, later)

abbrev lineitem_made : ℕ → ℕ → ℕ → ℕ → List Made
lineitem_made n k j x = key (line_part n x) ∷ key (supplier_of n (line_part n x) (draw n 25 x 4)) ∷ whole j
    ∷ amount (pos (100 * line_quantity n x)) ∷ amount (pos (line_quantity n x * retail_price (line_part n x))) ∷ amount (pos (draw n 27 x 11)) ∷ amount (pos (draw n 28 x 9))
    ∷ text 1 (word return_flags (draw n 29 x 3)) ∷ text 1 (word line_statuses (draw n 30 x 2))
    ∷ date (ship_day n k x) ∷ date (order_day n k + 30 + draw n 32 x 61) ∷ date (ship_day n k x + 1 + draw n 33 x 30)
    ∷ text 25 (word ship_instructions (draw n 34 x 4)) ∷ text 10 (word ship_modes (draw n 35 x 7)) ∷ text 44 [] ∷ []

lineitem_joined : (n k j x : ℕ) → lineitem_keys n k j x ++ lineitem_amounts n x ++ lineitem_statuses n x ++ lineitem_dates n k x ++ lineitem_shipping n x ++ 10 ∷ []
    ≡ body (key k ∷ lineitem_made n k j x) ++ 10 ∷ []
unfolding lineitem_keys lineitem_amounts lineitem_statuses lineitem_dates lineitem_shipping
lineitem_joined n k j x =
    let a = decimal k ∷ decimal (line_part n x) ∷ decimal (supplier_of n (line_part n x) (draw n 25 x 4)) ∷ decimal j ∷ [] in
    let b = money (pos (100 * line_quantity n x)) ∷ money (pos (line_quantity n x * retail_price (line_part n x))) ∷ money (pos (draw n 27 x 11)) ∷ money (pos (draw n 28 x 9)) ∷ [] in
    let c = word return_flags (draw n 29 x 3) ∷ word line_statuses (draw n 30 x 2) ∷ [] in
    let d = date_text (ship_day n k x) ∷ date_text (order_day n k + 30 + draw n 32 x 61) ∷ date_text (ship_day n k x + 1 + draw n 33 x 30) ∷ [] in
    let e = word ship_instructions (draw n 34 x 4) ∷ word ship_modes (draw n 35 x 7) ∷ [] ∷ [] in
    ap (λ t. ((t ++ fields d) ++ fields e) ++ 10 ∷ []) (three_joined a b c) ∙ ap (λ t. t ++ 10 ∷ []) (three_joined ((a ++ b) ++ c) d e)

lineitem_are : (n k j x : ℕ) → 1 ≤ n → n ≤ 1000 → k < 10 ^ 12 → j ≤ 4 → AreMade (key k ∷ lineitem_made n k j x)
lineitem_are n k j x some few h g =
    let part = part_small n x some in
    let supplier = supplier_most n (line_part n x) (draw n 25 x 4) some in
    let quantity = quantity_small n x in
    let discount = draw_below n 27 x 11 (omega arith) in
    let tax = draw_below n 28 x 9 (omega arith) in
    let ship = ship_day_small n k x in
    let day = order_day_below n k in
    let commit = draw_below n 32 x 61 (omega arith) in
    let receipt = draw_below n 33 x 30 (omega arith) in (
      h,
      (
        omega (arith, part),
        (
          omega (arith, supplier),
          (
            omega arith,
            (
              omega (arith, quantity),
              (
                price_small n x some few,
                (
                  omega (arith, discount),
                  (
                    omega (arith, tax),
                    (
                      drawn n 29 x 3 1 1 return_flags (omega arith) (omega arith) refl (omega arith) refl,
                      (
                        drawn n 30 x 2 1 1 line_statuses (omega arith) (omega arith) refl (omega arith) refl,
                        (
                          omega (arith, ship),
                          (
                            omega (arith, day, commit),
                            (
                              omega (arith, ship, receipt),
                              (drawn n 34 x 4 17 25 ship_instructions (omega arith) (omega arith) refl (omega arith) refl, (drawn n 35 x 7 7 10 ship_modes (omega arith) (omega arith) refl (omega arith) refl, (empty 44, tt))),
                            ),
                          ),
                        ),
                      ),
                    ),
                  ),
                ),
              ),
            ),
          ),
        ),
      ),
    )

lineitem_one : (n k j : ℕ) → 1 ≤ n → n ≤ 1000 → k < 10 ^ 12 → j ≤ 4 → Part (table_form Lineitem) (k * 65536 + j) (k * 65536 + (j + 1)) 500 (lineitem_line n k j)
unfolding lineitem_line
lineitem_one n k j some few h g =
    moved (table_form Lineitem) (k * 65536 + j) (k * 65536 + (j + 1)) 500 (body (key k ∷ lineitem_made n k j (4 * k + j)) ++ 10 ∷ []) _ (sym (lineitem_joined n k j (4 * k + j)))
    (one_line (table_form Lineitem) (k * 65536 + j) (k * 65536 + (j + 1)) (key k) (lineitem_made n k j (4 * k + j)) refl (lineitem_are n k j (4 * k + j) some few h g) (omega arith) (omega arith) (omega arith))

lineitem_of_order : (n k : ℕ) → 1 ≤ n → n ≤ 1000 → k < 10 ^ 12 → Part (table_form Lineitem) (k * 65536) ((k + 1) * 65536) 2000 (order_lineitems n k)
unfolding order_lineitems
lineitem_of_order n k some few h =
    let rest = mod-lt k {m = 4} (omega arith) in
    within (table_form Lineitem) (k * 65536) ((k + 1) * 65536) ((2 + k % 4 - 1) * 500) 2000 _ (omega (arith, rest))
    (between (table_form Lineitem) (k * 65536 + 1) (k * 65536) (k * 65536 + (2 + k % 4)) ((k + 1) * 65536) ((2 + k % 4 - 1) * 500) _ (omega arith) (omega (arith, rest))
    (all_lines (table_form Lineitem) (λ j. k * 65536 + j) (lineitem_line n k) 500 1 (2 + k % 4) (omega arith) (λ j from to. lineitem_one n k j some few h (omega (arith, to, rest)))))

pub lineitem_part : (n : ℕ) → 1 ≤ n → n ≤ 1000 → Part (table_form Lineitem) (1 * 65536) ((30 * n + 1) * 65536) ((30 * n + 1 - 1) * 2000) (lines (order_lineitems n) 1 (30 * n + 1))
lineitem_part n some few =
    all_lines (table_form Lineitem) (λ k. k * 65536) (order_lineitems n) 2000 1 (30 * n + 1) (omega arith) (λ k from to. lineitem_of_order n k some few (omega arith))
