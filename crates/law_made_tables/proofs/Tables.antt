-- Each made table, part by part.
use Rattle.std.proofs.Common.{◌≡◌, ℕ, zero, suc, ◌+◌, ◌-◌, ◌*◌, ◌%◌, ◌^◌, ◌<◌, ◌≤◌, Bool, true, false, cond, ◌==◌, List, [], ◌∷◌, ◌++◌, length, map, refl, sym, ap, ◌∙◌, arith, ℤ, pos, negsuc, ◌-ℤ◌}
use Rattle.std.specs.Prelude.{codes, unsigned_abs, nat_lt, slice_index_or}
use Rattle.std.specs.Fmt.{decimal}
use Rattle.std.specs.List.{list_all}
use Rattle.std.proofs.lemmas.Grind.{flat_map-append}
use Rattle.std.proofs.lemmas.Bool.{and_parts}
use Rattle.std.proofs.lemmas.Bool.Decides.{nat_tests}
use Rattle.std.proofs.lemmas.Int.{ints}
use Rattle.base_schema.specs.LineForm.{LineForm, key_of, table_form}
use Rattle.base_schema.specs.declared.table.TableName.TheVariants.{Region, Nation, Part as Parts, Supplier, Customer, Orders}
use Rattle.app_sample_data.specs.Choices.{word, regions, nations, region_of, nation_regions, colours, type_sizes, type_finishes, type_metals, container_sizes, container_kinds, market_segments, order_statuses, order_priorities}
use Rattle.app_sample_data.specs.Fields.{draw, field, labelled, address, phone, money, date_text, not_third}
use Rattle.app_sample_data.specs.Lines.{fields, lines, region_line, nation_line, balance, residence, supplier_comment, supplier_tail, supplier_line, part_name, maker_of, manufacturer, brand, part_type, part_container, retail_price, part_head, part_tail, part_line, customer_tail, customer_line, order_day, order_comment, order_head, order_tail, order_line}
use Rattle.law_made_tables.proofs.Fields.{Made, key, whole, amount, text, date, AreOf, made_value, AreMade, IsShort, body}
use Rattle.law_made_tables.proofs.Parts.{Part, place_of, one_line, all_lines, moved}
use Rattle.law_made_tables.proofs.Texts.{IsText, is_text, tested, text_append, word_text, draw_below, decimal_text, labelled_text, address_text, phone_text}

-- fields after fields
pub fields_joined : (xs ys : List (List ℕ)) → fields xs ++ fields ys ≡ fields (xs ++ ys)
fields_joined xs ys = sym (flat_map-append field xs ys)

-- the same three times
pub three_joined : (xs ys zs : List (List ℕ)) → (fields xs ++ fields ys) ++ fields zs ≡ fields ((xs ++ ys) ++ zs)
three_joined xs ys zs = ap (λ t. t ++ fields zs) (fields_joined xs ys) ∙ fields_joined (xs ++ ys) zs

-- texts that fit their columns

pub short : (size most : ℕ) (bytes : List ℕ) → size ≤ most → size ≤ 30 → IsText size bytes → IsShort most bytes
short size most bytes h g f = record { size = size; is = f; within = h; short = g }

pub empty : (most : ℕ) → IsShort most []
empty most = short 0 most [] (omega arith) (omega arith) (record { plain = refl; short = omega arith })

pub drawn : (n column k count size most : ℕ) (words : List (List ℕ)) → size ≤ most → size ≤ 30 → list_all (is_text size) words ≡ true → 0 < count → count ≡ length words
    → IsShort most (word words (draw n column k count))
drawn n column k count size most words h g all some same =
    let below = draw_below n column k count some in
    short size most _ h g (word_text size words (draw n column k count) all (omega (arith, below, same)))

-- a line of a table with one key
pub record IsLineOf (form : LineForm) (line : List ℕ) (k : ℕ) (ms : List Made) : Type 0 where
  pub columns : AreOf (key k ∷ ms) form.columns
  pub made : AreMade (key k ∷ ms)
  pub few : length (key k ∷ ms) ≤ 16
  pub is : line ≡ body (key k ∷ ms) ++ 10 ∷ []

-- the lines of a table with one key
pub one_key : (form : LineForm) (line : ℕ → List ℕ) (rest : ℕ → List Made) (first end : ℕ) → first ≤ end → form.key ≡ 0 ∷ []
    → ((k : ℕ) → first ≤ k → k < end → IsLineOf form (line k) k (rest k))
    → Part form (first * 65536) (end * 65536) ((end - first) * 500) (lines line first end)
one_key form line rest first end h keyed each =
    all_lines form (λ k. k * 65536) line 500 first end h (λ k from to.
    let l = each k from to in
    let place : place_of (key_of form (map made_value (key k ∷ rest k))) ≡ k * 65536 + 0 = rw keyed refl in
    moved form (k * 65536) ((k + 1) * 65536) 500 (body (key k ∷ rest k) ++ 10 ∷ []) (line k) (sym l.is)
    (one_line form (k * 65536) ((k + 1) * 65536) (key k) (rest k) l.columns l.made l.few (omega (arith, place)) (omega (arith, place))))

-- regions and nations

abbrev region_rest : ℕ → List Made
region_rest k = text 25 (word regions k) ∷ text 152 [] ∷ []

region_is : (k : ℕ) → k < 5 → IsLineOf (table_form Region) (region_line k) k (region_rest k)
unfolding region_line
region_is k h = record {
  columns = refl;
  made = (omega arith, (short 11 25 _ (omega arith) (omega arith) (word_text 11 regions k refl h), (empty 152, tt)));
  few = omega arith;
  is = refl;
}

pub region_part : Part (table_form Region) (0 * 65536) (5 * 65536) ((5 - 0) * 500) (lines region_line 0 5)
region_part = one_key (table_form Region) region_line region_rest 0 5 (omega arith) refl (λ k from to. region_is k to)

below_five : (r : ℕ) → nat_lt r 5 ≡ true → r < 10 ^ 12
below_five r h = grind (arith, nat_tests)

small_at : (keys : List ℕ) (place : ℕ) → list_all (λ r. nat_lt r 5) keys ≡ true → slice_index_or keys place 0 < 10 ^ 12
small_at [] place e = omega arith
small_at (r ∷ keys) zero e = below_five r (and_parts _ _ e).0
small_at (r ∷ keys) (suc place) e = small_at keys place (and_parts _ _ e).1

region_small : (k : ℕ) → region_of k < 10 ^ 12
unfolding region_of
region_small k = small_at nation_regions k refl

abbrev nation_rest : ℕ → List Made
nation_rest k = text 25 (word nations k) ∷ key (region_of k) ∷ text 152 [] ∷ []

nation_is : (k : ℕ) → k < 25 → IsLineOf (table_form Nation) (nation_line k) k (nation_rest k)
unfolding nation_line
nation_is k h = record {
  columns = refl;
  made = (omega arith, (short 14 25 _ (omega arith) (omega arith) (word_text 14 nations k refl h), (region_small k, (empty 152, tt))));
  few = omega arith;
  is = refl;
}

pub nation_part : Part (table_form Nation) (0 * 65536) (25 * 65536) ((25 - 0) * 500) (lines nation_line 0 25)
nation_part = one_key (table_form Nation) nation_line nation_rest 0 25 (omega arith) refl (λ k from to. nation_is k to)

-- what suppliers and customers have

drawn_small : (n column k count : ℕ) → 0 < count → count ≤ 10 ^ 9 → draw n column k count < 10 ^ 12
drawn_small n column k count some few = let below = draw_below n column k count some in omega (arith, below)

abs_small : (z : ℤ) (d : ℕ) → z ≡ pos d -ℤ pos 99999 → d < 1100000 → unsigned_abs z < 10 ^ 12
abs_small (pos m) d e h = omega (arith, ints)
abs_small (negsuc m) d e h = omega (arith, ints)

balance_small : (n column k : ℕ) → unsigned_abs (pos (draw n column k 1100000) -ℤ pos 99999) < 10 ^ 12
balance_small n column k = abs_small _ (draw n column k 1100000) refl (draw_below n column k 1100000 (omega arith))

short_address : (k : ℕ) → k < 10 ^ 12 → IsShort 40 (address k)
short_address k h = short 13 40 _ (omega arith) (omega arith) (address_text k h)

short_phone : (n column k : ℕ) → IsShort 15 (phone (draw n column k 25))
short_phone n column k = short 15 15 _ (omega arith) (omega arith) (phone_text _ (draw_below n column k 25 (omega arith)))

one_of : (b : Bool) (size most : ℕ) (xs ys : List ℕ) → size ≤ most → size ≤ 30 → is_text size xs ≡ true → is_text size ys ≡ true → IsShort most (cond b xs ys)
one_of true size most xs ys h g e f = short size most xs h g (tested size xs e)
one_of false size most xs ys h g e f = short size most ys h g (tested size ys f)

-- suppliers

abbrev supplier_rest : ℕ → ℕ → List Made
supplier_rest n k = text 25 (labelled (codes "Supplier#") k) ∷ text 40 (address k) ∷ key (draw n 1 k 25) ∷ text 15 (phone (draw n 1 k 25))
    ∷ amount (pos (draw n 2 k 1100000) -ℤ pos 99999) ∷ text 101 (supplier_comment k) ∷ []

supplier_said : (k : ℕ) → IsShort 101 (supplier_comment k)
unfolding supplier_comment
supplier_said k = one_of (k % 7 == 0) 19 101 (codes "Customer Complaints") (codes "ok") (omega arith) (omega arith) refl refl

supplier_joined : (n k : ℕ) → supplier_line n k ≡ body (key k ∷ supplier_rest n k) ++ 10 ∷ []
unfolding supplier_line residence supplier_tail balance
supplier_joined n k =
    let a = decimal k ∷ labelled (codes "Supplier#") k ∷ [] in
    let b = address k ∷ decimal (draw n 1 k 25) ∷ phone (draw n 1 k 25) ∷ [] in
    let c = money (pos (draw n 2 k 1100000) -ℤ pos 99999) ∷ supplier_comment k ∷ [] in
    ap (λ t. t ++ 10 ∷ []) (three_joined a b c)

supplier_is : (n k : ℕ) → k < 10 ^ 12 → IsLineOf (table_form Supplier) (supplier_line n k) k (supplier_rest n k)
supplier_is n k h = record {
  columns = refl;
  made = (h, (short 18 25 _ (omega arith) (omega arith) (labelled_text (codes "Supplier#") 9 k refl), (short_address k h, (drawn_small n 1 k 25 (omega arith) (omega arith), (short_phone n 1 k, (balance_small n 2 k, (supplier_said k, tt)))))));
  few = omega arith;
  is = supplier_joined n k;
}

pub supplier_part : (n : ℕ) → n ≤ 1000 → Part (table_form Supplier) (1 * 65536) ((10 * n + 1) * 65536) ((10 * n + 1 - 1) * 500) (lines (supplier_line n) 1 (10 * n + 1))
supplier_part n h = one_key (table_form Supplier) (supplier_line n) (supplier_rest n) 1 (10 * n + 1) (omega arith) refl (λ k from to. supplier_is n k (omega arith))

-- customers

abbrev customer_rest : ℕ → ℕ → List Made
customer_rest n k = text 25 (labelled (codes "Customer#") k) ∷ text 40 (address k) ∷ key (draw n 15 k 25) ∷ text 15 (phone (draw n 15 k 25))
    ∷ amount (pos (draw n 16 k 1100000) -ℤ pos 99999) ∷ text 10 (word market_segments (draw n 17 k 5)) ∷ text 117 [] ∷ []

customer_joined : (n k : ℕ) → customer_line n k ≡ body (key k ∷ customer_rest n k) ++ 10 ∷ []
unfolding customer_line residence customer_tail balance
customer_joined n k =
    let a = decimal k ∷ labelled (codes "Customer#") k ∷ [] in
    let b = address k ∷ decimal (draw n 15 k 25) ∷ phone (draw n 15 k 25) ∷ [] in
    let c = money (pos (draw n 16 k 1100000) -ℤ pos 99999) ∷ word market_segments (draw n 17 k 5) ∷ [] ∷ [] in
    ap (λ t. t ++ 10 ∷ []) (three_joined a b c)

customer_is : (n k : ℕ) → k < 10 ^ 12 → IsLineOf (table_form Customer) (customer_line n k) k (customer_rest n k)
customer_is n k h = record {
  columns = refl;
  made = (h, (short 18 25 _ (omega arith) (omega arith) (labelled_text (codes "Customer#") 9 k refl), (short_address k h, (drawn_small n 15 k 25 (omega arith) (omega arith), (short_phone n 15 k, (balance_small n 16 k, (drawn n 17 k 5 10 10 market_segments (omega arith) (omega arith) refl (omega arith) refl, (empty 117, tt))))))));
  few = omega arith;
  is = customer_joined n k;
}

pub customer_part : (n : ℕ) → n ≤ 1000 → Part (table_form Customer) (1 * 65536) ((15 * n + 1) * 65536) ((15 * n + 1 - 1) * 500) (lines (customer_line n) 1 (15 * n + 1))
customer_part n h = one_key (table_form Customer) (customer_line n) (customer_rest n) 1 (15 * n + 1) (omega arith) refl (λ k from to. customer_is n k (omega arith))

-- parts

two_words : (size other most : ℕ) (xs ys : List ℕ) → size + (1 + other) ≤ most → size + (1 + other) ≤ 30 → IsText size xs → IsText other ys → IsShort most (xs ++ 32 ∷ ys)
two_words size other most xs ys h g e f =
    let more : IsText (1 + other) (32 ∷ ys) = record { plain = f.plain; short = omega (arith, f.short) } in
    short (size + (1 + other)) most _ h g (text_append size (1 + other) xs (32 ∷ ys) e more)

drawn_text : (n column k count size : ℕ) (words : List (List ℕ)) → list_all (is_text size) words ≡ true → 0 < count → count ≡ length words → IsText size (word words (draw n column k count))
drawn_text n column k count size words all some same =
    let below = draw_below n column k count some in word_text size words (draw n column k count) all (omega (arith, below, same))

short_name : (n k : ℕ) → IsShort 55 (part_name n k)
unfolding part_name
short_name n k = two_words 6 6 55 _ _ (omega arith) (omega arith) (drawn_text n 3 k 8 6 colours refl (omega arith) refl) (drawn_text n 4 k 8 6 colours refl (omega arith) refl)

digit_text : (d : ℕ) → d < 10 → IsText 1 (decimal d)
digit_text d h = decimal_text 1 d (omega arith) (omega arith) (omega arith)

maker_digit : (n k : ℕ) → IsText 1 (decimal (maker_of n k))
maker_digit n k = let below = draw_below n 5 k 5 (omega arith) in digit_text (maker_of n k) (omega (arith, below))

short_maker : (n k : ℕ) → IsShort 25 (manufacturer n k)
unfolding manufacturer
short_maker n k = short 14 25 _ (omega arith) (omega arith) (text_append 13 1 (codes "Manufacturer#") (decimal (maker_of n k)) (tested 13 (codes "Manufacturer#") refl) (maker_digit n k))

short_brand : (n k : ℕ) → IsShort 10 (brand n k)
unfolding brand
short_brand n k =
    let below = draw_below n 6 k 5 (omega arith) in
    let second = digit_text (1 + draw n 6 k 5) (omega (arith, below)) in
    short 8 10 _ (omega arith) (omega arith)
    (text_append 7 1 (codes "Brand#" ++ decimal (maker_of n k)) (decimal (1 + draw n 6 k 5))
    (text_append 6 1 (codes "Brand#") (decimal (maker_of n k)) (tested 6 (codes "Brand#") refl) (maker_digit n k)) second)

blank_text : (size : ℕ) (xs : List ℕ) → IsText size xs → IsText (1 + size) (32 ∷ xs)
blank_text size xs f = record { plain = f.plain; short = omega (arith, f.short) }

short_type : (n k : ℕ) → IsShort 25 (part_type n k)
unfolding part_type
short_type n k =
    short 25 25 _ (omega arith) (omega arith)
    (text_append 18 7 (word type_sizes (draw n 7 k 6) ++ 32 ∷ word type_finishes (draw n 8 k 5)) (32 ∷ word type_metals (draw n 9 k 5))
    (text_append 8 10 (word type_sizes (draw n 7 k 6)) (32 ∷ word type_finishes (draw n 8 k 5)) (drawn_text n 7 k 6 8 type_sizes refl (omega arith) refl)
    (blank_text 9 _ (drawn_text n 8 k 5 9 type_finishes refl (omega arith) refl)))
    (blank_text 6 _ (drawn_text n 9 k 5 6 type_metals refl (omega arith) refl)))

short_container : (n k : ℕ) → IsShort 10 (part_container n k)
unfolding part_container
short_container n k = two_words 5 4 10 _ _ (omega arith) (omega arith) (drawn_text n 11 k 5 5 container_sizes refl (omega arith) refl) (drawn_text n 12 k 8 4 container_kinds refl (omega arith) refl)

abbrev part_rest : ℕ → ℕ → List Made
part_rest n k = text 55 (part_name n k) ∷ text 25 (manufacturer n k) ∷ text 10 (brand n k) ∷ text 25 (part_type n k) ∷ whole (1 + draw n 10 k 50)
    ∷ text 10 (part_container n k) ∷ amount (pos (retail_price k)) ∷ text 23 [] ∷ []

part_joined : (n k : ℕ) → part_line n k ≡ body (key k ∷ part_rest n k) ++ 10 ∷ []
unfolding part_line part_head part_tail
part_joined n k =
    ap (λ t. t ++ 10 ∷ []) (fields_joined (decimal k ∷ part_name n k ∷ manufacturer n k ∷ brand n k ∷ [])
    (part_type n k ∷ decimal (1 + draw n 10 k 50) ∷ part_container n k ∷ money (pos (retail_price k)) ∷ [] ∷ []))

part_is : (n k : ℕ) → k < 10 ^ 9 → IsLineOf (table_form Parts) (part_line n k) k (part_rest n k)
part_is n k h =
    let size = draw_below n 10 k 50 (omega arith) in
    record {
      columns = refl;
      made = (omega arith, (short_name n k, (short_maker n k, (short_brand n k, (short_type n k, (omega (arith, size), (short_container n k, (omega arith, (empty 23, tt)))))))));
      few = omega arith;
      is = part_joined n k;
    }

pub part_part : (n : ℕ) → n ≤ 1000 → Part (table_form Parts) (1 * 65536) ((20 * n + 1) * 65536) ((20 * n + 1 - 1) * 500) (lines (part_line n) 1 (20 * n + 1))
part_part n h = one_key (table_form Parts) (part_line n) (part_rest n) 1 (20 * n + 1) (omega arith) refl (λ k from to. part_is n k (omega arith))

-- orders

not_third_small : (b : Bool) (m : ℕ) → cond b (m - 1) m ≤ m
not_third_small true m = omega arith
not_third_small false m = omega arith

customer_small : (n k : ℕ) → 1 ≤ n → n ≤ 1000 → not_third (1 + draw n 18 k (15 * n)) < 10 ^ 12
unfolding not_third
customer_small n k some few =
    let below = draw_below n 18 k (15 * n) (omega arith) in
    let most = not_third_small ((1 + draw n 18 k (15 * n)) % 3 == 0) (1 + draw n 18 k (15 * n)) in
    omega (arith, below, most)

pub order_day_below : (n k : ℕ) → order_day n k < 2406
unfolding order_day
order_day_below n k = draw_below n 21 k 2406 (omega arith)

order_said : (k : ℕ) → IsShort 79 (order_comment k)
unfolding order_comment
order_said k = one_of (k % 5 == 0) 16 79 (codes "special requests") (codes "plain") (omega arith) (omega arith) refl refl

abbrev order_rest : ℕ → ℕ → List Made
order_rest n k = key (not_third (1 + draw n 18 k (15 * n))) ∷ text 1 (word order_statuses (draw n 19 k 3)) ∷ amount (pos (100000 + draw n 20 k 40000000))
    ∷ date (order_day n k) ∷ text 15 (word order_priorities (draw n 22 k 5)) ∷ text 15 (labelled (codes "Clerk#") (1 + draw n 23 k 10)) ∷ whole 0 ∷ text 79 (order_comment k) ∷ []

order_joined : (n k : ℕ) → order_line n k ≡ body (key k ∷ order_rest n k) ++ 10 ∷ []
unfolding order_line order_head order_tail
order_joined n k =
    let a = decimal k ∷ decimal (not_third (1 + draw n 18 k (15 * n))) ∷ word order_statuses (draw n 19 k 3) ∷ money (pos (100000 + draw n 20 k 40000000)) ∷ [] in
    let b = date_text (order_day n k) ∷ [] in
    let c = word order_priorities (draw n 22 k 5) ∷ labelled (codes "Clerk#") (1 + draw n 23 k 10) ∷ decimal 0 ∷ order_comment k ∷ [] in
    ap (λ t. t ++ 10 ∷ []) (three_joined a b c)

order_is : (n k : ℕ) → 1 ≤ n → n ≤ 1000 → k < 10 ^ 12 → IsLineOf (table_form Orders) (order_line n k) k (order_rest n k)
order_is n k some few h =
    let price = draw_below n 20 k 40000000 (omega arith) in
    let day = order_day_below n k in
    record {
      columns = refl;
      made = (
        h,
        (
          customer_small n k some few,
          (
            drawn n 19 k 3 1 1 order_statuses (omega arith) (omega arith) refl (omega arith) refl,
            (
              omega (arith, price),
              (
                omega (arith, day),
                (drawn n 22 k 5 15 15 order_priorities (omega arith) (omega arith) refl (omega arith) refl, (short 15 15 _ (omega arith) (omega arith) (labelled_text (codes "Clerk#") 6 (1 + draw n 23 k 10) refl), (omega arith, (order_said k, tt)))),
              ),
            ),
          ),
        ),
      );
      few = omega arith;
      is = order_joined n k;
    }

pub order_part : (n : ℕ) → 1 ≤ n → n ≤ 1000 → Part (table_form Orders) (1 * 65536) ((30 * n + 1) * 65536) ((30 * n + 1 - 1) * 500) (lines (order_line n) 1 (30 * n + 1))
order_part n some few = one_key (table_form Orders) (order_line n) (order_rest n) 1 (30 * n + 1) (omega arith) refl (λ k from to. order_is n k some few (omega arith))
