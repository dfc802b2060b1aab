-- The order of sketches is that of rows.
use Rattle.std.proofs.Common.{◌≡◌, ◌≢◌, ℕ, ℤ, pos, negsuc, ◌+◌, ◌*◌, ◌<◌, ◌≤◌, ◌<ℤ◌, ◌≤ℤ◌, suc, zero, List, [], ◌∷◌, Bool, true, false, sym, ap, ◌∙◌, refl, arith, subst, inl, inr, get_or}
use Rattle.std.specs.Prelude.{◌⊎◌, nat_lt, ◌-ℤ◌, if◌then◌else◌}
use Rattle.std.specs.declared.cmp.Ordering.TheVariants.{Less, Equal}
use Rattle.std.specs.Ordering.{int_cmp, nat_cmp, is_lt, ordering_then, ordering_reverse}
use Rattle.std.specs.Cmp.{int_cmp_is, nat_cmp_is}
use Rattle.std.specs.Cmp.Lexicographic.{slice_cmp}
use Rattle.std.proofs.lemmas.Bool.{cases_lt, lt-ltb, true≢false}
use Rattle.std.proofs.lemmas.Cmp.{int_ranked}
use Rattle.base_value.specs.declared.truth.Fault.TheVariants.{TooManyRows}
use Rattle.base_value.specs.declared.value.Value.{Value}
use Rattle.base_value.specs.declared.value.Value.TheVariants.{Null, Fault, Number, Text, Date}
use Rattle.base_value.specs.Value.{value_cmp, row_cmp}
use Rattle.base_columns.specs.declared.column_builder.ColumnForm.{ColumnForm}
use Rattle.base_columns.specs.declared.column_builder.ColumnForm.TheVariants.{Numbers, Dates, Texts, Values}
use Rattle.base_value.proofs.Orders.{value_total}
use Rattle.base_order_limit.specs.declared.key.OrderKey.{OrderKey}
use Rattle.base_order_limit.specs.Answers.{answer_order}
use Rattle.exec_ordered_rows.specs.Sketches.{beside, bytes_after, clamped, first_sketch, highest, lowest, most_after, row_sketch, sketch}

-- comparisons and inequalities
below : (x y : ℤ) → int_cmp x y ≡ Less → x <ℤ y
below x y e = int_ranked x y Less (sym e)

is_below : (x y : ℤ) → x <ℤ y → int_cmp x y ≡ Less
is_below x y h = sym (int_cmp_is x y Less h)

nat_less : (x y : ℕ) → pos x <ℤ pos y → x < y
nat_less x y h = grind arith

nat_below : (x y : ℕ) → pos x <ℤ pos y → nat_cmp x y ≡ Less
nat_below x y h = sym (nat_cmp_is x y Less (nat_less x y h))

-- clamped numbers
at_least : (c : ℤ) → lowest ≤ℤ clamped c
at_least c = grind arith

at_most : (c : ℤ) → clamped c ≤ℤ highest
at_most c = grind arith

clamped_law : (a b : ℤ) → clamped a <ℤ clamped b → a <ℤ b
clamped_law a b h = grind arith

beside_least : (s t : ℕ) (c : ℤ) → lowest ≤ℤ beside s t c
beside_least s t c = grind arith

beside_most : (s t : ℕ) (c : ℤ) → beside s t c ≤ℤ highest
beside_most s t c = grind arith

beside_high : (s t : ℕ) (c : ℤ) → s < t → beside s t c ≡ highest
beside_high s t c h = grind arith

beside_low : (s t : ℕ) (c : ℤ) → t < s → beside s t c ≡ lowest
beside_low s t c h = grind arith

not_above : (z : ℤ) → z ≤ℤ highest → highest <ℤ z → ⊥
not_above z h l = grind arith

not_under : (z : ℤ) → lowest ≤ℤ z → z <ℤ lowest → ⊥
not_under z h l = grind arith

beside_falls : (s t u : ℕ) (c d : ℤ) → u < t → beside s t c <ℤ beside s u d → ⊥
beside_falls s t u c d m h = elim (cases_lt s t) [
  | inl l ↦ not_above (beside s u d) (beside_most s u d)
      (subst (λ z. z <ℤ beside s u d) (beside_high s t c l) h)
  | inr l ↦ not_under (beside s t c) (beside_least s t c)
      (subst (λ z. beside s t c <ℤ z) (beside_low s u d (omega (arith, l, m))) h)
]

beside_same : (s t : ℕ) (c d : ℤ) → beside s t c <ℤ beside s t d → c <ℤ d
beside_same s t c d h = grind arith

beside_law : (s t u : ℕ) (c d : ℤ) → beside s t c <ℤ beside s u d
    → (t < u) ⊎ ((t ≡ u) × (c <ℤ d))
beside_law s t u c d h = elim (cases_lt t u) [
  | inl l ↦ inl l
  | inr l ↦ elim (cases_lt u t) [
    | inl m ↦ absurd (beside_falls s t u c d m h)
    | inr m ↦
        let same : t ≡ u = omega (arith, l, m) in
        inr (same, beside_same s t c d (subst (λ k. beside s t c <ℤ beside s k d) (sym same) h))
  ]
]

-- the bytes of texts
no_byte : (b : ℕ) → 256 ≤ b → nat_lt b 256 ≡ false
no_byte b h = grind arith

most_more : (n a b : ℕ) → b ≤ a → most_after n b ≤ most_after n a
most_more zero a b h = h
most_more (suc n) a b h = most_more n (a * 256 + 255) (b * 256 + 255) (omega (arith, h))

most_strict : (n a b : ℕ) → b < a → most_after n b < most_after n a
most_strict zero a b h = h
most_strict (suc n) a b h = most_strict n (a * 256 + 255) (b * 256 + 255) (omega (arith, h))

under_most : (n a : ℕ) (xs : List ℕ) → bytes_after n a xs ≤ most_after n a
under_most zero a xs = omega arith
under_most (suc n) a [] =
    let l = under_most n (a * 256) [] in
    let m = most_more n (a * 256 + 255) (a * 256) (omega arith) in omega (arith, l, m)
under_most (suc n) a (b ∷ bs) = elim (cases_lt b 256) [
  | inl h ↦
      let l = under_most n (a * 256 + b) bs in
      let m = most_more n (a * 256 + 255) (a * 256 + b) (omega (arith, h)) in
      rw (lt-ltb b 256 h) (omega (arith, l, m))
  | inr h ↦ rw (no_byte b h) (omega arith)
]

over_most : (n a b : ℕ) (xs : List ℕ) → b < a → most_after n b < bytes_after n a xs
over_most zero a b xs h = h
over_most (suc n) a b [] h = over_most n (a * 256) (b * 256 + 255) [] (omega (arith, h))
over_most (suc n) a b (c ∷ cs) h = elim (cases_lt c 256) [
  | inl l ↦
      rw (lt-ltb c 256 l)
      (over_most n (a * 256 + c) (b * 256 + 255) cs (omega (arith, h)))
  | inr l ↦ rw (no_byte c l) (most_strict n (a * 256 + 255) (b * 256 + 255) (omega (arith, h)))
]

never_less : (xs : List ℕ) → slice_cmp nat_cmp xs [] ≢ Less
never_less [] e = true≢false (sym (ap is_lt e))
never_less (x ∷ xs) e = true≢false (sym (ap is_lt e))

past_end : (n a c : ℕ) (cs : List ℕ)
    → (bytes_after n (a * 256) cs < bytes_after n (a * 256) [] → slice_cmp nat_cmp cs [] ≡ Less)
    → bytes_after (suc n) a (c ∷ cs) < bytes_after n (a * 256) [] → ⊥
past_end n a c cs law h = elim (cases_lt c 256) [
  | inl l ↦
      let byte : bytes_after n (a * 256 + c) cs < bytes_after n (a * 256) [] =
      subst (λ b. (if b then bytes_after n (a * 256 + c) cs else most_after (suc n) a)
      < bytes_after n (a * 256) []) (lt-ltb c 256 l) h in
      elim (cases_lt 0 c) [
        | inl m ↦
            let under = under_most n (a * 256) [] in
            let over = over_most n (a * 256 + c) (a * 256) cs (omega (arith, m)) in
            omega (arith, byte, under, over)
        | inr m ↦
            let none : a * 256 + c ≡ a * 256 = omega (arith, m) in
            never_less cs (law (subst (λ k. bytes_after n k cs < bytes_after n (a * 256) []) none byte))
      ]
  | inr l ↦
      let full : most_after (suc n) a < bytes_after n (a * 256) [] =
      subst (λ b. (if b then bytes_after n (a * 256 + c) cs else most_after (suc n) a)
      < bytes_after n (a * 256) []) (no_byte c l) h in
      let under = under_most n (a * 256) [] in
      let more = most_more n (a * 256 + 255) (a * 256) (omega arith) in
      omega (arith, full, under, more)
]

larger : (n a c d : ℕ) (cs ds : List ℕ) → d < c
    → bytes_after (suc n) a (c ∷ cs) < bytes_after (suc n) a (d ∷ ds) → ⊥
larger n a c d cs ds m h = elim (cases_lt c 256) [
  | inl l ↦
      let byte : bytes_after n (a * 256 + c) cs < bytes_after (suc n) a (d ∷ ds) =
      subst (λ b. (if b then bytes_after n (a * 256 + c) cs else most_after (suc n) a)
      < bytes_after (suc n) a (d ∷ ds)) (lt-ltb c 256 l) h in
      let both : bytes_after n (a * 256 + c) cs < bytes_after n (a * 256 + d) ds =
      subst (λ b. bytes_after n (a * 256 + c) cs
      < (if b then bytes_after n (a * 256 + d) ds else most_after (suc n) a))
      (lt-ltb d 256 (omega (arith, l, m))) byte in
      let under = under_most n (a * 256 + d) ds in
      let over = over_most n (a * 256 + c) (a * 256 + d) cs (omega (arith, m)) in
      omega (arith, both, under, over)
  | inr l ↦
      let full : most_after (suc n) a < bytes_after (suc n) a (d ∷ ds) =
      subst (λ b. (if b then bytes_after n (a * 256 + c) cs else most_after (suc n) a)
      < bytes_after (suc n) a (d ∷ ds)) (no_byte c l) h in
      let under = under_most (suc n) a (d ∷ ds) in
      omega (arith, full, under)
]

equal : (n a c d : ℕ) (cs ds : List ℕ) → c ≡ d
    → (bytes_after n (a * 256 + c) cs < bytes_after n (a * 256 + c) ds
    → slice_cmp nat_cmp cs ds ≡ Less)
    → bytes_after (suc n) a (c ∷ cs) < bytes_after (suc n) a (d ∷ ds)
    → slice_cmp nat_cmp cs ds ≡ Less
equal n a c d cs ds same law h =
    let alike : bytes_after (suc n) a (c ∷ cs) < bytes_after (suc n) a (c ∷ ds) =
    subst (λ k. bytes_after (suc n) a (c ∷ cs) < bytes_after (suc n) a (k ∷ ds)) (sym same) h in
    elim (cases_lt c 256) [
      | inl l ↦ law (subst (λ b. (if b then bytes_after n (a * 256 + c) cs else most_after (suc n) a)
          < (if b then bytes_after n (a * 256 + c) ds else most_after (suc n) a)) (lt-ltb c 256 l) alike)
      | inr l ↦
          let no : most_after (suc n) a < most_after (suc n) a =
          subst (λ b. (if b then bytes_after n (a * 256 + c) cs else most_after (suc n) a)
          < (if b then bytes_after n (a * 256 + c) ds else most_after (suc n) a)) (no_byte c l) alike in
          absurd (omega (arith, no))
    ]

bytes_law : (n a : ℕ) (xs ys : List ℕ) → bytes_after n a xs < bytes_after n a ys
    → slice_cmp nat_cmp xs ys ≡ Less
bytes_law zero a xs ys h = absurd (omega (arith, h))
bytes_law (suc n) a [] [] h = absurd (omega (arith, h))
bytes_law (suc n) a [] (d ∷ ds) h = refl
bytes_law (suc n) a (c ∷ cs) [] h = absurd (past_end n a c cs (bytes_law n (a * 256) cs []) h)
bytes_law (suc n) a (c ∷ cs) (d ∷ ds) h = elim (cases_lt c d) [
  | inl l ↦ ap (λ o. ordering_then o (slice_cmp nat_cmp cs ds)) (sym (nat_cmp_is c d Less l))
  | inr l ↦ elim (cases_lt d c) [
    | inl m ↦ absurd (larger n a c d cs ds m h)
    | inr m ↦
        let same : c ≡ d = omega (arith, l, m) in
        ap (λ o. ordering_then o (slice_cmp nat_cmp cs ds)) (sym (nat_cmp_is c d Equal same))
        ∙ equal n a c d cs ds same (bytes_law n (a * 256 + c) cs ds) h
  ]
]

-- values
not_low : {X : Type 0} (z : ℤ) → lowest ≤ℤ z → int_cmp z lowest ≡ Less → X
not_low z h e = absurd (not_under z h (below z lowest e))

not_high : {X : Type 0} (z : ℤ) → z ≤ℤ highest → int_cmp highest z ≡ Less → X
not_high z h e = absurd (not_above z h (below highest z e))

high : (form : ColumnForm) (v : Value) → sketch form v ≤ℤ highest
high (Numbers s) (Number t c) = beside_most s t c
high (Numbers s) (Fault f) = grind arith
high (Numbers s) (Text t) = grind arith
high (Numbers s) (Date d) = grind arith
high (Numbers s) Null = grind arith
high Dates (Number t c) = grind arith
high Dates (Fault f) = grind arith
high Dates (Text t) = grind arith
high Dates (Date d) = at_most (pos d)
high Dates Null = grind arith
high Texts (Number t c) = grind arith
high Texts (Fault f) = grind arith
high Texts (Text t) = at_most (pos (bytes_after 7 0 t))
high Texts (Date d) = grind arith
high Texts Null = grind arith
high Values v = grind arith

low : (form : ColumnForm) (v : Value) → lowest ≤ℤ sketch form v
low (Numbers s) (Number t c) = beside_least s t c
low (Numbers s) (Fault f) = grind arith
low (Numbers s) (Text t) = grind arith
low (Numbers s) (Date d) = grind arith
low (Numbers s) Null = grind arith
low Dates (Number t c) = grind arith
low Dates (Fault f) = grind arith
low Dates (Text t) = grind arith
low Dates (Date d) = at_least (pos d)
low Dates Null = grind arith
low Texts (Number t c) = grind arith
low Texts (Fault f) = grind arith
low Texts (Text t) = at_least (pos (bytes_after 7 0 t))
low Texts (Date d) = grind arith
low Texts Null = grind arith
low Values v = grind arith

low_low : {X : Type 0} → int_cmp lowest lowest ≡ Less → X
low_low e = not_low lowest (low Dates (Fault TooManyRows)) e

number_law : (s t u : ℕ) (c d : ℤ) → int_cmp (beside s t c) (beside s u d) ≡ Less
    → value_cmp (Number t c) (Number u d) ≡ Less
number_law s t u c d e = elim (beside_law s t u c d (below (beside s t c) (beside s u d) e)) [
  | inl l ↦ ap (λ o. ordering_then o (int_cmp c d)) (sym (nat_cmp_is t u Less l))
  | inr l ↦ ap (λ o. ordering_then o (int_cmp c d)) (sym (nat_cmp_is t u Equal l.0))
      ∙ is_below c d l.1
]

date_law : (d e : ℕ) → int_cmp (clamped (pos d)) (clamped (pos e)) ≡ Less → nat_cmp d e ≡ Less
date_law d e h =
    nat_below d e (clamped_law (pos d) (pos e) (below (clamped (pos d)) (clamped (pos e)) h))

text_law : (a b : List ℕ)
    → int_cmp (clamped (pos (bytes_after 7 0 a))) (clamped (pos (bytes_after 7 0 b))) ≡ Less
    → slice_cmp nat_cmp a b ≡ Less
text_law a b h =
    let x = bytes_after 7 0 a in
    let y = bytes_after 7 0 b in
    let l = clamped_law (pos x) (pos y) (below (clamped (pos x)) (clamped (pos y)) h) in
    bytes_law 7 0 a b (nat_less x y l)

value_law : (form : ColumnForm) (v w : Value) → int_cmp (sketch form v) (sketch form w) ≡ Less
    → value_cmp v w ≡ Less
value_law (Numbers s) (Fault f) (Fault g) e = low_low e
value_law (Numbers s) (Fault f) (Number u d) e = refl
value_law (Numbers s) (Fault f) (Text b) e = refl
value_law (Numbers s) (Fault f) (Date d) e = refl
value_law (Numbers s) (Fault f) Null e = refl
value_law (Numbers s) (Number t c) (Fault g) e = not_low (beside s t c) (beside_least s t c) e
value_law (Numbers s) (Number t c) (Number u d) e = number_law s t u c d e
value_law (Numbers s) (Number t c) (Text b) e = refl
value_law (Numbers s) (Number t c) (Date d) e = refl
value_law (Numbers s) (Number t c) Null e = refl
value_law (Numbers s) (Text a) w e = not_high (sketch (Numbers s) w) (high (Numbers s) w) e
value_law (Numbers s) (Date d) w e = not_high (sketch (Numbers s) w) (high (Numbers s) w) e
value_law (Numbers s) Null w e = not_high (sketch (Numbers s) w) (high (Numbers s) w) e
value_law Dates (Fault f) (Fault g) e = low_low e
value_law Dates (Fault f) (Number u d) e = low_low e
value_law Dates (Fault f) (Text b) e = low_low e
value_law Dates (Fault f) (Date d) e = refl
value_law Dates (Fault f) Null e = refl
value_law Dates (Number t c) (Fault g) e = low_low e
value_law Dates (Number t c) (Number u d) e = low_low e
value_law Dates (Number t c) (Text b) e = low_low e
value_law Dates (Number t c) (Date d) e = refl
value_law Dates (Number t c) Null e = refl
value_law Dates (Text a) (Fault g) e = low_low e
value_law Dates (Text a) (Number u d) e = low_low e
value_law Dates (Text a) (Text b) e = low_low e
value_law Dates (Text a) (Date d) e = refl
value_law Dates (Text a) Null e = refl
value_law Dates (Date d) (Fault g) e = not_low (clamped (pos d)) (at_least (pos d)) e
value_law Dates (Date d) (Number u c) e = not_low (clamped (pos d)) (at_least (pos d)) e
value_law Dates (Date d) (Text b) e = not_low (clamped (pos d)) (at_least (pos d)) e
value_law Dates (Date d) (Date c) e = date_law d c e
value_law Dates (Date d) Null e = refl
value_law Dates Null w e = not_high (sketch Dates w) (high Dates w) e
value_law Texts (Fault f) (Fault g) e = low_low e
value_law Texts (Fault f) (Number u d) e = low_low e
value_law Texts (Fault f) (Text b) e = refl
value_law Texts (Fault f) (Date d) e = refl
value_law Texts (Fault f) Null e = refl
value_law Texts (Number t c) (Fault g) e = low_low e
value_law Texts (Number t c) (Number u d) e = low_low e
value_law Texts (Number t c) (Text b) e = refl
value_law Texts (Number t c) (Date d) e = refl
value_law Texts (Number t c) Null e = refl
value_law Texts (Text a) (Fault g) e =
    not_low (clamped (pos (bytes_after 7 0 a))) (at_least (pos (bytes_after 7 0 a))) e
value_law Texts (Text a) (Number u d) e =
    not_low (clamped (pos (bytes_after 7 0 a))) (at_least (pos (bytes_after 7 0 a))) e
value_law Texts (Text a) (Text b) e = text_law a b e
value_law Texts (Text a) (Date d) e = refl
value_law Texts (Text a) Null e = refl
value_law Texts (Date d) w e = not_high (sketch Texts w) (high Texts w) e
value_law Texts Null w e = not_high (sketch Texts w) (high Texts w) e
value_law Values v w e = absurd (true≢false (sym (ap is_lt e)))

-- rows
turned_less : (a b : ℤ) → (negsuc 0 -ℤ a) <ℤ (negsuc 0 -ℤ b) → b <ℤ a
turned_less a b h = grind arith

turned : (a b : ℤ) → int_cmp (negsuc 0 -ℤ a) (negsuc 0 -ℤ b) ≡ Less → int_cmp b a ≡ Less
turned a b e =
    is_below b a (turned_less a b (below (negsuc 0 -ℤ a) (negsuc 0 -ℤ b) e))

by_direction : (d : Bool) (form : ColumnForm) (v w : Value)
    → int_cmp (if d then negsuc 0 -ℤ sketch form v else sketch form v)
    (if d then negsuc 0 -ℤ sketch form w else sketch form w) ≡ Less
    → (if d then ordering_reverse (value_cmp v w) else value_cmp v w) ≡ Less
by_direction true form v w e =
    let l = value_law form w v (turned (sketch form v) (sketch form w) e) in
    ap ordering_reverse (value_total.antisymm v w ∙ ap ordering_reverse l)
by_direction false form v w e = value_law form v w e

first_law : (form : ColumnForm) (x y : List Value)
    → int_cmp (first_sketch form x) (first_sketch form y) ≡ Less → row_cmp x y ≡ Less
first_law form [] [] e = low_low e
first_law form [] (w ∷ ws) e = refl
first_law form (v ∷ vs) [] e = not_low (sketch form v) (low form v) e
first_law form (v ∷ vs) (w ∷ ws) e =
    ap (λ o. ordering_then o (row_cmp vs ws)) (value_law form v w e)

pub row_law : (keys : List OrderKey) (form : ColumnForm) (x y : List Value)
    → int_cmp (row_sketch keys form x) (row_sketch keys form y) ≡ Less
    → answer_order keys x y ≡ Less
row_law [] form x y e = first_law form x y e
row_law (key ∷ keys) form x y e =
    ap (λ o. ordering_then o (answer_order keys x y))
    (by_direction key.is_descending form (get_or x key.column Null) (get_or y key.column Null) e)
