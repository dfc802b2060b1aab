-- Numbers from their text.
use Rattle.std.specs.Prelude.{codes}
use Rattle.std.proofs.Common.{◌≡◌, ℕ, suc, get_or, ◌<◌, ◌^◌, List, [], ◌∷◌, ◌++◌, arith, refl, sym, ap, subst, ◌∙◌, append_assoc}
use Rattle.std.specs.Fmt.{decimal}
use Rattle.std.specs.Char.{digit_value}
use Rattle.std.specs.Str.Parse.{AllDigits, digits_value}
use Rattle.std.proofs.lemmas.Fmt.{decimal_is_IsNumeral_wide}
use Rattle.std.proofs.lemmas.Str.Parse.{digit_from_value}
use Rattle.base_row_laws.specs.Bags.{Each}
use Rattle.plan_algebra.specs.declared.node.Node.{Node}
use Rattle.plan_spelling.specs.Laws.{TextDeterminesPlan}
use Rattle.plan_spelling.specs.Plans.{EndsWithPlan, numbers_text, plan_line, plan_spelling}
use Rattle.plan_spelling.proofs.UniqueParts.{spelling_is_unique}

-- a digit is none of the bytes below it, such as a space or the end of a line
digit_above : (c : ℕ) → digit_value c < 10 → 47 < c
digit_above c h = omega (arith, digit_from_value c h)

-- digits up to a space
digits_unique : (xs ys r s : List ℕ) → AllDigits 10 xs → AllDigits 10 ys → xs ++ 32 ∷ r ≡ ys ++ 32 ∷ s → (xs ≡ ys) × (r ≡ s)
digits_unique [] [] r s hx hy e =
    let rest : r ≡ s = cc in
    (refl, rest)
digits_unique [] (y ∷ ys) r s hx hy e =
    let same : y ≡ 32 = cc in
    let no : ⊥ = omega (arith, same, digit_above y hy.0) in
    absurd no
digits_unique (x ∷ xs) [] r s hx hy e =
    let same : x ≡ 32 = cc in
    let no : ⊥ = omega (arith, same, digit_above x hx.0) in
    absurd no
digits_unique (x ∷ xs) (y ∷ ys) r s hx hy e =
    let first : x ≡ y = cc in
    let whole : xs ++ 32 ∷ r ≡ ys ++ 32 ∷ s = cc in
    let rest = digits_unique xs ys r s hx.1 hy.1 whole in
    let others : xs ≡ ys = rest.0 in
    (cc, rest.1)

number_unique : (m n : ℕ) (r s : List ℕ) → m < 10 ^ 64 → n < 10 ^ 64 → decimal m ++ 32 ∷ r ≡ decimal n ++ 32 ∷ s → (m ≡ n) × (r ≡ s)
number_unique m n r s hm hn e =
    let one = decimal_is_IsNumeral_wide m hm in
    let other = decimal_is_IsNumeral_wide n hn in
    let same = digits_unique (decimal m) (decimal n) r s one.0.1 other.0.1 e in
    (sym one.1 ∙ ap (digits_value 10) same.0 ∙ other.1, same.1)

-- a text begins with a number's digits and a space
begins : (m : ℕ) (ms : List ℕ) → numbers_text (m ∷ ms) ≡ decimal m ++ 32 ∷ numbers_text ms
begins m ms = append_assoc (decimal m) (32 ∷ []) (numbers_text ms)

no_more : (xs : List ℕ) → [] ≡ xs ++ 10 ∷ [] → ⊥
no_more [] e = cc
no_more (x ∷ xs) e = cc

no_text : (xs r : List ℕ) → [] ≡ xs ++ 32 ∷ r → ⊥
no_text [] r e = cc
no_text (x ∷ xs) r e = cc

numbers_unique : (ms ns : List ℕ) → Each (λ m. m < 10 ^ 64) ms → Each (λ m. m < 10 ^ 64) ns → numbers_text ms ≡ numbers_text ns → ms ≡ ns
numbers_unique [] [] hm hn e = refl
numbers_unique [] (n ∷ ns) hm hn e = absurd (no_text (decimal n) (numbers_text ns) (e ∙ begins n ns))
numbers_unique (m ∷ ms) [] hm hn e = absurd (no_text (decimal m) (numbers_text ms) (sym e ∙ begins m ms))
numbers_unique (m ∷ ms) (n ∷ ns) hm hn e =
    let same = number_unique m n (numbers_text ms) (numbers_text ns) hm.0 hn.0 (sym (begins m ms) ∙ e ∙ begins n ns) in
    let first : m ≡ n = same.0 in
    let rest : ms ≡ ns = numbers_unique ms ns hm.1 hn.1 same.1 in
    cc

-- no end of a line among them
abbrev IsOneLine : List ℕ → Type 0
IsOneLine = Each (λ c. 10 < c)

one_line-append : (xs ys : List ℕ) → IsOneLine xs → IsOneLine ys → IsOneLine (xs ++ ys)
one_line-append [] ys hx hy = hy
one_line-append (x ∷ xs) ys hx hy = (hx.0, one_line-append xs ys hx.1 hy)

digits_line : (xs : List ℕ) → AllDigits 10 xs → IsOneLine xs
digits_line [] h = tt
digits_line (x ∷ xs) h =
    let above : 10 < x = omega (arith, digit_above x h.0) in
    (above, digits_line xs h.1)

space_line : IsOneLine (32 ∷ [])
space_line =
    let above : 10 < 32 = omega arith in
    (above, tt)

numbers_line : (ms : List ℕ) → Each (λ m. m < 10 ^ 64) ms → IsOneLine (numbers_text ms)
numbers_line [] h = tt
numbers_line (m ∷ ms) h =
    one_line-append (decimal m ++ 32 ∷ []) (numbers_text ms)
    (one_line-append (decimal m) (32 ∷ []) (digits_line (decimal m) (decimal_is_IsNumeral_wide m h.0).0.1) space_line)
    (numbers_line ms h.1)

-- a line holds no end of a line
no_inner_end : (xs ys zs : List ℕ) → IsOneLine xs → xs ≡ ys ++ 10 ∷ zs → ⊥
no_inner_end [] [] zs h e = cc
no_inner_end [] (y ∷ ys) zs h e = cc
no_inner_end (x ∷ xs) [] zs h e =
    let same : x ≡ 10 = cc in
    omega (arith, same, h.0)
no_inner_end (x ∷ xs) (y ∷ ys) zs h e =
    let rest : xs ≡ ys ++ 10 ∷ zs = cc in
    no_inner_end xs ys zs h.1 rest

-- the last line of a text
last_line : (xs ys a b : List ℕ) → IsOneLine a → IsOneLine b → xs ++ 10 ∷ a ≡ ys ++ 10 ∷ b → a ≡ b
last_line [] [] a b ha hb e = cc
last_line [] (y ∷ ys) a b ha hb e =
    let rest : a ≡ ys ++ 10 ∷ b = cc in
    absurd (no_inner_end a ys b ha rest)
last_line (x ∷ xs) [] a b ha hb e =
    let rest : b ≡ xs ++ 10 ∷ a = cc in
    absurd (no_inner_end b xs a hb rest)
last_line (x ∷ xs) (y ∷ ys) a b ha hb e =
    let rest : xs ++ 10 ∷ a ≡ ys ++ 10 ∷ b = cc in
    last_line xs ys a b ha hb rest

-- what stands before the last end of a line
before_end : (xs ys : List ℕ) → xs ++ 10 ∷ [] ≡ ys ++ 10 ∷ [] → xs ≡ ys
before_end [] [] e = refl
before_end [] (y ∷ ys) e =
    let more : [] ≡ ys ++ 10 ∷ [] = cc in
    absurd (no_more ys more)
before_end (x ∷ xs) [] e =
    let more : [] ≡ xs ++ 10 ∷ [] = cc in
    absurd (no_more xs more)
before_end (x ∷ xs) (y ∷ ys) e =
    let first : x ≡ y = cc in
    let less : xs ++ 10 ∷ [] ≡ ys ++ 10 ∷ [] = cc in
    let rest : xs ≡ ys = before_end xs ys less in
    cc

-- a text that ends with a plan's line, with the end of the line before it in sight
split : (before : List ℕ) (nodes : List Node)
    → before ++ plan_line nodes ≡ ((before ++ codes "spelling") ++ 10 ∷ numbers_text (plan_spelling nodes)) ++ 10 ∷ []
split before nodes =
    let line : List ℕ = numbers_text (plan_spelling nodes) in
    sym (append_assoc (before ++ codes "spelling") (10 ∷ line) (10 ∷ []) ∙ append_assoc before (codes "spelling") (10 ∷ (line ++ 10 ∷ [])))

pub text_determines_plan : TextDeterminesPlan
text_determines_plan xs ys text hx hy =
    let one : List ℕ = numbers_text (plan_spelling xs) in
    let other : List ℕ = numbers_text (plan_spelling ys) in
    let first : List ℕ = hx.1 ++ codes "spelling" in
    let second : List ℕ = hy.1 ++ codes "spelling" in
    let whole : first ++ 10 ∷ one ≡ second ++ 10 ∷ other =
    before_end (first ++ 10 ∷ one) (second ++ 10 ∷ other) (sym (split hx.1 xs) ∙ sym hx.2 ∙ hy.2 ∙ split hy.1 ys) in
    let same : one ≡ other =
    last_line first second one other (numbers_line (plan_spelling xs) hx.0) (numbers_line (plan_spelling ys) hy.0) whole in
    let numbers : plan_spelling xs ≡ plan_spelling ys = numbers_unique (plan_spelling xs) (plan_spelling ys) hx.0 hy.0 same in
    (spelling_is_unique xs ys [] [] (ap (λ l. l ++ []) numbers)).0

-- a list of the machine's numbers
pub short_numbers : (ms : List ℕ) → ((i : ℕ) → get_or ms i 0 < 2 ^ 128) → Each (λ m. m < 10 ^ 64) ms
short_numbers [] h = tt
short_numbers (m ∷ ms) h =
    let first : m < 2 ^ 128 = h 0 in
    (omega (arith, first), short_numbers ms (λ i. h (suc i)))

-- a plan's line at the end of a text
pub ends_with_plan : (nodes : List Node) (ms old new : List ℕ) → ms ≡ plan_spelling nodes → Each (λ m. m < 10 ^ 64) ms
    → new ≡ old ++ plan_line nodes → EndsWithPlan nodes new
ends_with_plan nodes ms old new is short e = (subst (Each (λ m. m < 10 ^ 64)) is short, old, e)
