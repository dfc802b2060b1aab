-- The tokens of a script, or its first refusal, are one.
use Rattle.std.proofs.Common.{◌≡◌, ℕ, ◌+◌, ◌<◌, ◌≤◌, Bool, true, false, not, cond, eqb, List, [], ◌∷◌, ◌++◌, length, get_or, take, drop, Some, None, Result, Ok, Err, refl, sym, ap, subst, ◌∙◌, append_assoc, arith}
use Rattle.std.proofs.lemmas.List.{length-drop}
use Rattle.std.specs.Char.{is_ascii_digit}
use Rattle.std.specs.List.{prefix_len}
use Rattle.std.proofs.lemmas.List.Sums.{prefix_len-le-length}
use Rattle.sql_lexer.specs.declared.kind.Kind.{Kind}
use Rattle.sql_lexer.specs.declared.token.Content.{Content}
use Rattle.sql_lexer.specs.declared.token.Token.{Token}
use Rattle.sql_lexer.specs.declared.fault.LexRefusal.{LexRefusal}
use Rattle.sql_lexer.specs.declared.fault.LexRefusal.TheVariants.{BadByte}
use Rattle.sql_lexer.specs.declared.front.Form.{Form}
use Rattle.sql_lexer.specs.declared.front.Form.TheVariants as form
use Rattle.sql_lexer.specs.Bytes.{is_letter, is_blank}
use Rattle.sql_lexer.specs.Forms.{is_number, are_digits, symbol_of, long_symbol, IsToken, IsLongest, IsNone, made}
use Rattle.sql_lexer.specs.Lexing.{is_comment, gap_len, glued, refusal_at, Lexes, done, gap, token, Refuses, here, within, after_number, after_gap, after_token, Cuts, InOrder}
use Rattle.sql_lexer.specs.declared.fault.LexFault.{LexFault}
use Rattle.sql_lexer.specs.declared.fault.LexFault.TheVariants as faults
use Rattle.sql_lexer.specs.Making.{Makes}
use Rattle.sql_lexer.proofs.Steps.{opened_first}
use Rattle.sql_lexer.proofs.Truths.{not_both, is_same}
use Rattle.sql_lexer.proofs.Fronts.{letter_symbol, digit_symbol, quote_symbol, letter_number, quote_number, quote_is, fraction_after, no_some, positive}
use Rattle.sql_lexer.proofs.Truths.{differs}

-- ---- one form

word_text : (b : ℕ) → is_letter b ≡ true → b ≡ 39 → ⊥
word_text b h e = not_both (eqb b 39) (quote_is b e) (differs is_letter 39 b refl h)

number_symbol : (b : ℕ) (bs : List ℕ) (kind : Kind) → is_number (b ∷ bs) ≡ true → symbol_of (b ∷ bs) ≡ Some kind → ⊥
number_symbol b bs kind h s = by (is_ascii_digit b) refl
  where
    point : (bs : List ℕ) → b ≡ 46 → are_digits bs ≡ true → symbol_of (b ∷ bs) ≡ Some kind → ⊥
    point [] e d s = let never : false ≡ true = d in cc
    point (c ∷ []) e d s = no_some (long_symbol b c) kind (let P : ℕ → Type 0 = λ x. long_symbol x c ≡ None in subst P (sym e) refl) s
    point (c ∷ x ∷ xs) e d s = let never : None ≡ Some kind = s in cc

    by : (t : Bool) → is_ascii_digit b ≡ t → ⊥
    by true e = no_some (symbol_of (b ∷ bs)) kind (digit_symbol b e bs) s
    by false e = let f = fraction_after b bs e h in point bs (is_same 46 b f.0) f.1 s

same_form : (f g : Form) (w : List ℕ) → IsToken f w → IsToken g w → f ≡ g
same_form form.Word g [] x y = absurd x
same_form form.Text g [] x y = absurd x
same_form form.Number g [] x y = absurd (let never : false ≡ true = x in cc)
same_form (form.Symbol k) g [] x y = absurd (let never : None ≡ Some k = x in cc)
same_form form.Word form.Word (b ∷ bs) x y = refl
same_form form.Word form.Number (b ∷ bs) x y = absurd (not_both (is_number (b ∷ bs)) y (letter_number b x.0 bs))
same_form form.Word form.Text (b ∷ bs) x y = absurd (word_text b x.0 y.0)
same_form form.Word (form.Symbol k) (b ∷ bs) x y = absurd (no_some (symbol_of (b ∷ bs)) k (letter_symbol b x.0 bs) y)
same_form form.Number form.Word (b ∷ bs) x y = absurd (not_both (is_number (b ∷ bs)) x (letter_number b y.0 bs))
same_form form.Number form.Number (b ∷ bs) x y = refl
same_form form.Number form.Text (b ∷ bs) x y = absurd (not_both (is_number (b ∷ bs)) x (quote_number b (quote_is b y.0) bs))
same_form form.Number (form.Symbol k) (b ∷ bs) x y = absurd (number_symbol b bs k x y)
same_form form.Text form.Word (b ∷ bs) x y = absurd (word_text b y.0 x.0)
same_form form.Text form.Number (b ∷ bs) x y = absurd (not_both (is_number (b ∷ bs)) y (quote_number b (quote_is b x.0) bs))
same_form form.Text form.Text (b ∷ bs) x y = refl
same_form form.Text (form.Symbol k) (b ∷ bs) x y = absurd (no_some (symbol_of (b ∷ bs)) k (quote_symbol b (quote_is b x.0) bs) y)
same_form (form.Symbol k) form.Word (b ∷ bs) x y = absurd (no_some (symbol_of (b ∷ bs)) k (letter_symbol b y.0 bs) x)
same_form (form.Symbol k) form.Number (b ∷ bs) x y = absurd (number_symbol b bs k y x)
same_form (form.Symbol k) form.Text (b ∷ bs) x y = absurd (no_some (symbol_of (b ∷ bs)) k (quote_symbol b (quote_is b y.0) bs) x)
same_form (form.Symbol j) (form.Symbol k) (b ∷ bs) x y = let e : Some j ≡ Some k = sym x ∙ y in let s : j ≡ k = cc in ap form.Symbol s

same_len : (f g : Form) (m n : ℕ) (bs : List ℕ) → IsLongest f m bs → IsLongest g n bs → m ≡ n
same_len f g m n bs a b = omega (arith, a.longest g n b.front, b.longest f m a.front)

longest_form : (f g : Form) (m n : ℕ) (bs : List ℕ) → IsLongest f m bs → IsLongest g n bs → f ≡ g
longest_form f g m n bs a b =
    let e = same_len f g m n bs a b in
    let P : ℕ → Type 0 = λ x. IsToken g (take x bs) in
    same_form f g (take m bs) a.front.is (subst P (sym e) b.front.is)

empty_none : (f : Form) (n : ℕ) → IsLongest f n [] → ⊥
empty_none f n l = omega (arith, positive f n [] l.front, l.front.within)

-- the same token makes the same
same_made : (f g : Form) (m n : ℕ) (bs : List ℕ) → IsLongest f m bs → IsLongest g n bs → made f (take m bs) ≡ made g (take n bs)
same_made f g m n bs a b = ap (λ (h : Form). made h (take m bs)) (longest_form f g m n bs a b) ∙ ap (λ (x : ℕ). made g (take x bs)) (same_len f g m n bs a b)

same_glued : (f g : Form) (m n : ℕ) (bs : List ℕ) → IsLongest f m bs → IsLongest g n bs → glued f (drop m bs) ≡ glued g (drop n bs)
same_glued f g m n bs a b = ap (λ (h : Form). glued h (drop m bs)) (longest_form f g m n bs a b) ∙ ap (λ (x : ℕ). glued g (drop x bs)) (same_len f g m n bs a b)

no_gap : (n : ℕ) → 0 < n → n ≡ 0 → ⊥
no_gap n lt e = omega arith

pub one_tokens : (at : ℕ) (bytes : List ℕ) (ts us : List Token) → Lexes at bytes ts → Lexes at bytes us → ts ≡ us
one_tokens at bytes ts us done done = refl
one_tokens at bytes ts us done (gap lt r) = absurd (omega (arith, lt))
one_tokens at bytes ts us done (token g n k c z m e h r) = absurd (empty_none g n m)
one_tokens at bytes ts us (gap lt l) done = absurd (omega (arith, lt))
one_tokens at bytes ts us (gap lt l) (gap mt r) = one_tokens (at + gap_len bytes) (drop (gap_len bytes) bytes) ts us l r
one_tokens at bytes ts us (gap lt l) (token g n k c z m e h r) = absurd (no_gap (gap_len bytes) lt z)
one_tokens at bytes ts us (token f m k c z l e h q) done = absurd (empty_none f m l)
one_tokens at bytes ts us (token f m k c z l e h q) (gap mt r) = absurd (no_gap (gap_len bytes) mt z)
one_tokens at bytes ts us (token {ts = xs} f m k c z l e h q) (token {ts = ys} g n j d y p i b r) =
    let len : n ≡ m = same_len g f n m bytes p l in
    let content : Ok (k, c) ≡ Ok (j, d) = sym e ∙ same_made f g m n bytes l p ∙ i in
    let P : ℕ → Type 0 = λ x. Lexes (at + x) (drop x bytes) ys in
    let rest : xs ≡ ys = one_tokens (at + m) (drop m bytes) xs ys q (subst P len r) in
    let pairs : (k, c) ≡ (j, d) = cc in
    let kinds : k ≡ j = ap (λ (x : Kind × Content). x.0) pairs in
    let contents : c ≡ d = ap (λ (x : Kind × Content). x.1) pairs in
    cc

no_refusal : {A B : Type 0} (o : Result A B) (a : A) (b : B) → o ≡ Ok a → o ≡ Err b → ⊥
no_refusal o a b e f = let never : Ok a ≡ Err b = sym e ∙ f in cc

none_here : (f : Form) (n : ℕ) (bytes : List ℕ) → IsNone bytes → IsLongest f n bytes → ⊥
none_here f n bytes x l = x f n l.front

pub never_both : (at : ℕ) (bytes : List ℕ) (ts : List Token) (r : LexRefusal) (p : ℕ) → Lexes at bytes ts → Refuses at bytes r p → ⊥
never_both at bytes ts r p done (within f n q k z l e) = empty_none f n l
never_both at bytes ts r p done (after_number f n k c z l e g) = empty_none f n l
never_both at bytes ts r p done (after_gap lt b) = omega (arith, lt)
never_both at bytes ts r p done (after_token f n k c z l e g b) = empty_none f n l
never_both at bytes ts r p (gap lt l) (here {b = b} {bs = bs} z x) = no_gap (gap_len (b ∷ bs)) lt z
never_both at bytes ts r p (gap lt l) (within f n q k z m e) = no_gap (gap_len bytes) lt z
never_both at bytes ts r p (gap lt l) (after_number f n k c z m e g) = no_gap (gap_len bytes) lt z
never_both at bytes ts r p (gap {ts = xs} lt l) (after_gap mt b) = never_both (at + gap_len bytes) (drop (gap_len bytes) bytes) xs r p l b
never_both at bytes ts r p (gap lt l) (after_token f n k c z m e g b) = no_gap (gap_len bytes) lt z
never_both at bytes ts r p (token f m k c z l e h q) (here {b = b} {bs = bs} y x) = none_here f m (b ∷ bs) x l
never_both at bytes ts r p (token f m k c z l e h q) (within g n s i y x d) = no_refusal (made f (take m bytes)) (k, c) (s, i) e (same_made f g m n bytes l x ∙ d)
never_both at bytes ts r p (token f m k c z l e h q) (after_number g n j d y x i b) = not_both (glued g (drop n bytes)) b (sym (same_glued f g m n bytes l x) ∙ h)
never_both at bytes ts r p (token f m k c z l e h q) (after_gap mt b) = no_gap (gap_len bytes) mt z
never_both at bytes ts r p (token {ts = xs} f m k c z l e h q) (after_token g n j d y x i b s) =
    let len : n ≡ m = same_len g f n m bytes x l in
    let P : ℕ → Type 0 = λ v. Refuses (at + v) (drop v bytes) r p in
    never_both (at + m) (drop m bytes) xs r p q (subst P len s)

pub one_refusal : (at : ℕ) (bytes : List ℕ) (r q : LexRefusal) (m n : ℕ) → Refuses at bytes r m → Refuses at bytes q n → (r ≡ q) × (m ≡ n)
one_refusal at bytes r q m n (here z x) (here y w) = (refl, refl)
one_refusal at bytes r q m n (here {b = b} {bs = bs} z x) (within f i s k y l e) = absurd (none_here f i (b ∷ bs) x l)
one_refusal at bytes r q m n (here {b = b} {bs = bs} z x) (after_number f i k c y l e g) = absurd (none_here f i (b ∷ bs) x l)
one_refusal at bytes r q m n (here {b = b} {bs = bs} z x) (after_gap lt s) = absurd (no_gap (gap_len (b ∷ bs)) lt z)
one_refusal at bytes r q m n (here {b = b} {bs = bs} z x) (after_token f i k c y l e g s) = absurd (none_here f i (b ∷ bs) x l)
one_refusal at bytes r q m n (within f i s k z l e) (here {b = b} {bs = bs} y x) = absurd (none_here f i (b ∷ bs) x l)
one_refusal at bytes r q m n (within f i s k z l e) (within g j t o y p d) =
    let same : Err (s, k) ≡ Err (t, o) = sym e ∙ same_made f g i j bytes l p ∙ d in
    let pairs : (s, k) ≡ (t, o) = cc in
    (ap (λ (x : LexRefusal × ℕ). x.0) pairs, ap (λ (x : LexRefusal × ℕ). at + x.1) pairs)
one_refusal at bytes r q m n (within f i s k z l e) (after_number g j o c y p d b) = absurd (no_refusal (made f (take i bytes)) (o, c) (s, k) (same_made f g i j bytes l p ∙ d) e)
one_refusal at bytes r q m n (within f i s k z l e) (after_gap lt b) = absurd (no_gap (gap_len bytes) lt z)
one_refusal at bytes r q m n (within f i s k z l e) (after_token g j o c y p d b t) = absurd (no_refusal (made f (take i bytes)) (o, c) (s, k) (same_made f g i j bytes l p ∙ d) e)
one_refusal at bytes r q m n (after_number f i k c z l e g) (here {b = b} {bs = bs} y x) = absurd (none_here f i (b ∷ bs) x l)
one_refusal at bytes r q m n (after_number f i k c z l e g) (within h j t o y p d) = absurd (no_refusal (made f (take i bytes)) (k, c) (t, o) e (same_made f h i j bytes l p ∙ d))
one_refusal at bytes r q m n (after_number f i k c z l e g) (after_number h j o d y p b w) = (refl, ap (λ (x : ℕ). at + x) (same_len f h i j bytes l p))
one_refusal at bytes r q m n (after_number f i k c z l e g) (after_gap lt b) = absurd (no_gap (gap_len bytes) lt z)
one_refusal at bytes r q m n (after_number f i k c z l e g) (after_token h j o d y p b w s) = absurd (not_both (glued f (drop i bytes)) g (same_glued f h i j bytes l p ∙ w))
one_refusal at bytes r q m n (after_gap lt s) (here {b = b} {bs = bs} y x) = absurd (no_gap (gap_len (b ∷ bs)) lt y)
one_refusal at bytes r q m n (after_gap lt s) (within g j t o y p d) = absurd (no_gap (gap_len bytes) lt y)
one_refusal at bytes r q m n (after_gap lt s) (after_number g j o c y p d b) = absurd (no_gap (gap_len bytes) lt y)
one_refusal at bytes r q m n (after_gap lt s) (after_gap mt t) = one_refusal (at + gap_len bytes) (drop (gap_len bytes) bytes) r q m n s t
one_refusal at bytes r q m n (after_gap lt s) (after_token g j o c y p d b t) = absurd (no_gap (gap_len bytes) lt y)
one_refusal at bytes r q m n (after_token f i k c z l e g s) (here {b = b} {bs = bs} y x) = absurd (none_here f i (b ∷ bs) x l)
one_refusal at bytes r q m n (after_token f i k c z l e g s) (within h j t o y p d) = absurd (no_refusal (made f (take i bytes)) (k, c) (t, o) e (same_made f h i j bytes l p ∙ d))
one_refusal at bytes r q m n (after_token f i k c z l e g s) (after_number h j o d y p b w) = absurd (not_both (glued h (drop j bytes)) w (sym (same_glued f h i j bytes l p) ∙ g))
one_refusal at bytes r q m n (after_token f i k c z l e g s) (after_gap lt t) = absurd (no_gap (gap_len bytes) lt z)
one_refusal at bytes r q m n (after_token f i k c z l e g s) (after_token h j o d y p b w t) =
    let len : j ≡ i = same_len h f j i bytes p l in
    let P : ℕ → Type 0 = λ v. Refuses (at + v) (drop v bytes) q n in
    one_refusal (at + i) (drop i bytes) r q m n s (subst P len t)

-- ---- the tokens stand in order

lower : (low at high : ℕ) (ts : List Token) → low ≤ at → InOrder at high ts → InOrder low high ts
lower low at high [] le h = omega arith
lower low at high (t ∷ ts) le h = (omega (arith, h.0), h.1, h.2)

pub gap_within : (bytes : List ℕ) → gap_len bytes ≤ length bytes
gap_within [] = omega arith
gap_within (b ∷ bs) = by (is_blank b) (is_comment (b ∷ bs))
  where
    by : (t c : Bool) → cond t 1 (cond c (prefix_len (λ x. not (eqb x 10)) (b ∷ bs)) 0) ≤ length (b ∷ bs)
    by true c = omega arith
    by false true = prefix_len-le-length (λ x. not (eqb x 10)) (b ∷ bs)
    by false false = omega arith

pub in_order : (at : ℕ) (bytes : List ℕ) (ts : List Token) (high : ℕ) → Lexes at bytes ts → at + length bytes ≤ high → InOrder at high ts
in_order at bytes ts high done le = omega arith
in_order at bytes ts high (gap {ts = xs} lt l) le =
    let w = gap_within bytes in
    lower at (at + gap_len bytes) high xs (omega arith) (in_order (at + gap_len bytes) (drop (gap_len bytes) bytes) xs high l (omega (arith, length-drop (gap_len bytes) bytes)))
in_order at bytes ts high (token {ts = xs} f n k c z l e g r) le =
    (omega arith, positive f n bytes l.front, in_order (at + n) (drop n bytes) xs high r (omega (arith, length-drop n bytes, l.front.within)))

-- ---- the steps of the loop

pub tokens_gap : {whole : List ℕ} (found : List Token) (at : ℕ) (rest : List ℕ) → 0 < gap_len rest → ((ts : List Token) → Lexes at rest ts → Lexes 0 whole (found ++ ts)) → (ts : List Token) → Lexes (at + gap_len rest) (drop (gap_len rest) rest) ts → Lexes 0 whole (found ++ ts)
tokens_gap found at rest lt f ts l = f ts (gap lt l)

pub refuses_gap : {whole : List ℕ} (at : ℕ) (rest : List ℕ) → 0 < gap_len rest → ((r : LexRefusal) (p : ℕ) → Refuses at rest r p → Refuses 0 whole r p) → (r : LexRefusal) (p : ℕ) → Refuses (at + gap_len rest) (drop (gap_len rest) rest) r p → Refuses 0 whole r p
refuses_gap at rest lt f r p h = f r p (after_gap lt h)

pub tokens_more : {whole : List ℕ} (found : List Token) (at : ℕ) (rest : List ℕ) (t : Token) → gap_len rest ≡ 0 → Cuts at rest t → ((ts : List Token) → Lexes at rest ts → Lexes 0 whole (found ++ ts))
    → (ts : List Token) → Lexes (at + t.len) (drop t.len rest) ts → Lexes 0 whole ((found ++ t ∷ []) ++ ts)
tokens_more {whole} found at rest t z c f ts l =
    let P : List Token → Type 0 = λ x. Lexes 0 whole x in
    let Q : ℕ → Type 0 = λ x. Lexes at rest (record { kind = t.kind; content = t.content; start = x; len = t.len } ∷ ts) in
    subst P (sym (append_assoc found (t ∷ []) ts)) (f (t ∷ ts) (subst Q (sym c.start) (token c.f t.len t.kind t.content z c.longest c.made c.free l)))

pub refuses_more : {whole : List ℕ} (at : ℕ) (rest : List ℕ) (t : Token) → gap_len rest ≡ 0 → Cuts at rest t → ((r : LexRefusal) (p : ℕ) → Refuses at rest r p → Refuses 0 whole r p) → (r : LexRefusal) (p : ℕ) → Refuses (at + t.len) (drop t.len rest) r p → Refuses 0 whole r p
refuses_more at rest t z c f r p h = f r p (after_token c.f t.len t.kind t.content z c.longest c.made c.free h)

pub refuses_here : (at b : ℕ) (bs rest : List ℕ) → rest ≡ b ∷ bs → gap_len rest ≡ 0 → IsNone rest → Refuses at rest (refusal_at b) at
refuses_here at b bs rest e z none =
    let P : List ℕ → Type 0 = λ x. gap_len x ≡ 0 → IsNone x → Refuses at x (refusal_at b) at in
    subst P (sym e) (λ y x. here y x) z none

pub make_refuses : (at : ℕ) (bytes : List ℕ) (f : Form) (n : ℕ) → gap_len bytes ≡ 0 → IsLongest f n bytes → (e : LexFault) (r : LexRefusal) (p : ℕ) → Makes (made f (take n bytes)) (Err e) at → e ≡ faults.Refused r p → Refuses at bytes r p
make_refuses at bytes f n z l faults.OutOfMemory r p m h = absurd cc
make_refuses at bytes f n z l (faults.Refused q k) r p m h =
    let kinds : q ≡ r = cc in
    let places : k ≡ p = cc in
    let P : ℕ → Type 0 = λ x. Refuses at bytes r x in
    let Q : LexRefusal → Type 0 = λ x. Refuses at bytes x (at + m.0) in
    subst P (sym m.2 ∙ places) (subst Q kinds (within f n q m.0 z l m.1))

-- the same, of the bytes that were handed on and of the fault that came back
pub fault_refuses : (at : ℕ) (bytes w : List ℕ) (f : Form) (n : ℕ) → gap_len bytes ≡ 0 → IsLongest f n bytes → w ≡ take n bytes → (d e : LexFault) (r : LexRefusal) (p : ℕ) → e ≡ d → Makes (made f w) (Err d) at → e ≡ faults.Refused r p → Refuses at bytes r p
fault_refuses at bytes w f n z l same d e r p back m h =
    make_refuses at bytes f n z l d r p (let P : List ℕ → Type 0 = λ x. Makes (made f x) (Err d) at in subst P same m) (sym back ∙ h)

pub glued_refuses : (at : ℕ) (bytes : List ℕ) (f : Form) (n : ℕ) (kind : Kind) (content : Content) → gap_len bytes ≡ 0 → IsLongest f n bytes → made f (take n bytes) ≡ Ok (kind, content) → glued f (drop n bytes) ≡ true
    → (r : LexRefusal) (p : ℕ) → faults.Refused BadByte (at + n) ≡ faults.Refused r p → Refuses at bytes r p
glued_refuses at bytes f n kind content z l m g r p h =
    let kinds : BadByte ≡ r = cc in
    let places : at + n ≡ p = cc in
    let P : ℕ → Type 0 = λ x. Refuses at bytes r x in
    let Q : LexRefusal → Type 0 = λ x. Refuses at bytes x (at + n) in
    subst P places (subst Q kinds (after_number f n kind content z l m g))

pub first_refuses : (at : ℕ) (bytes : List ℕ) → 0 < length bytes → gap_len bytes ≡ 0 → IsNone bytes → (q r : LexRefusal) (p : ℕ) → q ≡ refusal_at (get_or bytes 0 0) → faults.Refused q at ≡ faults.Refused r p → Refuses at bytes r p
first_refuses at bytes lt z none q r p e h =
    let kinds : q ≡ r = cc in
    let places : at ≡ p = cc in
    let P : ℕ → Type 0 = λ x. Refuses at bytes r x in
    let Q : LexRefusal → Type 0 = λ x. Refuses at bytes x at in
    subst P places (subst Q (sym e ∙ kinds) (refuses_here at (get_or bytes 0 0) (drop 1 bytes) bytes (opened_first bytes lt) z none))

pub err_is : {A E : Type 0} (r : Result A E) (e f : E) → r ≡ Err e → r ≡ Err f → e ≡ f
err_is r e f g h = let same = sym g ∙ h in cc
