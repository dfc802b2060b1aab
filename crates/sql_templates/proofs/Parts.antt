-- The tokens of a template with its values put in.
use Rattle.std.proofs.Common.{◌≡◌, ℕ, zero, suc, ◌+◌, ◌-◌, ◌<◌, ◌≤◌, ◌^◌, Bool, true, false, cond, eqb, not, ◌&&◌, ◌||◌, List, [], ◌∷◌, ◌++◌, length, map, Option, Some, None, pos, negsuc, refl, sym, ap, subst, ◌∙◌, arith}
use Rattle.std.specs.Prelude.{slice_index_or, slice_get, codes, int_le, int_lt}
use Rattle.std.specs.List.{list_all, list_any}
use Rattle.std.specs.Option.{option_and_then, option_map}
use Rattle.std.specs.Str.{all_ascii_digits, bytes_eq}
use Rattle.std.specs.Fmt.{decimal}
use Rattle.std.proofs.lemmas.Bool.Decides.{nat_tests}
use Rattle.std.proofs.lemmas.Slice.Eq.{bytes_eq-Decides}
use Rattle.base_text.specs.Printable.{AllPrintable}
use Rattle.base_decimal.specs.Written.{size_written, decimal_written}
use Rattle.sql_ast.specs.declared.statement.TemplateValue.{TemplateValue}
use Rattle.sql_ast.specs.declared.statement.TemplateValue.TheVariants as value
use Rattle.sql_lexer.specs.declared.kind.Kind.TheVariants as k
use Rattle.sql_lexer.specs.declared.token.Content.TheVariants as content
use Rattle.sql_lexer.specs.declared.token.Token.{Token}
use Rattle.sql_lexer.specs.Forms.{starts_quote}
use Rattle.sql_lexer.specs.Lexing.{done}
use Rattle.sql_lexer.proofs.Truths.{and_left, and_right}
use Rattle.sql_templates.specs.declared.kind.ValueKind.{ValueKind}
use Rattle.sql_templates.specs.declared.kind.ValueKind.TheVariants.{Text, Date, Number, Whole}
use Rattle.sql_templates.specs.Cutting.{bare, cut}
use Rattle.sql_templates.specs.Parts.{Hole, quoted, place, Parts, is_plain, text_with, hole_with, holes_with, kind_at, is_numeric, is_whole, quoted_token, hole_token, ends_number, ends_hole, joined_tokens, holes_tokens, sample_tokens}
use Rattle.sql_templates.specs.Templates.{doubled, put, put_value, fits}
use Rattle.sql_templates.specs.Writable.{IsWritable, AreWritable}
use Rattle.sql_templates.proofs.Cutting.{Rest, segment}
use Rattle.sql_templates.proofs.Doubled.{text_is, doubled_plain, plain_is, digits_plain}
use Rattle.sql_templates.proofs.Fronts.{never, not_true}
use Rattle.sql_templates.proofs.Numbers.{number_token, decimal_digits}
use Rattle.sql_templates.proofs.Quoted.{IsDoubled, quote_step}

-- each place takes its value
abbrev pub Fit : List ValueKind → List TemplateValue → Type 0
Fit [] values = Unit {0}
Fit (kind ∷ kinds) [] = ⊥
Fit (kind ∷ kinds) (v ∷ values) = (fits kind v ≡ true) × Fit kinds values

-- a token that is put where a whole number is put between quotes
pub record IsSmallText (t : Token) : Type 0 where
  pub kind : t.kind ≡ k.Text
  pub number : ℕ
  pub small : number ≤ 999_999
  pub content : t.content ≡ content.Text (decimal number)

-- what is asked of a relation between tokens
pub record IsLoose (R : Token → Token → Type 0) : Type 0 where
  pub alike : (t u : Token) → u.kind ≡ t.kind → u.content ≡ t.content → R t u
  pub text : (u : Token) → u.kind ≡ k.Text → R (bare k.Text (content.Text [])) u
  pub digits : (u : Token) → IsSmallText u → R (bare k.Text (content.Text (codes "1"))) u
  pub number : (u : Token) → u.kind ≡ k.Number → R (bare k.Number (content.Number (pos 0) 1)) u

-- a number that a place takes
pub record IsNumberPut (bytes : List ℕ) : Type 0 where
  pub number : ℕ
  pub places : ℕ
  pub small : number < 2 ^ 127
  pub few : places ≤ 18
  pub is : bytes ≡ size_written number places

pub unsigned : (n places : ℕ) → decimal_written (pos n) places ≡ size_written n places
unsigned n places = rw (none n) refl
  where
    none : (n : ℕ) → int_lt (pos n) (pos 0) ≡ false
    none n = grind (arith, nat_tests)

number_put : (kind : ValueKind) (v : TemplateValue) → is_numeric (Some kind) ≡ true → fits kind v ≡ true → IsWritable v → IsNumberPut (put v)
number_put Text v n f w = never n
number_put Date v n f w = never n
number_put Number (value.Text text) n f w = never f
number_put Number (value.Number (pos m) places) n f w = record { number = m; places = places; small = (let fit = w.0 in grind (arith, nat_tests)); few = w.1; is = unsigned m places }
number_put Number (value.Number (negsuc m) places) n f w = never f
number_put Whole (value.Text text) n f w = never f
number_put Whole (value.Number (pos m) places) n f w = record { number = m; places = places; small = (let fit = w.0 in grind (arith, nat_tests)); few = w.1; is = unsigned m places }
number_put Whole (value.Number (negsuc m) places) n f w =
    never (and_left (int_le (pos 0) (negsuc m)) (int_le (negsuc m) (pos 999_999)) (and_right (eqb places 0) (int_le (pos 0) (negsuc m) && int_le (negsuc m) (pos 999_999)) f))

numbers_put : (kinds : List ValueKind) (values : List TemplateValue) → Fit kinds values → AreWritable values → (n : ℕ) → is_numeric (slice_get kinds n) ≡ true → IsNumberPut (slice_index_or (map put values) n [])
numbers_put [] values f w n e = never e
numbers_put (kind ∷ kinds) [] f w n e = absurd f
numbers_put (kind ∷ kinds) (v ∷ values) f w zero e = number_put kind v e f.0 w.0
numbers_put (kind ∷ kinds) (v ∷ values) f w (suc n) e = numbers_put kinds values f.1 w.1 n e

-- ---- a hole with its value, before what comes after it
module _ (R : Token → Token → Type 0) (loose : IsLoose R) (kinds : List ValueKind) (values : List TemplateValue) (fit : Fit kinds values) (writable : AreWritable values) where
  abbrev RestOf : ℕ → List ℕ → List Token → Type 0
  RestOf at r ss = Rest R loose.alike at r ss

  -- after a place: a number
  number_step : (start : ℕ) (n : ℕ) (r : List ℕ) (ss : List Token) → is_numeric (kind_at kinds n) ≡ true → ends_number r ≡ true
      → RestOf (start + length (put_value values n)) r ss
      → RestOf start (put_value values n ++ r) (bare k.Number (content.Number (pos 0) 1) ∷ ss)
  number_step start zero r ss e ends h = never e
  number_step start (suc n) r ss e ends h = by (put_value values (suc n)) (at_place (numbers_put kinds values fit writable n e)) h
    where
      at_place : IsNumberPut (slice_index_or (map put values) n []) → IsNumberPut (put_value values (suc n))
      at_place p = let one : n ≡ suc n - 1 = omega arith in subst (λ m. IsNumberPut (slice_index_or (map put values) m [])) one p

      by : (w : List ℕ) → IsNumberPut w → RestOf (start + length w) r ss → RestOf start (w ++ r) (bare k.Number (content.Number (pos 0) 1) ∷ ss)
      by w p h =
          let P : List ℕ → Type 0 = λ x. RestOf (start + length x) r ss → RestOf start (x ++ r) (bare k.Number (content.Number (pos 0) 1) ∷ ss) in
          (subst P (sym p.is) (λ g.
          let t = number_token start p.number p.places r g.found p.small p.few ends g.lexes in
          record { found = t.t ∷ g.found; lexes = t.lexes; beside = (loose.number t.t t.kind, g.beside) })) h

  -- after a quoted text
  text_step : (start : ℕ) (w r : List ℕ) (t : Token) (ss : List Token) → (d : IsDoubled w) → starts_quote r ≡ false
      → ((u : Token) → u.kind ≡ k.Text → u.content ≡ content.Text d.plain → R t u)
      → RestOf (start + (length w + 2)) r ss → RestOf start (39 ∷ (w ++ 39 ∷ r)) (t ∷ ss)
  text_step start w r t ss d e f h =
      let P : List ℕ → Type 0 = λ x. AllPrintable x → RestOf (start + (length x + 2)) r ss → RestOf start (39 ∷ (x ++ 39 ∷ r)) (t ∷ ss) in
      (subst P (sym d.is) (λ printable g. record {
        found = record { kind = k.Text; content = content.Text d.plain; start = start; len = length (doubled d.plain) + 2 } ∷ g.found;
        lexes = quote_step start d.plain r g.found printable e g.lexes;
        beside = (f _ refl refl, g.beside);
      })) d.printable h

  -- bytes that stand for themselves between quotes
  abbrev itself : (w : List ℕ) → list_all is_plain w ≡ true → IsDoubled w
  itself w e = record { plain = w; is = sym (plain_is w e); printable = (doubled_plain w e).printable }

  -- nothing is put into a text without a colon
  no_place : (text tail : List ℕ) → list_any (λ b. eqb b 58) text ≡ false → text_with values None text tail ≡ text ++ tail
  no_place [] tail e = refl
  no_place (b ∷ bs) tail e = by (eqb b 58) refl (no_place bs tail)
    where
      by : (t : Bool) → eqb b 58 ≡ t → (list_any (λ b. eqb b 58) bs ≡ false → text_with values None bs tail ≡ bs ++ tail) → text_with values None (b ∷ bs) tail ≡ b ∷ (bs ++ tail)
      by true q more = never (sym (subst (λ t. t || list_any (λ b. eqb b 58) bs ≡ false) q e))
      by false q more = rw (q) (ap (λ x. b ∷ x) (more (subst (λ t. t || list_any (λ b. eqb b 58) bs ≡ false) q e)))

  -- a whole number of at most six digits
  pub record IsSmallPut (bytes : List ℕ) : Type 0 where
    pub number : ℕ
    pub small : number ≤ 999_999
    pub is : bytes ≡ decimal number

  whole_put : (kind : ValueKind) (v : TemplateValue) → is_whole (Some kind) ≡ true → fits kind v ≡ true → IsSmallPut (put v)
  whole_put Text v n f = never n
  whole_put Date v n f = never n
  whole_put Number v n f = never n
  whole_put Whole (value.Text text) n f = never f
  whole_put Whole (value.Number (negsuc m) places) n f =
      never (and_left (int_le (pos 0) (negsuc m)) (int_le (negsuc m) (pos 999_999)) (and_right (eqb places 0) (int_le (pos 0) (negsuc m) && int_le (negsuc m) (pos 999_999)) f))
  whole_put Whole (value.Number (pos m) places) n f =
      let range = and_right (eqb places 0) (int_le (pos 0) (pos m) && int_le (pos m) (pos 999_999)) f in
      let none : places ≡ 0 = is_zero places (and_left (eqb places 0) (int_le (pos 0) (pos m) && int_le (pos m) (pos 999_999)) f) in
      record {
        number = m;
        small = at_most m (and_right (int_le (pos 0) (pos m)) (int_le (pos m) (pos 999_999)) range);
        is = unsigned m places ∙ ap (size_written m) none;
      }
    where
      is_zero : (n : ℕ) → eqb n 0 ≡ true → n ≡ 0
      is_zero n e = grind (arith, nat_tests)

      at_most : (m : ℕ) → int_le (pos m) (pos 999_999) ≡ true → m ≤ 999_999
      at_most m e = grind (arith, nat_tests)

  first_put : (kinds : List ValueKind) (values : List TemplateValue) → Fit kinds values → is_whole (kind_at kinds 1) ≡ true → IsSmallPut (put_value values 1)
  first_put [] values f e = never e
  first_put (kind ∷ kinds) [] f e = absurd f
  first_put (kind ∷ kinds) (v ∷ values) f e = whole_put kind v e f.0

  same_bytes : (x y : List ℕ) → bytes_eq x y ≡ true → x ≡ y
  same_bytes x y e = (bytes_eq-Decides x y).0 e

  -- after a text: the bytes that come next begin with no quote
  quoted_step : (text : List ℕ) (t : Token) → quoted_token kinds text ≡ Some t → (r : List ℕ) (ss : List Token) → starts_quote r ≡ false
      → ((at : ℕ) → RestOf at r ss) → (start : ℕ) → RestOf start (39 ∷ text_with values None text (39 ∷ r)) (t ∷ ss)
  quoted_step text t e r ss f more start = by (list_all is_plain text) (list_any (λ b. eqb b 58) text) (bytes_eq text (codes ":1") && is_whole (kind_at kinds 1)) refl refl refl e
    where
      done_step : (w : List ℕ) (u : Token) → ((tail : List ℕ) → text_with values None text tail ≡ w ++ tail) → (d : IsDoubled w)
          → ((v : Token) → v.kind ≡ k.Text → v.content ≡ content.Text d.plain → R u v) → RestOf start (39 ∷ text_with values None text (39 ∷ r)) (u ∷ ss)
      done_step w u is d fits =
          subst (λ y. RestOf start (39 ∷ y) (u ∷ ss)) (sym (is (39 ∷ r))) (text_step start w r u ss d f fits (more (start + (length w + 2))))

      small_step : (w : List ℕ) → ((tail : List ℕ) → text_with values None text tail ≡ w ++ tail) → IsSmallPut w
          → RestOf start (39 ∷ text_with values None text (39 ∷ r)) (bare k.Text (content.Text (codes "1")) ∷ ss)
      small_step w is p =
          let digits : all_ascii_digits (decimal p.number) ≡ true = decimal_digits p.number (omega (arith, p.small)) in
          done_step (decimal p.number) (bare k.Text (content.Text (codes "1"))) (λ tail. is tail ∙ ap (λ x. x ++ tail) p.is)
          (itself (decimal p.number) (digits_plain (decimal p.number) digits))
          (λ v kind content. loose.digits v (record { kind = kind; number = p.number; small = p.small; content = content }))

      one_place : text ≡ codes ":1" → (tail : List ℕ) → text_with values None text tail ≡ put_value values 1 ++ tail
      one_place same tail = ap (λ x. text_with values None x tail) same

      by : (p c q : Bool) → list_all is_plain text ≡ p → list_any (λ b. eqb b 58) text ≡ c → bytes_eq text (codes ":1") && is_whole (kind_at kinds 1) ≡ q
          → cond (not p) None (cond (not c) (Some (bare k.Text (content.Text text))) (cond q (Some (bare k.Text (content.Text (codes "1")))) (Some (bare k.Text (content.Text []))))) ≡ Some t
          → RestOf start (39 ∷ text_with values None text (39 ∷ r)) (t ∷ ss)
      by false c q ep ec eq e = absurd (let no : None ≡ Some t = e in cc)
      by true false q ep ec eq e =
          let same : bare k.Text (content.Text text) ≡ t = cc in
          subst (λ u. RestOf start (39 ∷ text_with values None text (39 ∷ r)) (u ∷ ss)) same
          (done_step text (bare k.Text (content.Text text)) (λ tail. no_place text tail ec) (itself text ep) (λ v kind content. loose.alike _ v kind content))
      by true true true ep ec eq e =
          let same : bare k.Text (content.Text (codes "1")) ≡ t = cc in
          let one : text ≡ codes ":1" = same_bytes text (codes ":1") (and_left (bytes_eq text (codes ":1")) (is_whole (kind_at kinds 1)) eq) in
          subst (λ u. RestOf start (39 ∷ text_with values None text (39 ∷ r)) (u ∷ ss)) same
          (small_step (put_value values 1) (one_place one) (first_put kinds values fit (and_right (bytes_eq text (codes ":1")) (is_whole (kind_at kinds 1)) eq)))
      by true true false ep ec eq e =
          let same : bare k.Text (content.Text []) ≡ t = cc in
          let text_put = text_is values writable None text ep in
          subst (λ u. RestOf start (39 ∷ text_with values None text (39 ∷ r)) (u ∷ ss)) same
          (done_step text_put.bytes (bare k.Text (content.Text [])) text_put.is text_put.doubled (λ v kind content. loose.text v kind))

  -- a hole with its value, before plain bytes that end it
  hole_step : (h : Hole) (t : Token) → hole_token kinds h ≡ Some t → (x y : List ℕ) (ss : List Token) → ends_hole h x ≡ true
      → ((at : ℕ) → RestOf at (x ++ y) ss) → (start : ℕ) → RestOf start (hole_with values h (x ++ y)) (t ∷ ss)
  hole_step h t e [] y ss ends more start = never ends
  hole_step (quoted text) t e (b ∷ bs) y ss ends more start = quoted_step text t e (b ∷ (bs ++ y)) ss (not_true (eqb b 39) ends) more start
  hole_step (place n) t e (b ∷ bs) y ss ends more start = by (is_numeric (kind_at kinds n)) refl e
    where
      by : (p : Bool) → is_numeric (kind_at kinds n) ≡ p → cond p (Some (bare k.Number (content.Number (pos 0) 1))) None ≡ Some t
          → RestOf start (put_value values n ++ b ∷ (bs ++ y)) (t ∷ ss)
      by true ep e =
          let same : bare k.Number (content.Number (pos 0) 1) ≡ t = cc in
          subst (λ u. RestOf start (put_value values n ++ b ∷ (bs ++ y)) (u ∷ ss)) same
          (number_step start n (b ∷ (bs ++ y)) ss ep ends (more (start + length (put_value values n))))
      by false ep e = absurd (let no : None ≡ Some t = e in cc)

  -- plain bytes before others
  plain_step : (x y : List ℕ) (us ss : List Token) → cut (length x) x ≡ Some us → ((at : ℕ) → RestOf at y ss) → (at : ℕ) → RestOf at (x ++ y) (us ++ ss)
  plain_step x y us ss e more at =
      let s = segment R loose.alike (length x) x us e at y ss (more (at + length x)) in
      record { found = s.found; lexes = s.lexes; beside = s.beside }

  pub holes_lexed : (hs : List (Hole × List ℕ)) (ts : List Token) → holes_tokens kinds hs ≡ Some ts → (at : ℕ) → RestOf at (holes_with values hs) ts
  holes_lexed [] ts e at =
      let same : [] ≡ ts = cc in
      subst (λ us. RestOf at [] us) same (record { found = []; lexes = done; beside = tt })
  holes_lexed (h ∷ hs) ts e at = by (holes_lexed hs) (ends_hole h.0 h.1) (hole_token kinds h.0) (cut (length h.1) h.1) (holes_tokens kinds hs) refl refl refl refl e
    where
      by : ((us : List Token) → holes_tokens kinds hs ≡ Some us → (at : ℕ) → RestOf at (holes_with values hs) us)
          → (p : Bool) (t : Option Token) (c o : Option (List Token)) → ends_hole h.0 h.1 ≡ p → hole_token kinds h.0 ≡ t → cut (length h.1) h.1 ≡ c → holes_tokens kinds hs ≡ o
          → cond p (option_and_then (λ u. option_map (λ us. u ∷ us) (joined_tokens c o)) t) None ≡ Some ts → RestOf at (hole_with values h.0 (h.1 ++ holes_with values hs)) ts
      by more false t c o ep et ec eo e = absurd (let no : None ≡ Some ts = e in cc)
      by more true None c o ep et ec eo e = absurd (let no : None ≡ Some ts = e in cc)
      by more true (Some t) None o ep et ec eo e = absurd (let no : None ≡ Some ts = e in cc)
      by more true (Some t) (Some us) None ep et ec eo e = absurd (let no : None ≡ Some ts = e in cc)
      by more true (Some t) (Some us) (Some ws) ep et ec eo e =
          let same : t ∷ (us ++ ws) ≡ ts = cc in
          subst (λ vs. RestOf at (hole_with values h.0 (h.1 ++ holes_with values hs)) vs) same
          (hole_step h.0 t et h.1 (holes_with values hs) (us ++ ws) ep (plain_step h.1 (holes_with values hs) us ws ec (more ws eo)) at)

  -- the tokens of a template with its values
  pub parts_lexed : (p : Parts) (ts : List Token) → sample_tokens kinds p ≡ Some ts → RestOf 0 (p.first ++ holes_with values p.holes) ts
  parts_lexed p ts e = by (cut (length p.first) p.first) (holes_tokens kinds p.holes) refl refl e
    where
      by : (c o : Option (List Token)) → cut (length p.first) p.first ≡ c → holes_tokens kinds p.holes ≡ o → joined_tokens c o ≡ Some ts → RestOf 0 (p.first ++ holes_with values p.holes) ts
      by None o ec eo e = absurd (let no : None ≡ Some ts = e in cc)
      by (Some us) None ec eo e = absurd (let no : None ≡ Some ts = e in cc)
      by (Some us) (Some ws) ec eo e =
          let same : us ++ ws ≡ ts = cc in
          subst (λ vs. RestOf 0 (p.first ++ holes_with values p.holes) vs) same
          (plain_step p.first (holes_with values p.holes) us ws ec (holes_lexed p.holes ws eo) 0)
