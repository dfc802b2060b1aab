-- Codes of the values of a column, form by form.
use Rattle.std.proofs.Common.{◌≡◌, ℕ, ◌<◌, ℤ, List, [], ◌∷◌, Bool, true, map, length, get_or, Some, refl, sym, ◌∙◌, ap, subst, arith, inl, inr, eq-eqb}
use Rattle.std.specs.Prelude.{pos, nat_eq, ◌==◌, slice_get}
use Rattle.std.specs.Ordering.{int_eq}
use Rattle.std.proofs.lemmas.Bool.{cases_Bool, true≢false, ne_eqb}
use Rattle.std.proofs.lemmas.Bool.Decides.{same_from_decides, Decides-eqb}
use Rattle.std.specs.Cmp.{signed_Decides}
use Rattle.std.proofs.lemmas.List.{length-map, get_or-map}
use Rattle.std.proofs.lemmas.Option.{slice_get-get_or}
use Rattle.base_row_laws.specs.Bags.{IsIdentity, has, each_once}
use Rattle.base_row_laws.specs.Numbers.{place_in, numbers_of}
use Rattle.base_row_laws.proofs.NumberLists.{has_there}
use Rattle.base_key_tables.proofs.NumberSteps.{has_each_once}
use Rattle.base_value.specs.declared.value.Value.{Value}
use Rattle.base_value.specs.declared.value.Value.TheVariants.{Null, Number, Date, Text}
use Rattle.base_value.specs.contracts.value.ValuePartialEq.TheImpl.{eq-value}
use Rattle.base_value.proofs.Identity.{same_value_is, value_eq_decides}
use Rattle.base_columns.specs.Lists.{gathered, AreBelow}
use Rattle.exec_row_keys.specs.Keys.{Tells, same_at, AreCodes}

-- numbers of one scale are identical where their coefficients are
pub number_codes : (scale : ℕ) (ns : List ℤ) → AreCodes (map (Number scale) ns) ns
number_codes scale ns =
    let n : length (map (Number scale) ns) ≡ length ns = length-map ns (Number scale) in
    let s : (scale == scale) ≡ true = eq-eqb scale scale refl in
    record {
      long = sym n;
      tells = λ i j d e l m.
          let a : get_or (map (Number scale) ns) i Null ≡ Number scale (get_or ns i d) = get_or-map (Number scale) ns i d Null (omega (arith, n, l)) in
          let b : get_or (map (Number scale) ns) j Null ≡ Number scale (get_or ns j e) = get_or-map (Number scale) ns j e Null (omega (arith, n, m)) in
          rw (a, b, s) refl;
    }

-- dates likewise
same_numbers : (a b : ℕ) → int_eq (pos a) (pos b) ≡ (a == b)
same_numbers a b = same_from_decides _ _ (signed_Decides (pos a) (pos b)) (λ t. ap pos ((Decides-eqb a b).0 t), λ e. (Decides-eqb a b).1 (let f : a ≡ b = cc in f))

pub date_codes : (ds : List ℕ) → AreCodes (map Date ds) (map pos ds)
date_codes ds =
    let n : length (map Date ds) ≡ length ds = length-map ds Date in
    let p : length (map pos ds) ≡ length ds = length-map ds pos in
    record {
      long = p ∙ sym n;
      tells = λ i j d e l m.
          let li : i < length ds = omega (arith, n, l) in
          let lj : j < length ds = omega (arith, n, m) in
          let a : get_or (map Date ds) i Null ≡ Date (get_or ds i 0) = get_or-map Date ds i 0 Null li in
          let b : get_or (map Date ds) j Null ≡ Date (get_or ds j 0) = get_or-map Date ds j 0 Null lj in
          let x : get_or (map pos ds) i d ≡ pos (get_or ds i 0) = get_or-map pos ds i 0 d li in
          let y : get_or (map pos ds) j e ≡ pos (get_or ds j 0) = get_or-map pos ds j 0 e lj in
          rw (a, b, x, y) (same_numbers (get_or ds i 0) (get_or ds j 0));
    }

pub date_codes_are : (ds : List ℕ) (codes : List ℤ) → codes ≡ map pos ds → AreCodes (map Date ds) codes
date_codes_are ds codes e =
    let A : List ℤ → Type 0 = λ cs. AreCodes (map Date ds) cs in subst A (sym e) (date_codes ds)

-- numbers of elements tell them apart
module _ {X : Type 0} (same : X → X → Bool) (is : IsIdentity same) where
  place_there : (ds : List X) (x : X) → has same x ds ≡ true → slice_get ds (place_in same ds x) ≡ Some x
  place_there [] x h = absurd (true≢false (sym h))
  place_there (d ∷ ds) x h = elim (cases_Bool (same x d)) [
    | inl t ↦ rw t (ap (λ z. Some z) (sym (is.tells x d t)))
    | inr f ↦ (let h' : has same x ds ≡ true = rw f at h in rw f (place_there ds x h'))
  ]

  same_places : (ds : List X) (x y : X) → has same x ds ≡ true → has same y ds ≡ true → nat_eq (place_in same ds x) (place_in same ds y) ≡ same x y
  same_places ds x y hx hy = elim (cases_Bool (same x y)) [
    | inl t ↦ (let e : place_in same ds x ≡ place_in same ds y = ap (place_in same ds) (is.tells x y t) in
        eq-eqb (place_in same ds x) (place_in same ds y) e ∙ sym t)
    | inr f ↦ (let apart : place_in same ds x ≡ place_in same ds y → ⊥ = λ e.
        let one : Some x ≡ Some y = sym (place_there ds x hx) ∙ ap (slice_get ds) e ∙ place_there ds y hy in
        let xy : x ≡ y = cc in true≢false (sym (is.meets x) ∙ ap (same x) xy ∙ f) in
        ne_eqb (place_in same ds x) (place_in same ds y) apart ∙ sym f)
  ]

  pub numbers_tell : (none : X) (xs : List X) → Tells nat_eq (same_at same none xs) (length xs) (numbers_of same xs)
  numbers_tell none xs =
      let ds : List X = each_once same xs in
      let there : (i : ℕ) → i < length xs → has same (get_or xs i none) ds ≡ true =
      λ i l. has_each_once same is (get_or xs i none) xs ∙ has_there same is xs (get_or xs i none) i (slice_get-get_or xs i none l) in
      record {
        long = length-map xs (place_in same ds);
        tells = λ i j d e l m.
            let a : get_or (numbers_of same xs) i d ≡ place_in same ds (get_or xs i none) = get_or-map (place_in same ds) xs i none d l in
            let b : get_or (numbers_of same xs) j e ≡ place_in same ds (get_or xs j none) = get_or-map (place_in same ds) xs j none e m in
            rw (a, b) (same_places ds (get_or xs i none) (get_or xs j none) (there i l) (there j m));
      }

-- the same numbers with a sign
pub wide_tells : (alike : ℕ → ℕ → Bool) (n : ℕ) (ns : List ℕ) → Tells nat_eq alike n ns → Tells int_eq alike n (map pos ns)
wide_tells alike n ns t =
    let p : length (map pos ns) ≡ length ns = length-map ns pos in
    let long = t.long in
    record {
      long = p ∙ t.long;
      tells = λ i j d e l m.
          let x : get_or (map pos ns) i d ≡ pos (get_or ns i 0) = get_or-map pos ns i 0 d (omega (arith, long, l)) in
          let y : get_or (map pos ns) j e ≡ pos (get_or ns j 0) = get_or-map pos ns j 0 e (omega (arith, long, m)) in
          rw (x, y) (same_numbers (get_or ns i 0) (get_or ns j 0) ∙ t.tells i j 0 0 l m);
    }

-- the derived test of values is their identity
pub derived_identity : IsIdentity eq-value.it
derived_identity = record {
  meets = λ x. (value_eq_decides x x).1 refl;
  tells = λ x y. (value_eq_decides x y).0;
}

pub value_codes : (values : List Value) (ns : List ℕ) (codes : List ℤ) → ns ≡ numbers_of eq-value.it values → codes ≡ map pos ns → AreCodes values codes
value_codes values ns codes e f =
    let t = numbers_tell eq-value.it derived_identity Null values in
    let w = wide_tells (same_at eq-value.it Null values) (length values) (numbers_of eq-value.it values) t in
    let is : codes ≡ map pos (numbers_of eq-value.it values) = f ∙ ap (map pos) e in
    record {
      long = ap length is ∙ w.long;
      tells = λ i j d e l m. rw is (w.tells i j d e l m ∙ same_value_is (get_or values i Null) (get_or values j Null));
    }

-- texts by their places in a dictionary
pub text_codes : (dictionary : List (List ℕ)) (places : List ℕ) (numbered codes : List ℤ) → AreBelow (length dictionary) places
    → AreCodes (map Text dictionary) numbered → codes ≡ map (λ p. get_or numbered p (pos 0)) places
    → AreCodes (map Text (gathered [] dictionary places)) codes
text_codes dictionary places numbered codes below are is =
    let texts : List (List ℕ) = gathered [] dictionary places in
    let nt : length texts ≡ length places = length-map places (λ p. get_or dictionary p []) in
    let nv : length (map Text texts) ≡ length texts = length-map texts Text in
    let nc : length codes ≡ length places = ap length is ∙ length-map places (λ p. get_or numbered p (pos 0)) in
    let nd : length (map Text dictionary) ≡ length dictionary = length-map dictionary Text in
    let value : (i : ℕ) → i < length places → get_or (map Text texts) i Null ≡ get_or (map Text dictionary) (get_or places i 0) Null =
    λ i l. get_or-map Text texts i [] Null (omega (arith, nt, l)) ∙ ap Text (get_or-map (λ p. get_or dictionary p []) places i 0 [] l)
    ∙ sym (get_or-map Text dictionary (get_or places i 0) [] Null (below i 0 l)) in
    let code : (i : ℕ) (d : ℤ) → i < length places → get_or codes i d ≡ get_or numbered (get_or places i 0) (pos 0) =
    λ i d l. ap (λ cs. get_or cs i d) is ∙ get_or-map (λ p. get_or numbered p (pos 0)) places i 0 d l in
    record {
      long = nc ∙ sym (nv ∙ nt);
      tells = λ i j d e l m.
          let li : i < length places = omega (arith, nv, nt, l) in
          let lj : j < length places = omega (arith, nv, nt, m) in
          let bi : get_or places i 0 < length (map Text dictionary) = (let b = below i 0 li in omega (arith, nd, b)) in
          let bj : get_or places j 0 < length (map Text dictionary) = (let b = below j 0 lj in omega (arith, nd, b)) in
          rw (code i d li, code j e lj, value i li, value j lj) (are.tells (get_or places i 0) (get_or places j 0) (pos 0) (pos 0) bi bj);
    }
