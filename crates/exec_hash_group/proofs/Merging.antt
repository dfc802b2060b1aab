-- What accumulators have taken by numbers, and what they have once they are merged.
use Rattle.std.proofs.Common.{◌≡◌, ℕ, zero, suc, ◌+◌, ◌*◌, ◌<◌, ◌≤◌, ◌^◌, List, [], ◌∷◌, ◌++◌, Bool, true, false, cond, map, refl, sym, ◌∙◌, ap, subst, arith, inl, inr, length, take, get_or, append-nil, Some, None}
use Rattle.std.specs.Prelude.{slice_get, nat_eq}
use Rattle.std.proofs.lemmas.Bool.{cases_Bool, eqb-true, eqb-false}
use Rattle.std.proofs.lemmas.List.{take_all, length-append, length-map, get_or-map, same_lists}
use Rattle.std.proofs.lemmas.Option.{slice_get_within, slice_get_cases, slice_get-get_or}
use Rattle.base_row_laws.specs.TableLaws.{with_number}
use Rattle.base_value.specs.declared.value.Value.{Value}
use Rattle.exec_accumulators.specs.Accumulators.{OfValues}
use Rattle.base_columns.specs.Lists.{one_list}
use Rattle.base_columns.proofs.RowLists.{one_list-push}
use Rattle.exec_hash_group.specs.ByNumber.{values_by_number, AreValues}
use Rattle.exec_hash_group.specs.Regrouping.{lists_by_number}
use Rattle.exec_hash_group.specs.States.{HaveTaken, MergedAt}
use Rattle.exec_hash_group.proofs.Regrouped.{lists_at, lists-length}
use Rattle.exec_hash_group.proofs.Steps.{Taken, with_more}

-- aggregates of the lists
pub values_lists : (aggregate : OfValues) (numbers : List ℕ) (values : List Value) (n count : ℕ) → map aggregate (lists_by_number numbers values n count) ≡ values_by_number aggregate numbers values n count
values_lists aggregate numbers values n zero = refl
values_lists aggregate numbers values n (suc count) = ap (λ l. aggregate (with_number numbers values n) ∷ l) (values_lists aggregate numbers values (suc n) count)

kept_get : {X : Type 0} (xs : List X) (x : X) (j : ℕ) (y : X) → slice_get xs j ≡ Some y → slice_get (xs ++ x ∷ []) j ≡ Some y
kept_get [] x j y e = absurd (let e' : None ≡ Some y = e in cc)
kept_get (z ∷ xs) x zero y e = e
kept_get (z ∷ xs) x (suc j) y e = kept_get xs x j y e

pub get_mid : {X : Type 0} (xs : List X) (x : X) (ys : List X) → slice_get (xs ++ x ∷ ys) (length xs) ≡ Some x
get_mid [] x ys = refl
get_mid (z ∷ xs) x ys = get_mid xs x ys

pushed_lists : (b : Bool) (ls : List (List Value)) (vs : List Value) → one_list (ls ++ cond b (vs ∷ []) []) ≡ one_list ls ++ cond b vs []
pushed_lists true ls vs = one_list-push ls vs
pushed_lists false ls vs = ap one_list (append-nil ls) ∙ sym (append-nil (one_list ls))

module _ {S : Type 0} (has_taken : S → OfValues → List Value → Type 0) (terms : S → ℕ) where
  -- what accumulators have at the end of the rows
  pub taken_lists : (start now : List S) (numbers : List ℕ) (values : List Value) (row : ℕ) (aggregate : OfValues) → length numbers ≤ row → length values ≤ row → row < 2 ^ 32
      → Taken has_taken terms start now numbers values row → ((i : ℕ) (s : S) → slice_get start i ≡ Some s → has_taken s aggregate [])
      → HaveTaken has_taken terms aggregate (lists_by_number numbers values 0 (length start)) now
  taken_lists start now numbers values row aggregate ln lv small t h = record {
    count = t.count ∙ sym (lists-length numbers values 0 (length start));
    few = λ i s e. let a = t.few i s e in omega (arith, a, small);
    taken = λ i s e.
        let w = slice_get_within now i s e in
        let c = t.count in
        let z : 0 + i ≡ i = omega arith in
        let at : get_or (lists_by_number numbers values 0 (length start)) i [] ≡ with_number numbers values i =
        lists_at numbers values 0 (length start) i [] (omega (arith, w, c)) ∙ ap (with_number numbers values) z in
        let all : with_number (take row numbers) (take row values) i ≡ with_number numbers values i =
        ap (λ l. with_number l (take row values) i) (take_all row numbers ln) ∙ ap (λ l. with_number numbers l i) (take_all row values lv) in
        let H : List Value → Type 0 = λ l. has_taken s aggregate l in
        subst H (all ∙ sym at) (t.taken aggregate h i s e);
  }

  -- the values of accumulators
  pub taken_values : (states : List S) (values : List Value) (lists : List (List Value)) (aggregate : OfValues) → AreValues has_taken states values → HaveTaken has_taken terms aggregate lists states
      → values ≡ map aggregate lists
  taken_values states values lists aggregate are t =
      let c = are.count in
      let m = t.count in
      let lm = length-map lists aggregate in
      same_lists values (map aggregate lists) (omega (arith, c, m, lm))
      (λ k d l. elim ((slice_get_cases states k).1) [
        | inl (s, within, at, read) ↦ are.value_at k s (get_or values k d) at (slice_get-get_or values k d l) aggregate (get_or lists k []) (t.taken k s at)
            ∙ sym (get_or-map aggregate lists k [] d (omega (arith, l, c, m)))
        | inr (past, at) ↦ absurd (omega (arith, past, l, c))
      ])

  -- what each accumulator has once these others were merged
  pub record Merged (start now : List S) (numbers : List ℕ) (parts : List S) : Type 0 where
    pub count : length now ≡ length start
    pub few : (i : ℕ) (s : S) → slice_get now i ≡ Some s → terms s ≤ length parts * 2 ^ 32
    pub taken : (aggregate : OfValues) (lists : List (List Value)) → ((i : ℕ) (s : S) → slice_get start i ≡ Some s → has_taken s aggregate []) → length parts ≤ length lists
        → ((j : ℕ) (s : S) → slice_get parts j ≡ Some s → has_taken s aggregate (get_or lists j []))
        → (i : ℕ) (s : S) → slice_get now i ≡ Some s → has_taken s aggregate (one_list (with_number (take (length parts) numbers) (take (length parts) lists) i))

  pub merged_none : (start : List S) (numbers : List ℕ) → ((i : ℕ) (s : S) → slice_get start i ≡ Some s → terms s ≡ 0) → Merged start start numbers []
  merged_none start numbers empty = record {
    count = refl;
    few = λ i s e. let z = empty i s e in omega (arith, z);
    taken = λ aggregate lists h le all i s e. h i s e;
  }

  pub merged_more : (start now then : List S) (numbers : List ℕ) (parts : List S) (x : S) (k : ℕ) → slice_get numbers (length parts) ≡ Some k → terms x < 2 ^ 32
      → Merged start now numbers parts → MergedAt has_taken terms k x now then → Merged start then numbers (parts ++ x ∷ [])
  merged_more start now then numbers parts x k is_k small before put =
      let r : ℕ = length parts in
      let longer : length (parts ++ x ∷ []) ≡ suc r = length-append parts (x ∷ []) ∙ (omega arith) in
      record {
        count = put.count ∙ before.count;
        few = λ i t e.
            let room : (n : ℕ) → n ≤ r * 2 ^ 32 + 2 ^ 32 → n ≤ length (parts ++ x ∷ []) * 2 ^ 32 = λ n l. subst (λ m. n ≤ m * 2 ^ 32) (sym longer) (omega (arith, l)) in
            elim (cases_Bool (nat_eq k i)) [
              | inl same ↦ (let j : k ≡ i = eqb-true k i same in
                  let there : slice_get then k ≡ Some t = ap (slice_get then) j ∙ e in
                  elim ((slice_get_cases now k).1) [
                    | inl (s, within, at, read) ↦ room (terms t) (let a = put.terms_at s t at there in let b = before.few k s at in omega (arith, a, b, small))
                    | inr (past, at) ↦ absurd (let w = slice_get_within then k t there in let c = put.count in omega (arith, w, past, c))
                  ])
              | inr other ↦ (let ne : i ≡ k → ⊥ = λ q. eqb-false k i other (sym q) in
                  room (terms t) (let b = before.few i t (sym (put.others i ne) ∙ e) in omega (arith, b)))
            ];
        taken = λ aggregate lists h le all i t e.
            let inside : r < length lists = omega (arith, le, longer) in
            let fewer : r ≤ length lists = omega (arith, inside) in
            let vs : List Value = get_or lists r [] in
            let is_v : slice_get lists r ≡ Some vs = slice_get-get_or lists r [] inside in
            let old : (j : ℕ) (s : S) → slice_get parts j ≡ Some s → has_taken s aggregate (get_or lists j []) = λ j s f. all j s (kept_get parts x j s f) in
            let own : has_taken x aggregate vs = all r x (get_mid parts x []) in
            let W : ℕ → List Value = λ n. one_list (with_number (take n numbers) (take n lists) i) in
            let grown : W (length (parts ++ x ∷ [])) ≡ W r ++ cond (nat_eq k i) vs [] =
            ap W longer ∙ ap one_list (with_more numbers lists i r k vs is_k is_v) ∙ pushed_lists (nat_eq k i) (with_number (take r numbers) (take r lists) i) vs in
            let H : List Value → Type 0 = λ l. has_taken t aggregate l in
            let G : Bool → Type 0 = λ b. has_taken t aggregate (W r ++ cond b vs []) in
            subst H (sym grown) (elim (cases_Bool (nat_eq k i)) [
              | inl same ↦ (let j : k ≡ i = eqb-true k i same in
                  let there : slice_get then k ≡ Some t = ap (slice_get then) j ∙ e in
                  subst G (sym same) (elim ((slice_get_cases now k).1) [
                    | inl (s, within, at, read) ↦ put.taken_at s t at there aggregate (W r) vs
                        (let I : ℕ → Type 0 = λ q. has_taken s aggregate (one_list (with_number (take r numbers) (take r lists) q)) in subst I j (before.taken aggregate lists h fewer old k s at)) own
                    | inr (past, at) ↦ absurd (let w = slice_get_within then k t there in let c = put.count in omega (arith, w, past, c))
                  ]))
              | inr other ↦ (let ne : i ≡ k → ⊥ = λ q. eqb-false k i other (sym q) in
                  subst G (sym other) (subst H (sym (append-nil (W r))) (before.taken aggregate lists h fewer old i t (sym (put.others i ne) ∙ e))))
            ]);
      }

  pub merged_room : (start now : List S) (numbers : List ℕ) (parts : List S) (x : S) → length parts < 2 ^ 32 → terms x < 2 ^ 32 → Merged start now numbers parts
      → (i : ℕ) (s : S) → slice_get now i ≡ Some s → terms s + terms x < 2 ^ 64
  merged_room start now numbers parts x small few m i s e = let a = m.few i s e in omega (arith, a, small, few)

  pub merged_all : (start now : List S) (numbers : List ℕ) (parts : List S) (values : List Value) (aggregate : OfValues) (lists : List (List Value)) → length numbers ≡ length parts
      → Merged start now numbers parts → AreValues has_taken now values → ((i : ℕ) (s : S) → slice_get start i ≡ Some s → has_taken s aggregate [])
      → HaveTaken has_taken terms aggregate lists parts → values ≡ map (λ ls. aggregate (one_list ls)) (lists_by_number numbers lists 0 (length start))
  merged_all start now numbers parts values aggregate lists ln m are h t =
      let f : List (List Value) → Value = λ ls. aggregate (one_list ls) in
      let L : List (List (List Value)) = lists_by_number numbers lists 0 (length start) in
      let r : ℕ = length parts in
      let c = are.count in
      let n = m.count in
      let many = t.count in
      let ll = lists-length numbers lists 0 (length start) in
      let lm = length-map L f in
      let le : length lists ≤ r = omega (arith, many) in
      let lr : length numbers ≤ r = omega (arith, ln) in
      same_lists values (map f L) (omega (arith, c, n, ll, lm))
      (λ k d l. elim ((slice_get_cases now k).1) [
        | inl (s, within, at, read) ↦ (let z : 0 + k ≡ k = omega arith in
            let lk : k < length start = omega (arith, l, c, n) in
            are.value_at k s (get_or values k d) at (slice_get-get_or values k d l) aggregate (one_list (with_number (take r numbers) (take r lists) k))
            (m.taken aggregate lists h (omega (arith, many)) t.taken k s at)
            ∙ ap (λ ns. f (with_number ns (take r lists) k)) (take_all r numbers lr) ∙ ap (λ ls. f (with_number numbers ls k)) (take_all r lists le)
            ∙ ap f (sym (lists_at numbers lists 0 (length start) k [] lk ∙ ap (with_number numbers lists) z))
            ∙ sym (get_or-map f L k [] d (omega (arith, lk, ll))))
        | inr (past, at) ↦ absurd (omega (arith, past, l, c))
      ])

  -- what the accumulators of several parts have, one after the other
  pub have_none : (aggregate : OfValues) → HaveTaken has_taken terms aggregate [] []
  have_none aggregate = record { count = refl; few = λ i s e. absurd (let e' : None ≡ Some s = e in cc); taken = λ i s e. absurd (let e' : None ≡ Some s = e in cc) }

  module _ (aggregate : OfValues) where
    cons_few : (s : S) (ss : List S) → terms s < 2 ^ 32 → ((i : ℕ) (t : S) → slice_get ss i ≡ Some t → terms t < 2 ^ 32) → (i : ℕ) (t : S) → slice_get (s ∷ ss) i ≡ Some t → terms t < 2 ^ 32
    cons_few s ss a rest zero t e = let h : s ≡ t = cc in let P : S → Type 0 = λ z. terms z < 2 ^ 32 in subst P h a
    cons_few s ss a rest (suc i) t e = rest i t e

    cons_taken : (l : List Value) (ls : List (List Value)) (s : S) (ss : List S) → has_taken s aggregate l → ((i : ℕ) (t : S) → slice_get ss i ≡ Some t → has_taken t aggregate (get_or ls i []))
        → (i : ℕ) (t : S) → slice_get (s ∷ ss) i ≡ Some t → has_taken t aggregate (get_or (l ∷ ls) i [])
    cons_taken l ls s ss a rest zero t e = let h : s ≡ t = cc in let P : S → Type 0 = λ z. has_taken z aggregate l in subst P h a
    cons_taken l ls s ss a rest (suc i) t e = rest i t e

    pub have_both : (ls ms : List (List Value)) (ss ts : List S) → HaveTaken has_taken terms aggregate ls ss → HaveTaken has_taken terms aggregate ms ts → HaveTaken has_taken terms aggregate (ls ++ ms) (ss ++ ts)
    have_both [] ms [] ts a b = b
    have_both [] ms (s ∷ ss) ts a b = absurd (let c = a.count in omega (arith, c))
    have_both (l ∷ ls) ms [] ts a b = absurd (let c = a.count in omega (arith, c))
    have_both (l ∷ ls) ms (s ∷ ss) ts a b =
        let tail : HaveTaken has_taken terms aggregate ls ss = record { count = (let c = a.count in omega (arith, c)); few = λ i t e. a.few (suc i) t e; taken = λ i t e. a.taken (suc i) t e } in
        let more = have_both ls ms ss ts tail b in
        record {
          count = ap suc more.count;
          few = cons_few s (ss ++ ts) (a.few 0 s refl) more.few;
          taken = cons_taken l (ls ++ ms) s (ss ++ ts) (a.taken 0 s refl) more.taken;
        }

    pub have_all : (lss : List (List (List Value))) (sss : List (List S)) → length lss ≡ length sss
        → ((n : ℕ) → n < length sss → HaveTaken has_taken terms aggregate (get_or lss n []) (get_or sss n [])) → HaveTaken has_taken terms aggregate (one_list lss) (one_list sss)
    have_all [] [] e each = have_none aggregate
    have_all [] (ss ∷ sss) e each = absurd (omega (arith, e))
    have_all (ls ∷ lss) [] e each = absurd (omega (arith, e))
    have_all (ls ∷ lss) (ss ∷ sss) e each =
        have_both ls (one_list lss) ss (one_list sss) (each 0 (omega arith)) (have_all lss sss (omega (arith, e)) (λ n l. each (suc n) (omega (arith, l))))
