-- Lemmas on batches, one after the other.
use Rattle.std.proofs.Common.{◌≡◌, ℕ, ◌+◌, ◌<◌, ◌≤◌, List, [], ◌∷◌, ◌++◌, zero, suc, refl, sym, ap, ◌∙◌, subst, length, map, arith, take, drop, get_or, length-append}
use Rattle.std.specs.List.{All}
use Rattle.std.proofs.lemmas.List.{map-append, append-nil, take_more, get_or_default}
use Rattle.std.proofs.lemmas.List.Elements.{All-push}
use Rattle.base_row_laws.specs.Ranked.{Ranked, ranked, Relation, true_rank}
use Rattle.base_value.specs.declared.value.Value.{Value}
use Rattle.base_value.specs.declared.truth.Standing.{Standing}
use Rattle.base_value.specs.declared.value.Value.TheVariants.{Null}
use Rattle.base_value.specs.Truth.{standing_rank}
use Rattle.base_columns.specs.Batches.{column_at}
use Rattle.base_columns.specs.Lists.{one_list}
use Rattle.base_columns.specs.Tables.{standing_rows}
use Rattle.base_columns.specs.Bags.{bag_rows, bag_relation, AreWide}
use Rattle.base_columns.proofs.RowLists.{one_list-push, one_list-more, one_list-parts, length-one_list-more, row_found}

pub bag-width : (n : ℕ) (bs : List (Relation Value)) → (bag_relation n bs).width ≡ n
unfolding bag_relation
bag-width n bs = refl

pub bag-rows : (n : ℕ) (bs : List (Relation Value)) → (bag_relation n bs).rows ≡ bag_rows bs
unfolding bag_relation
bag-rows n bs = refl

pub bag_rows-push : (bs : List (Relation Value)) (b : Relation Value) → bag_rows (bs ++ b ∷ []) ≡ bag_rows bs ++ b.rows
bag_rows-push bs b = ap one_list (map-append (λ x. x.rows) bs (b ∷ [])) ∙ one_list-push (map (λ x. x.rows) bs) b.rows

pub bag_length-push : (bs : List (Relation Value)) (b : Relation Value) → length (bag_rows (bs ++ b ∷ [])) ≡ length (bag_rows bs) + length b.rows
bag_length-push bs b = ap length (bag_rows-push bs b) ∙ length-append (bag_rows bs) b.rows

pub wide-push : (n : ℕ) (bs : List (Relation Value)) (b : Relation Value) → AreWide n bs → b.width ≡ n → AreWide n (bs ++ b ∷ [])
wide-push n bs b h e = All-push (λ x. x.width ≡ n) bs b h e

-- the width of a segment of rows that have one
pub segment_wide : (rows : List (List Value)) (xss : List (List (List Value))) (k n w : ℕ) (xs : List (List Value)) → rows ≡ one_list xss → All (λ row. length row ≡ n) rows
    → k < length xss → xs ≡ get_or xss k xs → 0 < length xs → All (λ row. length row ≡ w) xs → w ≡ n
segment_wide rows xss k n w xs e h l x s a =
    let start = length (one_list (take k xss)) in
    let f : get_or rows start [] ≡ get_or xs 0 [] = row_found rows xss [] k start 0 xs e l (omega arith) s x in
    let parts : length (one_list (take k xss)) + length xs ≤ length rows =
    omega (arith, ap length e, ap length (one_list-parts xss (k + 1)), length-append (one_list (take (k + 1) xss)) (one_list (drop (k + 1) xss)), length-one_list-more xss k l, ap length (x ∙ get_or_default xss k xs [] l)) in
    sym (a 0 [] s) ∙ ap length (sym f) ∙ h start [] (omega (arith, parts, s))

-- standings of lists, one after the other
pub standing-append : (xs ys : List (List Value)) → standing_rows (xs ++ ys) ≡ standing_rows xs ++ standing_rows ys
standing-append xs ys = map-append (λ values. ranked values true_rank) xs ys

-- a batch more of a walk
pub bag_rows-more : (bs : List (Relation Value)) (i : ℕ) (b : Relation Value) → i < length bs → b ≡ get_or bs i b → bag_rows (take (i + 1) bs) ≡ bag_rows (take i bs) ++ b.rows
bag_rows-more bs i b h e = ap bag_rows (take_more bs i b h) ∙ bag_rows-push (take i bs) (get_or bs i b) ∙ ap (λ (x : Relation Value). bag_rows (take i bs) ++ x.rows) (sym e)

pub column_more : (bs : List (Relation Value)) (i j : ℕ) (b : Relation Value) (whole new one : List Value) → i < length bs → b ≡ get_or bs i b → whole ≡ column_at (bag_rows (take i bs)) j
    → one ≡ column_at b.rows j → new ≡ whole ++ one → new ≡ column_at (bag_rows (take (i + 1) bs)) j
column_more bs i j b whole new one h e w o n =
    n ∙ ap (λ vs. vs ++ one) w ∙ ap (λ vs. column_at (bag_rows (take i bs)) j ++ vs) o
    ∙ sym (ap (λ rows. column_at rows j) (bag_rows-more bs i b h e) ∙ map-append (λ (r : Ranked Value). get_or r.values j Null) (bag_rows (take i bs)) b.rows)

pub standings_more : (bs : List (Relation Value)) (i : ℕ) (b : Relation Value) (whole new one : List Standing) → i < length bs → b ≡ get_or bs i b
    → map standing_rank whole ≡ map (λ (r : Ranked Value). r.standing) (bag_rows (take i bs)) → map standing_rank one ≡ map (λ (r : Ranked Value). r.standing) b.rows → new ≡ whole ++ one
    → map standing_rank new ≡ map (λ (r : Ranked Value). r.standing) (bag_rows (take (i + 1) bs))
standings_more bs i b whole new one h e w o n =
    let F : Ranked Value → ℕ = λ r. r.standing in
    ap (map standing_rank) n ∙ map-append standing_rank whole one ∙ ap (λ ns. ns ++ map standing_rank one) w ∙ ap (λ ns. map F (bag_rows (take i bs)) ++ ns) o
    ∙ sym (ap (map F) (bag_rows-more bs i b h e) ∙ map-append F (bag_rows (take i bs)) b.rows)

-- what a bag keeps as a batch comes
pub bag_kept : (n count : ℕ) (bs new : List (Relation Value)) (b : Relation Value) → AreWide n bs → All (λ r. length r.values ≡ n) (bag_rows bs) → b.width ≡ n
    → All (λ r. length r.values ≡ b.width) b.rows → count ≡ length (bag_rows bs) + length b.rows → new ≡ bs ++ b ∷ []
    → AreWide n new × (count ≡ length (bag_rows new)) × All (λ r. length r.values ≡ n) (bag_rows new)
bag_kept n count bs new b w a e h c f = (
  subst (AreWide n) (sym f) (wide-push n bs b w e),
  c ∙ sym (bag_length-push bs b) ∙ ap (λ xs. length (bag_rows xs)) (sym f),
  subst (λ xs. All (λ (r : Ranked Value). length r.values ≡ n) (bag_rows xs)) (sym f)
      (subst (All (λ (r : Ranked Value). length r.values ≡ n)) (sym (bag_rows-push bs b)) (both (bag_rows bs) b.rows a (λ k d l. h k d l ∙ e))),
)
  where
    both : (xs ys : List (Ranked Value)) → All (λ r. length r.values ≡ n) xs → All (λ r. length r.values ≡ n) ys → All (λ r. length r.values ≡ n) (xs ++ ys)
    both [] ys p q k d l = q k d l
    both (x ∷ xs) ys p q zero d l = p 0 d (omega arith)
    both (x ∷ xs) ys p q (suc k) d l = both xs ys (λ j o m. p (suc j) o (omega (arith, m))) q k d (omega (arith, l))

-- a bag of one batch
pub one_batch : (bs : List (Relation Value)) (b : Relation Value) → length bs ≡ 1 → b ≡ get_or bs 0 b → bag_rows bs ≡ b.rows
one_batch [] b e f = absurd (omega (arith, e))
one_batch (x ∷ []) b e f = append-nil x.rows ∙ ap (λ (r : Relation Value). r.rows) (sym f)
one_batch (x ∷ y ∷ bs) b e f = absurd (omega (arith, e))

pub ruleset bags = (one_list-more, standing-append, bag_length-push, wide-push, bag-width, bag-rows, bag_rows-push)
