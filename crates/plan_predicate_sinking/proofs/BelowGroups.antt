-- A selection above groups is one below them, where it reads keys only.
use Rattle.std.proofs.Common.{◌≡◌, ℕ, ◌+◌, List, [], ◌∷◌, ◌++◌, map, refl, sym, ◌∙◌, ap, subst}
use Rattle.std.proofs.Common.{length, slice_index_or}
use Rattle.std.specs.Prelude.{min}
use Rattle.std.specs.List.{All}
use Rattle.std.proofs.lemmas.List.{append_assoc, append-nil, length-append, length-map}
use Rattle.base_row_laws.specs.Ranked.{Ranked}
use Rattle.base_row_laws.specs.Bags.{SameBag, Each}
use Rattle.base_row_laws.specs.Rows.{after, lowered}
use Rattle.base_row_laws.specs.Operators.{select, group_by}
use Rattle.base_row_laws.specs.StandingLaws.{Stands}
use Rattle.base_row_laws.proofs.Bags.{SameBag-sym, SameBag-trans}
use Rattle.base_row_laws.proofs.Lists.{Each-all}
use Rattle.base_row_laws.proofs.Alike.{select_alike}
use Rattle.base_row_laws.proofs.AtHand.{select_at_hand}
use Rattle.base_row_laws.proofs.Moves.{select_twice}
use Rattle.base_row_laws.proofs.Below.{select_below_group}
use Rattle.base_value.specs.Value.{same_value}
use Rattle.base_value.specs.declared.value.Value.{Value}
use Rattle.base_value.specs.declared.value.Value.TheVariants.{Null}
use Rattle.base_value.proofs.Identity.{value_identity}
use Rattle.expr_scalar.specs.declared.expr.Expr.{Expr}
use Rattle.expr_scalar.specs.declared.expr.Expr.TheVariants as e
use Rattle.expr_scalar.specs.Meaning.{values}
use Rattle.expr_scalar.proofs.Opened.{value_Column}
use Rattle.expr_conditions.specs.Ranks.{all_rank, all_say, says, ReadsBelow}
use Rattle.plan_algebra.specs.declared.aggregate.Aggregate.{Aggregate}
use Rattle.plan_algebra.specs.declared.tree.DepTree.{DepTree}
use Rattle.plan_algebra.specs.declared.tree.DepTree.TheVariants as t
use Rattle.plan_algebra.specs.Aggregates.{aggregates_of, argument_and_function}
use Rattle.plan_algebra.specs.Trees.{tree_rows, listed, keys_under, aggregates_under, groups_under}
use Rattle.plan_algebra.proofs.Opened.{width_Select, width_Group, rows_Select, rows_Group, scans_Select}
use Rattle.plan_algebra.proofs.Opened.{scans_Group}
use Rattle.plan_predicate_sinking.specs.Arranged.{SameRows}
use Rattle.plan_predicate_sinking.specs.Below.{AreLowered, SinkBelowGroups}
use Rattle.plan_predicate_sinking.specs.Selected.{IsSelected}
use Rattle.plan_predicate_sinking.specs.Sink.{Sinks}
use Rattle.plan_predicate_sinking.proofs.Apart.{selected_none}
use Rattle.plan_predicate_sinking.proofs.Conditions.{all_is, ranks_at_hand}
use Rattle.plan_predicate_sinking.proofs.Good.{tree_is_good}
use Rattle.plan_predicate_sinking.proofs.SameNodes.{alike, same_select, same_group, under_bag}
use Rattle.plan_predicate_sinking.proofs.Scans.{same_list}
use Rattle.plan_predicate_sinking.proofs.Sinking.{trans, sunk_over, selected_same}

sym_rows : (n : ℕ) (a b : DepTree) → SameRows n a b → SameRows n b a
sym_rows n a b s = record {
  scans = SameBag-sym s.scans;
  width = sym s.width;
  rows = λ db d k ld. SameBag-sym (s.rows db d k ld);
}

-- aggregates don't read standings
argument_blind : (x : Aggregate) (d : List Value) (q : List Value → ℕ) (ys : List (Ranked Value))
    → map (λ (z : Ranked Value). (argument_and_function x).0 z.values)
    (map (after d) (map (lowered q) ys))
    ≡ map (λ (z : Ranked Value). (argument_and_function x).0 z.values) (map (after d) ys)
argument_blind x d q [] = refl
argument_blind x d q (y ∷ ys) =
    ap (λ l. (argument_and_function x).0 (d ++ y.values) ∷ l) (argument_blind x d q ys)

blind : (xs : List Aggregate) (d : List Value) (q : List Value → ℕ) (ys : List (Ranked Value))
    → aggregates_under xs d (map (lowered q) ys) ≡ aggregates_under xs d ys
unfolding aggregates_under aggregates_of
blind [] d q ys = refl
blind (x ∷ xs) d q ys =
    ap (λ l. (argument_and_function x).1 l ∷ aggregates_under xs d (map (lowered q) ys))
    (argument_blind x d q ys)
    ∙ ap (λ l. (argument_and_function x).1
    (map (λ (z : Ranked Value). (argument_and_function x).0 z.values) (map (after d) ys)) ∷ l)
    (blind xs d q ys)

keys_length : (by : List ℕ) (d x : List Value) → length (keys_under by d x) ≡ length by
unfolding keys_under
keys_length by d x = length-map by (λ i. slice_index_or (d ++ x) i Null)

-- groups under conditions that read the domain's columns and the keys only
below_groups : (by : List ℕ) (xs : List Aggregate) (n : ℕ) (d : List Value) (moved : List Expr)
    (ys : List (Ranked Value)) → length d ≡ n → All (ReadsBelow (n + length by)) moved
    → Each Stands ys
    → SameBag (select (λ r. all_rank moved (d ++ r))
    (group_by same_value (keys_under by d) (aggregates_under xs d) ys))
    (group_by same_value (keys_under by d) (aggregates_under xs d)
    (select (λ r. all_rank moved (d ++ keys_under by d r)) ys))
below_groups by xs n d moved ys ld within stands =
    let M : List Value → ℕ = λ r. all_rank moved (d ++ r) in
    select_below_group same_value value_identity (keys_under by d) (aggregates_under xs d) M M ys
    (Each-all (λ x. (us : List (Ranked Value))
    → M (keys_under by d x.values ++ aggregates_under xs d us) ≡ M (keys_under by d x.values)) ys
    (λ x us.
    let u = keys_under by d x.values in
    let l : length (d ++ u) ≡ n + length by =
    length-append d u ∙ ap (λ c. c + length u) ld ∙ ap (λ c. n + c) (keys_length by d x.values) in
    ap (all_rank moved) (sym (append_assoc d u (aggregates_under xs d us)))
    ∙ ranks_at_hand (d ++ u) (aggregates_under xs d us) moved
    (subst (λ c. All (ReadsBelow c) moved) (sym l) within)))
    (λ q us. blind xs d q us) (under_bag xs d) stands

-- keys as a select list
keys_are : (by : List ℕ) (d r : List Value) → listed (map e.Column by) d r ≡ keys_under by d r
unfolding listed values keys_under
keys_are [] d r = refl
keys_are (b ∷ bs) d r = ap (λ v. v ∷ values (map e.Column bs) (d ++ r)) (value_Column b (d ++ r))
    ∙ ap (λ l. slice_index_or (d ++ r) b Null ∷ l) (keys_are bs d r)

groups_law : (n : ℕ) (a : DepTree) (b : ℕ) (bs : List ℕ) (xs : List Aggregate)
    (conditions below above : List Expr)
    → AreLowered n (map e.Column (b ∷ bs)) conditions below above
    → SameRows n (t.Select (t.Group a (b ∷ bs) xs) (e.All conditions))
    (t.Select (t.Group (t.Select a (e.All below)) (b ∷ bs) xs) (e.All above))
unfolding all_say
groups_law n a b bs xs conditions below above l =
    let by = b ∷ bs in
    let S = t.Select a (e.All below) in
    record {
      scans = same_list (scans_Select (t.Group a by xs) (e.All conditions) ∙ scans_Group a by xs
          ∙ sym (scans_Select a (e.All below)) ∙ sym (scans_Group S by xs)
          ∙ sym (scans_Select (t.Group S by xs) (e.All above)));
      width = width_Select (t.Group a by xs) (e.All conditions) ∙ width_Group a by xs
          ∙ sym (width_Group S by xs) ∙ sym (width_Select (t.Group S by xs) (e.All above));
      rows = λ db d k ld.
          let T = tree_rows a db d in
          let G = groups_under by xs d in
          let P = says (e.All conditions) d in
          let B = says (e.All below) d in
          let A = says (e.All above) d in
          let M : List Value → ℕ = λ r. all_rank l.moved (d ++ r) in
          let key = keys_under by d in
          let within : All (ReadsBelow (n + length by)) l.moved =
          subst (λ c. All (ReadsBelow (n + c)) l.moved) (length-map by e.Column) l.split.within in
          let parted : select P (G T) ≡ select (λ r. min (M r) (A r)) (G T) =
          select_at_hand P (λ r. min (M r) (A r)) (G T)
          (Each-all (λ x. P x.values ≡ min (M x.values) (A x.values)) (G T)
          (λ x. sym (all_is conditions d x.values) ∙ sym (l.split.says (d ++ x.values))
          ∙ ap (λ c. min (M x.values) c) (all_is above d x.values))) in
          let at : (r : List Value) → M (key r) ≡ B r =
          λ r. ap (λ q. all_rank l.moved (d ++ q)) (sym (append-nil (key r)))
          ∙ ap (λ q. all_rank l.moved (d ++ (q ++ []))) (sym (keys_are by d r))
          ∙ sym (l.reads d r [] ld) ∙ all_is below d r in
          let rows_below : select (λ r. M (key r)) T ≡ select B T =
          select_at_hand (λ r. M (key r)) B T
          (Each-all (λ x. M (key x.values) ≡ B x.values) T (λ x. at x.values)) in
          let moves : SameBag (select M (G T)) (G (select B T)) =
          subst (λ ys. SameBag (select M (G T)) (G ys)) rows_below
          (below_groups by xs n d l.moved T ld within (tree_is_good a db d k).stands) in
          alike (rows_Select (t.Group a by xs) (e.All conditions) db d
          ∙ ap (select P) (rows_Group a by xs db d) ∙ parted)
          (rows_Select (t.Group S by xs) (e.All above) db d
          ∙ ap (select A) (rows_Group S by xs db d ∙ ap G (rows_Select a (e.All below) db d)))
          (SameBag-trans (SameBag-sym (select_twice M A (G T)))
          (select_alike A (select M (G T)) (G (select B T)) moves));
    }

pub groups_lowered : (n : ℕ) (by : List ℕ) (es es1 conditions seen below above : List Expr)
    → (by ≡ [] → ⊥) → es ≡ map e.Column by → es1 ≡ es → seen ≡ conditions
    → AreLowered n es1 seen below above
    → SinkBelowGroups n by conditions below above
groups_lowered n [] es es1 conditions seen below above some is ie ic l = absurd (some refl)
groups_lowered n (b ∷ bs) es es1 conditions seen below above some is ie ic l = record {
  same = λ a xs. groups_law n a b bs xs conditions below above
      (subst (λ k. AreLowered n k conditions below above) (ie ∙ is)
      (subst (λ k. AreLowered n es1 k below above) ic l));
}

pub groups_whole : (n : ℕ) (by : List ℕ) (conditions below : List Expr) → below ≡ []
    → SinkBelowGroups n by conditions below conditions
groups_whole n by conditions below none =
    subst (λ k. SinkBelowGroups n by conditions k conditions) (sym none) (record {
      same = λ a xs.
          let S = t.Select a (e.All []) in
          same_select n (t.Group a by xs) (t.Group S by xs) (e.All conditions)
          (same_group n a S by xs (sym_rows n S a
          (selected_same n a a [] (selected_none a [] refl))));
    })

pub sunk_groups : (n : ℕ) (tree a a1 child made new : DepTree) (by by1 by2 : List ℕ)
    (xs ys : List Aggregate) (conditions below above : List Expr) → tree ≡ t.Group a by xs
    → by1 ≡ by
    → SinkBelowGroups n by1 conditions below above → a1 ≡ a → Sinks n a1 below child → by2 ≡ by
    → ys ≡ xs → made ≡ t.Group child by2 ys → IsSelected made above new
    → Sinks n tree conditions new
sunk_groups n tree a a1 child made new by by1 by2 xs ys conditions below above is ib low ia s ib2 ix
    made_is sel =
    let g : SinkBelowGroups n by conditions below above =
    subst (λ k. SinkBelowGroups n k conditions below above) ib low in
    let B = t.Select a (e.All below) in
    let same : SameRows n (t.Group B by xs) made =
    subst (λ y. SameRows n (t.Group B by xs) y)
    (sym (made_is ∙ ap (λ (k : List ℕ). t.Group child k ys) ib2
    ∙ ap (λ (k : List Aggregate). t.Group child by k) ix))
    (same_group n B child by xs (subst (λ y. Sinks n y below child) ia s)) in
    subst (λ y. Sinks n y conditions new) (sym is)
    (trans n (t.Select (t.Group a by xs) (e.All conditions))
    (t.Select (t.Group B by xs) (e.All above)) new (g.same a xs)
    (sunk_over n (t.Group B by xs) made new above same sel))
