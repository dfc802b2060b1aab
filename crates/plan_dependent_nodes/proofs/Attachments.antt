-- What is attached to the rows of a tree, one after the other.
use Rattle.std.proofs.Common.{◌≡◌, ℕ, ◌+◌, List, [], ◌∷◌, ◌++◌, map, refl, sym, ap, ◌∙◌, subst}
use Rattle.std.proofs.Common.{arith, length, min, max}
use Rattle.std.specs.Prelude.{slice_index_or}
use Rattle.std.proofs.lemmas.List.{append-nil, append_assoc, length-append}
use Rattle.std.proofs.Math.Seq.{get_or-append_seam}
use Rattle.base_row_laws.specs.Bags.{top}
use Rattle.base_row_laws.specs.Operators.{mark_of, attach_loop}
use Rattle.base_row_laws.specs.Ranked.{Ranked, ranked}
use Rattle.base_row_laws.proofs.Lists.{flat_map-single, Each-all}
use Rattle.base_value.specs.declared.value.Value.{Value}
use Rattle.base_value.specs.declared.value.Value.TheVariants.{Null}
use Rattle.plan_algebra.specs.Trees.{Occurrence}
use Rattle.base_schema.specs.State.{State, table_rows}
use Rattle.sql_bound_query.specs.Meaning.{Env}
use Rattle.sql_bound_query.specs.Typing.{StateIsOf}
use Rattle.plan_algebra.specs.declared.tree.DepTree.{DepTree}
use Rattle.plan_algebra.specs.Trees.{tree_rows, scans_of, width_of}
use Rattle.plan_dependent_nodes.specs.declared.sight.OuterColumn.{OuterColumn}
use Rattle.plan_dependent_nodes.specs.Growth.{Sees, Attaches, Reading, widened}
use Rattle.plan_dependent_nodes.proofs.Places.{sees_more}
use Rattle.plan_dependent_nodes.proofs.Widenings.{widened_twice, widened_none}

-- d and t with x and y after them, and z after all
regroup : (d t x y z : List Value) → (d ++ (t ++ (x ++ y))) ++ z ≡ (d ++ (t ++ x)) ++ (y ++ z)
regroup d t x y z =
    ap (λ v. (d ++ v) ++ z) (sym (append_assoc t x y))
    ∙ ap (λ v. v ++ z) (sym (append_assoc d (t ++ x) y)) ∙ append_assoc (d ++ (t ++ x)) y z

module _ (outer : List OuterColumn) (start w : ℕ) where
  -- nothing
  pub attaches_none : (P : Reading) (old : DepTree) (end : ℕ)
      → ((state : State) (env : Env) (r flat : List Value) → Sees outer start w env r flat
      → P state env r flat)
      → Attaches outer start w [] P old end old end
  attaches_none P old end h = record {
    scans = sym (append-nil (scans_of old));
    width = λ n e. e;
    adds = λ state d t. [];
    count = λ state d t. omega arith;
    rows = λ state d.
        sym (widened_none (λ t. []) (tree_rows old (table_rows state) d)
        (Each-all (λ (x : Ranked Value). [] ≡ []) (tree_rows old (table_rows state) d)
        (λ x. refl)));
    reads = λ state ok env d t r s e z.
        subst (λ v. P state env r ((d ++ v) ++ z)) (sym (append-nil t))
        (h state env r ((d ++ t) ++ z) (sees_more outer start w env r (d ++ t) z s));
  }

  -- the same of another fact, over another list of tables
  pub attaches_as : (more others : List Occurrence) (P Q : Reading) (old : DepTree) (end : ℕ)
      (new : DepTree) (last : ℕ) → Attaches outer start w more P old end new last
      → more ≡ others → ((state : State) (env : Env) (r flat : List Value) → P state env r flat
      → Q state env r flat) → Attaches outer start w others Q old end new last
  attaches_as more others P Q old end new last a e h = record {
    scans = a.scans ∙ ap (λ l. scans_of old ++ l) e;
    width = a.width;
    adds = a.adds;
    count = a.count;
    rows = a.rows;
    reads = λ state ok env d t r s k z.
        h state env r ((d ++ (t ++ a.adds state d t)) ++ z) (a.reads state ok env d t r s k z);
  }

  sees_after : (env : Env) (r d t x : List Value) → Sees outer start w env r (d ++ t)
      → Sees outer start w env r (d ++ (t ++ x))
  sees_after env r d t x s =
      subst (Sees outer start w env r) (append_assoc d t x)
      (sees_more outer start w env r (d ++ t) x s)

  length_after : (d t x : List Value) (end last : ℕ) → length (d ++ t) ≡ end → end + length x ≡ last
      → length (d ++ (t ++ x)) ≡ last
  length_after d t x end last e f = ap length (sym (append_assoc d t x)) ∙ length-append (d ++ t) x
      ∙ ap (λ n. n + length x) e ∙ f

  -- one after the other
  pub attaches_then : (more others : List Occurrence) (P Q : Reading) (old : DepTree) (end : ℕ)
      (mid : DepTree) (between : ℕ) (new : DepTree) (last : ℕ)
      → Attaches outer start w more P old end mid between
      → Attaches outer start w others Q mid between new last
      → Attaches outer start w (more ++ others)
      (λ state env r flat. P state env r flat × Q state env r flat) old end new last
  attaches_then more others P Q old end mid between new last a b =
      let x : State → List Value → List Value → List Value = a.adds in
      let y : State → List Value → List Value → List Value =
      λ state d t. b.adds state d (t ++ a.adds state d t) in
      record {
        scans = b.scans ∙ ap (λ l. l ++ others) a.scans ∙ append_assoc (scans_of old) more others;
        width = λ n e. b.width n (a.width n e);
        adds = λ state d t. x state d t ++ y state d t;
        count = λ state d t.
            let n = length-append (x state d t) (y state d t) in
            let p : end + length (x state d t) ≡ between = a.count state d t in
            let q : between + length (y state d t) ≡ last = b.count state d (t ++ x state d t) in
            omega (arith, n, p, q);
        rows = λ state d.
            b.rows state d ∙ ap (map (widened (b.adds state d))) (a.rows state d)
            ∙ widened_twice (a.adds state d) (b.adds state d) (tree_rows old (table_rows state) d);
        reads = λ state ok env d t r s e z.
            let u : List Value = x state d t in
            let v : List Value = y state d t in (
              subst (P state env r) (sym (regroup d t u v z))
                  (a.reads state ok env d t r s e (v ++ z)),
              subst (λ k. Q state env r ((d ++ k) ++ z)) (append_assoc t u v)
                  (b.reads state ok env d (t ++ u) r (sees_after env r d t u s)
                  (length_after d t u end between e (a.count state d t)) z),
            );
      }

  -- one more column after what was attached: a value of the flat row so far, where P is so of it
  pub attaches_column : (more others : List Occurrence) (P : Reading) (old : DepTree) (end : ℕ)
      (mid : DepTree) (between : ℕ) (new : DepTree)
      (own : State → List Value → List Value → Value) (M : State → Env → List Value → Value)
      → Attaches outer start w more P old end mid between
      → scans_of new ≡ scans_of mid ++ others
      → width_of new ≡ width_of mid + 1
      → ((state : State) (d : List Value)
      → tree_rows new (table_rows state) d
      ≡ map (widened (λ t. own state d t ∷ [])) (tree_rows mid (table_rows state) d))
      → ((state : State) → StateIsOf state → (env : Env) (d t r : List Value)
      → Sees outer start w env r (d ++ t) → length (d ++ t) ≡ between
      → ((z : List Value) → P state env r ((d ++ t) ++ z)) → own state d t ≡ M state env r)
      → Attaches outer start w (more ++ others)
      (λ state env r flat. slice_index_or flat between Null ≡ M state env r) old end new
      (between + 1)
  attaches_column more others P old end mid between new own M a scans wide rows value =
      let x : State → List Value → List Value → List Value = a.adds in
      let v : State → List Value → List Value → Value =
      λ state d t. own state d (t ++ a.adds state d t) in
      record {
        scans = scans ∙ ap (λ l. l ++ others) a.scans ∙ append_assoc (scans_of old) more others;
        width = λ n e. let p : width_of mid + n ≡ between = a.width n e in omega (arith, wide, p);
        adds = λ state d t. x state d t ++ v state d t ∷ [];
        count = λ state d t.
            let n = length-append (x state d t) (v state d t ∷ []) in
            let p : end + length (x state d t) ≡ between = a.count state d t in
            omega (arith, n, p);
        rows = λ state d.
            rows state d ∙ ap (map (widened (λ t. own state d t ∷ []))) (a.rows state d)
            ∙ widened_twice (a.adds state d) (λ t. own state d t ∷ [])
            (tree_rows old (table_rows state) d);
        reads = λ state ok env d t r s e z.
            let u : List Value = x state d t in
            let k : Value = v state d t in
            let n : length (d ++ (t ++ u)) ≡ between =
            length_after d t u end between e (a.count state d t) in
            ap (λ f. slice_index_or f between Null) (regroup d t u (k ∷ []) z)
            ∙ ap (λ m. slice_index_or ((d ++ (t ++ u)) ++ (k ∷ z)) m Null) (sym n)
            ∙ get_or-append_seam (d ++ (t ++ u)) k z Null
            ∙ value state ok env d (t ++ u) r (sees_after env r d t u s) n
            (λ after. a.reads state ok env d t r s e after);
      }

-- the rows of a tree with one more column
pub attached_rows : (value : List Value → List (Ranked Value) → Value) (ls : List (Ranked Value))
    (R : List Value → List (Ranked Value))
    → attach_loop value ls R ≡ map (widened (λ t. value t (R t) ∷ [])) ls
attached_rows value ls R =
    flat_map-single (λ l. ranked (l.values ++ value l.values (R l.values) ∷ []) l.standing) ls

top_ext : {X : Type 0} (f g : X → ℕ) (xs : List X) → ((x : X) → f x ≡ g x) → top f xs ≡ top g xs
top_ext f g [] h = refl
top_ext f g (x ∷ xs) h = ap (λ n. max n (top f xs)) (h x) ∙ ap (λ n. max (g x) n) (top_ext f g xs h)

-- marks under conditions that agree, over the same rows
pub marks_agree : (write : ℕ → Value) (c p : List Value → ℕ) (l k : List Value)
    (us vs : List (Ranked Value)) → ((r : List Value) → c (l ++ r) ≡ p (k ++ r)) → us ≡ vs
    → mark_of write c l us ≡ mark_of write p k vs
marks_agree write c p l k us vs h e =
    ap (mark_of write c l) e
    ∙ ap write (top_ext (λ (u : Ranked Value). min u.standing (c (l ++ u.values)))
    (λ (u : Ranked Value). min u.standing (p (k ++ u.values))) vs
    (λ u. ap (min u.standing) (h u.values)))
