-- The nodes of rows whose own columns stand for a domain's.
use Rattle.std.proofs.Common.{◌≡◌, ℕ, suc, ◌+◌, List, [], ◌∷◌, ◌++◌, refl, sym, ◌∙◌, ap, subst, arith, inl, inr, length}
use Rattle.std.specs.Prelude.{map}
use Rattle.std.specs.List.{range_with_len}
use Rattle.std.specs.List.{All as Every}
use Rattle.std.proofs.lemmas.List.{length-append, length-map, take_all}
use Rattle.std.proofs.lemmas.List.FromFn.{length-range_with_len}
use Rattle.base_row_laws.specs.Ranked.{Ranked, ranked}
use Rattle.base_row_laws.specs.Bags.{Each}
use Rattle.base_row_laws.specs.Rows.{columns, scanned}
use Rattle.base_row_laws.specs.Operators.{select, project}
use Rattle.base_row_laws.specs.Domains.{Answers}
use Rattle.base_row_laws.proofs.AtHand.{select_at_hand, project_at_hand}
use Rattle.base_row_laws.proofs.Lists.{Each-all, Each-map, Each-weaker}
use Rattle.base_row_laws.proofs.Standings.{select_true}
use Rattle.base_value.specs.declared.value.Value.{Value}
use Rattle.base_value.specs.declared.value.Value.TheVariants.{Null}
use Rattle.base_value.specs.Value.{same_value}
use Rattle.expr_scalar.specs.declared.expr.Expr.{Expr}
use Rattle.expr_scalar.specs.declared.expr.Expr.TheVariants.{All, Column}
use Rattle.expr_scalar.specs.Meaning.{values}
use Rattle.expr_conditions.specs.Ranks.{rank_of, all_rank, says}
use Rattle.expr_conditions.proofs.Ranks.{rank_All}
use Rattle.base_schema.specs.declared.table.TableName.{TableName}
use Rattle.base_schema.specs.Kinds.{RowIsOf}
use Rattle.base_schema.proofs.Columns.{row_long}
use Rattle.base_schema.specs.Tables.{kinds_of, columns_of}
use Rattle.plan_algebra.specs.declared.node.Node.{Node}
use Rattle.plan_algebra.specs.declared.node.Node.TheVariants as node
use Rattle.plan_algebra.specs.declared.tree.DepTree.TheOpen as t
use Rattle.plan_algebra.specs.Trees.{Database, tree_step}
use Rattle.plan_algebra.specs.Plans.{plan_rows, plan_width}
use Rattle.plan_unnested_nodes.specs.declared.domain.Origin.{Origin}
use Rattle.plan_unnested_nodes.specs.declared.footing.Footing.{Footing}
use Rattle.plan_unnested_nodes.specs.Footings.{footing_width, footing_rows, IsFooting}
use Rattle.plan_unnested_nodes.specs.Growth.{Grows, IsPut}
use Rattle.plan_unnested_nodes.specs.Lowerings.{Lowers, IsKept, IsOwn, IsOwnSelection}
use Rattle.plan_unnested_nodes.specs.OwnColumns.{StandForAll, with_own}
use Rattle.plan_unnested_nodes.specs.OwnRows.{own_row, AreAsked}
use Rattle.plan_unnested_nodes.specs.PlanKinds.{ColumnKinds, known_as}
use Rattle.plan_unnested_nodes.proofs.Asked.{kinds_fit}
use Rattle.plan_unnested_nodes.proofs.Grown.{same_plan, put_more, both_more, put_rows, put_width, put_last}
use Rattle.plan_unnested_nodes.proofs.Kept.{same_footing}
use Rattle.plan_unnested_nodes.proofs.Owned.{OfKinds, beside_own, own_answers}
use Rattle.plan_unnested_nodes.proofs.StandingRows.{rows_stand}
use Rattle.plan_unnested_nodes.proofs.Wide.{taken, column_values, columns-append}

-- rows of a table
pub each_of_all : {X : Type 0} (P : X → Type 0) (xs : List X) → Every P xs → Each P xs
each_of_all P [] h = tt
each_of_all P (x ∷ xs) h = (h 0 x (omega arith), each_of_all P xs (λ k d p. h (suc k) d (omega (arith, p))))

-- rows of w columns: their own columns, and after them all of their columns
pub own_rows : (w : ℕ) (own : List ℕ) (xs : List (Ranked Value)) → Each (λ x. length x.values ≡ w) xs → project (values (map Column (with_own own w))) xs ≡ beside_own own xs
own_rows w own xs wide =
    project_at_hand (values (map Column (with_own own w))) (λ t. columns Null own t ++ t) xs
    (Each-weaker (λ x. length x.values ≡ w) (λ x. values (map Column (with_own own w)) x.values ≡ columns Null own x.values ++ x.values) xs
    (λ x long. column_values (with_own own w) x.values ∙ columns-append own (range_with_len 0 w) x.values
    ∙ ap (λ l. columns Null own x.values ++ l) (taken w x.values (omega (arith, long)) ∙ take_all w x.values (omega (arith, long)))) wide)

-- the rows of a node that conditions keep
module _ (old new : List Node) (rows : ℕ) (conditions : List Expr) (id : ℕ) (last : length old ≡ rows + 1) where
  abbrev Kept : Type 0
  Kept = IsKept old new rows conditions id

  kept_grows : Kept → Grows old new [] 0
  kept_grows (inl k) = subst (λ l. Grows old l [] 0) (sym k.1) (same_plan old)
  kept_grows (inr p) = put_more (same_plan old) p

  kept_last : Kept → length new ≡ id + 1
  kept_last (inl k) = ap length k.1 ∙ last ∙ ap (λ n. n + 1) (sym k.2)
  kept_last (inr p) = put_last p

  kept_width : Kept → plan_width new id ≡ plan_width old rows
  unfolding plan_width
  kept_width (inl k) = ap (λ l. plan_width l id) k.1 ∙ ap (plan_width old) k.2
  kept_width (inr p) = put_width p

  kept_rows : (db : Database) → Kept → plan_rows db new id ≡ select (all_rank conditions) (plan_rows db old rows)
  unfolding plan_rows
  kept_rows db (inl k) =
      let xs = plan_rows db old rows in
      let same : plan_rows db new id ≡ xs = ap (λ l. plan_rows db l id) k.1 ∙ ap (plan_rows db old) k.2 in
      same ∙ sym (select_true xs (rows_stand db old rows)) ∙ sym (ap (λ es. select (all_rank es) xs) k.0)
  kept_rows db (inr p) =
      let xs = plan_rows db old rows in
      put_rows db p ∙ select_at_hand (rank_of (All conditions)) (all_rank conditions) xs (Each-all (λ x. rank_of (All conditions) x.values ≡ all_rank conditions x.values) xs (λ x. rank_All conditions x.values))

-- the rows of a node with their own columns before them, that a condition keeps
module _ (old new : List Node) (rows w id : ℕ) (ks : ColumnKinds) (c : Expr) (own : List ℕ) (p : IsOwn old new rows w ks c own id) where
  abbrev listed : Node
  listed = node.Project rows (map Column (with_own own w))

  abbrev mid : List Node
  mid = old ++ listed ∷ []

  first : IsPut old mid listed (length old)
  first = record { number = refl; nodes = refl }

  mid_last : length mid ≡ length old + 1
  mid_last = put_last first

  pub own_grows : Grows old new [] 0
  own_grows = both_more (put_more (same_plan old) first) (kept_grows mid new (length old) p.conditions id mid_last p.put)

  pub own_last : length new ≡ id + 1
  own_last = kept_last mid new (length old) p.conditions id mid_last p.put

  pub own_width : plan_width new id ≡ length own + w
  unfolding plan_width
  own_width =
      kept_width mid new (length old) p.conditions id mid_last p.put ∙ put_width first ∙ length-map (with_own own w) Column ∙ length-append own (range_with_len 0 w)
      ∙ ap (λ k. length own + k) (length-range_with_len 0 w)

  pub own_kept : (db : Database) → Each (OfKinds ks) (plan_rows db old rows) → Each (λ x. length x.values ≡ w) (plan_rows db old rows)
      → plan_rows db new id ≡ select (rank_of c) (beside_own own (plan_rows db old rows))
  unfolding plan_rows
  own_kept db fit wide =
      let xs = plan_rows db old rows in
      kept_rows mid new (length old) p.conditions id mid_last db p.put
      ∙ ap (select (all_rank p.conditions)) (put_rows db first ∙ own_rows w own xs wide)
      ∙ select_at_hand (all_rank p.conditions) (rank_of c) (beside_own own xs)
      (Each-map (λ x. all_rank p.conditions x.values ≡ rank_of c x.values) (λ x. ranked (own_row own x.values) x.standing) xs
      (Each-weaker (OfKinds ks) (λ x. all_rank p.conditions (own_row own x.values) ≡ rank_of c (own_row own x.values)) xs (λ x f. p.asked.says x.values f) fit))

-- the nodes, as the code puts them
pub own_is_put : {old mid new : List Node} {rows w at id : ℕ} {ks : ColumnKinds} {c : Expr} {own : List ℕ} {listed conditions : List Expr} → AreAsked ks own c conditions
    → listed ≡ map Column (with_own own w) → at ≡ length old → mid ≡ old ++ node.Project rows listed ∷ [] → IsKept mid new at conditions id → IsOwn old new rows w ks c own id
own_is_put {old = old} {new = new} {rows = rows} {w = w} {at = at} {id = id} {own = own} {conditions = conditions} asked same number nodes kept = record {
  conditions = conditions;
  asked = asked;
  put = subst (λ k. IsKept (old ++ node.Project rows (map Column (with_own own w)) ∷ []) new k conditions id) number
      (subst (λ l. IsKept l new at conditions id) (nodes ∙ ap (λ l. old ++ node.Project rows l ∷ []) same) kept);
}

-- the rows of a table
table_rows : (table : TableName) (rows : List (List Value)) → Each (RowIsOf table) rows
    → Each (OfKinds (map known_as (columns_of table))) (scanned rows) × Each (λ x. length x.values ≡ length (kinds_of table)) (scanned rows)
table_rows table [] all = (tt, tt)
table_rows table (r ∷ rows) all =
    let rest = table_rows table rows all.1 in ((kinds_fit (columns_of table) r all.0, rest.0), (row_long table r all.0, rest.1))

pub own_lowers : (before new : List Node) (table : TableName) (c : Expr) (f : Footing) (own : List ℕ) (id : ℕ) → IsFooting before f.rows
    → StandForAll (map known_as (columns_of table)) f.unchanged (footing_width f.rows) c own
    → IsOwnSelection before new table (map known_as (columns_of table)) c own id → Lowers before new (tree_step (t.Select (tree_step (t.Scan table)) c)) f f id
unfolding says plan_rows plan_width
own_lowers before new table c f own id within stand p =
    let n = footing_width f.rows in
    let w = length (kinds_of table) in
    let ks = map known_as (columns_of table) in
    let scan = node.Scan table in
    let one = before ++ scan ∷ [] in
    let q : IsPut before one scan (length before) = record { number = refl; nodes = refl } in
    let more = both_more (put_more (same_plan before) q) (own_grows one new (length before) w id ks c own p) in
    record {
      most = 0;
      plan = more;
      few = omega arith;
      same = same_footing f more within;
      last = own_last one new (length before) w id ks c own p;
      width = own_width one new (length before) w id ks c own p ∙ ap (λ k. k + w) stand.long;
      answers = λ db h.
          let all = table_rows table (db table) (each_of_all (RowIsOf table) (db table) (h.kinds table)) in
          let scanned_here : plan_rows db one (length before) ≡ scanned (db table) = put_rows db q in
          let kept : plan_rows db new id ≡ select (rank_of c) (beside_own own (scanned (db table))) =
          own_kept one new (length before) w id ks c own p db (subst (Each (OfKinds ks)) (sym scanned_here) all.0) (subst (Each (λ x. length x.values ≡ w)) (sym scanned_here) all.1)
          ∙ ap (λ xs. select (rank_of c) (beside_own own xs)) scanned_here in
          subst (λ xs. Answers same_value (footing_rows db before f.rows) xs ((tree_step (t.Select (tree_step (t.Scan table)) c)).rows db)) (sym kept)
          (own_answers ks f.unchanged n c own stand (footing_rows db before f.rows) (scanned (db table)) h.is_domain h.noted all.0);
    }

-- the same, as the code reads it
pub own_selection_put : {before new : List Node} {table : TableName} {c : Expr} {f : Footing} {notes : List Origin} {ks known : ColumnKinds} {own seen : List ℕ} {w id : ℕ}
    → IsFooting before f.rows → w ≡ footing_width f.rows → notes ≡ f.unchanged → known ≡ ks → ks ≡ map known_as (columns_of table) → StandForAll known notes w c own → seen ≡ own
    → IsOwnSelection before new table known c seen id → Lowers before new (tree_step (t.Select (tree_step (t.Scan table)) c)) f f id
own_selection_put {before = before} {new = new} {table = table} {c = c} {f = f} {notes = notes} {ks = ks} {known = known} {own = own} {seen = seen} {w = w} {id = id} within wide noted read is stand same p =
    let all : known ≡ map known_as (columns_of table) = read ∙ is in
    own_lowers before new table c f own id within
    (subst (λ n. StandForAll (map known_as (columns_of table)) f.unchanged n c own) wide (subst (λ ns. StandForAll (map known_as (columns_of table)) ns w c own) noted
    (subst (λ l. StandForAll l notes w c own) all stand)))
    (subst (λ l. IsOwnSelection before new table l c own id) all (subst (λ l. IsOwnSelection before new table known c l id) same p))
