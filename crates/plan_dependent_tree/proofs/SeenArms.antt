-- The arms of the code: one variable for each value that the code reads.
use Rattle.std.proofs.Common.{◌≡◌, ℕ, ◌+◌, List, [], ◌∷◌, map, refl, sym, ap, ◌∙◌, subst}
use Rattle.std.proofs.Common.{length}
use Rattle.base_set_rows.specs.declared.kind.SetOperation.{SetOperation}
use Rattle.expr_scalar.specs.declared.expr.Expr.{Expr}
use Rattle.expr_scalar.specs.declared.expr.Expr.TheVariants.{Column, All, Compare}
use Rattle.expr_scalar.specs.Rename.{IsRenamed}
use Rattle.expr_operators.specs.declared.operator.Comparison.{Comparison}
use Rattle.plan_algebra.specs.Trees.{Occurrence}
use Rattle.sql_bound_query.specs.declared.query.BoundAggregate.{BoundAggregate}
use Rattle.sql_bound_query.specs.declared.query.BoundBlock.{BoundBlock}
use Rattle.sql_bound_query.specs.declared.query.BoundBlock.TheVariants as block
use Rattle.sql_bound_query.specs.declared.query.BoundExpr.{BoundExpr}
use Rattle.sql_bound_query.specs.declared.query.BoundSource.{BoundSource}
use Rattle.sql_bound_query.specs.declared.query.Input.{Input}
use Rattle.sql_bound_query.specs.declared.query.Input.TheVariants as input
use Rattle.sql_bound_query.specs.declared.query.SetColumn.{SetColumn}
use Rattle.plan_kept_queries.specs.Scans.{tables, tables_of_source, tables_of_input, tables_of_expr}
use Rattle.plan_kept_queries.specs.Scans.{tables_of_aggregate, joined_tables}
use Rattle.plan_algebra.specs.declared.aggregate.Aggregate.{Aggregate}
use Rattle.plan_algebra.specs.declared.tree.DepTree.{DepTree}
use Rattle.plan_algebra.specs.declared.tree.DepTree.TheVariants as t
use Rattle.plan_algebra.specs.declared.tree.Side.{Side}
use Rattle.plan_dependent_nodes.specs.declared.sight.OuterColumn.{OuterColumn}
use Rattle.plan_dependent_nodes.specs.Growth.{RowsOf, Reading, IsTree, IsSubquery, Attaches, AreAt}
use Rattle.plan_dependent_nodes.specs.Growth.{AreKeys, IsAt, DependsOn, InputAt}
use Rattle.plan_dependent_nodes.specs.Growth.{InputsAt, ExprAt, ListAt, AggregatesAt, SameFunctions}
use Rattle.plan_dependent_nodes.specs.Growth.{from_of, block_of}
use Rattle.plan_dependent_tree.specs.SetGrowth.{IsSetTree}
use Rattle.plan_dependent_nodes.proofs.InputTrees.{column_arm, exists_arm, scalar_arm, any_arm}
use Rattle.plan_dependent_nodes.proofs.InputTrees.{expr_arm}
use Rattle.plan_dependent_tree.proofs.BlockTrees.{plain_arm}
use Rattle.plan_dependent_tree.proofs.BlockTrees.{grouped_arm, distinct_arm}
use Rattle.plan_dependent_tree.proofs.FromTrees.{subquery_dependent, subquery_closed}
use Rattle.plan_dependent_tree.proofs.SetTrees.{set_arm}

-- a tree by another name
named : {occurs : List Occurrence} {K : RowsOf} {outer : List OuterColumn} {start w n : ℕ}
    {tree new : DepTree} → new ≡ tree → n ≡ w → IsTree occurs K outer start tree w
    → IsTree occurs K outer start new n
named {occurs} {K} {outer} {start} {w} {n} {tree} {new} e f is =
    subst (λ x. IsTree occurs K outer start x n) (sym e)
    (subst (λ k. IsTree occurs K outer start tree k) (sym f) is)

-- the FROM that was read
read_source : {x y : BoundSource} {outer : List OuterColumn} {start w : ℕ} {tree : DepTree} → x ≡ y
    → IsTree (tables_of_source x) (from_of x) outer start tree w
    → IsTree (tables_of_source y) (from_of y) outer start tree w
read_source {x} {y} {outer} {start} {w} {tree} e is =
    subst (λ z. IsTree (tables_of_source z) (from_of z) outer start tree w) e is

of_block : {x y : BoundBlock} {outer : List OuterColumn} {start w n : ℕ} {tree new : DepTree}
    → x ≡ y → new ≡ tree → n ≡ w → IsTree (tables y) (block_of y) outer start tree w
    → IsTree (tables x) (block_of x) outer start new n
of_block {x} {y} {outer} {start} {w} {n} {tree} {new} e f g is =
    subst (λ z. IsTree (tables z) (block_of z) outer start new n) (sym e) (named f g is)

-- what was attached to a tree by another name
pub attached_to : {outer : List OuterColumn} {start w end from last : ℕ} {more : List Occurrence}
    {P : Reading} {old tree new : DepTree} → old ≡ tree → end ≡ from
    → Attaches outer start w more P old end new last
    → Attaches outer start w more P tree from new last
attached_to {outer} {start} {w} {end} {from} {last} {more} {P} {old} {tree} {new} e f a =
    subst (λ x. Attaches outer start w more P x from new last) e
    (subst (λ k. Attaches outer start w more P old k new last) f a)

-- what was attached, as another tree
pub attached_as : {outer : List OuterColumn} {start w end now last : ℕ} {more : List Occurrence}
    {P : Reading} {old new tree : DepTree} → tree ≡ new → now ≡ last
    → Attaches outer start w more P old end new last
    → Attaches outer start w more P old end tree now
attached_as {outer} {start} {w} {end} {now} {last} {more} {P} {old} {new} {tree} e f a =
    subst (λ x. Attaches outer start w more P old end x now) (sym e)
    (subst (λ k. Attaches outer start w more P old end new k) (sym f) a)

read_list : (xs : List Expr) {outer : List OuterColumn} {start w end last : ℕ} {old new : DepTree}
    {list seen : List BoundExpr} → seen ≡ list
    → Attaches outer start w (joined_tables (map tables_of_expr seen)) (ListAt seen xs) old end new
    last
    → Attaches outer start w (joined_tables (map tables_of_expr list)) (ListAt list xs) old end new
    last
read_list xs {outer} {start} {w} {end} {last} {old} {new} {list} {seen} e a =
    subst (λ l. Attaches outer start w (joined_tables (map tables_of_expr l)) (ListAt l xs) old end
    new last) e a

read_aggregates : (xs : List Aggregate) {outer : List OuterColumn} {start w end last : ℕ}
    {old new : DepTree} {list seen : List BoundAggregate} → seen ≡ list
    → Attaches outer start w (joined_tables (map tables_of_aggregate seen)) (AggregatesAt seen xs)
    old end new last
    → Attaches outer start w (joined_tables (map tables_of_aggregate list)) (AggregatesAt list xs)
    old end new last
read_aggregates xs {outer} {start} {w} {end} {last} {old} {new} {list} {seen} e a =
    subst (λ l. Attaches outer start w (joined_tables (map tables_of_aggregate l))
    (AggregatesAt l xs) old end new last) e a

-- ---- inputs

module _ (outer : List OuterColumn) (start w : ℕ) (old : DepTree) (end : ℕ) where
  -- an attached input
  of_input : {x y : Input} {at place now last : ℕ} {tree new : DepTree} → x ≡ y → at ≡ place
      → tree ≡ new → now ≡ last
      → Attaches outer start w (tables_of_input y) (InputAt y place) old end new last
      → Attaches outer start w (tables_of_input x) (InputAt x at) old end tree now
  of_input {x} {y} {at} {place} {now} {last} {tree} {new} e f g h a =
      subst (λ z. Attaches outer start w (tables_of_input z) (InputAt z at) old end tree now)
      (sym e)
      (subst (λ k. Attaches outer start w (tables_of_input y) (InputAt y k) old end tree now)
      (sym f) (attached_as g h a))

  pub column_seen : {x : Input} {level place at : ℕ} → x ≡ input.Column level place
      → IsAt outer start w level place at
      → Attaches outer start w (tables_of_input x) (InputAt x at) old end old end
  column_seen {x} {level} {place} {at} e is =
      of_input e refl refl refl (column_arm outer start w level place at old end is)

  pub exists_seen : {x : Input} {q : BoundBlock} {right new : DepTree} {side : Side} {at last : ℕ}
      → x ≡ input.Exists q → IsSubquery q outer start w right side
      → (new ≡ t.Mark old right side (All [])) × (last ≡ end + 1) × (at ≡ end)
      → Attaches outer start w (tables_of_input x) (InputAt x at) old end new last
  exists_seen {x} {q} {right} {new} {side} e sub is =
      of_input e is.2 is.0 is.1 (exists_arm outer start w q right side old end sub)

  pub scalar_seen : {x : Input} {q : BoundBlock} {right new : DepTree} {side : Side} {at last : ℕ}
      → x ≡ input.Scalar q → IsSubquery q outer start w right side
      → (new ≡ t.Single old right side 0) × (last ≡ end + 1) × (at ≡ end)
      → Attaches outer start w (tables_of_input x) (InputAt x at) old end new last
  scalar_seen {x} {q} {right} {new} {side} e sub is =
      of_input e is.2 is.0 is.1 (scalar_arm outer start w q right side old end sub)

  pub any_seen : (c : Comparison) (y : Expr) {x : Input} {left seen : BoundExpr} {q : BoundBlock}
      {right mid new : DepTree} {side : Side} {at between last : ℕ} → x ≡ input.Any c left q
      → seen ≡ left
      → Attaches outer start w (tables_of_expr seen) (ExprAt seen y) old end mid between
      → IsSubquery q outer start w right side
      → (new ≡ t.Mark mid right side (Compare c y (Column between))) × (last ≡ between + 1)
      × (at ≡ between)
      → Attaches outer start w (tables_of_input x) (InputAt x at) old end new last
  any_seen c y {x} {left} {seen} {q} {right} {mid} {new} {side} {at} {between} {last} e f a sub
      is =
      of_input e is.2 is.0 is.1
      (any_arm outer start w c left y q right side old end mid between
      (subst (λ z. Attaches outer start w (tables_of_expr z) (ExprAt z y) old end mid between) f a)
      sub)

  pub expr_seen : {e : BoundExpr} {inputs : List Input} {expr x : Expr} {places : List ℕ}
      {mid new : DepTree} {between last : ℕ} → inputs ≡ e.inputs
      → Attaches outer start w (joined_tables (map tables_of_input inputs)) (InputsAt inputs places)
      old end mid between → expr ≡ e.expr
      → (new ≡ mid) × (last ≡ between) × IsRenamed places expr x
      → Attaches outer start w (tables_of_expr e) (ExprAt e x) old end new last
  expr_seen {e} {inputs} {expr} {x} {places} {mid} {new} {between} {last} f a g is =
      attached_as is.0 is.1
      (expr_arm outer start w e places x old end mid between
      (subst (λ l. Attaches outer start w (joined_tables (map tables_of_input l))
      (InputsAt l places) old end mid between) f a) (subst (λ y. IsRenamed places y x) g is.2))

-- ---- subqueries

pub subquery_seen : (places : List ℕ) {q seen : BoundBlock}
    {outer wanted first listed : List OuterColumn} {start w n v : ℕ} {tree right : DepTree}
    {side : Side} → seen ≡ q
    → IsTree (tables seen) (block_of seen) listed n tree v → listed ≡ wanted → n ≡ length wanted
    → first ≡ wanted → AreAt outer start w first places → right ≡ tree
    → DependsOn places side → IsSubquery q outer start w right side
subquery_seen [] {q} {seen} {outer} {wanted} {first} {listed} {start} {w} {n} {v} {tree} {right}
    {side} e is f m h at g d =
    subst (λ z. IsSubquery q outer start w z side) (sym g)
    (subst (λ z. IsSubquery q outer start w tree z) (sym d)
    (subquery_closed q outer start w tree
    (subquery_dependent q outer wanted start w n v tree []
    (subst (λ z. IsTree (tables z) (block_of z) wanted n tree v) e
    (subst (λ z. IsTree (tables seen) (block_of seen) z n tree v) f is)) m
    (subst (λ z. AreAt outer start w z []) h at))))
subquery_seen (p ∷ places) {q} {seen} {outer} {wanted} {first} {listed} {start} {w} {n} {v} {tree}
    {right} {side} e is f m h at g d =
    subst (λ z. IsSubquery q outer start w z side) (sym g)
    (subst (λ z. IsSubquery q outer start w tree z) (sym d)
    (subquery_dependent q outer wanted start w n v tree (p ∷ places)
    (subst (λ z. IsTree (tables z) (block_of z) wanted n tree v) e
    (subst (λ z. IsTree (tables seen) (block_of seen) z n tree v) f is)) m
    (subst (λ z. AreAt outer start w z (p ∷ places)) h at)))

-- ---- queries

module _ (outer : List OuterColumn) (start : ℕ) where
  pub plain_seen : (condition : BoundExpr) (c : Expr) (xs : List Expr) {q : BoundBlock}
      {from read_from : BoundSource} {list seen : List BoundExpr}
      {rows begun kept selected grown tree : DepTree}
      {w end between after last n : ℕ} → q ≡ block.Plain from condition list → read_from ≡ from
      → IsTree (tables_of_source read_from) (from_of read_from) outer start rows w
      → (begun ≡ rows) × (end ≡ start + w)
      → Attaches outer start w (tables_of_expr condition) (ExprAt condition c) begun end kept
      between → (selected ≡ t.Select kept c) × (after ≡ between)
      → seen ≡ list → Attaches outer start w (joined_tables (map tables_of_expr seen))
      (ListAt seen xs) selected after grown last → length xs ≡ length seen
      → (tree ≡ t.Project grown xs) × (n ≡ length xs)
      → IsTree (tables q) (block_of q) outer start tree n
  plain_seen condition c xs {q} {from} {read_from} {list} {seen} {rows} {begun} {kept} {selected}
      {grown} {tree} {w} {end} {between} {after} {last} {n} e f is g a sel h b m p =
      of_block e p.0 refl
      (plain_arm outer start from condition list w n begun end kept between c grown last xs
      (named g.0 refl (read_source f is)) g.1 a (read_list xs h (attached_to sel.0 sel.1 b)) p.1
      (m ∙ ap length h))

  pub grouped_seen : (condition having : BoundExpr) (c h : Expr) (gs : List Aggregate)
      (xs : List Expr) {q : BoundBlock} {from read_from : BoundSource}
      {keys read_keys places : List ℕ} {all read_all : List BoundAggregate}
      {list seen : List BoundExpr}
      {rows begun kept selected counted groups again had chosen grown tree : DepTree}
      {w end between after next v begin later past last n : ℕ}
      → q ≡ block.Grouped from condition keys all having list → read_from ≡ from
      → IsTree (tables_of_source read_from) (from_of read_from) outer start rows w
      → (begun ≡ rows) × (end ≡ start + w)
      → Attaches outer start w (tables_of_expr condition) (ExprAt condition c) begun end kept
      between → (selected ≡ t.Select kept c) × (after ≡ between)
      → read_keys ≡ keys → AreKeys outer start w read_keys places
      → read_all ≡ all → Attaches outer start w (joined_tables (map tables_of_aggregate read_all))
      (AggregatesAt read_all gs) selected after counted next
      → SameFunctions read_all gs → length gs ≡ length read_all
      → (groups ≡ t.Group counted places gs) × (v ≡ length places + length gs)
      → (again ≡ groups) × (begin ≡ start + v)
      → Attaches outer start v (tables_of_expr having) (ExprAt having h) again begin had later
      → (chosen ≡ t.Select had h) × (past ≡ later)
      → seen ≡ list → Attaches outer start v (joined_tables (map tables_of_expr seen))
      (ListAt seen xs) chosen past grown last → length xs ≡ length seen
      → (tree ≡ t.Project grown xs) × (n ≡ length xs)
      → IsTree (tables q) (block_of q) outer start tree n
  grouped_seen condition having c h gs xs {q} {from} {read_from} {keys} {read_keys} {places} {all}
      {read_all} {list} {seen} {rows} {begun} {kept} {selected} {counted} {groups} {again} {had}
      {chosen} {grown} {tree}
      {w} {end} {between} {after} {next} {v} {begin} {later} {past} {last} {n} e f is g a sel k at j
      b same many gr ag hv ch l d m p =
      of_block e p.0 refl
      (grouped_arm outer start from condition keys all having list w v n begun end kept between c
      places counted next gs begin had later h grown last xs
      (named g.0 refl (read_source f is)) g.1 a (subst (λ z. AreKeys outer start w z places) k at)
      (read_aggregates gs j (attached_to sel.0 sel.1 b))
      (subst (λ z. SameFunctions z gs) j same) (many ∙ ap length j) gr.1 ag.1
      (attached_to (ag.0 ∙ gr.0) refl hv) (read_list xs l (attached_to ch.0 ch.1 d)) p.1
      (m ∙ ap length l))

  pub distinct_seen : {q x seen : BoundBlock} {rows tree : DepTree} {w n : ℕ} → q ≡ block.Distinct x
      → seen ≡ x → IsTree (tables seen) (block_of seen) outer start rows w
      → (tree ≡ t.Distinct rows) × (n ≡ w) → IsTree (tables q) (block_of q) outer start tree n
  distinct_seen {q} {x} {seen} {rows} {tree} {w} {n} e f is p =
      of_block e p.0 p.1 (distinct_arm outer start x w rows
      (subst (λ z. IsTree (tables z) (block_of z) outer start rows w) f is))

  pub set_seen : {q a b read other : BoundBlock} {columns seen : List SetColumn}
      {operation : SetOperation} {left right tree : DepTree} {w v n : ℕ}
      → q ≡ block.Set a b columns operation → read ≡ a
      → IsTree (tables read) (block_of read) outer start left w → other ≡ b
      → IsTree (tables other) (block_of other) outer start right v → seen ≡ columns
      → IsSetTree left w right v seen operation start tree n
      → IsTree (tables q) (block_of q) outer start tree n
  set_seen {q} {a} {b} {read} {other} {columns} {seen} {operation} {left} {right} {tree} {w} {v}
      {n} e f l g r h is =
      of_block e refl refl (set_arm outer start a b columns operation left w right v tree n
      (subst (λ z. IsTree (tables z) (block_of z) outer start left w) f l)
      (subst (λ z. IsTree (tables z) (block_of z) outer start right v) g r)
      (subst (λ z. IsSetTree left w right v z operation start tree n) h is))
