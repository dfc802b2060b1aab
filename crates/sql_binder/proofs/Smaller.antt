-- Functions that bind all that is smaller than a part bind what stands in it.
use Rattle.std.proofs.Common.{◌≡◌, ℕ, ◌+◌, ◌<◌, List, [], ◌∷◌, map, subst, sym, arith}
use Rattle.base_row_laws.specs.Bags.{Each}
use Rattle.sql_ast.specs.declared.tree.Arm.{Arm, out-Arm}
use Rattle.sql_ast.specs.declared.tree.Block.{Block}
use Rattle.sql_ast.specs.declared.tree.Clause.{Clause}
use Rattle.sql_ast.specs.declared.tree.Expr.{Expr}
use Rattle.sql_ast.specs.declared.tree.Factor.{Factor, out-Factor}
use Rattle.sql_ast.specs.declared.tree.FromItem.{FromItem}
use Rattle.sql_ast.specs.declared.tree.Item.{Item, out-Item}
use Rattle.sql_ast.specs.declared.tree.Join.{Join, out-Join}
use Rattle.sql_ast.specs.declared.tree.Joined.{Joined, out-Joined}
use Rattle.sql_ast.specs.declared.tree.Select.{Select, out-Select}
use Rattle.sql_ast.specs.declared.tree.Selected.{Selected}
use Rattle.sql_ast.specs.declared.tree.SetPart.{SetPart, out-SetPart}
use Rattle.sql_ast.specs.declared.tree.Term.{Term, out-Term}
use Rattle.sql_binder_steps.specs.declared.collected.BoundTable.{BoundTable}
use Rattle.sql_binder_steps.specs.declared.collected.Typed.{Typed}
use Rattle.sql_binder_steps.specs.Steps.{Binds}
use Rattle.sql_binder_steps.specs.Names.{sight_of}
use Rattle.sql_binder.specs.Binding.{meaning, block_meaning}
use Rattle.sql_binder.specs.Nests.{Pre, Post, Below, BindsExpr, BindsBlock, BindsExprs, BindsTerm}
use Rattle.sql_binder.specs.Nests.{BindsFactor, BindsArm, BindsItem, BindsSelected, BindsClause}
use Rattle.sql_binder.specs.Nests.{BindsFromItem, BindsJoin, BindsJoined, BindsParts, BindsSetPart}
use Rattle.sql_binder.specs.Sizes.{total, size, term_size, factor_size, arm_size, item_size}
use Rattle.sql_binder.specs.Sizes.{selected_size, from_item_size, join_size, joined_size}
use Rattle.sql_binder.specs.Sizes.{clause_size, block_size, select_size, set_part_size}
use Rattle.sql_binder.proofs.Sized.{clause_falls, selected_falls, derived_falls, lateral_falls}
use Rattle.sql_binder.proofs.Sized.{term_size_of, factor_size_of, arm_size_of, item_size_of}
use Rattle.sql_binder.proofs.Sized.{join_size_of, joined_size_of, select_size_of, set_part_size_of}

module _ {n : ℕ} {pre : Pre Expr} {post : Post Expr Typed} {pre_block : Pre Block}
    {post_block : Post Block BoundTable} (below : Below n pre post pre_block post_block) where
  pub expr_below : (e : Expr) → size e < n → BindsExpr pre post e
  expr_below e h = record {
    callable = λ alloc site old x same. below.expr_callable alloc site old x (rw same h);
    binds = λ alloc site old new x r same p.
        subst (λ (y : Expr). Binds ((meaning y).binds (sight_of site.now) old.now) r new.now) same
        (below.expr_binds alloc site old new x r (rw same h) p);
  }

  pub block_below : (q : Block) → block_size q < n → BindsBlock pre_block post_block q
  block_below q h = record {
    callable = λ alloc site old x same. below.block_callable alloc site old x (rw same h);
    binds = λ alloc site old new x r same p.
        subst (λ (y : Block). Binds (block_meaning y (sight_of site.now) old.now) r new.now) same
        (below.block_binds alloc site old new x r (rw same h) p);
  }

  pub each_expr : (es : List Expr) → total (map size es) < n → BindsExprs pre post es
  each_expr [] h = tt
  each_expr (e ∷ es) h =
      let h' : size e + total (map size es) < n = h in
      (expr_below e (omega (arith, h')), each_expr es (omega (arith, h')))

  pub each_term : (ts : List Term) → total (map term_size ts) < n → Each (BindsTerm pre post) ts
  each_term [] h = tt
  each_term (t ∷ ts) h =
      let h' : term_size t + total (map term_size ts) < n = h in
      let s = term_size_of t in
      (expr_below (out-Term t).value (omega (arith, h', s)), each_term ts (omega (arith, h')))

  pub each_factor : (fs : List Factor) → total (map factor_size fs) < n
      → Each (BindsFactor pre post) fs
  each_factor [] h = tt
  each_factor (f ∷ fs) h =
      let h' : factor_size f + total (map factor_size fs) < n = h in
      let s = factor_size_of f in
      (expr_below (out-Factor f).value (omega (arith, h', s)), each_factor fs (omega (arith, h')))

  pub each_arm : (arms : List Arm) → total (map arm_size arms) < n → Each (BindsArm pre post) arms
  each_arm [] h = tt
  each_arm (a ∷ arms) h =
      let h' : arm_size a + total (map arm_size arms) < n = h in
      let s = arm_size_of a in (
        (
          expr_below (out-Arm a).condition (omega (arith, h', s)),
          expr_below (out-Arm a).value (omega (arith, h', s)),
        ),
        each_arm arms (omega (arith, h')),
      )

  pub each_item : (is : List Item) → total (map item_size is) < n → Each (BindsItem pre post) is
  each_item [] h = tt
  each_item (i ∷ is) h =
      let h' : item_size i + total (map item_size is) < n = h in
      let s = item_size_of i in
      (expr_below (out-Item i).value (omega (arith, h', s)), each_item is (omega (arith, h')))

  clause_below : (c : Clause) → clause_size c < n → BindsClause pre post c
  clause_below c h e is = let s = clause_falls c e is in expr_below e (omega (arith, h, s))

  selected_below : (s : Selected) → selected_size s < n → BindsSelected pre post s
  selected_below s h items is = let e = selected_falls s items is in
      each_item items (omega (arith, h, e))

  item_below : (i : FromItem) → from_item_size i < n → BindsFromItem pre_block post_block i
  item_below i h = record {
    derived = λ q alias names is. let s = derived_falls i q alias names is in
        block_below q (omega (arith, h, s));
    lateral = λ q alias names is. let s = lateral_falls i q alias names is in
        block_below q (omega (arith, h, s));
  }

  each_join : (js : List Join) → total (map join_size js) < n
      → Each (BindsJoin pre post pre_block post_block) js
  each_join [] h = tt
  each_join (j ∷ js) h =
      let h' : join_size j + total (map join_size js) < n = h in
      let s = join_size_of j in (
        (
          item_below (out-Join j).item (omega (arith, h', s)),
          expr_below (out-Join j).condition (omega (arith, h', s)),
        ),
        each_join js (omega (arith, h')),
      )

  each_joined : (js : List Joined) → total (map joined_size js) < n
      → Each (BindsJoined pre post pre_block post_block) js
  each_joined [] h = tt
  each_joined (j ∷ js) h =
      let h' : joined_size j + total (map joined_size js) < n = h in
      let s = joined_size_of j in (
        (
          item_below (out-Joined j).first (omega (arith, h', s)),
          each_join (out-Joined j).joins (omega (arith, h', s)),
        ),
        each_joined js (omega (arith, h')),
      )

  pub parts_below : (q : Select) → n ≡ select_size q → BindsParts pre post pre_block post_block q
  parts_below q e =
      let s = select_size_of q in
      record {
        from = each_joined (out-Select q).from (omega (arith, e, s));
        condition = clause_below (out-Select q).condition (omega (arith, e, s));
        selected = selected_below (out-Select q).selected (omega (arith, e, s));
        having = clause_below (out-Select q).having (omega (arith, e, s));
      }

  pub each_part : (ps : List SetPart) → total (map set_part_size ps) < n
      → Each (BindsSetPart pre_block post_block) ps
  each_part [] h = tt
  each_part (p ∷ ps) h =
      let h' : set_part_size p + total (map set_part_size ps) < n = h in
      let s = set_part_size_of p in
      (block_below (out-SetPart p).query (omega (arith, h', s)), each_part ps (omega (arith, h')))

-- the same below an equal size
pub at_size : {m n : ℕ} {pre : Pre Expr} {post : Post Expr Typed} {pre_block : Pre Block}
    {post_block : Post Block BoundTable} → Below n pre post pre_block post_block → m ≡ n
    → Below m pre post pre_block post_block
at_size {m} {n} {pre} {post} {pre_block} {post_block} below e =
    subst (λ k. Below k pre post pre_block post_block) (sym e) below
