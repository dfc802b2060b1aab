-- No other part is spelled as a part is, whatever stands behind.
use Rattle.std.proofs.Common.{◌≡◌, List, [], ◌∷◌, ◌++◌, map, ap, sym, ◌∙◌, unwrap_or}
use Rattle.base_row_laws.specs.Bags.{Each}
use Rattle.base_value.specs.declared.value.Value.{Value}
use Rattle.expr_scalar.specs.declared.expr.Expr.{Expr}
use Rattle.expr_scalar.proofs.Induction.{Exprs, Branches, Operations, exprs, branches, operations, induction}
use Rattle.plan_algebra.specs.declared.aggregate.Aggregate.{Aggregate}
use Rattle.plan_algebra.specs.declared.aggregate.Aggregate.TheVariants.{CountRows, Of}
use Rattle.plan_algebra.specs.declared.node.Node.{Node}
use Rattle.plan_algebra.specs.declared.node.Node.TheVariants as n
use Rattle.plan_spelling.specs.Laws.{SpellingIsUnique}
use Rattle.plan_algebra.specs.KeptPlans.{plain_aggregate}
use Rattle.plan_spelling.specs.Plans.{node_spelling, plan_spelling}
use Rattle.plan_spelling.specs.Exprs.{spelled}
use Rattle.plan_spelling.proofs.Lists.{Unique, spelled_unique}
use Rattle.plan_spelling.proofs.Parts.{Part, expr, branch, operation, aggregate, value, node, part_spelling, rebuilt, Described, a_column, a_literal, a_negative, a_chain, a_case, an_extract, a_substring, a_comparison, a_between, a_like, a_list, a_null_test, a_not, an_all, an_any, a_mark_test, a_branch, an_operation, an_aggregate, a_value, a_node, described}

abbrev U : Part → Type 0
U p = Unique part_spelling p

unique_part : (p : Part) (d : Described p) → Each U d.below → U p
unique_part p d all q r s e =
    let other = described q in
    let whole : spelled d.what (map part_spelling d.below) ++ r ≡ spelled other.what (map part_spelling other.below) ++ s =
    ap (λ l. l ++ r) (sym d.is) ∙ e ∙ ap (λ l. l ++ s) other.is in
    let u = spelled_unique part_spelling d.what other.what r s d.below other.below all whole in
    let same : rebuilt d.what d.below ≡ rebuilt other.what other.below =
    ap (λ w. rebuilt w d.below) u.0 ∙ ap (rebuilt other.what) u.1 in
    (ap (λ o. unwrap_or o p) (sym d.back ∙ same ∙ other.back), u.2)

each_expr : (es : Exprs (λ a. U (expr a))) → Each U (map expr (exprs {P = λ a. U (expr a)} es))
each_expr [] = tt
each_expr (x ∷ es) = (x.1, each_expr es)

each_branch : (bs : Branches (λ b. U (branch b))) → Each U (map branch (branches {Q = λ b. U (branch b)} bs))
each_branch [] = tt
each_branch (b ∷ bs) = (b.1, each_branch bs)

each_operation : (os : Operations (λ o. U (operation o))) → Each U (map operation (operations {R = λ o. U (operation o)} os))
each_operation [] = tt
each_operation (o ∷ os) = (o.1, each_operation os)

unique_expr : (x : Expr) → U (expr x)
unique_expr =
    induction (λ a. U (expr a)) (λ b. U (branch b)) (λ o. U (operation o)) (record {
      column = λ place. unique_part _ (a_column place) tt;
      literal = λ x. unique_part _ (a_literal x) tt;
      negative = λ a is. unique_part _ (a_negative a) (is, tt);
      arithmetic = λ a is os. unique_part _ (a_chain a (operations {R = λ o. U (operation o)} os)) (is, each_operation os);
      case = λ scale bs a is. unique_part _ (a_case scale (branches {Q = λ b. U (branch b)} bs) a) (is, each_branch bs);
      extract = λ part a is. unique_part _ (an_extract part a) (is, tt);
      substring = λ a is from count. unique_part _ (a_substring a from count) (is, tt);
      compare = λ c a is b also. unique_part _ (a_comparison c a b) (is, (also, tt));
      between = λ a is b also d too. unique_part _ (a_between a b d) (is, (also, (too, tt)));
      like = λ a is pattern. unique_part _ (a_like a pattern) (is, tt);
      in_list = λ a is es. unique_part _ (a_list a (exprs {P = λ a. U (expr a)} es)) (is, each_expr es);
      is_null = λ a is. unique_part _ (a_null_test a) (is, tt);
      not = λ a is. unique_part _ (a_not a) (is, tt);
      all = λ es. unique_part _ (an_all (exprs {P = λ a. U (expr a)} es)) (each_expr es);
      any = λ es. unique_part _ (an_any (exprs {P = λ a. U (expr a)} es)) (each_expr es);
      is_marked = λ a is. unique_part _ (a_mark_test a) (is, tt);
      branch = λ a b is also. unique_part _ (a_branch (record { when = a; gives = b })) (is, (also, tt));
      operation = λ o a is. unique_part _ (an_operation (record { operator = o; operand = a })) (is, tt);
    })

each_map : {A : Type 0} (f : A → Part) → ((a : A) → U (f a)) → (us : List A) → Each U (map f us)
each_map f all [] = tt
each_map f all (a ∷ us) = (all a, each_map f all us)

unique_aggregate : (a : Aggregate) → U (aggregate a)
unique_aggregate CountRows = unique_part _ (an_aggregate CountRows) tt
unique_aggregate (Of f scale a) = unique_part _ (an_aggregate (Of f scale a)) (unique_expr a, tt)

unique_value : (x : Value) → U (value x)
unique_value x = unique_part _ (a_value x) tt

unique_node : (x : Node) → U (node x)
unique_node (n.Scan table) = unique_part _ (a_node (n.Scan table)) tt
unique_node (n.Domain i cs) = unique_part _ (a_node (n.Domain i cs)) tt
unique_node (n.Select i a) = unique_part _ (a_node (n.Select i a)) (unique_expr a, tt)
unique_node (n.Project i us) = unique_part _ (a_node (n.Project i us)) (each_map expr unique_expr us)
unique_node (n.Join i j matched a) = unique_part _ (a_node (n.Join i j matched a)) (unique_expr a, tt)
unique_node (n.Outer i j matched k a) = unique_part _ (a_node (n.Outer i j matched k a)) (unique_expr a, tt)
unique_node (n.Mark i j matched a) = unique_part _ (a_node (n.Mark i j matched a)) (unique_expr a, tt)
unique_node (n.Single i j matched k) = unique_part _ (a_node (n.Single i j matched k)) tt
unique_node (n.Group i by us) = unique_part _ (a_node (n.Group i by us)) (each_map aggregate unique_aggregate us)
unique_node (n.Fill i j xs) = unique_part _ (a_node (n.Fill i j xs)) (each_map value unique_value xs)
unique_node (n.Distinct i) = unique_part _ (a_node (n.Distinct i)) tt
unique_node (n.Set i j o) = unique_part _ (a_node (n.Set i j o)) tt
unique_node (n.Kept number plan) = unique_part _ (a_node (n.Kept number plan))
    (unique_expr plan.condition, each_map (λ a. aggregate (plain_aggregate a)) (λ a. unique_aggregate (plain_aggregate a)) plan.aggregates)

abbrev node_or : Node → Part → Node
node_or x (node y) = y
node_or x p = x

node_unique : (x : Node) → Unique node_spelling x
node_unique x y r s e =
    let same = unique_node x (node y) r s e in
    (ap (node_or x) same.0, same.1)

each_node : (xs : List Node) → Each (Unique node_spelling) xs
each_node [] = tt
each_node (x ∷ xs) = (node_unique x, each_node xs)

pub spelling_is_unique : SpellingIsUnique
unfolding plan_spelling
spelling_is_unique xs ys r s e =
    let same = spelled_unique node_spelling [] [] r s xs ys (each_node xs) e in
    (same.1, same.2)
