-- What an OR implies of one input may be asked besides.
use Rattle.std.proofs.Common.{◌≡◌, ℕ, ◌+◌, ◌<◌, ◌≤◌, List, [], ◌∷◌, ◌++◌, sym, ◌∙◌, ap, subst}
use Rattle.std.proofs.Common.{arith, zero, suc, length, take, get_or}
use Rattle.std.specs.Prelude.{min, max}
use Rattle.std.proofs.lemmas.List.{take_more, take_all}
use Rattle.base_row_laws.specs.Bags.{SameBag}
use Rattle.base_row_laws.specs.Rows.{unit_row}
use Rattle.base_row_laws.specs.Operators.{select}
use Rattle.base_row_laws.specs.JoinGroups.{chain}
use Rattle.base_row_laws.proofs.Lists.{Each-all}
use Rattle.base_row_laws.proofs.AtHand.{select_at_hand}
use Rattle.base_value.specs.declared.value.Value.{Value}
use Rattle.expr_scalar.specs.declared.expr.Expr.{Expr}
use Rattle.expr_scalar.specs.declared.expr.Expr.TheVariants as e
use Rattle.expr_conditions.specs.Ranks.{rank_of, all_rank, all_say, IsBelow}
use Rattle.expr_conditions.proofs.Ranks.{rank_All, all_rank-push, all_rank-append, all_rank-le}
use Rattle.expr_conditions.proofs.Truths.{rank_Any, any_rank}
use Rattle.plan_algebra.specs.declared.tree.DepTree.{DepTree}
use Rattle.plan_algebra.specs.Trees.{tree_rows}
use Rattle.plan_join_order.specs.Groups.{Collects, rows_of}
use Rattle.plan_join_order.specs.Implied.{AreImplied, PutImplied, SaysSame}

pub put_none : (x : Expr) (old : List Expr) → PutImplied x old old
put_none x old = record { says = λ row. omega arith }

pub put_some : (x new : Expr) (old to : List Expr) → IsBelow new x → to ≡ old ++ new ∷ []
    → PutImplied x old to
put_some x new old to below push = record {
  says = λ row.
      let h = below.says row in
      let p : all_rank to row ≡ min (all_rank old row) (rank_of new row) =
      ap (λ l. all_rank l row) push ∙ all_rank-push old new row in
      omega (arith, h, p);
}

pub same_below : (x new : Expr) → new ≡ x → IsBelow new x
same_below x new is = record {
  says = λ row. let h : rank_of x row
      ≡ rank_of new row = ap (λ y. rank_of y row) (sym is) in omega (arith, h);
}

pub implied_none : (es : List Expr) → AreImplied es []
implied_none es = record { says = λ row. all_rank-le es row }

-- one more of the parts of an AND
pub part_more : (es old to : List Expr) (i : ℕ) (x : Expr) → i < length es → x ≡ get_or es i x
    → AreImplied (take i es) old → PutImplied x old to → AreImplied (take (i + 1) es) to
part_more es old to i x lt is before put = record {
  says = λ row.
      let b = before.says row in
      let p = put.says row in
      let q : all_rank (take (i + 1) es) row ≡ min (all_rank (take i es) row) (rank_of x row) =
      ap (λ l. all_rank l row) (take_more es i x lt ∙ ap (λ y. take i es ++ y ∷ []) (sym is))
      ∙ all_rank-push (take i es) x row in
      omega (arith, b, p, q);
}

-- a condition says at least what all say
member : (es : List Expr) (i : ℕ) (x : Expr) (row : List Value) → i < length es → x ≡ get_or es i x
    → all_rank es row ≤ rank_of x row
member [] i x row lt is = absurd (omega (arith, lt))
member (y ∷ es) zero x row lt is = let h : rank_of x row
    ≡ rank_of y row = ap (λ z. rank_of z row) is in omega (arith, h)
member (y ∷ es) (suc i) x row lt is = let ih = member es i x row (omega (arith, lt)) is in
    omega (arith, ih)

pub implied_more : (es old to : List Expr) (i : ℕ) (x : Expr) → i < length es → x ≡ get_or es i x
    → AreImplied es old → PutImplied x old to → AreImplied es to
implied_more es old to i x lt is before put = record {
  says = λ row. let b = before.says row in let p = put.says row in
      let m = member es i x row lt is in omega (arith, b, p, m);
}

pub all_below : (part new : Expr) (es seen own : List Expr) → part ≡ e.All es → seen ≡ es
    → AreImplied seen own → new ≡ e.All own → IsBelow new part
all_below part new es seen own is i all made = record {
  says = λ row.
      let a = all.says row in
      let p : rank_of part row ≡ all_rank seen row =
      ap (λ y. rank_of y row) is ∙ rank_All es row ∙ ap (λ l. all_rank l row) (sym i) in
      let q : rank_of new row ≡ all_rank own row =
      ap (λ y. rank_of y row) made ∙ rank_All own row in
      omega (arith, a, p, q);
}

-- one more of the parts of an OR
pub record AreOred (parts all : List Expr) : Type 0 where
  pub says : (row : List Value) → any_rank parts row ≤ any_rank all row

any-push : (es : List Expr) (x : Expr) (row : List Value)
    → any_rank (es ++ x ∷ []) row ≡ max (any_rank es row) (rank_of x row)
any-push [] x row = omega arith
any-push (y ∷ es) x row = let ih = any-push es x row in omega (arith, ih)

pub ored_none : AreOred [] []
ored_none = record { says = λ row. omega arith }

pub ored_more : (parts all to : List Expr) (i : ℕ) (x new : Expr) → i < length parts
    → x ≡ get_or parts i x → AreOred (take i parts) all → IsBelow new x → to ≡ all ++ new ∷ []
    → AreOred (take (i + 1) parts) to
ored_more parts all to i x new lt is before below push = record {
  says = λ row.
      let b = before.says row in
      let h = below.says row in
      let p : any_rank (take (i + 1) parts) row
      ≡ max (any_rank (take i parts) row) (rank_of x row) =
      ap (λ l. any_rank l row) (take_more parts i x lt ∙ ap (λ y. take i parts ++ y ∷ []) (sym is))
      ∙ any-push (take i parts) x row in
      let q : any_rank to row ≡ max (any_rank all row) (rank_of new row) =
      ap (λ l. any_rank l row) push ∙ any-push all new row in
      omega (arith, b, h, p, q);
}

pub any_below : (parts all : List Expr) (new : Expr) (i : ℕ) → length parts ≤ i
    → AreOred (take i parts) all → new ≡ e.Any all → IsBelow new (e.Any parts)
any_below parts all new i le ored made = record {
  says = λ row.
      let a = ored.says row in
      let p : rank_of (e.Any parts) row ≡ any_rank (take i parts) row =
      rank_Any parts row ∙ ap (λ l. any_rank l row) (sym (take_all i parts le)) in
      let q : rank_of new row ≡ any_rank all row =
      ap (λ y. rank_of y row) made ∙ rank_Any all row in
      omega (arith, a, p, q);
}

pub or_put : (x new : Expr) (parts seen old to : List Expr) → x ≡ e.Any parts → seen ≡ parts
    → IsBelow new (e.Any seen) → to ≡ old ++ new ∷ [] → PutImplied x old to
or_put x new parts seen old to is i below push =
    put_some x new old to (subst (λ y. IsBelow new y) (ap e.Any i ∙ sym is) below) push

-- implied conditions after the others
pub said_same : (es seen new to : List Expr) → seen ≡ es → AreImplied seen new → to ≡ es ++ new
    → SaysSame es to
said_same es seen new to i imp push = record {
  says = λ row.
      let h = imp.says row in
      let s : all_rank seen row ≡ all_rank es row = ap (λ l. all_rank l row) i in
      let p : all_rank to row ≡ min (all_rank es row) (all_rank new row) =
      ap (λ l. all_rank l row) push ∙ all_rank-append es new row in
      omega (arith, h, s, p);
}

said : (fs gs : List Expr) (d r : List Value) → SaysSame fs gs → all_say fs d r ≡ all_say gs d r
unfolding all_say
said fs gs d r s = s.says (d ++ r)

-- what was collected, under conditions that say the same
pub collects_same : (n : ℕ) (a : DepTree) (inputs more now : List DepTree) (es fs gs : List Expr)
    → Collects n a inputs more es fs → now ≡ more → SaysSame fs gs → Collects n a inputs now es gs
collects_same n a inputs more now es fs gs c i s =
    subst (λ l. Collects n a inputs l es gs) (sym i) (record {
      scans = c.scans;
      width = c.width;
      rows = λ db d k ld g C.
          let Z = chain unit_row (rows_of more db d ++ C) in
          subst (λ l. SameBag (select (λ r. min (all_say es d r) (g r))
          (chain unit_row (rows_of inputs db d ++ tree_rows a db d ∷ C))) l)
          (select_at_hand (λ r. min (all_say fs d r) (g r)) (λ r. min (all_say gs d r) (g r)) Z
          (Each-all (λ x. min (all_say fs d x.values) (g x.values)
          ≡ min (all_say gs d x.values) (g x.values)) Z
          (λ x. ap (λ m. min m (g x.values)) (said fs gs d x.values s))))
          (c.rows db d k ld g C);
    })
