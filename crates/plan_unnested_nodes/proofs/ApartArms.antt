-- Parts of FROM without the domain: what they are as a part of a tree, and as a whole.
use Rattle.std.proofs.Common.{◌≡◌, ℕ, ◌+◌, ◌<◌, List, [], ◌++◌, refl, sym, ◌∙◌, ap, subst, arith, length}
use Rattle.std.specs.Prelude.{IsTrue, Option, Some, None, IfSome, replicate}
use Rattle.std.proofs.lemmas.List.{append-nil}
use Rattle.base_row_laws.specs.Ranked.{Ranked}
use Rattle.base_row_laws.specs.Bags.{SameBag, Each}
use Rattle.base_row_laws.specs.Rows.{after}
use Rattle.base_row_laws.specs.Operators.{select, outer_loop}
use Rattle.base_row_laws.specs.Matched.{inner_matched}
use Rattle.base_row_laws.specs.Trees.{side_width}
use Rattle.base_row_laws.specs.Domains.{IsDomain, Meets, Answers}
use Rattle.base_row_laws.proofs.Bags.{SameBag-trans, SameBag-map}
use Rattle.base_row_laws.proofs.Lists.{Each-all, Each-weaker, Each-both}
use Rattle.base_row_laws.proofs.Alike.{select_alike, join_loop_alike, outer_loop_alike}
use Rattle.base_row_laws.proofs.AtHand.{select_at_hand}
use Rattle.base_row_laws.proofs.Trees.{closed_meets, root_bag}
use Rattle.base_value.specs.declared.value.Value.{Value}
use Rattle.base_value.specs.declared.value.Value.TheVariants.{Null}
use Rattle.base_value.specs.Value.{same_value}
use Rattle.base_value.proofs.Identity.{value_identity}
use Rattle.base_schema.specs.declared.table.TableName.{TableName}
use Rattle.plan_algebra.specs.declared.kept_plan.KeptPlan.{KeptPlan}
use Rattle.expr_scalar.specs.declared.expr.Expr.{Expr}
use Rattle.expr_scalar.specs.declared.expr.Expr.TheVariants as e
use Rattle.expr_conditions.specs.Ranks.{rank_of, all_rank, says}
use Rattle.expr_conditions.proofs.Ranks.{rank_All}
use Rattle.plan_algebra.specs.declared.node.Node.{Node}
use Rattle.plan_algebra.specs.declared.node.Node.TheVariants as node
use Rattle.plan_algebra.specs.declared.tree.DepTree.{DepTree}
use Rattle.plan_algebra.specs.declared.tree.DepTree.TheVariants as t
use Rattle.plan_algebra.specs.declared.tree.DepTree.TheOpen as o
use Rattle.plan_algebra.specs.declared.tree.Side.{Side}
use Rattle.plan_algebra.specs.declared.tree.Side.TheVariants.{Closed}
use Rattle.plan_algebra.specs.Trees.{Database, HasKinds, TreeMeaning, tree_step, tree_meaning, width_of, side_of, right_row}
use Rattle.plan_algebra.specs.Plans.{plan_rows, plan_width, is_formed}
use Rattle.plan_algebra.proofs.Opened.{meaning_Scan, meaning_Kept, meaning_Select, meaning_Project, meaning_Join, meaning_Outer}
use Rattle.plan_unnested_nodes.specs.declared.domain.DomainRows.{DomainRows}
use Rattle.plan_unnested_nodes.specs.declared.domain.DomainRows.TheVariants as domain
use Rattle.plan_unnested_nodes.specs.declared.domain.Origin.{Origin}
use Rattle.plan_unnested_nodes.specs.declared.footing.Footing.{Footing}
use Rattle.plan_unnested_nodes.specs.declared.origins.Known.{Known}
use Rattle.plan_unnested_nodes.specs.declared.footing.FootingRows.TheVariants.{One, Node as AtNode}
use Rattle.plan_unnested_nodes.specs.declared.from_rows.Apart.{Apart}
use Rattle.plan_unnested_nodes.specs.declared.from_rows.Part.{Part}
use Rattle.plan_unnested_nodes.specs.declared.from_rows.Part.TheVariants as part
use Rattle.plan_unnested_nodes.specs.Footings.{footing_width, footing_rows, as_footing, is_due, IsFooting, SameFooting, Settles}
use Rattle.plan_unnested_nodes.specs.Growth.{IsPut}
use Rattle.plan_unnested_nodes.specs.Lowerings.{Lowers, IsOwn}
use Rattle.plan_unnested_nodes.specs.OwnColumns.{StandForAll}
use Rattle.plan_unnested_nodes.specs.PlanKinds.{AreKindsOf}
use Rattle.plan_unnested_nodes.specs.FromRows.{apart_rows, apart_meaning, GivesApart, IsPart, AreOwn, IsOwnCondition, IsOwnOn, SelectsApart, JoinsApart, OutersApart, IsOverDomain, LowersApart}
use Rattle.plan_unnested_nodes.proofs.Arms.{puts, selection_over}
use Rattle.plan_unnested_nodes.proofs.Grown.{same_plan, both_more, grows_as, grown_length, kept_rows, kept_width}
use Rattle.plan_unnested_nodes.proofs.Kept.{kept_in_plan, same_footing, both_same, holds_later, settled_first}
use Rattle.plan_unnested_nodes.proofs.Owned.{beside_own, own_answers}
use Rattle.plan_unnested_nodes.proofs.OwnNodes.{own_grows, own_last, own_width, own_kept}
use Rattle.plan_unnested_nodes.proofs.Sides.{one_holds}
use Rattle.plan_unnested_nodes.proofs.ApartNodes.{rows_wide}

-- rows that answer loops answer other ones of the same rows
answers_same : (ds xs : List (Ranked Value)) (L M : List Value → List (Ranked Value)) → ((d : List Value) → L d ≡ M d) → Answers same_value ds xs L → Answers same_value ds xs M
answers_same ds xs L M same a =
    Each-weaker (λ e. Meets same_value e.values xs (L e.values)) (λ e. Meets same_value e.values xs (M e.values)) ds (λ e m. subst (λ l. Meets same_value e.values xs l) (same e.values) m) a

-- or of the same bag, under rows of n columns
answers_alike : (n : ℕ) (ds xs : List (Ranked Value)) (L M : List Value → List (Ranked Value)) → Each (λ e. length e.values ≡ n) ds → ((d : List Value) → length d ≡ n → SameBag (L d) (M d))
    → Answers same_value ds xs L → Answers same_value ds xs M
answers_alike n ds xs L M wide same a =
    Each-weaker (λ e. (length e.values ≡ n) × Meets same_value e.values xs (L e.values)) (λ e. Meets same_value e.values xs (M e.values)) ds
    (λ e p. let m = p.1 in record { same_bag = SameBag-trans m.same_bag (SameBag-map (after e.values) (same e.values p.0)); wide = m.wide })
    (Each-both (λ e. length e.values ≡ n) (λ e. Meets same_value e.values xs (L e.values)) ds wide a)

-- what one condition keeps, and what conditions keep
kept_same : (c : Expr) (es : List Expr) (xs ys : List (Ranked Value)) → c ≡ e.All es → xs ≡ ys → (d : List Value) → select (λ t. rank_of c (d ++ t)) xs ≡ select (λ t. all_rank es (d ++ t)) ys
kept_same c es xs ys is same d =
    select_at_hand (λ t. rank_of c (d ++ t)) (λ t. all_rank es (d ++ t)) xs
    (Each-all (λ x. rank_of c (d ++ x.values) ≡ all_rank es (d ++ x.values)) xs (λ x. ap (λ o. rank_of o (d ++ x.values)) is ∙ rank_All es (d ++ x.values)))
    ∙ ap (select (λ t. all_rank es (d ++ t))) same

-- rows with columns of their own for all of the domain's
pub own_apart : {old new : List Node} {f : Footing} {c read : Expr} {kinds seen_kinds : List (Option Known)} {notes : List Origin} {own seen : List ℕ} {n id : ℕ} (p : Apart)
    → IsFooting old f.rows → IsTrue (is_formed old) → plan_width old p.rows ≡ p.width → c ≡ e.All p.conditions → AreKindsOf old p.rows kinds → seen_kinds ≡ kinds
    → n ≡ footing_width f.rows → notes ≡ f.unchanged → StandForAll seen_kinds notes n c own → read ≡ c → seen ≡ own → IsOwn old new p.rows p.width seen_kinds read seen id → LowersApart old new f f p id
own_apart {old = old} {new = new} {f = f} {c = c} {read = read} {kinds = kinds} {seen_kinds = seen_kinds} {notes = notes} {own = own} {n = n} {id = id} p within formed wide is known ks w noted stand again same put =
    let here : IsOwn old new p.rows p.width kinds c own id =
    subst (λ l. IsOwn old new p.rows p.width l c own id) ks (subst (λ e. IsOwn old new p.rows p.width seen_kinds e own id) again (subst (λ l. IsOwn old new p.rows p.width seen_kinds read l id) same put)) in
    let stands : StandForAll kinds f.unchanged (footing_width f.rows) c own =
    subst (λ m. StandForAll kinds f.unchanged m c own) w (subst (λ ns. StandForAll kinds ns n c own) noted (subst (λ k. StandForAll k notes n c own) ks stand)) in
    record {
      most = 0;
      plan = own_grows old new p.rows p.width id kinds c own here;
      few = omega arith;
      same = same_footing f (own_grows old new p.rows p.width id kinds c own here) within;
      last = own_last old new p.rows p.width id kinds c own here;
      width = own_width old new p.rows p.width id kinds c own here ∙ ap (λ k. k + p.width) stands.long;
      answers = λ db h.
          let ds = footing_rows db old f.rows in
          let X = plan_rows db old p.rows in
          let xs = select (rank_of c) (beside_own own X) in
          let all : Answers same_value ds xs (λ d. select (λ t. rank_of c (d ++ t)) X) = own_answers kinds f.unchanged (footing_width f.rows) c own stands ds X h.is_domain h.noted (known.kept db h.kinds) in
          let kept : plan_rows db new id ≡ xs = own_kept old new p.rows p.width id kinds c own here db (known.kept db h.kinds) (rows_wide db old p.rows p.width formed h.kinds wide) in
          subst (λ l. Answers same_value ds l (apart_rows db old p)) (sym kept)
          (answers_same ds xs (λ d. select (λ t. rank_of c (d ++ t)) X) (apart_rows db old p) (kept_same c p.conditions X X is refl) all);
    }

-- rows under each row of a domain
module _ (old mid new : List Node) (p : Apart) (g : Footing) (c : Expr) (id : ℕ) (is : c ≡ e.All p.conditions) (within : IsFooting mid g.rows) (wide : plan_width mid p.rows ≡ p.width)
    (kept : (db : Database) → plan_rows db mid p.rows ≡ plan_rows db old p.rows) where
  over_one : g.rows ≡ One → IsPut mid new (node.Select p.rows c) id → Lowers mid new (apart_meaning old p) g g id
  unfolding plan_rows plan_width
  over_one e q =
      puts mid mid new [] 0 (apart_meaning old p) g g id (node.Select p.rows c) (same_plan mid) (same_footing g (same_plan mid) within) q refl (omega arith)
      (let z = ap footing_width e in omega (arith, z, wide))
      (λ db h.
      let Y = plan_rows db mid p.rows in
      let xs = select (rank_of c) Y in
      subst (λ r. Answers same_value (footing_rows db mid r) xs (apart_rows db old p)) (sym e)
      (subst (λ l. Meets same_value [] xs l) (kept_same c p.conditions Y (plan_rows db old p.rows) is (kept db) []) (closed_meets same_value value_identity xs), tt))

  over_node : (d width : ℕ) → g.rows ≡ AtNode d width → IsPut mid new (node.Join d p.rows [] c) id → Lowers mid new (apart_meaning old p) g g id
  unfolding plan_rows plan_width
  over_node d width e q =
      let there : IsFooting mid (AtNode d width) = subst (IsFooting mid) e within in
      puts mid mid new [] 0 (apart_meaning old p) g g id (node.Join d p.rows [] c) (same_plan mid) (same_footing g (same_plan mid) within) q refl (omega arith)
      (let z = ap footing_width e in let dw = there.1 in omega (arith, z, dw, wide))
      (λ db h.
      let Y = plan_rows db mid p.rows in
      let ds = plan_rows db mid d in
      let dom : IsDomain same_value width ds = subst (λ r. IsDomain same_value (footing_width r) (footing_rows db mid r)) e h.is_domain in
      let xs = inner_matched same_value Null [] (rank_of c) ds Y in
      subst (λ r. Answers same_value (footing_rows db mid r) xs (apart_rows db old p)) (sym e)
      (answers_same ds xs (λ d. select (λ t. rank_of c (d ++ t)) Y) (apart_rows db old p) (kept_same c p.conditions Y (plan_rows db old p.rows) is (kept db)) (selection_over width ds Y c dom)))

  over_lowers : (r : DomainRows) → g.rows ≡ as_footing r → IsOverDomain mid new p.rows c r id → Lowers mid new (apart_meaning old p) g g id
  over_lowers domain.One e q = over_one e q
  over_lowers (domain.Node d width) e q = over_node d width e q

pub over_apart : {old mid new : List Node} {f g : Footing} {r : DomainRows} {c : Expr} {id : ℕ} (p : Apart) → Settles old mid f g r → p.rows < length old → plan_width old p.rows ≡ p.width → c ≡ e.All p.conditions
    → IsOverDomain mid new p.rows c r id → LowersApart old new f g p id
over_apart {old = old} {mid = mid} {new = new} {g = g} {r = r} {c = c} {id = id} p s within wide is put =
    settled_first s (over_lowers old mid new p g c id is s.same.in_plan (kept_width p.rows s.plan within ∙ wide) (λ db. kept_rows db p.rows s.plan within) r s.settled put)

-- a part, as the code reads it
pub read_whole : {before after : List Node} {m : TreeMeaning} {f g : Footing} {p : Part} {id : ℕ} → IsPart before after m f g p → p ≡ part.Whole id → Lowers before after m f g id
read_whole {before = before} {after = after} {m = m} {f = f} {g = g} l is = subst (λ q. IsPart before after m f g q) is l

pub read_apart : {before after : List Node} {m : TreeMeaning} {f g : Footing} {p : Part} {a : Apart} → IsPart before after m f g p → p ≡ part.Apart a → (g ≡ f) × GivesApart before after m (footing_width f.rows) a
read_apart {before = before} {after = after} {m = m} {f = f} {g = g} l is = subst (λ q. IsPart before after m f g q) is l

gives_as : {before after : List Node} {m k : TreeMeaning} {n : ℕ} {a : Apart} → m ≡ k → GivesApart before after k n a → GivesApart before after m n a
gives_as {before = before} {after = after} {n = n} {a = a} e g = subst (λ k. GivesApart before after k n a) (sym e) g

-- a table
pub scan_part : {before new : List Node} {tree : DepTree} {table : TableName} {a : Apart} (f : Footing) → tree ≡ t.Scan table → ((n : ℕ) → GivesApart before new (tree_step (o.Scan table)) n a)
    → IsPart before new (tree_meaning tree) f f (part.Apart a)
scan_part {table = table} f is g = (refl, gives_as (ap tree_meaning is ∙ meaning_Scan table) (g (footing_width f.rows)))

-- a kept view
pub kept_part : {before new : List Node} {tree : DepTree} {number : ℕ} {plan : KeptPlan} {a : Apart} (f : Footing) → tree ≡ t.Kept number plan
    → ((n : ℕ) → GivesApart before new (tree_step (o.Kept number plan)) n a) → IsPart before new (tree_meaning tree) f f (part.Apart a)
kept_part {number = number} {plan = plan} f is g = (refl, gives_as (ap tree_meaning is ∙ meaning_Kept number plan) (g (footing_width f.rows)))

-- columns of a table
pub list_part : {before new : List Node} {tree input seen : DepTree} {table : TableName}
    {es read own : List Expr} {a : Apart} {n : ℕ} (f : Footing) (found : Option (List Expr))
    → tree ≡ t.Project input es → seen ≡ input → seen ≡ t.Scan table → n ≡ footing_width f.rows
    → read ≡ es → IfSome found (AreOwn n read) → found ≡ Some own
    → ((n : ℕ) (es : List Expr) → AreOwn n es own
    → GivesApart before new (tree_step (o.Project (tree_step (o.Scan table)) es)) n a)
    → IsPart before new (tree_meaning tree) f f (part.Apart a)
list_part {input = input} {table = table} {es = es} {read = read} {own = own} {n = n} f found is same scan w r h there g =
    let own_is : AreOwn n read own = subst (λ x. IfSome x (AreOwn n read)) there h in (
      refl,
      gives_as (ap tree_meaning is ∙ meaning_Project input es
          ∙ ap (λ m. tree_step (o.Project m es)) (ap tree_meaning (sym same ∙ scan) ∙ meaning_Scan table))
          (g (footing_width f.rows) es
          (subst (λ x. AreOwn (footing_width f.rows) x own) r (subst (λ k. AreOwn k read own) w own_is))),
    )

-- a selection
pub select_part : {before old new : List Node} {tree input seen : DepTree} {condition read : Expr} {f g : Footing} {p : Part} {a next : Apart} {n : ℕ} → tree ≡ t.Select input condition → seen ≡ input
    → IsPart before old (tree_meaning seen) f g p → p ≡ part.Apart a → n ≡ footing_width f.rows → read ≡ condition → SelectsApart old new n a read next
    → IsPart before new (tree_meaning tree) f g (part.Apart next)
unfolding says
select_part {before = before} {old = old} {new = new} {input = input} {seen = seen} {condition = condition} {read = read} {f = f} {a = a} {next = next} {n = n} is same l apart w r s =
    let both = read_apart l apart in
    let m = tree_meaning input in
    let given : GivesApart before old m (footing_width f.rows) a = subst (λ y. GivesApart before old (tree_meaning y) (footing_width f.rows) a) same both.1 in
    let selects : SelectsApart old new (footing_width f.rows) a condition next = subst (λ k. SelectsApart old new k a condition next) w (subst (λ c. SelectsApart old new n a c next) r s) in (
      both.0,
      gives_as (ap tree_meaning is ∙ meaning_Select input condition) (record {
        most = given.most + 0;
        plan = grows_as (both_more given.plan selects.plan) (append-nil m.scans) (omega arith);
        few = let d = given.few in omega (arith, d);
        last = selects.last;
        wide = selects.wide;
        width = selects.width ∙ given.width;
        rows = λ db k d ld. SameBag-trans (selects.rows db k d ld) (select_alike (says condition d) (apart_rows db old a d) (m.rows db d) (given.rows db k d ld));
      }),
    )

-- the rows of a node over the one row of no columns
closed_rows : {before after : List Node} {m : TreeMeaning} {first last : Footing} {id : ℕ} → first.rows ≡ One → first.unchanged ≡ [] → Lowers before after m first last id → (db : Database) → HasKinds db
    → SameBag (plan_rows db after id) (m.rows db [])
closed_rows {before = before} {after = after} {m = m} {first = first} {id = id} one none l db k =
    root_bag same_value value_identity (plan_rows db after id) (m.rows db)
    (subst (λ r. Answers same_value (footing_rows db before r) (plan_rows db after id) (m.rows db)) one (l.answers db (one_holds db before first one none k)))

-- a join with a side that reads no domain
pub join_part : {before a c new : List Node} {tree left right seen_left seen_right wide : DepTree} {on read : Expr} {f g first last : Footing} {p : Part} {x next : Apart} {n rows more : ℕ}
    → tree ≡ t.Join left right Closed on → n ≡ footing_width f.rows → seen_left ≡ left → IsPart before a (tree_meaning seen_left) f g p → p ≡ part.Apart x
    → first.rows ≡ One → first.unchanged ≡ [] → seen_right ≡ right → Lowers a c (tree_meaning seen_right) first last rows → wide ≡ right → more ≡ width_of wide → read ≡ on
    → JoinsApart c new n x rows more read next → IsPart before new (tree_meaning tree) f g (part.Apart next)
unfolding says right_row width_of
join_part {before = before} {a = a} {c = c} {new = new} {left = left} {right = right} {on = on} {f = f} {first = first} {last = last} {x = x} {next = next} {n = n} {rows = rows} {more = more} is w el l apart one none er r ew m q s =
    let both = read_apart l apart in
    let L = tree_meaning left in
    let R = tree_meaning right in
    let given : GivesApart before a L (footing_width f.rows) x = subst (λ y. GivesApart before a (tree_meaning y) (footing_width f.rows) x) el both.1 in
    let lowers : Lowers a c R first last rows = subst (λ y. Lowers a c (tree_meaning y) first last rows) er r in
    let joins : JoinsApart c new (footing_width f.rows) x rows more on next = subst (λ k. JoinsApart c new k x rows more on next) w (subst (λ y. JoinsApart c new n x rows more y next) q s) in
    let there : x.rows < length a = let z = given.last in omega (arith, z) in (
      both.0,
      gives_as (ap tree_meaning is ∙ meaning_Join left right Closed on) (record {
        most = given.most + lowers.most + 0;
        plan = grows_as (both_more (both_more given.plan lowers.plan) joins.plan) (append-nil (L.scans ++ R.scans)) (omega arith);
        few = let d = given.few in let y = lowers.few in let z = ap is_due one in omega (arith, d, y, z);
        last = joins.last;
        wide = joins.wide;
        width = let y = joins.width in let z = given.width in let v = m ∙ ap (λ y. (tree_meaning y).width) ew in omega (arith, y, z, v);
        rows = λ db k d ld.
            let kept : plan_rows db c x.rows ≡ plan_rows db a x.rows = kept_rows db x.rows lowers.plan there in
            let left_bag : SameBag (apart_rows db c x d) (L.rows db d) = subst (λ l. SameBag (select (λ t. all_rank x.conditions (d ++ t)) l) (L.rows db d)) (sym kept) (given.rows db k d ld) in
            let right_bag : SameBag (plan_rows db c rows) (R.rows db []) = closed_rows one none lowers db k in
            SameBag-trans (joins.rows db k d ld)
            (join_loop_alike (says on d) (apart_rows db c x d) (L.rows db d) (λ l. plan_rows db c rows) (λ l. R.rows db []) left_bag
            (Each-all (λ l. SameBag (plan_rows db c rows) (R.rows db [])) (apart_rows db c x d) (λ l. right_bag)));
      }),
    )

-- a left outer join with such a side, under a condition that reads none
pub outer_part : {before a c new : List Node} {tree left right seen_left seen_right wide size room : DepTree} {side : Side} {on seen_on : Expr} {f g first last : Footing} {p : Part} {x next : Apart} {own : List Expr} {n rows more : ℕ}
    → tree ≡ t.Outer left right side on → n ≡ footing_width f.rows → seen_left ≡ left → IsPart before a (tree_meaning seen_left) f g p → p ≡ part.Apart x
    → first.rows ≡ One → first.unchanged ≡ [] → seen_right ≡ right → Lowers a c (tree_meaning seen_right) first last rows → wide ≡ right → more ≡ width_of wide
    → size ≡ left → room ≡ right → seen_on ≡ on → IsOwnOn (footing_width f.rows) (width_of size + width_of room) side seen_on own
    → ((k : Expr) → IsOwnCondition n (x.width + more) k own → OutersApart c new n x rows more k next) → IsPart before new (tree_meaning tree) f g (part.Apart next)
unfolding says right_row width_of
outer_part {before = before} {a = a} {c = c} {new = new} {left = left} {right = right} {size = size} {room = room} {side = side} {on = on} {f = f} {first = first} {last = last} {x = x} {next = next} {own = own} {n = n} {rows = rows} {more = more}
    is wn el l apart one none er r ew m ez ed again o s =
    let both = read_apart l apart in
    let L = tree_meaning left in
    let R = tree_meaning right in
    let N = footing_width f.rows in
    let given : GivesApart before a L N x = subst (λ y. GivesApart before a (tree_meaning y) N x) el both.1 in
    let lowers : Lowers a c R first last rows = subst (λ y. Lowers a c (tree_meaning y) first last rows) er r in
    let whole : width_of size + width_of room ≡ x.width + more =
    let z = given.width in let y : width_of size ≡ L.width = ap (λ y. (tree_meaning y).width) ez in
    let v : width_of room ≡ R.width = ap (λ y. (tree_meaning y).width) ed in let k : more ≡ R.width = m ∙ ap (λ y. (tree_meaning y).width) ew in omega (arith, z, y, v, k) in
    let said : IsOwnCondition n (x.width + more) on own =
    subst (λ k. IsOwnCondition k (x.width + more) on own) (sym wn) (subst (λ k. IsOwnCondition N k on own) whole
    (subst (λ y. IsOwnCondition N (width_of size + width_of room) y own) again o.says)) in
    let outers : OutersApart c new N x rows more on next = subst (λ k. OutersApart c new k x rows more on next) wn (s on said) in
    let there : x.rows < length a = let z = given.last in omega (arith, z) in
    let long : more ≡ R.width = m ∙ ap (λ y. (tree_meaning y).width) ew in (
      both.0,
      gives_as (ap tree_meaning (is ∙ ap (λ y. t.Outer left right y on) o.closed) ∙ meaning_Outer left right Closed on) (record {
        most = given.most + lowers.most + 0;
        plan = grows_as (both_more (both_more given.plan lowers.plan) outers.plan) (append-nil (L.scans ++ R.scans)) (omega arith);
        few = let d = given.few in let y = lowers.few in let z = ap is_due one in omega (arith, d, y, z);
        last = outers.last;
        wide = outers.wide;
        width = let y = outers.width in let z = given.width in omega (arith, y, z, long);
        rows = λ db k d ld.
            let kept : plan_rows db c x.rows ≡ plan_rows db a x.rows = kept_rows db x.rows lowers.plan there in
            let left_bag : SameBag (apart_rows db c x d) (L.rows db d) = subst (λ l. SameBag (select (λ t. all_rank x.conditions (d ++ t)) l) (L.rows db d)) (sym kept) (given.rows db k d ld) in
            let right_bag : SameBag (plan_rows db c rows) (R.rows db []) = closed_rows one none lowers db k in
            subst (λ z. SameBag (apart_rows db new next d) (outer_loop (replicate z Null) (says on d) (L.rows db d) (λ l. R.rows db []))) long
            (SameBag-trans (outers.rows db k d ld)
            (outer_loop_alike (replicate more Null) (says on d) (apart_rows db c x d) (L.rows db d) (λ l. plan_rows db c rows) (λ l. R.rows db []) left_bag
            (Each-all (λ l. SameBag (plan_rows db c rows) (R.rows db [])) (apart_rows db c x d) (λ l. right_bag))));
      }),
    )

-- a part without a domain, as a whole
pub whole_part : {before a new : List Node} {m : TreeMeaning} {f g h : Footing} {p : Part} {x : Apart} {id : ℕ} → IsFooting before f.rows → IsPart before a m f g p → p ≡ part.Apart x → LowersApart a new g h x id
    → Lowers before new m f h id
whole_part {before = before} {a = a} {new = new} {m = m} {f = f} {h = h} {x = x} {id = id} within l apart s =
    let both = read_apart l apart in
    let given = both.1 in
    let n = footing_width f.rows in
    let lowers : LowersApart a new f h x id = subst (λ y. LowersApart a new y h x id) both.0 s in
    let kept : SameFooting before a f f = same_footing f given.plan within in
    record {
      most = given.most + lowers.most;
      plan = grows_as (both_more given.plan lowers.plan) (append-nil m.scans) (omega arith);
      few = let d = given.few in let y = lowers.few in omega (arith, d, y);
      same = both_same kept lowers.same;
      last = lowers.last;
      width = lowers.width ∙ ap (λ k. n + k) given.width;
      answers = λ db holds.
          let ds = footing_rows db before f.rows in
          let xs = plan_rows db new id in
          let all : Answers same_value ds xs (apart_rows db a x) =
          subst (λ e. Answers same_value e xs (apart_rows db a x)) (kept.rows db) (lowers.answers db (holds_later db kept holds)) in
          answers_alike n ds xs (apart_rows db a x) (m.rows db) holds.is_domain.widths (λ d ld. given.rows db holds.kinds d ld) all;
    }

-- what the nodes that follow ask for
module _ (before a : List Node) (m : TreeMeaning) (f g : Footing) (p : Part) (x : Apart) (l : IsPart before a m f g p) (apart : p ≡ part.Apart x) where
  both : (g ≡ f) × GivesApart before a m (footing_width f.rows) x
  both = subst (λ q. IsPart before a m f g q) apart l

  pub part_footing : IsFooting before f.rows → IsFooting a g.rows
  part_footing within = subst (λ y. IsFooting a y.rows) (sym both.0) (kept_in_plan f.rows both.1.plan within)

  pub part_last : length a ≡ x.rows + 1
  part_last = both.1.last

  pub part_within : x.rows < length a
  part_within = let z = both.1.last in omega (arith, z)

  pub part_wide : plan_width a x.rows ≡ x.width
  part_wide = both.1.wide

  -- later on
  pub later_within : {c : List Node} {k : TreeMeaning} {first last : Footing} {rows : ℕ} → Lowers a c k first last rows → x.rows < length c
  later_within r = let z = both.1.last in let y = grown_length r.plan in omega (arith, z, y)

  pub later_wide : {c : List Node} {k : TreeMeaning} {first last : Footing} {rows : ℕ} → Lowers a c k first last rows → plan_width c x.rows ≡ x.width
  later_wide r = kept_width x.rows r.plan part_within ∙ both.1.wide

pub right_long : {a c : List Node} {right seen wide : DepTree} {first last : Footing} {rows more : ℕ} → first.rows ≡ One → seen ≡ right → Lowers a c (tree_meaning seen) first last rows → wide ≡ right → more ≡ width_of wide
    → plan_width c rows ≡ more
unfolding width_of
right_long {seen = seen} {wide = wide} {more = more} one er r ew m =
    let z = ap footing_width one in
    let y : (tree_meaning seen).width ≡ (tree_meaning wide).width = ap (λ y. (tree_meaning y).width) (er ∙ sym ew) in
    let k : more ≡ (tree_meaning wide).width = m in
    let w = r.width in
    omega (arith, w, z, y, k)

-- a closed side has its own columns alone
pub closed_long : (side : Side) (n more w : ℕ) → side ≡ Closed → w ≡ more → w ≡ side_width (side_of side) n + more
closed_long side n more w is e = subst (λ s. w ≡ side_width (side_of s) n + more) (sym is) (omega (arith, e))

-- an outer join's condition that reads its own columns alone
pub closed_on : {side : Side} {n first more whole m k l : ℕ} (c : Expr) → side ≡ Closed → n ≡ m → first ≡ k → more ≡ l → whole ≡ first + more → (own : Option (List Expr))
    → IfSome own (IsOwnCondition n whole c) → IfSome own (IsOwnOn m (k + l) side c)
closed_on c is a b d e None h = h
closed_on {n = n} {m = m} {k = k} {l = l} c is a b d e (Some es) h = record {
  closed = is;
  says = subst (λ x. IsOwnCondition x (k + l) c es) a (subst (λ x. IsOwnCondition n x c es) (omega (arith, b, d, e)) h);
}

-- the conditions that were found, as the code reads them
pub found_own : {n w : ℕ} {side : Side} {c : Expr} {o : Option (List Expr)} {es : List Expr} → IfSome o (IsOwnOn n w side c) → o ≡ Some es → IsOwnOn n w side c es
found_own {n = n} {w = w} {side = side} {c = c} h is = subst (λ x. IfSome x (IsOwnOn n w side c)) is h

pub found_closed : (n w : ℕ) (side : Side) (c : Expr) (o : Option (List Expr)) (es : List Expr) → IfSome o (IsOwnOn n w side c) → o ≡ Some es → side ≡ Closed
found_closed n w side c o es h is = (found_own {n = n} {w = w} {side = side} {c = c} {o = o} {es = es} h is).closed
