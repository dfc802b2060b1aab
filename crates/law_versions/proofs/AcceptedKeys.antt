-- A refresh has no cause against it exactly where its keys may be inserted or deleted.
use Rattle.std.proofs.Common.{◌≡◌, ◌≢◌, ℕ, zero, suc, ◌<◌, Bool, true, false, cond, not, ◌&&◌, ◌||◌, List, [], ◌∷◌, ◌++◌, length, get_or, Option, Some, None, ℤ, inl, inr, refl, sym, ap, ◌∙◌, subst, arith}
use Rattle.std.specs.List.{All, Contains, list_any}
use Rattle.std.specs.Ordering.{int_eq}
use Rattle.std.proofs.lemmas.Bool.Decides.{Decides-int_eq}
use Rattle.std.proofs.lemmas.List.Elements.{All-cons, All-weaker, Contains-append_left, Contains-push, Contains-push_cases}
use Rattle.std.proofs.lemmas.List.Kept.{AllPairs-cons}
use Rattle.base_refusals.specs.declared.refresh.Cause.{Cause}
use Rattle.base_refusals.specs.declared.refresh.Cause.TheVariants.{OrderExists, OrderTwice, LineTwice, StrayLine, UnknownOrder, KeyTwice, LineExists}
use Rattle.store_state.specs.Keys.{has_key, has_line, is_same_line, line_keys, order_keys}
use Rattle.store_state.specs.Refresh.{delete_cause, first_cause, line_cause, or_cause, order_cause}
use Rattle.law_versions.specs.Accepted.{AreDistinct, DeleteLaw, InsertLaw}

-- a test that tells keys apart finds a key exactly where it is one of them
record TellsApart {K : Type 0} (same : K → K → Bool) : Type 0 where
  pub equal : (a b : K) → same a b ≡ true → a ≡ b
  pub self : (a : K) → same a a ≡ true

and_parts : (a b : Bool) → (a && b) ≡ true → (a ≡ true) × (b ≡ true)
and_parts true b e = (refl, e)
and_parts false b e = cc

same_key : (key : ℤ) → int_eq key key ≡ true
same_key key = (Decides-int_eq key key).1 refl

same_pair : (a b : ℤ × ℤ) → is_same_line a b ≡ true → a ≡ b
same_pair a b e =
    let both = and_parts (int_eq a.0 b.0) (int_eq a.1 b.1) e in
    let first : a.0 ≡ b.0 = (Decides-int_eq a.0 b.0).0 both.0 in
    let second : a.1 ≡ b.1 = (Decides-int_eq a.1 b.1).0 both.1 in
    λ i. (first i, second i)

tells_keys : TellsApart int_eq
tells_keys = record { equal = λ a b. (Decides-int_eq a b).0; self = same_key }

tells_lines : TellsApart is_same_line
tells_lines = record {
  equal = same_pair;
  self = λ a. ap (λ b. b && int_eq a.1 a.1) (same_key a.0) ∙ same_key a.1;
}

or_left : (a b : Bool) → a ≡ true → (a || b) ≡ true
or_left true b e = refl
or_left false b e = cc

or_right : (a b : Bool) → b ≡ true → (a || b) ≡ true
or_right true b e = refl
or_right false b e = e

found_in : {K : Type 0} (same : K → K → Bool) → TellsApart same → (key k : K) (keys : List K) (b : Bool) → same key k ≡ b
    → (list_any (same key) keys ≡ true → Contains keys key) → (b || list_any (same key) keys) ≡ true → Contains (k ∷ keys) key
found_in same tells key k keys true e rest any = (0, omega arith, sym (tells.equal key k e))
found_in same tells key k keys false e rest any = let r = rest any in (suc r.0, omega (arith, r.1), r.2)

among : {K : Type 0} (same : K → K → Bool) → TellsApart same → (keys : List K) (key : K) → list_any (same key) keys ≡ true → Contains keys key
among same tells [] key any = cc
among same tells (k ∷ keys) key any = found_in same tells key k keys (same key k) refl (among same tells keys key) any

any_at : {K : Type 0} (same : K → K → Bool) → TellsApart same → (keys : List K) (key : K) (i : ℕ) → i < length keys → get_or keys i key ≡ key → list_any (same key) keys ≡ true
any_at same tells [] key i less is = absurd (omega (arith, less))
any_at same tells (k ∷ keys) key zero less is = or_left (same key k) (list_any (same key) keys) (subst (λ x. same key x ≡ true) (sym is) (tells.self key))
any_at same tells (k ∷ keys) key (suc i) less is = or_right (same key k) (list_any (same key) keys) (any_at same tells keys key i (omega (arith, less)) is)

found : {K : Type 0} (same : K → K → Bool) → TellsApart same → (keys : List K) (key : K) → Contains keys key → list_any (same key) keys ≡ true
found same tells keys key there = any_at same tells keys key there.0 there.1 there.2

not_among : {K : Type 0} (same : K → K → Bool) → TellsApart same → (keys : List K) (key : K) → list_any (same key) keys ≡ false → Contains keys key → ⊥
not_among same tells keys key none there = let e = found same tells keys key there in cc

by_test : {K : Type 0} (same : K → K → Bool) → TellsApart same → (keys : List K) (key : K) (b : Bool) → list_any (same key) keys ≡ b → (Contains keys key → ⊥) → b ≡ false
by_test same tells keys key true e out = absurd (out (among same tells keys key e))
by_test same tells keys key false e out = refl

not_found : {K : Type 0} (same : K → K → Bool) → TellsApart same → (keys : List K) (key : K) → (Contains keys key → ⊥) → list_any (same key) keys ≡ false
not_found same tells keys key out = by_test same tells keys key (list_any (same key) keys) refl out

or_none : (a b : Option Cause) → or_cause a b ≡ None → (a ≡ None) × (b ≡ None)
or_none None b e = (refl, e)
or_none (Some c) b e = cc

all_none : {A : Type 0} (P : A → Type 0) → All P []
all_none P k d less = absurd (omega (arith, less))

-- what a list of keys without a cause tells
pub record AreFree {K : Type 0} (Good : K → Type 0) (earlier keys : List K) : Type 0 where
  pub good : All Good keys
  pub distinct : AreDistinct keys
  pub fresh : All (λ key. Contains earlier key → ⊥) keys

free_nil : {K : Type 0} (Good : K → Type 0) (earlier : List K) → AreFree Good earlier []
free_nil Good earlier = record {
  good = all_none Good;
  distinct = λ i j d low less. absurd (omega (arith, less));
  fresh = all_none (λ key. Contains earlier key → ⊥);
}

free_cons : {K : Type 0} (Good : K → Type 0) (earlier : List K) (key : K) (keys : List K) → Good key → (Contains earlier key → ⊥)
    → AreFree Good (earlier ++ key ∷ []) keys → AreFree Good earlier (key ∷ keys)
free_cons Good earlier key keys good out rest = record {
  good = All-cons Good key keys good rest.good;
  distinct = AllPairs-cons (λ a b. a ≢ b) key keys
      (All-weaker (λ k. Contains (earlier ++ key ∷ []) k → ⊥) (λ k. key ≢ k) (λ k h e. h (subst (λ x. Contains (earlier ++ key ∷ []) x) e (Contains-push earlier key))) keys rest.fresh)
      rest.distinct;
  fresh = All-cons (λ k. Contains earlier k → ⊥) key keys out
      (All-weaker (λ k. Contains (earlier ++ key ∷ []) k → ⊥) (λ k. Contains earlier k → ⊥) (λ k h there. h (Contains-append_left earlier (key ∷ []) k there)) keys rest.fresh);
}

-- a test that passes just the good keys that are not among the earlier ones
record PassesJust {K : Type 0} (same : K → K → Bool) (Good : K → Type 0) (test : List K → K → Option Cause) : Type 0 where
  pub passes : (earlier : List K) (key : K) → test earlier key ≡ None → Good key × (list_any (same key) earlier ≡ false)
  pub passed : (earlier : List K) (key : K) → Good key → list_any (same key) earlier ≡ false → test earlier key ≡ None

free_keys : {K : Type 0} (same : K → K → Bool) (Good : K → Type 0) (test : List K → K → Option Cause) → TellsApart same → PassesJust same Good test
    → (earlier keys : List K) → first_cause test earlier keys ≡ None → AreFree Good earlier keys
free_keys same Good test tells just earlier [] e = free_nil Good earlier
free_keys same Good test tells just earlier (key ∷ keys) e =
    let both = or_none (test earlier key) (first_cause test (earlier ++ key ∷ []) keys) e in
    let here = just.passes earlier key both.0 in
    free_cons Good earlier key keys here.0 (not_among same tells earlier key here.1) (free_keys same Good test tells just (earlier ++ key ∷ []) keys both.1)

none_first : (a b : Option Cause) → a ≡ None → b ≡ None → or_cause a b ≡ None
none_first None b e f = f
none_first (Some c) b e f = cc

-- one key after the earlier ones
later_fresh : {K : Type 0} (earlier : List K) (key : K) (keys : List K) → All (λ k. Contains earlier k → ⊥) keys → All (λ k. key ≢ k) keys
    → All (λ k. Contains (earlier ++ key ∷ []) k → ⊥) keys
later_fresh earlier key keys fresh apart i d less there =
    elim (Contains-push_cases earlier key (get_or keys i d) there) [
      | inl before ↦ fresh i d less before
      | inr same ↦ apart i d less same
    ]

tail_all : {A : Type 0} (P : A → Type 0) (x : A) (xs : List A) → All P (x ∷ xs) → All P xs
tail_all P x xs all k d less = all (suc k) d (omega (arith, less))

head_all : {A : Type 0} (P : A → Type 0) (x : A) (xs : List A) → All P (x ∷ xs) → P x
head_all P x xs all = all 0 x (omega arith)

no_first : {K : Type 0} (same : K → K → Bool) (Good : K → Type 0) (test : List K → K → Option Cause) → TellsApart same → PassesJust same Good test
    → (earlier keys : List K) → AreFree Good earlier keys → first_cause test earlier keys ≡ None
no_first same Good test tells just earlier [] free = refl
no_first same Good test tells just earlier (key ∷ keys) free =
    let out = head_all (λ k. Contains earlier k → ⊥) key keys free.fresh in
    let apart : All (λ k. key ≢ k) keys = λ k d less. free.distinct 0 (suc k) d (omega arith) (omega (arith, less)) in
    let rest : AreFree Good (earlier ++ key ∷ []) keys =
    record {
      good = tail_all Good key keys free.good;
      distinct = λ i j d low less. free.distinct (suc i) (suc j) d (omega (arith, low)) (omega (arith, less));
      fresh = later_fresh earlier key keys (tail_all (λ k. Contains earlier k → ⊥) key keys free.fresh) apart;
    } in
    none_first (test earlier key) (first_cause test (earlier ++ key ∷ []) keys)
    (just.passed earlier key (head_all Good key keys free.good) (not_found same tells earlier key out))
    (no_first same Good test tells just (earlier ++ key ∷ []) keys rest)

none_there : {K : Type 0} (keys : List K) → All (λ key. Contains {X = K} [] key → ⊥) keys
none_there keys k d less there = absurd (omega (arith, there.1))

-- the test of an inserted order
order_passes : (present : Bool) (earlier : Bool) (a b : Cause) → cond present (Some a) (cond earlier (Some b) None) ≡ None → (present ≡ false) × (earlier ≡ false)
order_passes true earlier a b e = cc
order_passes false true a b e = cc
order_passes false false a b e = (refl, refl)

orders_just : (present : List ℤ) → PassesJust int_eq (λ key. Contains present key → ⊥) (order_cause present)
orders_just present = record {
  passes = λ earlier key e.
      let both = order_passes (has_key present key) (has_key earlier key) (OrderExists key) (OrderTwice key) e in
      (not_among int_eq tells_keys present key both.0, both.1);
  passed = λ earlier key out none.
      ap (λ b. cond b (Some (OrderExists key)) (cond (has_key earlier key) (Some (OrderTwice key)) None)) (not_found int_eq tells_keys present key out)
      ∙ ap (λ b. cond b (Some (OrderTwice key)) None) none;
}

-- the test of a deleted key
delete_passes : (present : Bool) (earlier : Bool) (a b : Cause) → cond (not present) (Some a) (cond earlier (Some b) None) ≡ None → (present ≡ true) × (earlier ≡ false)
delete_passes false earlier a b e = cc
delete_passes true true a b e = cc
delete_passes true false a b e = (refl, refl)

deletes_just : (present : List ℤ) → PassesJust int_eq (Contains present) (delete_cause present)
deletes_just present = record {
  passes = λ earlier key e.
      let both = delete_passes (has_key present key) (has_key earlier key) (UnknownOrder key) (KeyTwice key) e in
      (among int_eq tells_keys present key both.0, both.1);
  passed = λ earlier key there none.
      ap (λ b. cond (not b) (Some (UnknownOrder key)) (cond (has_key earlier key) (Some (KeyTwice key)) None)) (found int_eq tells_keys present key there)
      ∙ ap (λ b. cond b (Some (KeyTwice key)) None) none;
}

-- the test of an inserted lineitem
line_passes : (owned present earlier : Bool) (a b c : Cause) → cond (not owned) (Some a) (cond present (Some b) (cond earlier (Some c) None)) ≡ None
    → (owned ≡ true) × (present ≡ false) × (earlier ≡ false)
line_passes false present earlier a b c e = cc
line_passes true true earlier a b c e = cc
line_passes true false true a b c e = cc
line_passes true false false a b c e = (refl, refl, refl)

-- the lineitem is of one of the orders, and not there already
pub record IsOwnedNew (orders : List ℤ) (present : List (ℤ × ℤ)) (line : ℤ × ℤ) : Type 0 where
  pub owned : Contains orders line.0
  pub absent : Contains present line → ⊥

lines_just : (orders : List ℤ) (present : List (ℤ × ℤ)) → PassesJust is_same_line (IsOwnedNew orders present) (line_cause orders present)
lines_just orders present = record {
  passes = λ earlier line e.
      let all = line_passes (has_key orders line.0) (has_line present line) (has_line earlier line) (StrayLine line.0) (LineExists line.0 line.1) (LineTwice line.0 line.1) e in (
        record {
          owned = among int_eq tells_keys orders line.0 all.0;
          absent = not_among is_same_line tells_lines present line all.1;
        },
        all.2,
      );
  passed = λ earlier line good none.
      ap (λ b. cond (not b) (Some (StrayLine line.0)) (cond (has_line present line) (Some (LineExists line.0 line.1)) (cond (has_line earlier line) (Some (LineTwice line.0 line.1)) None)))
      (found int_eq tells_keys orders line.0 good.owned)
      ∙ ap (λ b. cond b (Some (LineExists line.0 line.1)) (cond (has_line earlier line) (Some (LineTwice line.0 line.1)) None))
      (not_found is_same_line tells_lines present line good.absent)
      ∙ ap (λ b. cond b (Some (LineTwice line.0 line.1)) None) none;
}

pub insert_law : InsertLaw
insert_law state orders lineitems =
    let there = order_keys state.orders in
    let lines_there = line_keys state.lineitem in
    let keys = order_keys orders in
    let lines = line_keys lineitems in (
      λ e.
          let both = or_none (first_cause (order_cause there) [] keys) (first_cause (line_cause keys lines_there) [] lines) e in
          let o = free_keys int_eq (λ key. Contains there key → ⊥) (order_cause there) tells_keys (orders_just there) [] keys both.0 in
          let l = free_keys is_same_line (IsOwnedNew keys lines_there) (line_cause keys lines_there) tells_lines (lines_just keys lines_there) [] lines both.1 in
          record {
            new_orders = record { absent = o.good; apart = o.distinct };
            new_lines = record {
              absent = All-weaker (IsOwnedNew keys lines_there) (λ line. Contains lines_there line → ⊥) (λ line g. g.absent) lines l.good;
              apart = l.distinct;
            };
            owned = All-weaker (IsOwnedNew keys lines_there) (λ line. Contains keys line.0) (λ line g. g.owned) lines l.good;
          },
      λ may.
          none_first (first_cause (order_cause there) [] keys) (first_cause (line_cause keys lines_there) [] lines)
          (no_first int_eq (λ key. Contains there key → ⊥) (order_cause there) tells_keys (orders_just there) [] keys
          (record { good = may.new_orders.absent; distinct = may.new_orders.apart; fresh = none_there keys }))
          (no_first is_same_line (IsOwnedNew keys lines_there) (line_cause keys lines_there) tells_lines (lines_just keys lines_there) [] lines
          (record {
            good = λ k d less. record { owned = may.owned k d less; absent = may.new_lines.absent k d less };
            distinct = may.new_lines.apart;
            fresh = none_there lines;
          })),
    )

pub delete_law : DeleteLaw
delete_law state keys =
    let there = order_keys state.orders in (
      λ e.
          let d = free_keys int_eq (Contains there) (delete_cause there) tells_keys (deletes_just there) [] keys e in
          record { there = d.good; apart = d.distinct },
      λ may.
          no_first int_eq (Contains there) (delete_cause there) tells_keys (deletes_just there) [] keys
          (record { good = may.there; distinct = may.apart; fresh = none_there keys }),
    )
