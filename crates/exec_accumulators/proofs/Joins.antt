-- What accumulators have of two lists one after the other, and what they give.
use Rattle.std.proofs.Common.{◌≡◌, ℕ, ◌+◌, List, [], ◌∷◌, ◌++◌, ◌∙◌, ap, arith, length}
use Rattle.std.specs.Prelude.{min, not}
use Rattle.std.proofs.lemmas.List.{length-append}
use Rattle.std.proofs.lemmas.List.Elements.{filter-append}
use Rattle.base_row_laws.specs.Bags.{weigh}
use Rattle.base_row_laws.proofs.Bags.{weigh-append}
use Rattle.base_row_laws.proofs.OfBags.{bottom-append, bottom_most}
use Rattle.base_value.specs.declared.value.Value.{Value}
use Rattle.expr_aggregates.specs.Values.{value_rank, is_null, above, below}
use Rattle.exec_accumulators.specs.Accumulators.{present, least_fault_rank, capped, CountedRows, Counted, Summed}

pub present-append : (vs ws : List Value) → present (vs ++ ws) ≡ present vs ++ present ws
present-append vs ws = filter-append (λ v. not (is_null v)) vs ws

length_both : (vs ws : List Value) → length (present (vs ++ ws)) ≡ length (present vs) + length (present ws)
length_both vs ws = ap length (present-append vs ws) ∙ length-append (present vs) (present ws)

pub least-append : (vs ws : List Value) → least_fault_rank (vs ++ ws) ≡ min (least_fault_rank vs) (least_fault_rank ws)
least-append vs ws = bottom-append 5 value_rank vs ws

least_same : (vs : List Value) → min (least_fault_rank vs) 5 ≡ least_fault_rank vs
least_same vs = let h = bottom_most 5 value_rank vs in omega (arith, h)

pub least_put : (l m : ℕ) (v : Value) (vs : List Value) → l ≡ least_fault_rank vs → m ≡ min l (value_rank v) → m ≡ least_fault_rank (vs ++ v ∷ [])
least_put l m v vs e is = let a = least-append vs (v ∷ []) in let h = least_same vs in omega (arith, e, is, a, h)

pub rows_joined : (n k m : ℕ) (vs ws : List Value) → CountedRows n vs → CountedRows k ws → m ≡ n + k → CountedRows m (vs ++ ws)
rows_joined n k m vs ws h j is = record { rows = let e = h.rows in let f = j.rows in let a = length-append vs ws in omega (arith, e, f, a, is) }

pub counted_put : (l n m k one : ℕ) (v : Value) (vs : List Value) → Counted l n vs → m ≡ min l (value_rank v) → one ≡ length (present (v ∷ [])) → k ≡ n + one → Counted m k (vs ++ v ∷ [])
counted_put l n m k one v vs h is o sum = record {
  least = least_put l m v vs h.least is;
  terms = let e = h.terms in let a = length_both vs (v ∷ []) in omega (arith, e, a, o, sum);
}

pub counted_joined : (l n m k p q : ℕ) (vs ws : List Value) → Counted l n vs → Counted m k ws → p ≡ min l m → q ≡ n + k → Counted p q (vs ++ ws)
counted_joined l n m k p q vs ws h j is sum = record {
  least = let e = h.least in let f = j.least in let a = least-append vs ws in omega (arith, e, f, a, is);
  terms = let e = h.terms in let f = j.terms in let a = length_both vs ws in omega (arith, e, f, a, sum);
}

capped_put : (f : Value → ℕ) (a x p : ℕ) (v : Value) (vs : List Value) → a ≡ capped (weigh f vs) → x ≡ f v → p ≡ capped (a + x) → p ≡ capped (weigh f (vs ++ v ∷ []))
capped_put f a x p v vs e more is = let w = weigh-append f vs (v ∷ []) in omega (arith, e, more, is, w)

capped_joined : (f : Value → ℕ) (a b p : ℕ) (vs ws : List Value) → a ≡ capped (weigh f vs) → b ≡ capped (weigh f ws) → p ≡ capped (a + b) → p ≡ capped (weigh f (vs ++ ws))
capped_joined f a b p vs ws e g is = let w = weigh-append f vs ws in omega (arith, e, g, is, w)

pub summed_put : (l n m k one a b x y p q : ℕ) (v : Value) (vs : List Value) → Summed l n a b vs → m ≡ min l (value_rank v) → one ≡ length (present (v ∷ [])) → k ≡ n + one
    → x ≡ above v → y ≡ below v → p ≡ capped (a + x) → q ≡ capped (b + y) → Summed m k p q (vs ++ v ∷ [])
summed_put l n m k one a b x y p q v vs h is o sum more less up down = record {
  least = least_put l m v vs h.least is;
  terms = let e = h.terms in let a = length_both vs (v ∷ []) in omega (arith, e, a, o, sum);
  above_is = capped_put above a x p v vs h.above_is more up;
  below_is = capped_put below b y q v vs h.below_is less down;
}

pub summed_joined : (l n m k r t a b c d p q : ℕ) (vs ws : List Value) → Summed l n a b vs → Summed m k c d ws → r ≡ min l m → t ≡ n + k → p ≡ capped (a + c) → q ≡ capped (b + d)
    → Summed r t p q (vs ++ ws)
summed_joined l n m k r t a b c d p q vs ws h j is sum up down = record {
  least = let e = h.least in let f = j.least in let a = least-append vs ws in omega (arith, e, f, a, is);
  terms = let e = h.terms in let f = j.terms in let a = length_both vs ws in omega (arith, e, f, a, sum);
  above_is = capped_joined above a c p vs ws h.above_is j.above_is up;
  below_is = capped_joined below b d q vs ws h.below_is j.below_is down;
}
