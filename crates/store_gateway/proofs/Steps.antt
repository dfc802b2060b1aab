-- Each step keeps the rule.
use Rattle.std.proofs.Common.{◌≡◌, ◌≢◌, ℕ, zero, suc, ◌+◌, ◌≤◌, Bool, true, false, true≢false, cond, List, [], ◌∷◌, ◌++◌, length, Option, Some, None, set, sym, refl, ap, ◌∙◌, inl, inr, subst, ⊎_elim, append_assoc, append-nil, length-append, arith}
use Rattle.std.specs.List.{All}
use Rattle.std.proofs.lemmas.List.Elements.{All-head, All-nil, All-push, All-tail, filter-append}
use mathlib.Core.Option.{some, some-injective, some-ne-none}
use lib.ListN.{get_elem?}
use Rattle.crossbeam_queue.specs.Fifo.{Pushes, Pops, Forks, Merges, Learns}
use Rattle.crossbeam_queue.proofs.Lists.{at_set, at_snoc}
use Rattle.store_gateway.specs.declared.message.SenderId.{SenderId}
use Rattle.store_gateway.specs.declared.message.SenderId.TheVariants.{First, Second}
use Rattle.store_gateway.specs.declared.message.Message.{Message}
use Rattle.store_gateway.specs.declared.message.Message.TheVariants.{Quotas, Refresh, End}
use Rattle.store_gateway.specs.declared.queue.QueueView.{QueueView}
use Rattle.store_gateway.specs.Queue.{Empty, WithQuotas, IsTrueView, IsSent, IsWithinQuotas, IsInOrder, AtMoment, IsRunning, IsStarting, IsAllSent, sender_alone, is_from, is_same_sender, one_more, named_view, messages_of, open_view, pick, place, after_pop, after_push, refresh_in, refreshes_in, spent_view, first_view, with_sender, without_sender}
use Rattle.store_gateway.proofs.Pairs.{placed, placed_both}

abbrev Each : (ℕ → QueueView → Type 0) → List QueueView → Type 0
Each F views = (port : ℕ) (v : QueueView) → get_elem? views port ≡ some v → F port v

all_set : (F : ℕ → QueueView → Type 0) (views : List QueueView) (port : ℕ) (w : QueueView) → F port w → ((j : ℕ) (u : QueueView) → j ≢ port → get_elem? views j ≡ some u → F j u) → Each F (set views port w)
all_set F views port w mine others j u e = ⊎_elim (λ (x : (j ≡ port) × (w ≡ u)). subst (λ (y : ℕ × QueueView). F y.0 y.1) (λ i. (sym x.0 i, x.1 i)) mine)
    (λ (x : (j ≢ port) × (get_elem? views j ≡ some u)). others j u x.0 x.1) (at_set views port j w u e)

at_end : (l : List QueueView) (a b : QueueView) (j : ℕ) → get_elem? l j ≢ some b → get_elem? (l ++ a ∷ []) j ≡ some b → j ≡ length l
at_end [] a b zero n e = refl
at_end [] a b (suc j) n e = absurd (some-ne-none b (sym e))
at_end (x ∷ xs) a b zero n e = absurd (n e)
at_end (x ∷ xs) a b (suc j) n e = ap suc (at_end xs a b j n e)

-- the one view
one_view : (a v : QueueView) (port : ℕ) → get_elem? (a ∷ []) port ≡ some v → (a ≡ v) × (port ≡ 0) × ((w : QueueView) → set (a ∷ []) port w ≡ w ∷ [])
one_view a v zero e = (some-injective a v e, refl, λ w. refl)
one_view a v (suc port) e = absurd (some-ne-none v (sym e))

opening_still : (items : List Message) (views : List QueueView) (v : QueueView) (port : ℕ) → IsStarting items views → get_elem? views port ≡ some v → v.opening ≡ true
opening_still items views v port (Empty e is) at = sym (ap (λ (k : QueueView). k.opening) (one_view first_view v port (ap (λ l. get_elem? l port) (sym is) ∙ at)).0)
opening_still items views v port (WithQuotas a b e is) at = sym (ap (λ (k : QueueView). k.opening) (one_view (named_view a b) v port (ap (λ l. get_elem? l port) (sym is) ∙ at)).0)

-- a pass that is not opening is of a queue that runs
runs : (items : List Message) (views : List QueueView) (v : QueueView) (port : ℕ) → IsInOrder items views → get_elem? views port ≡ some v → v.opening ≡ false → IsRunning items views
runs items views v port h at off = ⊎_elim (λ (s : IsStarting items views). absurd (true≢false (sym (opening_still items views v port s at) ∙ off))) (λ (r : IsRunning items views). r) h

only-one : (id : SenderId) (m : Message) (b : Bool) → is_from id m ≡ b → messages_of id (m ∷ []) ≡ cond b (m ∷ []) []
only-one id m b is = ap (λ c. cond c (m ∷ []) []) is

only-more : (id : SenderId) (taken items : List Message) (m : Message) (b : Bool) → is_from id m ≡ b → messages_of id (taken ++ (items ++ m ∷ [])) ≡ messages_of id (taken ++ items) ++ cond b (m ∷ []) []
only-more id taken items m b is = ap (messages_of id) (sym (append_assoc taken items (m ∷ []))) ∙ (filter-append (is_from id) (taken ++ items) (m ∷ []) ∙ ap (λ l. messages_of id (taken ++ items) ++ l) (only-one id m b is))

longer-some : (m : Message) (o : Option (List Message)) (ms l : List Message) → o ≡ Some ms → one_more m o ≡ Some l → l ≡ ms ++ m ∷ []
longer-some m o ms l is e = let f : Some (ms ++ m ∷ []) ≡ Some l = ap (one_more m) (sym is) ∙ e in cc

pub pushes : (n port : ℕ) (id : SenderId) (m : Message) (v : QueueView) (q : ℕ × ℕ) (ms : List Message) → is_from id m ≡ true → ((t : SenderId) → is_same_sender t id ≡ false → is_from t m ≡ false) → IsSent m
    → v.opening ≡ false → v.quotas ≡ Some q → pick id v.sent ≡ Some ms → length ms ≤ pick id q → length (refreshes_in (ms ++ m ∷ [])) ≤ pick id q
    → Pushes IsInOrder n port v m (λ w. w ≡ record v { sent = place id (one_more m (pick id v.sent)) v.sent })
pushes n port id m v q ms mine not_theirs of_senders off quotas is room fine items views _ h at =
    let r = runs items views v port h at off in
    let fit = r.each port v at in
    let own = fit.sender id ms is in
    let sent = place id (pick id r.sent ++ m ∷ []) r.sent in
    let w : QueueView = record v { sent = place id (one_more m (pick id v.sent)) v.sent } in
    let less : length (pick id r.sent) ≤ pick id r.quotas = subst (λ (y : List Message × (ℕ × ℕ)). length y.0 ≤ pick id y.1) (λ i. (own.1 i, fit.quota q quotas i)) room in
    let F : ℕ → QueueView → Type 0 = IsTrueView r.quotas r.seats r.taker sent r.taken in
    let news : F port w = record {
      going = fit.going;
      quota = fit.quota;
      sender = placed_both (λ t (o : Option (List Message)) (l : List Message). (k : List Message) → o ≡ Some k → (port ≡ pick t r.seats) × (k ≡ l)) id (one_more m (pick id v.sent)) v.sent (pick id r.sent ++ m ∷ []) r.sent
          (λ k e. (own.0, longer-some m (pick id v.sent) ms k is e ∙ ap (λ l. l ++ m ∷ []) own.1)) (λ t _. fit.sender t);
      taking = fit.taking;
    } in (
      w,
      inr (record {
        quotas = r.quotas;
        seats = r.seats;
        taker = r.taker;
        sent = sent;
        taken = r.taken;
        whole = placed (λ t l. messages_of t (r.taken ++ (items ++ m ∷ [])) ≡ l) id (pick id r.sent ++ m ∷ []) r.sent
            (only-more id r.taken items m true mine ∙ ap (λ l. l ++ m ∷ []) (r.whole id))
            (λ t other. only-more t r.taken items m false (not_theirs t other) ∙ (append-nil (messages_of t (r.taken ++ items)) ∙ r.whole t));
        few = placed (λ t l. length l ≤ pick t r.quotas + 1) id (pick id r.sent ++ m ∷ []) r.sent (let e = length-append (pick id r.sent) (m ∷ []) in omega (arith, e, less)) (λ t _. r.few t);
        short = placed (λ t l. length (refreshes_in l) ≤ pick t r.quotas) id (pick id r.sent ++ m ∷ []) r.sent
            (subst (λ (y : List Message × (ℕ × ℕ)). length (refreshes_in (y.0 ++ m ∷ [])) ≤ pick id y.1) (λ i. (own.1 i, fit.quota q quotas i)) fine) (λ t _. r.short t);
        of_senders = All-push IsSent items m r.of_senders of_senders;
        each = all_set F views port w news (λ j u other e. let theirs = r.each j u e in record {
          going = theirs.going;
          quota = theirs.quota;
          sender = placed (λ t (l : List Message). (k : List Message) → pick t u.sent ≡ Some k → (j ≡ pick t r.seats) × (k ≡ l)) id (pick id r.sent ++ m ∷ []) r.sent
              (λ k has. absurd (other ((theirs.sender id k has).0 ∙ sym own.0))) (λ t _. theirs.sender t);
          taking = theirs.taking;
        });
      }),
      refl,
    )

pub refreshes-append : (ms ns : List Message) → refreshes_in (ms ++ ns) ≡ refreshes_in ms ++ refreshes_in ns
refreshes-append [] ns = refl
refreshes-append (m ∷ ms) ns = ap (λ l. refresh_in m ++ l) (refreshes-append ms ns) ∙ sym (append_assoc (refresh_in m) (refreshes_in ms) (refreshes_in ns))

by-sides : (ms : List Message) → length (refreshes_in ms) ≡ length (refreshes_in (messages_of First ms)) + length (refreshes_in (messages_of Second ms))
by-sides [] = refl
by-sides (Quotas a b ∷ ms) = by-sides ms
by-sides (Refresh First r ∷ ms) = let h = by-sides ms in omega (arith, h)
by-sides (Refresh Second r ∷ ms) = let h = by-sides ms in omega (arith, h)
by-sides (End First ∷ ms) = by-sides ms
by-sides (End Second ∷ ms) = by-sides ms

taken-short : (taken : List Message) (x : Message) (items : List Message) (q : ℕ × ℕ) → ((t : SenderId) → length (refreshes_in (messages_of t (taken ++ x ∷ items))) ≤ pick t q) → length (refreshes_in (taken ++ x ∷ [])) ≤ q.0 + q.1
taken-short taken x items q h =
    let a = h First in
    let b = h Second in
    let s = by-sides (taken ++ x ∷ items) in
    let e = ap (λ l. length (refreshes_in l)) (append_assoc taken (x ∷ []) items) in
    let f = ap length (refreshes-append (taken ++ x ∷ []) items) in
    let g = length-append (refreshes_in (taken ++ x ∷ [])) (refreshes_in items) in
    omega (arith, a, b, s, e, f, g)

pub pops : (port : ℕ) (v : QueueView) (ms : List Message) → v.opening ≡ false → v.taken ≡ Some ms → Pops IsInOrder port v (λ x w. IsSent x × (w ≡ after_pop x v) × IsWithinQuotas w)
pops port v ms off is x items views h at =
    let r = runs (x ∷ items) views v port h at off in
    let fit = r.each port v at in
    let own = fit.taking ms is in
    let taken = r.taken ++ x ∷ [] in
    let w : QueueView = after_pop x v in
    let F : ℕ → QueueView → Type 0 = IsTrueView r.quotas r.seats r.taker r.sent taken in
    let news : F port w = record {
      going = fit.going;
      quota = fit.quota;
      sender = fit.sender;
      taking = λ k e. (own.0, longer-some x v.taken ms k is e ∙ ap (λ l. l ++ x ∷ []) own.1);
    } in
    let within : IsWithinQuotas w = λ q k qs ks.
    let short = taken-short r.taken x items r.quotas (λ t. subst (λ l. length (refreshes_in l) ≤ pick t r.quotas) (sym (r.whole t)) (r.short t)) in
    let same : k ≡ taken = longer-some x v.taken ms k is ks ∙ ap (λ l. l ++ x ∷ []) own.1 in
    subst (λ (y : List Message × (ℕ × ℕ)). length (refreshes_in y.0) ≤ y.1.0 + y.1.1) (λ i. (sym same i, sym (fit.quota q qs) i)) short in (
      w,
      inr (record {
        quotas = r.quotas;
        seats = r.seats;
        taker = r.taker;
        sent = r.sent;
        taken = taken;
        whole = λ t. ap (messages_of t) (append_assoc r.taken (x ∷ []) items) ∙ r.whole t;
        few = r.few;
        short = r.short;
        of_senders = All-tail IsSent x items r.of_senders;
        each = all_set F views port w news (λ j u other e. let theirs = r.each j u e in record {
          going = theirs.going;
          quota = theirs.quota;
          sender = theirs.sender;
          taking = λ k has. absurd (other ((theirs.taking k has).0 ∙ sym own.0));
        });
      }),
      (All-head IsSent x items r.of_senders, refl, within),
    )

no-list : (k : List Message) → None ≡ Some k → ⊥
no-list k e = cc

no-pair : (t : SenderId) (k : List Message) → pick t (None, None) ≡ Some k → ⊥
no-pair First k e = cc
no-pair Second k e = cc

none-here : (id : SenderId) (p : Option (List Message) × Option (List Message)) (k : List Message) → pick id (place id None p) ≡ Some k → ⊥
none-here First p k e = cc
none-here Second p k e = cc

alone-has : (id : SenderId) (v : QueueView) (ms : List Message) → pick id v.sent ≡ Some ms → pick id (sender_alone id v).sent ≡ Some ms
alone-has First v ms is = is
alone-has Second v ms is = is

pub forks : (port : ℕ) (id : SenderId) (v : QueueView) (ms : List Message) → v.opening ≡ false → pick id v.sent ≡ Some ms → Forks IsInOrder port v (without_sender id v) (sender_alone id v)
forks port id v ms off is items views h at =
    let r = runs items views v port h at off in
    let fit = r.each port v at in
    let own = fit.sender id ms is in
    let left : QueueView = without_sender id v in
    let right : QueueView = sender_alone id v in
    let vs : List QueueView = set views port left in
    let seats = place id (length vs) r.seats in
    let Old : ℕ → QueueView → Type 0 = λ j u. IsTrueView r.quotas r.seats r.taker r.sent r.taken j u × ((k : List Message) → pick id u.sent ≡ Some k → ⊥) in
    let F : ℕ → QueueView → Type 0 = IsTrueView r.quotas seats r.taker r.sent r.taken in
    let old : Each Old vs = all_set Old views port left (
      record {
        going = fit.going;
        quota = fit.quota;
        sender = placed (λ t (o : Option (List Message)). (k : List Message) → o ≡ Some k → (port ≡ pick t r.seats) × (k ≡ pick t r.sent)) id None v.sent (λ k e. absurd (no-list k e)) (λ t _. fit.sender t);
        taking = fit.taking;
      },
      none-here id v.sent,
    )
    (λ j u other e. let theirs = r.each j u e in (theirs, λ k has. other ((theirs.sender id k has).0 ∙ sym own.0))) in
    inr (record {
      quotas = r.quotas;
      seats = seats;
      taker = r.taker;
      sent = r.sent;
      taken = r.taken;
      whole = r.whole;
      few = r.few;
      short = r.short;
      of_senders = r.of_senders;
      each = λ j u e. ⊎_elim
          (λ (x : get_elem? vs j ≡ some u). let o = old j u x in record {
            going = o.0.going;
            quota = o.0.quota;
            sender = placed (λ t (s : ℕ). (k : List Message) → pick t u.sent ≡ Some k → (j ≡ s) × (k ≡ pick t r.sent)) id (length vs) r.seats (λ k has. absurd (o.1 k has)) (λ t _. o.0.sender t);
            taking = o.0.taking;
          })
          (λ (x : right ≡ u). subst (F j) x (record {
            going = refl;
            quota = fit.quota;
            sender = placed_both (λ t (o : Option (List Message)) (s : ℕ). (k : List Message) → o ≡ Some k → (j ≡ s) × (k ≡ pick t r.sent)) id (pick id v.sent) (None, None) (length vs) r.seats
                (λ k has. (at_end vs right u j (λ f. (old j u f).1 ms (subst (λ (y : QueueView). pick id y.sent ≡ Some ms) x (alone-has id v ms is))) e, (fit.sender id k has).1))
                (λ t _ k has. absurd (no-pair t k has));
            taking = λ k has. absurd (no-list k has);
          }))
          (at_snoc vs right u j e);
    })

pub merges : (port : ℕ) (id : SenderId) (v : QueueView) (other : ℕ) (w : QueueView) (ms : List Message) → v.opening ≡ false → w.opening ≡ false → pick id w.sent ≡ Some ms → Merges IsInOrder port v other w (with_sender id v w) spent_view
merges port id v other w ms off away is items views h at apart at' =
    let r = runs items views v port h at off in
    let fit = r.each port v at in
    let both : QueueView = with_sender id v w in
    let vs : List QueueView = set views port both in
    let was : get_elem? views other ≡ some w = ⊎_elim (λ x. absurd (apart x.0)) (λ x. x.1) (at_set views port other both w at') in
    let theirs = r.each other w was in
    let own = theirs.sender id ms is in
    let seats = place id port r.seats in
    let F : ℕ → QueueView → Type 0 = IsTrueView r.quotas seats r.taker r.sent r.taken in
    let G : ℕ → QueueView → Type 0 = λ j u. (j ≢ other) → F j u in
    let now : Each G vs = all_set G views port both
    (λ _. record {
      going = fit.going;
      quota = fit.quota;
      sender = placed_both (λ t (o : Option (List Message)) (s : ℕ). (k : List Message) → o ≡ Some k → (port ≡ s) × (k ≡ pick t r.sent)) id (pick id w.sent) v.sent port r.seats (λ k has. (refl, (theirs.sender id k has).1)) (λ t _. fit.sender t);
      taking = fit.taking;
    })
    (λ j u _ e away. let k' = r.each j u e in record {
      going = k'.going;
      quota = k'.quota;
      sender = placed (λ t (s : ℕ). (k : List Message) → pick t u.sent ≡ Some k → (j ≡ s) × (k ≡ pick t r.sent)) id port r.seats (λ k has. absurd (away ((k'.sender id k has).0 ∙ sym own.0))) (λ t _. k'.sender t);
      taking = k'.taking;
    }) in
    inr (record {
      quotas = r.quotas;
      seats = seats;
      taker = r.taker;
      sent = r.sent;
      taken = r.taken;
      whole = r.whole;
      few = r.few;
      short = r.short;
      of_senders = r.of_senders;
      each = all_set F vs other spent_view (record { going = refl; quota = λ k e. cc; sender = λ t k e. absurd (no-pair t k e); taking = λ k e. absurd (no-list k e) }) (λ j u not_it e. now j u e not_it);
    })

start-is : (views : List QueueView) (a v : QueueView) (port : ℕ) → views ≡ a ∷ [] → get_elem? views port ≡ some v → (a ≡ v) × ((w : QueueView) → set views port w ≡ w ∷ [])
start-is views a v port is at = let o = one_view a v port (ap (λ l. get_elem? l port) (sym is) ∙ at) in (o.0, λ w. ap (λ l. set l port w) is ∙ o.2 w)

no-quotas : (a b : ℕ) → named_view a b ≡ first_view → ⊥
no-quotas a b e = let has : QueueView → Bool = λ k. elim k.quotas [ Some q ↦ true | None ↦ false ] in true≢false (ap has e)

pub names : (n port a b : ℕ) (v : QueueView) → v ≡ first_view → Pushes IsInOrder n port v (Quotas a b) (λ w. w ≡ after_push (Quotas a b) v)
names n port a b v is items views _ h at = ⊎_elim
    (λ (s : IsStarting items views). elim s [
      | Empty none one ↦ let o = start-is views first_view v port one at in (named_view a b, inl (WithQuotas a b (ap (λ l. l ++ Quotas a b ∷ []) none) (o.1 (named_view a b))), ap (after_push (Quotas a b)) (sym is))
      | WithQuotas a' b' _ one ↦ let o = start-is views (named_view a' b') v port one at in absurd (no-quotas a' b' (o.0 ∙ is))
    ])
    (λ (r : IsRunning items views). absurd (true≢false (sym (ap (λ (k : QueueView). k.opening) is) ∙ (r.each port v at).going)))
    h

same-pick : {A : Type 0} (t : SenderId) (x : A) → x ≡ pick t (x, x)
same-pick First x = refl
same-pick Second x = refl

nil-pick : (t : SenderId) (k : List Message) → pick t (Some [], Some []) ≡ Some k → k ≡ pick t ([], [])
nil-pick First k e = cc
nil-pick Second k e = cc

fit-opened : (a b port : ℕ) → IsTrueView (a, b) (port, port) port ([], []) [] port (open_view (named_view a b))
fit-opened a b port = record { going = refl; quota = λ q e. cc; sender = λ t k e. (same-pick t port, nil-pick t k e); taking = λ k e. (refl, cc) }

pub begins : (port a b : ℕ) (v : QueueView) → v ≡ named_view a b → Pops IsInOrder port v (λ x w. w ≡ open_view v)
begins port a b v is x items views h at = ⊎_elim
    (λ (s : IsStarting (x ∷ items) views). elim s [
      | Empty none _ ↦ absurd (cc)
      | WithQuotas a' b' one_item one ↦ let o = start-is views (named_view a' b') v port one at in
          let none : items ≡ [] = cc in (
            open_view (named_view a b),
            inr (record {
              quotas = (a, b);
              seats = (0, 0);
              taker = 0;
              sent = ([], []);
              taken = [];
              whole = λ t. ap (messages_of t) none ∙ same-pick t [];
              few = λ t. let no : List Message = [] in let e : length no ≡ length (pick t (no, no)) = ap length (same-pick t no) in omega (arith, e);
              short = λ t. let no : List Message = [] in let e : length (refreshes_in no) ≡ length (refreshes_in (pick t (no, no))) = ap (λ l. length (refreshes_in l)) (same-pick t no) in omega (arith, e);
              of_senders = subst (All IsSent) (sym none) (All-nil IsSent);
              each = λ j u e. let f = one_view (open_view (named_view a b)) u j (ap (λ l. get_elem? l j) (sym (o.1 (open_view (named_view a b)))) ∙ e) in subst (λ (y : QueueView × ℕ). IsTrueView (a, b) (0, 0) 0 ([], []) [] y.1 y.0) (λ i. (f.0 i, sym f.1 i)) (fit-opened a b 0);
            }),
            ap open_view (sym is),
          )
    ])
    (λ (r : IsRunning (x ∷ items) views). absurd (true≢false (sym (ap (λ (k : QueueView). k.opening) is) ∙ (r.each port v at).going)))
    h

pub first-rule : IsInOrder [] (first_view ∷ [])
first-rule = inl (Empty refl refl)

own-part : (id : SenderId) (taken items : List Message) → messages_of id (taken ++ items) ≡ messages_of id taken ++ messages_of id items
own-part id taken items = filter-append (is_from id) taken items

pub learns : (port : ℕ) (v : QueueView) → Learns IsInOrder port v (AtMoment v)
learns port v items views h at = record {
  of_senders = λ q off is. (runs items views v port h at off).of_senders;
  few = λ q id off is. let r = runs items views v port h at off in let e = ap length (own-part id r.taken items) in let f = length-append (messages_of id r.taken) (messages_of id items) in let w = ap length (r.whole id) in
      let few = subst (λ (p : ℕ × ℕ). length (pick id r.sent) ≤ pick id p + 1) (sym ((r.each port v at).quota q is)) (r.few id) in omega (arith, e, f, w, few);
  own = λ id ms off is. let r = runs items views v port h at off in (messages_of id r.taken, ((r.each port v at).sender id ms is).1 ∙ (sym (r.whole id) ∙ own-part id r.taken items));
}

pub learns-whole : (port : ℕ) (v : QueueView) → Learns IsInOrder port v (IsAllSent v)
learns-whole port v items views h at id ms got off is has = let r = runs items views v port h at off in let fit = r.each port v at in
    ap (λ l. messages_of id (l ++ items)) (fit.taking got has).1 ∙ (r.whole id ∙ sym (fit.sender id ms is).1)
