-- What the roles know after a step.
use Rattle.std.proofs.Common.{◌≡◌, ℕ, ◌+◌, ◌≤◌, ◌<◌, Bool, true, false, ◌||◌, true≢false, cond, List, [], ◌∷◌, ◌++◌, length, Some, Result, Ok, Err, MatchResult, sym, refl, ap, ◌∙◌, subst, append-nil, length-append, arith}
use Rattle.std.specs.List.{All}
use Rattle.std.proofs.lemmas.List.Elements.{All-head, All-tail}
use Rattle.crossbeam_queue.specs.Fifo.{Pushes, Held}
use Rattle.store_refresh_entries.specs.Change.{MayBeStored}
use Rattle.store_state.specs.Refresh.{Change}
use Rattle.store_gateway.specs.declared.message.SenderId.{SenderId}
use Rattle.store_gateway.specs.declared.message.SenderId.TheVariants.{First, Second}
use Rattle.store_gateway.specs.declared.message.Message.{Message}
use Rattle.store_gateway.specs.declared.message.Message.TheVariants.{Quotas, Refresh, End}
use Rattle.store_gateway.specs.declared.queue.QueueView.{QueueView}
use Rattle.store_gateway.specs.Queue.{IsSent, IsWithinQuotas, IsInOrder, AtMoment, is_from, is_same_sender, messages_of, pick, place, after_pop, after_push, refreshes_in}
use Rattle.store_gateway.specs.Roles.{Sending, WasFull, has_end, is_end, known_messages, known_quotas, sent_messages, sender_view, sent_by, sent_in, taker_view}
use Rattle.store_gateway.specs.Insides.{taken_in}
use Rattle.store_gateway.proofs.Steps.{pushes, refreshes-append}

pub side-self : (id : SenderId) → is_same_sender id id ≡ true
side-self First = refl
side-self Second = refl

abbrev other : SenderId → SenderId
other First = Second
other Second = First

-- the refreshes of a list of messages
sent-cons : (id : SenderId) (r : Change) (b : Bool) (es : List (SenderId × Change)) → is_same_sender id id ≡ b → b ≡ true → cond (is_same_sender id id) (r ∷ sent_by id es) (sent_by id es) ≡ r ∷ sent_by id es
sent-cons id r b es e f = ap (λ c. cond c (r ∷ sent_by id es) (sent_by id es)) (e ∙ f)

pub sent-messages : (id : SenderId) (rs : List Change) (ns : List Message) → sent_by id (refreshes_in (sent_messages id rs ++ ns)) ≡ rs ++ sent_by id (refreshes_in ns)
sent-messages id [] ns = refl
sent-messages id (r ∷ rs) ns = sent-cons id r true (refreshes_in (sent_messages id rs ++ ns)) (side-self id) refl ∙ ap (λ l. r ∷ l) (sent-messages id rs ns)

pub sent-all : (id : SenderId) (rs : List Change) → sent_by id (refreshes_in (sent_messages id rs)) ≡ rs
sent-all id rs = ap (λ l. sent_by id (refreshes_in l)) (sym (append-nil (sent_messages id rs))) ∙ (sent-messages id rs [] ∙ append-nil rs)

pub sent-ended : (id : SenderId) (rs : List Change) → sent_by id (refreshes_in (sent_messages id rs ++ End id ∷ [])) ≡ rs
sent-ended id rs = sent-messages id rs (End id ∷ []) ∙ append-nil rs

pub messages-more : (id : SenderId) (rs : List Change) (r : Change) → sent_messages id rs ++ Refresh id r ∷ [] ≡ sent_messages id (rs ++ r ∷ [])
messages-more id [] r = refl
messages-more id (x ∷ xs) r = ap (λ l. Refresh id x ∷ l) (messages-more id xs r)

pub length-messages : (id : SenderId) (rs : List Change) → length (sent_messages id rs) ≡ length rs
length-messages id [] = refl
length-messages id (x ∷ xs) = let h = length-messages id xs in omega (arith, h)

-- what the passes of senders know
pub view-sent : (id : SenderId) (q : ℕ × ℕ) (ms : List Message) → pick id (sender_view id q ms).sent ≡ Some ms
view-sent First q ms = refl
view-sent Second q ms = refl

pub sent-view : (id : SenderId) (q : ℕ × ℕ) (ms : List Message) → sent_in id (sender_view id q ms) ≡ sent_by id (refreshes_in ms)
sent-view id q ms = ap (λ o. sent_by id (refreshes_in (known_messages o))) (view-sent id q ms)

pub shape : (id : SenderId) (q : ℕ × ℕ) (rs : List Change) (w : QueueView) → w ≡ sender_view id q (sent_messages id rs)
    → (sent_in id w ≡ rs) × (known_quotas w.quotas ≡ q) × (w ≡ sender_view id (known_quotas w.quotas) (sent_messages id (sent_in id w)))
shape id q rs w is =
    let s : sent_in id w ≡ rs = ap (sent_in id) is ∙ (sent-view id q (sent_messages id rs) ∙ sent-all id rs) in
    let k : known_quotas w.quotas ≡ q = ap (λ (v : QueueView). known_quotas v.quotas) is in
    (s, k, is ∙ (λ i. sender_view id (sym k i) (sent_messages id (sym s i))))

pub shape-ended : (id : SenderId) (q : ℕ × ℕ) (rs : List Change) (w : QueueView) → w ≡ sender_view id q (sent_messages id rs ++ End id ∷ [])
    → (sent_in id w ≡ rs) × (known_quotas w.quotas ≡ q) × (w ≡ sender_view id (known_quotas w.quotas) (sent_messages id (sent_in id w) ++ End id ∷ []))
shape-ended id q rs w is =
    let s : sent_in id w ≡ rs = ap (sent_in id) is ∙ (sent-view id q (sent_messages id rs ++ End id ∷ []) ∙ sent-ended id rs) in
    let k : known_quotas w.quotas ≡ q = ap (λ (v : QueueView). known_quotas v.quotas) is in
    (s, k, is ∙ (λ i. sender_view id (sym k i) (sent_messages id (sym s i) ++ End id ∷ [])))

pub pushed-refresh : (id : SenderId) (q : ℕ × ℕ) (ms : List Message) (r : Change) → after_push (Refresh id r) (sender_view id q ms) ≡ sender_view id q (ms ++ Refresh id r ∷ [])
pushed-refresh First q ms r = refl
pushed-refresh Second q ms r = refl

pub pushed-end : (id : SenderId) (q : ℕ × ℕ) (ms : List Message) → after_push (End id) (sender_view id q ms) ≡ sender_view id q (ms ++ End id ∷ [])
pushed-end First q ms = refl
pushed-end Second q ms = refl

pub after-refresh : (id : SenderId) (q : ℕ × ℕ) (rs : List Change) (r : Change) (v w : QueueView) → v ≡ sender_view id q (sent_messages id rs) → w ≡ after_push (Refresh id r) v → w ≡ sender_view id q (sent_messages id (rs ++ r ∷ []))
after-refresh id q rs r v w is step = step ∙ (ap (after_push (Refresh id r)) is ∙ (pushed-refresh id q (sent_messages id rs) r ∙ ap (sender_view id q) (messages-more id rs r)))

pub after-end : (id : SenderId) (q : ℕ × ℕ) (rs : List Change) (v w : QueueView) → v ≡ sender_view id q (sent_messages id rs) → w ≡ after_push (End id) v → w ≡ sender_view id q (sent_messages id rs ++ End id ∷ [])
after-end id q rs v w is step = step ∙ (ap (after_push (End id)) is ∙ pushed-end id q (sent_messages id rs))

count-refreshes : (id : SenderId) (rs : List Change) (ns : List Message) → length (refreshes_in (sent_messages id rs ++ ns)) ≡ length rs + length (refreshes_in ns)
count-refreshes id [] ns = omega arith
count-refreshes id (r ∷ rs) ns = let h = count-refreshes id rs ns in omega (arith, h)

pub may-send : (n port : ℕ) (id : SenderId) (r : Change) (v : QueueView) (q : ℕ × ℕ) (rs : List Change) → v ≡ sender_view id q (sent_messages id rs) → length rs < pick id q → MayBeStored r → Pushes IsInOrder n port v (Refresh id r) (λ w. w ≡ after_push (Refresh id r) v)
may-send n port id r v q rs is room storable = pushes n port id (Refresh id r) v q (sent_messages id rs) (side-self id) (λ t f. f) storable (ap (λ (k : QueueView). k.opening) is) (ap (λ (k : QueueView). k.quotas) is)
    (ap (λ (k : QueueView). pick id k.sent) is ∙ view-sent id q (sent_messages id rs)) (let e = length-messages id rs in omega (arith, e, room))
    (let e = count-refreshes id rs (Refresh id r ∷ []) in omega (arith, e, room))

pub may-end : (n port : ℕ) (id : SenderId) (v : QueueView) (q : ℕ × ℕ) (rs : List Change) → v ≡ sender_view id q (sent_messages id rs) → length rs ≤ pick id q → Pushes IsInOrder n port v (End id) (λ w. w ≡ after_push (End id) v)
may-end n port id v q rs is room = pushes n port id (End id) v q (sent_messages id rs) (side-self id) (λ t f. f) tt (ap (λ (k : QueueView). k.opening) is) (ap (λ (k : QueueView). k.quotas) is)
    (ap (λ (k : QueueView). pick id k.sent) is ∙ view-sent id q (sent_messages id rs)) (let e = length-messages id rs in omega (arith, e, room))
    (let e = count-refreshes id rs (End id ∷ []) in omega (arith, e, room))

-- what a sender learns of a full queue
count-one : (b c : Bool) (m : Message) (xs ys : List Message) (n : ℕ) → (b ≡ true → c ≡ false) → (b ≡ false → c ≡ true) → length xs + length ys ≡ n → length (cond b (m ∷ xs) xs) + length (cond c (m ∷ ys) ys) ≡ n + 1
count-one true c m xs ys n f g e = let k = f refl in rw k (omega (arith, e))
count-one false c m xs ys n f g e = let k = g refl in rw k (omega (arith, e))

two-sides : (id : SenderId) (m : Message) → IsSent m → (is_from id m ≡ true → is_from (other id) m ≡ false) × (is_from id m ≡ false → is_from (other id) m ≡ true)
two-sides First (Quotas a b) p = absurd p
two-sides Second (Quotas a b) p = absurd p
two-sides First (Refresh First r) p = (λ e. refl, λ e. absurd (true≢false e))
two-sides First (Refresh Second r) p = (λ e. absurd (true≢false (sym e)), λ e. refl)
two-sides Second (Refresh First r) p = (λ e. absurd (true≢false (sym e)), λ e. refl)
two-sides Second (Refresh Second r) p = (λ e. refl, λ e. absurd (true≢false e))
two-sides First (End First) p = (λ e. refl, λ e. absurd (true≢false e))
two-sides First (End Second) p = (λ e. absurd (true≢false (sym e)), λ e. refl)
two-sides Second (End First) p = (λ e. absurd (true≢false (sym e)), λ e. refl)
two-sides Second (End Second) p = (λ e. refl, λ e. absurd (true≢false e))

counted : (id : SenderId) (items : List Message) → All IsSent items → length (messages_of id items) + length (messages_of (other id) items) ≡ length items
counted id [] all = refl
counted id (m ∷ items) all = let t = two-sides id m (All-head IsSent m items all) in
    count-one (is_from id m) (is_from (other id) m) m (messages_of id items) (messages_of (other id) items) (length items) t.0 t.1 (counted id items (All-tail IsSent m items all)) ∙ (omega arith)

its-other : (id t : SenderId) → is_same_sender t id ≡ false → other id ≡ t
its-other First First e = absurd (true≢false e)
its-other First Second e = refl
its-other Second First e = refl
its-other Second Second e = absurd (true≢false e)

pub full : (s : Sending) (v : QueueView) → v ≡ sender_view s.id s.quotas (sent_messages s.id s.sent) → Held s.cap (AtMoment v) → WasFull s
full s v is h =
    let items = h.0 in
    let m = h.2 in
    let off : v.opening ≡ false = ap (λ (k : QueueView). k.opening) is in
    let qs : v.quotas ≡ Some s.quotas = ap (λ (k : QueueView). k.quotas) is in
    let own = m.own s.id (sent_messages s.id s.sent) off (ap (λ (k : QueueView). pick s.id k.sent) is ∙ view-sent s.id s.quotas (sent_messages s.id s.sent)) in
    let e = ap length own.1 in
    let f = length-append own.0 (messages_of s.id items) in
    let g = length-messages s.id s.sent in
    record {
      mine = length (messages_of s.id items);
      theirs = length (messages_of (other s.id) items);
      full = counted s.id items (m.of_senders s.quotas off qs) ∙ h.1;
      own = omega (arith, e, f, g);
      quota = λ t apart. let k = m.few s.quotas t off qs in subst (λ (u : SenderId). length (messages_of u items) ≤ pick t s.quotas + 1) (sym (its-other s.id t apart)) k;
    }

sums : (id : SenderId) (q : ℕ × ℕ) (mine theirs : ℕ) → mine ≤ pick id q → ((t : SenderId) → is_same_sender t id ≡ false → theirs ≤ pick t q + 1) → mine + theirs ≤ q.0 + q.1 + 1
sums First q mine theirs a b = let c = b Second refl in omega (arith, a, c)
sums Second q mine theirs a b = let c = b First refl in omega (arith, a, c)

pub never-full : (s : Sending) → WasFull s → length s.sent ≤ pick s.id s.quotas → s.quotas.0 + s.quotas.1 + 2 ≤ s.cap → ⊥
never-full s w room wide = let e = w.full in let o = w.own in let k = sums s.id s.quotas w.mine w.theirs (omega (arith, o, room)) w.quota in omega (arith, e, k, wide)

-- what a pass knows after a push, whatever this answered
pub still : (id : SenderId) (q : ℕ × ℕ) (rs : List Change) (r : Change) (v w : QueueView) (H : Message → Type 0) (result : Result (Unit {0}) Message) → v ≡ sender_view id q (sent_messages id rs) → length rs < pick id q
    → MatchResult result (λ _. w ≡ after_push (Refresh id r) v) (λ x. (x ≡ Refresh id r) × (w ≡ v) × H x) → (rs' : List Change) × (w ≡ sender_view id q (sent_messages id rs')) × (length rs' ≤ pick id q)
still id q rs r v w H (Ok _) is room m = (rs ++ r ∷ [], after-refresh id q rs r v w is m, let e = length-append rs (r ∷ []) in omega (arith, e, room))
still id q rs r v w H (Err x) is room m = (rs, m.1 ∙ is, omega (arith, room))

-- what the pass of the taker knows
pub refreshes-refresh : (ms : List Message) (id : SenderId) (r : Change) → refreshes_in (ms ++ Refresh id r ∷ []) ≡ refreshes_in ms ++ (id, r) ∷ []
refreshes-refresh ms id r = refreshes-append ms (Refresh id r ∷ [])

pub refreshes-end : (ms : List Message) (id : SenderId) → refreshes_in (ms ++ End id ∷ []) ≡ refreshes_in ms
refreshes-end ms id = refreshes-append ms (End id ∷ []) ∙ append-nil (refreshes_in ms)

or-assoc : (a b c : Bool) → (a || (b || c)) ≡ ((a || b) || c)
or-assoc true b c = refl
or-assoc false b c = refl

or-off : (a : Bool) → (a || false) ≡ a
or-off true = refl
or-off false = refl

pub has_end-more : (id : SenderId) (ms : List Message) (m : Message) → has_end id (ms ++ m ∷ []) ≡ (has_end id ms || is_end id m)
has_end-more id [] m = or-off (is_end id m)
has_end-more id (x ∷ xs) m = ap (λ b. is_end id x || b) (has_end-more id xs m) ∙ or-assoc (is_end id x) (has_end id xs) (is_end id m)

pub has_end-same : (id : SenderId) (ms : List Message) (other : SenderId) (r : Change) → has_end id (ms ++ Refresh other r ∷ []) ≡ has_end id ms
has_end-same id ms other r = has_end-more id ms (Refresh other r) ∙ or-off (has_end id ms)

pub view-after-pop : (q : ℕ × ℕ) (ms : List Message) (m : Message) (v w : QueueView) → v ≡ taker_view q ms → w ≡ after_pop m v → w ≡ taker_view q (ms ++ m ∷ [])
view-after-pop q ms m v w is step = step ∙ ap (after_pop m) is

pub taker-shape : (q : ℕ × ℕ) (ms : List Message) (w : QueueView) → w ≡ taker_view q ms → (taken_in w ≡ ms) × (known_quotas w.quotas ≡ q) × (w ≡ taker_view (known_quotas w.quotas) (taken_in w))
taker-shape q ms w is =
    let s : taken_in w ≡ ms = ap (λ (v : QueueView). known_messages v.taken) is in
    let k : known_quotas w.quotas ≡ q = ap (λ (v : QueueView). known_quotas v.quotas) is in
    (s, k, is ∙ (λ i. taker_view (sym k i) (sym s i)))

or-on : (a : Bool) → (a || true) ≡ true
or-on true = refl
or-on false = refl

pub placed-ends : (id : SenderId) (p : Bool × Bool) (a b : Bool) → a ≡ (p.0 || is_same_sender First id) → b ≡ (p.1 || is_same_sender Second id) → (a, b) ≡ place id true p
placed-ends First p a b e f = λ i. ((e ∙ or-on p.0) i, (f ∙ or-off p.1) i)
placed-ends Second p a b e f = λ i. ((e ∙ or-off p.0) i, (f ∙ or-on p.1) i)

pub within-taken : (q : ℕ × ℕ) (ms : List Message) (w : QueueView) → w ≡ taker_view q ms → IsWithinQuotas w → length (refreshes_in ms) ≤ q.0 + q.1
within-taken q ms w is h = h q ms (ap (λ (v : QueueView). v.quotas) is) (ap (λ (v : QueueView). v.taken) is)
